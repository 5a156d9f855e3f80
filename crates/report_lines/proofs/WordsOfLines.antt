-- A line whose words are named in another way.
use Rattle.std.proofs.Common.{◌≡◌, ℕ, List, [], ◌∷◌, ◌++◌, codes, sym, ap, ◌∙◌}
use Rattle.std.proofs.lemmas.List.{append_assoc}
use Rattle.std.specs.Prelude.{ℤ, Result, Ok, Err, OnOk}
use Rattle.std.specs.Fmt.{decimal, signed_decimal}
use Rattle.written_items.specs.declared.item.Item.{Item}
use Rattle.formula_text.specs.PrintedText.{printed_text}
use Rattle.cover_certificate.specs.FormulaCovers.{MemberEntry}
use Rattle.report_lines.specs.ReportLines.{line, mass_text, ion_mass_text, mass_difference, shifted_mass, formula_line}
use Rattle.report_lines.specs.ReportLines.{isotopologue_line}

pub formula_line-words : {A E : Type 0} (answer : Result A E) (before after : List ℕ) (formula : List (Item × ℕ))
    (mass : ℕ) (ion : ℤ) (mz divisor : ℕ) (word : List ℕ) (difference : ℤ)
    → OnOk answer (after ≡ before ++ line (codes "formula" ∷ printed_text formula ∷ mass_text mass ∷ word
    ∷ signed_decimal difference ∷ []))
    → word ≡ ion_mass_text ion → difference ≡ mass_difference ion mz divisor
    → OnOk answer (after ≡ before ++ formula_line formula mass ion mz divisor)
formula_line-words (Ok x) before after formula mass ion mz divisor word difference appended ion_is difference_is =
    appended
    ∙ ap (λ (t : List ℕ). before ++ line (codes "formula" ∷ printed_text formula ∷ mass_text mass ∷ t ∷ signed_decimal
    difference ∷ [])) ion_is
    ∙ ap (λ (d : ℤ). before ++ line (codes "formula" ∷ printed_text formula ∷ mass_text mass ∷ ion_mass_text ion ∷
    signed_decimal d ∷ [])) difference_is
formula_line-words (Err e) before after formula mass ion mz divisor word difference appended ion_is difference_is = tt

-- a line whose last words were written with a space before each
words_joined : (start word text a b c : List ℕ)
    → start ++ (word ++ 32 ∷ []) ++ text ++ (32 ∷ a ++ 32 ∷ b ++ 32 ∷ c ++ 10 ∷ [])
    ≡ start ++ line (word ∷ text ∷ a ∷ b ∷ c ∷ [])
words_joined start word text a b c = simp append_assoc

-- a line that was written from its end to its front
pub line_written : (word text a b c end numbers items whole : List ℕ) → whole ≡ (word ++ 32 ∷ []) ++ items
    → items ≡ text ++ numbers → numbers ≡ 32 ∷ a ++ 32 ∷ b ++ 32 ∷ c ++ 10 ∷ end → end ≡ []
    → whole ≡ line (word ∷ text ∷ a ∷ b ∷ c ∷ [])
line_written word text a b c end numbers items whole front middle back none =
    let written : numbers ≡ 32 ∷ a ++ 32 ∷ b ++ 32 ∷ c ++ 10 ∷ [] = back
    ∙ ap (λ (t : List ℕ). 32 ∷ a ++ 32 ∷ b ++ 32 ∷ c ++ 10 ∷ t) none in
    front
    ∙ ap (λ (t : List ℕ). (word ++ 32 ∷ []) ++ t) (middle ∙ ap (λ (t : List ℕ). text ++ t) written)
    ∙ sym (append_assoc (word ++ 32 ∷ []) text (32 ∷ a ++ 32 ∷ b ++ 32 ∷ c ++ 10 ∷ []))
    ∙ words_joined [] word text a b c

-- the line of an isotopologue whose numbers were written so, appended and not cut
pub isotopologue_line-numbers : {A E : Type 0} (pushed answer : Result A E) (start before after : List ℕ) (shift : ℤ)
    (member : MemberEntry) (numbers : List ℕ) (mass : ℤ)
    → answer ≡ pushed → OnOk pushed (before ≡ start ++ codes "isotopologue " ++ member.text ++ numbers)
    → OnOk answer (after ≡ before)
    → numbers ≡ 32 ∷ ion_mass_text mass ++ 32 ∷ decimal member.lo ++ 32 ∷ decimal member.hi ++ 10 ∷ []
    → mass ≡ shifted_mass shift member
    → OnOk answer (after ≡ start ++ isotopologue_line shift member)
isotopologue_line-numbers (Ok x) (Ok y) start before after shift member numbers mass same appended kept is mass_is =
    kept ∙ appended ∙ ap (λ (t : List ℕ). start ++ codes "isotopologue " ++ member.text ++ t) is
    ∙ words_joined start (codes "isotopologue") member.text (ion_mass_text mass) (decimal member.lo) (decimal member.hi)
    ∙ ap (λ (m : ℤ). start ++ line (codes "isotopologue" ∷ member.text ∷ ion_mass_text m ∷ decimal member.lo
    ∷ decimal member.hi ∷ [])) mass_is
isotopologue_line-numbers (Err e) (Ok y) start before after shift member numbers mass same appended kept is mass_is = cc
isotopologue_line-numbers pushed (Err e) start before after shift member numbers mass same appended kept is mass_is = tt
