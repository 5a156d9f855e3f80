-- Where reading stops, no text of the grammar can go on.
use Rattle.std.proofs.Common.{◌≡◌, ℕ, ◌+◌, ◌<◌, Bool, true, false, cond, ltb, List, [], ◌∷◌, ◌++◌, length, refl, sym, ap, ◌∙◌, subst, arith, length-append}
use Rattle.std.specs.Prelude.{Option, Some, None, Result, Ok, Err}
use Rattle.std.proofs.lemmas.Bool.{lt-ltb}
use Rattle.reader_answers.specs.BadPlaces.{Begins, IsBadPlace}
use Rattle.written_items.proofs.BadPlaceSteps.{first_byte, bad-here, bad-behind}
use Rattle.adducts.specs.AdductTexts.{WrittenTerm, WrittenIon, IsAdductText}
use Rattle.adducts.specs.AdductReader.{Reading, Nothing, Neutral, Copies, Terms, Coefficient, Row, Part, Charge, Whole}
use Rattle.adducts.specs.AdductReader.{plain_part, with_part, new_term, step_terms, step, at_end, read_on, read_from}
use Rattle.adducts.proofs.ReadingSteps.{read-byte, read-end, read-goes_on, read-stops}
use Rattle.adducts.proofs.WrittenAdducts.{read-last, read-written}
use Rattle.adducts.proofs.ReadTexts.{read-whole}

-- the rest of a text is read to its end
abbrev Reads : Reading → ℕ → List ℕ → Type 0
Reads reading at rest = (written : Option WrittenIon) × (read_from rest reading at ≡ Ok written)

-- ---- each text that was read so far can go on to its end

behind_byte : (byte : ℕ) (rest : List ℕ) (reading next : Reading) (at : ℕ) → step reading byte ≡ Some next
    → Reads next (at + 1) rest → Reads reading at (byte ∷ rest)
behind_byte byte rest reading next at e reads = (reads.0, read-goes_on byte rest reading next at e ∙ reads.1)

end_charge : (copies : List ℕ) (terms : List WrittenTerm) (number : List ℕ) (at : ℕ)
    → Reads (Charge copies terms number) at (43 ∷ [])
end_charge copies terms number at =
    (Some (record { copies = copies; terms = terms; charge = number; sign = 43 }), read-last copies terms number 43 at refl)

end_terms : (copies : List ℕ) (terms : List WrittenTerm) (at : ℕ) → Reads (Terms copies terms) at (93 ∷ 43 ∷ [])
end_terms copies terms at =
    behind_byte 93 (43 ∷ []) (Terms copies terms) (Charge copies terms []) at refl (end_charge copies terms [] (at + 1))

more_parts : (term : WrittenTerm) (symbol tail : List ℕ) → ltb 0 (length (with_part term symbol tail).row) ≡ true
more_parts term symbol tail =
    let len = length-append term.row (plain_part symbol tail ∷ []) in
    lt-ltb 0 (length (term.row ++ (plain_part symbol tail ∷ []))) (omega (arith, len))

end_part : (copies : List ℕ) (terms : List WrittenTerm) (term : WrittenTerm) (symbol tail : List ℕ) (at : ℕ)
    → Reads (Part copies terms term symbol tail) at (93 ∷ 43 ∷ [])
end_part copies terms term symbol tail at =
    behind_byte 93 (43 ∷ []) (Part copies terms term symbol tail)
    (Charge copies (terms ++ (with_part term symbol tail ∷ [])) []) at
    (ap (λ b. cond b (step_terms copies (terms ++ (with_part term symbol tail ∷ [])) 93) None) (more_parts term symbol tail))
    (end_charge copies (terms ++ (with_part term symbol tail ∷ [])) [] (at + 1))

goes_on : (reading : Reading) (at : ℕ) → Begins (Reads reading at) []
goes_on Nothing at =
    (77 ∷ [], behind_byte 77 [] Nothing Neutral at refl (None, read-end Neutral (at + 1)))
goes_on Neutral at = ([], (None, read-end Neutral at))
goes_on (Copies copies) at =
    (77 ∷ 93 ∷ 43 ∷ [], behind_byte 77 (93 ∷ 43 ∷ []) (Copies copies) (Terms copies []) at refl (end_terms copies [] (at + 1)))
goes_on (Terms copies terms) at = (93 ∷ 43 ∷ [], end_terms copies terms at)
goes_on (Coefficient copies terms sign coefficient) at = (
  67 ∷ 93 ∷ 43 ∷ [],
  behind_byte 67 (93 ∷ 43 ∷ []) (Coefficient copies terms sign coefficient)
      (Part copies terms (new_term sign coefficient) (67 ∷ []) []) at refl
      (end_part copies terms (new_term sign coefficient) (67 ∷ []) [] (at + 1)),
)
goes_on (Row copies terms term) at = (
  67 ∷ 93 ∷ 43 ∷ [],
  behind_byte 67 (93 ∷ 43 ∷ []) (Row copies terms term) (Part copies terms term (67 ∷ []) []) at refl
      (end_part copies terms term (67 ∷ []) [] (at + 1)),
)
goes_on (Part copies terms term symbol tail) at = (93 ∷ 43 ∷ [], end_part copies terms term symbol tail at)
goes_on (Charge copies terms number) at = (43 ∷ [], end_charge copies terms number at)
goes_on (Whole ion) at = ([], (Some ion, read-end (Whole ion) at))

-- ---- where it can't

same_place : (a b : ℕ) (r : Result (Option WrittenIon) ℕ) → r ≡ Err a → r ≡ Err b → a ≡ b
same_place a b r d e = cc

no_fault : (place : ℕ) (a : Option WrittenIon) (r : Result (Option WrittenIon) ℕ) → r ≡ Err place → r ≡ Ok a → ⊥
no_fault place a r d e = cc

end_place : (reading : Reading) (at place : ℕ) → at_end reading at ≡ Err place → place ≡ at
end_place Nothing at place e = cc
end_place Neutral at place e = cc
end_place (Copies copies) at place e = cc
end_place (Terms copies terms) at place e = cc
end_place (Coefficient copies terms sign coefficient) at place e = cc
end_place (Row copies terms term) at place e = cc
end_place (Part copies terms term symbol tail) at place e = cc
end_place (Charge copies terms number) at place e = cc
end_place (Whole ion) at place e = cc

-- the text is bad at the place, which is counted from another one
record BadFrom (reading : Reading) (at place : ℕ) (rest : List ℕ) : Type 0 where
  here : ℕ
  is : place ≡ at + here
  bad : IsBadPlace (Reads reading at) rest here

stops : (reading : Reading) (at : ℕ) (byte : ℕ) (rest other : List ℕ) → step reading byte ≡ None
    → first_byte other ≡ first_byte (byte ∷ rest) → Reads reading at other → ⊥
stops reading at byte rest [] none same reads = cc
stops reading at byte rest (b ∷ other) none same reads =
    let equal : byte ≡ b = cc in
    no_fault at reads.0 (read_from (b ∷ other) reading at)
    (read-stops b other reading at (subst (λ (x : ℕ). step reading x ≡ None) equal none)) reads.1

bad_from : (rest : List ℕ) (reading : Reading) (at place : ℕ) → read_from rest reading at ≡ Err place
    → BadFrom reading at place rest
bad_from [] reading at place e =
    let ends = sym (read-end reading at) ∙ e in
    record {
      here = 0;
      is = let same = end_place reading at place ends in omega (arith, same);
      bad =
          record {
            within = omega arith;
            before = goes_on reading at;
            at = λ within. absurd (omega (arith, within));
            at_end = λ _ reads. no_fault place reads.0 (read_from [] reading at) e reads.1;
          };
    }
bad_from (byte ∷ rest) reading at place e =
    elim (step reading byte) as (λ o. step reading byte
    ≡ o → read_on o at (λ next. read_from rest next (at + 1)) ≡ Err place → BadFrom reading at place (byte ∷ rest)) [
      | None ↦ λ none e.
          let same = same_place at place (Err at) refl e in
          record {
            here = 0;
            is = omega (arith, same);
            bad =
                bad-here (Reads reading at) (byte ∷ rest) (goes_on reading at)
                (λ other same reads. stops reading at byte rest other none same reads);
          }
      | Some next ↦ λ to e.
          let later = bad_from rest next (at + 1) place e in
          let is_later = later.is in
          record {
            here = 1 + later.here;
            is = omega (arith, is_later);
            bad =
                bad-behind (Reads reading at) (Reads next (at + 1)) (byte ∷ []) rest later.here
                (λ other reads. behind_byte byte other reading next at to reads)
                (λ other _ reads. (reads.0, sym (read-goes_on byte other reading next at to) ∙ reads.1)) later.bad;
          }
    ] refl (sym (read-byte byte rest reading at) ∙ e)

-- the same of another grammar with the same texts
same_bad_place : (A B : List ℕ → Type 0) (text : List ℕ) (place : ℕ) → ((t : List ℕ) → A t → B t)
    → ((t : List ℕ) → B t → A t) → IsBadPlace A text place → IsBadPlace B text place
same_bad_place A B text place to from bad =
    record {
      within = bad.within;
      before = (bad.before.0, to _ bad.before.1);
      at = λ within begins. bad.at within (begins.0, from _ begins.1);
      at_end = λ end is. bad.at_end end (from _ is);
    }

-- where reading a text stops, an adduct's text can't go on
pub read-bad : (text : List ℕ) (place : ℕ) → read_from text Nothing 0 ≡ Err place → IsBadPlace IsAdductText text place
read-bad text place e =
    let found = bad_from text Nothing 0 place e in
    let is_found = found.is in
    let same : found.here ≡ place = omega (arith, is_found) in
    subst (IsBadPlace IsAdductText text) same
    (same_bad_place (Reads Nothing 0) IsAdductText text found.here
    (λ t reads. (reads.0, read-whole t reads.0 reads.1))
    (λ t is. (is.0, read-written is.0 t is.1)) found.bad)
