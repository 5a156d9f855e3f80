-- Members with their texts and masses have the numbers that they had.
use Rattle.std.specs.Prelude.{Result, Ok, Err, OnOk}
use Rattle.std.proofs.Common.{◌≡◌, ◌<◌, ◌≤◌, ◌++◌, ℕ, List, [], ◌∷◌, length, map, get_or, sum, refl, sym, ◌∙◌, ap, subst, All, append-nil, arith}
use Rattle.std.specs.List.{concat}
use Rattle.std.proofs.lemmas.List.{length-map, get_or-map}
use Rattle.std.proofs.lemmas.List.Elements.{All-nil, All-cons, All-head, All-tail}
use Rattle.multinomial_bounds.specs.Isotopologue.{Element, IsIsotopologue}
use Rattle.isotopologue_sets.specs.Covers.{Member, CoverNumbers}
use Rattle.reaching_layer.specs.CountsByElement.{counts_by_element}
use Rattle.reaching_layer.proofs.MemberRowLaws.{counts_by_element-concat, lengths-IsIsotopologue}
use Rattle.element_table.specs.Elements.{TableEntries}
use Rattle.written_items.specs.declared.item.Item.{Item}
use Rattle.formula_text.specs.Formulas.{atoms_of}
use Rattle.isotopologue_text.specs.Isotopologues.{formula_elements, IsIsotopologueOf}
use Rattle.isotopologue_text.specs.Printed.{Printed, printed_isotopes, printed_text, printed_mass}
use Rattle.isotopologue_text.proofs.CountsLemmas.{counts-agree, counts-few}
use Rattle.cover_certificate.specs.FormulaCovers.{MemberEntry, CoverEntries, ArePrintedWith, member_entry, member_numbers, printed_member, printed_cover}

pub none : Member
none = record { counts = []; lo = 0; hi = 0 }

-- the member at a place of a cover's layer, as it is printed
module _ (formula : List (Item × ℕ)) (coverage : ℕ) (printed : Printed) (numbers : CoverNumbers) (cover : CoverEntries)
    (seen : printed_cover formula coverage printed numbers ≡ cover) (place : ℕ) (within : place < length cover.layer) where
  pub inside : place < length numbers.members
  inside =
      subst (λ n. place < n) (length-map numbers.members (printed_member printed))
      (subst (λ (c : CoverEntries). place < length c.layer) (sym seen) within)

  at : (d : MemberEntry) → printed_member printed (get_or numbers.members place none) ≡ get_or cover.layer place d
  at d =
      sym (get_or-map (printed_member printed) numbers.members place none d inside)
      ∙ ap (λ (c : CoverEntries). get_or c.layer place d) seen

  pub counts_at : (d : MemberEntry) → concat (get_or numbers.members place none).counts ≡ (get_or cover.layer place d).counts
  unfolding printed_member
  counts_at d = ap (λ (m : MemberEntry). m.counts) (at d)

  pub text_at : (d : MemberEntry) → printed_text printed (concat (get_or numbers.members place none).counts)
      ≡ (get_or cover.layer place d).text
  unfolding printed_member
  text_at d = ap (λ (m : MemberEntry). m.text) (at d)

  pub mass_at : (d : MemberEntry) → printed_mass printed (concat (get_or numbers.members place none).counts)
      ≡ (get_or cover.layer place d).mass
  unfolding printed_member
  mass_at d = ap (λ (m : MemberEntry). m.mass) (at d)

  pub lo_at : (d : MemberEntry) → (get_or numbers.members place none).lo ≡ (get_or cover.layer place d).lo
  unfolding printed_member
  lo_at d = ap (λ (m : MemberEntry). m.lo) (at d)

  pub hi_at : (d : MemberEntry) → (get_or numbers.members place none).hi ≡ (get_or cover.layer place d).hi
  unfolding printed_member
  hi_at d = ap (λ (m : MemberEntry). m.hi) (at d)

-- a text that was appended is that of the member, whichever name it has
pub text_told : {E : Type 0} (r : Result (Unit {0}) E) (new old text : List ℕ) (layer : List MemberEntry) (place : ℕ) →
    OnOk r (new ≡ old ++ text) → ((d : MemberEntry) → text ≡ (get_or layer place d).text) →
    OnOk r ((d : MemberEntry) → new ≡ old ++ (get_or layer place d).text)
text_told (Ok done) new old text layer place told same = λ d. told ∙ ap (λ t. old ++ t) (same d)
text_told (Err fault) new old text layer place told same = told

module _ (table : TableEntries) (formula : List (Item × ℕ)) where
  -- the counts of a member, element after element, are an isotopologue of the formula
  pub is_isotopologue_of : (m : Member) (counts : List ℕ) → IsIsotopologue (formula_elements table formula) m.counts →
      counts ≡ concat m.counts → IsIsotopologueOf table formula counts
  is_isotopologue_of m counts is are = record { by_element = m.counts; isotopologue = is; joined = sym are }

  -- what members are printed with is found once for the formula
  pub printed_are_entries : (ms : List Member) →
      map (printed_member (printed_isotopes table formula)) ms ≡ map (member_entry table formula) ms
  unfolding printed_member member_entry
  printed_are_entries [] = refl
  printed_are_entries (m ∷ ms) = ap (λ found. member_entry table formula m ∷ found) (printed_are_entries ms)

  -- isotopologues of the formula are printed with its isotopes
  pub are_printed_with : (ms : List Member) → atoms_of formula ≤ 20000 →
      All (λ m. IsIsotopologue (formula_elements table formula) m.counts) ms →
      ArePrintedWith (printed_isotopes table formula) ms
  are_printed_with ms limit are place d within =
      let m : Member = get_or ms place d in
      let is = is_isotopologue_of m (concat m.counts) (are place d within) refl in
      let few : sum (concat m.counts) ≤ atoms_of formula = counts-few table formula (concat m.counts) is in
      (counts-agree table formula (concat m.counts) is, omega arith)

  numbers_of_entry : (m : Member) → IsIsotopologue (formula_elements table formula) m.counts →
      member_numbers (formula_elements table formula) (member_entry table formula m) ≡ m
  unfolding member_entry member_numbers
  numbers_of_entry m is =
      let isotopes : List ℕ = map (λ (e : Element). length e.weights) (formula_elements table formula) in
      let widths : isotopes ≡ map length m.counts =
      sym (lengths-IsIsotopologue (formula_elements table formula) m.counts is) in
      let split : counts_by_element isotopes (concat m.counts) ≡ m.counts =
      ap (λ ns. counts_by_element ns (concat m.counts)) widths
      ∙ ap (counts_by_element (map length m.counts)) (sym (append-nil (concat m.counts)))
      ∙ counts_by_element-concat m.counts [] in
      ap (λ (counts : List (List ℕ)). let n : Member = record { counts = counts; lo = m.lo; hi = m.hi } in n) split

  pub numbers_of_entries : (ms : List Member) → All (λ m. IsIsotopologue (formula_elements table formula) m.counts) ms →
      map (member_numbers (formula_elements table formula)) (map (member_entry table formula) ms) ≡ ms
  numbers_of_entries [] all = refl
  numbers_of_entries (m ∷ ms) all =
      let Is : Member → Type 0 = λ x. IsIsotopologue (formula_elements table formula) x.counts in
      ap (λ n. n ∷ map (member_numbers (formula_elements table formula)) (map (member_entry table formula) ms))
      (numbers_of_entry m (All-head Is m ms all))
      ∙ ap (λ ns. m ∷ ns) (numbers_of_entries ms (All-tail Is m ms all))

  -- the printed counts of members are isotopologues of the formula
  pub entries_of_formula : (ms : List Member) → All (λ m. IsIsotopologue (formula_elements table formula) m.counts) ms →
      All (λ (m : MemberEntry). IsIsotopologueOf table formula m.counts) (map (member_entry table formula) ms)
  unfolding member_entry
  entries_of_formula [] all = All-nil (λ (m : MemberEntry). IsIsotopologueOf table formula m.counts)
  entries_of_formula (m ∷ ms) all =
      let Is : Member → Type 0 = λ x. IsIsotopologue (formula_elements table formula) x.counts in
      All-cons (λ (n : MemberEntry). IsIsotopologueOf table formula n.counts) (member_entry table formula m)
      (map (member_entry table formula) ms)
      (is_isotopologue_of m (concat m.counts) (All-head Is m ms all) refl)
      (entries_of_formula ms (All-tail Is m ms all))
