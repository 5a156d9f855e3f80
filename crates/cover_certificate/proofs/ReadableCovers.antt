-- The certificate of a formula's cover can be read again: no number of the cover is above 10^18, and the texts of its
-- isotopologues have no control characters.
use Rattle.std.proofs.Common.{◌≡◌, ℕ, ◌+◌, ◌/◌, ◌^◌, ◌<◌, ◌≤◌, ◌==◌, Bool, true, false, cond, Option, Some, None, List}
use Rattle.std.proofs.Common.{[], ◌∷◌, ◌++◌, map, length, refl, sym, ◌∙◌, ap, arith, All}
use Rattle.std.specs.Prelude.{IsTrue, is_some, sum}
use Rattle.std.specs.List.{AllByRecursion, concat, list_any}
use Rattle.std.specs.Str.{bytes_eq}
use Rattle.std.proofs.lemmas.Bool.{false≢true, ltb-false}
use Rattle.std.proofs.lemmas.List.{length-map}
use Rattle.std.proofs.lemmas.List.Elements.{All-from_recursion, All-map, All-weaker, recursion_from_All}
use Rattle.std.proofs.lemmas.List.Sorted.{length_permutation}
use Rattle.std.proofs.lemmas.List.Sums.{sum_by-cons}
use Rattle.element_table.specs.Elements.{ElementEntry, IsElement, IsTable, TableEntries, element_of, total_weight}
use Rattle.written_items.specs.declared.item.Item.{Item}
use Rattle.written_items.specs.Items.{item_text, count_text}
use Rattle.formula_text.specs.Formulas.{IsFormula}
use Rattle.formula_text.specs.Masses.{HasItems, item_isotope}
use Rattle.multinomial_bounds.specs.Weight.{IsWeights}
use Rattle.multinomial_bounds.specs.Isotopologue.{Element, IsIsotopologue}
use Rattle.isotopologue_sets.specs.Layers.{AreElements, has_too_many, last_threshold_for, layer, max_members, mode_hi, reaching_threshold, threshold_at}
use Rattle.isotopologue_sets.specs.Coverage.{max_coverage}
use Rattle.isotopologue_sets.specs.Covers.{CoverNumbers, IsCover, Member, cover_numbers, member_of, ordered_layer}
use Rattle.isotopologue_sets.proofs.AllReach.{reaching_threshold-last}
use Rattle.isotopologue_sets.proofs.CoverClaims.{cover-claims}
use Rattle.isotopologue_sets.proofs.CoverMembers.{cover-isotopologues}
use Rattle.isotopologue_sets.proofs.FirstThreshold.{last_threshold_for-halved, threshold_at-falls, threshold_at-last}
use Rattle.isotopologue_sets.proofs.LayerLaws.{ordered_layer-IsPermutation}
use Rattle.isotopologue_text.specs.Isotopologues.{IsIsotopologueOf, counts_text, dash, element_in, formula_elements}
use Rattle.isotopologue_text.specs.Isotopologues.{is_plain, plain_items, isotope_items, isotope_text}
use Rattle.isotopologue_text.specs.Isotopologues.{isotopologue_text_of}
use Rattle.isotopologue_text.proofs.ApartIsotopes.{AreKnown, formula-apart, plain-known}
use Rattle.isotopologue_text.proofs.CountsLemmas.{counts-few}
use Rattle.isotopologue_text.proofs.ElementLimits.{AreElements-formula_elements}
use Rattle.isotopologue_text.proofs.Found.{found}
use Rattle.isotopologue_text.proofs.Weights.{weights-in-range}
use Rattle.isotopologue_text.proofs.IsotopeTexts.{IsIsotopeItem}
use Rattle.certificate_text.specs.WrittenCertificates.{is_plain_text}
use Rattle.certificate_text.proofs.WrittenLines.{count-plain, item-plain, plain-append}
use Rattle.cover_certificate.specs.CoverCertificates.{IsReadable}
use Rattle.cover_certificate.specs.FormulaCovers.{MemberEntry, cover_of, member_entry}

-- ---- texts

isotope-plain : (item : Item) (n : ℕ) → IsIsotopeItem item → n < 2 ^ 64 → is_plain_text (isotope_text item n) ≡ true
isotope-plain item n is small =
    elim (n == 0) as (λ b. is_plain_text (cond b [] (item_text item ++ count_text n)) ≡ true) [
      | true ↦ refl
      | false ↦ plain-append (item_text item) (count_text n) (item-plain item is.symbol (omega (arith, is.to)))
          (count-plain n small)
    ]

counts-plain : (items : List Item) (counts : List ℕ) → AllByRecursion IsIsotopeItem items → sum counts < 2 ^ 64 →
    is_plain_text (counts_text items counts) ≡ true
counts-plain [] counts are small = refl
counts-plain (item ∷ items) [] are small = refl
counts-plain (item ∷ items) (n ∷ counts) are small =
    let all = sum_by-cons (λ (x : ℕ). x) n counts in
    plain-append (isotope_text item n) (counts_text items counts) (isotope-plain item n are.0 (omega (arith, all)))
    (counts-plain items counts are.1 (omega (arith, all)))

-- ---- the elements

module _ (table : TableEntries) (is : IsTable table) where
  element-weights : (part : Item × ℕ) (o : Option ElementEntry) → element_of table part.0.symbol ≡ o → IsTrue (is_some o) →
      IsWeights (element_in table part).weights
  element-weights part None e known = absurd (false≢true known)
  element-weights part (Some element) e known =
      let test : ElementEntry → Bool = λ x. bytes_eq x.symbol part.0.symbol in
      let limits : IsElement element = found IsElement test table.elements element is.elements e in
      rw e (weights-in-range element.isotopes limits.few_isotopes limits.isotopes
      (found (λ x. 0 < total_weight x.isotopes) test table.elements element is.weighted e))

  each-weights : (parts : List (Item × ℕ)) → AreKnown table parts →
      AllByRecursion (λ (e : Element). IsWeights e.weights) (map (element_in table) parts)
  each-weights [] known = tt
  each-weights (p ∷ parts) known =
      (element-weights p (element_of table p.0.symbol) refl known.0.1, each-weights parts known.1)

  -- the elements of a formula of the table are within the limits
  pub formula-limits : (formula : List (Item × ℕ)) → IsFormula formula → HasItems table formula →
      AreElements (formula_elements table formula)
  formula-limits formula form known =
      AreElements-formula_elements table formula form.parts
      (All-from_recursion (λ (e : Element). IsWeights e.weights) (formula_elements table formula)
      (each-weights (plain_items formula) (plain-known table formula
      (recursion_from_All (λ p. IsTrue (is_some (item_isotope table p.0))) formula known))))

-- ---- the threshold

-- half of what is 0 after sixty halvings
half-small : (n : ℕ) → n / 2 ^ 60 ≡ 0 → n / 2 ≤ 10 ^ 18
half-small n none = omega arith

module _ (table : TableEntries) (formula : List (Item × ℕ)) (is : IsTable table) (form : IsFormula formula)
    (known : HasItems table formula) where
  abbrev es : List Element
  es = formula_elements table formula

  text-plain : (counts : List ℕ) → IsIsotopologueOf table formula counts →
      is_plain_text (isotopologue_text_of table formula counts) ≡ true
  text-plain counts are =
      let few = counts-few table formula counts are in
      elim (list_any (λ p. is_plain p.0) formula) as (λ b.
      is_plain_text (cond b (counts_text (isotope_items table formula) counts) dash) ≡ true) [
        | true ↦ counts-plain (isotope_items table formula) counts (formula-apart table formula is form known).1
            (omega (arith, form.parts.few_atoms))
        | false ↦ refl
      ]

  member-plain : (m : Member) → IsIsotopologue es m.counts → IsTrue (is_plain_text (member_entry table formula m).text)
  unfolding member_entry
  member-plain m are =
      text-plain (concat m.counts) (record { by_element = m.counts; isotopologue = are; joined = refl })

  ok : AreElements es
  ok = formula-limits table is formula form known

  module _ (coverage : ℕ) (some : 1 ≤ coverage) (most : coverage ≤ max_coverage)
      (few : has_too_many es (last_threshold_for es coverage) ≡ false) where
    abbrev numbers : CoverNumbers
    numbers = cover_numbers es coverage

    members-few : length numbers.members ≤ max_members
    unfolding cover_numbers
    members-few =
        let t : ℕ = reaching_threshold es coverage in
        let short : has_too_many es t ≡ false = rw (reaching_threshold-last es ok coverage most few) few in
        omega (
          arith,
          length-map (ordered_layer es t) (member_of es),
          length_permutation (layer es t) (ordered_layer es t) (ordered_layer-IsPermutation es t),
          ltb-false max_members (length (layer es t)) short,
        )

    threshold-small : numbers.threshold ≤ 10 ^ 18
    unfolding cover_numbers
    threshold-small =
        let halved = last_threshold_for-halved es ok coverage most in
        let first : threshold_at es halved.0 ≤ threshold_at es 0 = threshold_at-falls es 0 halved.0 (omega arith) in
        let half : threshold_at es 0 ≤ 10 ^ 18 = half-small (mode_hi es) (threshold_at-last es ok) in
        omega (arith, reaching_threshold-last es ok coverage most few, halved.1, first, half)

    -- The cover of a formula for a coverage up to 0.999999, where the layers of its search aren't too large.
    pub readable-cover : IsReadable (cover_of table formula coverage)
    unfolding cover_of
    readable-cover =
        let claims : IsCover es coverage numbers.size numbers.bound numbers.members =
        cover-claims es ok coverage some most few in
        record {
          coverage = omega (arith, most);
          size = omega (arith, claims.within, members-few);
          bound = omega (arith, claims.bound_to, claims.within, members-few);
          threshold = threshold-small;
          texts = All-map (λ (m : MemberEntry). IsTrue (is_plain_text m.text)) (member_entry table formula) numbers.members
              (All-weaker (λ (m : Member). IsIsotopologue es m.counts)
              (λ m. IsTrue (is_plain_text (member_entry table formula m).text)) member-plain numbers.members
              (cover-isotopologues es coverage));
        }
