-- The counts of an isotopologue, taken from the front, one element after another.
use Rattle.std.proofs.Common.{◌≡◌, ℕ, ◌<◌, List, [], ◌∷◌, ◌++◌, ◌≤◌, arith, length, get_or, take, drop, map, refl, sym, ap, ◌∙◌, subst}
use Rattle.std.specs.Prelude.{◌==◌, IsTrue, sum}
use Rattle.std.specs.List.{concat}
use Rattle.std.proofs.Math.Dec.{eqb-suc-zero}
use Rattle.std.proofs.lemmas.Bool.{false≢true}
use Rattle.std.proofs.lemmas.List.{length-map, take-append-drop, take_at, drop_at, length-take, drop_all}
use Rattle.multinomial_bounds.specs.Weight.{IsCounts}
use Rattle.multinomial_bounds.specs.Isotopologue.{IsIsotopologue}
use Rattle.element_table.specs.Elements.{TableEntries}
use Rattle.element_table.specs.declared.element.Isotope.{Isotope}
use Rattle.written_items.specs.declared.item.Item.{Item}
use Rattle.isotopologue_text.specs.Isotopologues.{isotopes_of, element_in, plain_items, BeginsWithCounts, IsIsotopologueOf}
use Rattle.isotopologue_text.proofs.CountsLemmas.{plain-front}

abbrev pub Splits : TableEntries → List (Item × ℕ) → List ℕ → Type 0
Splits table [] counts = counts ≡ []
Splits table (p ∷ ps) counts =
    IsCounts (map (λ (i : Isotope). i.weight) (isotopes_of table p.0)) p.1 (take (length (isotopes_of table p.0)) counts)
    × Splits table ps (drop (length (isotopes_of table p.0)) counts)

record Rows (table : TableEntries) (items : List (Item × ℕ)) (counts : List ℕ) : Type 0 where
  rows : List (List ℕ)
  isotopologue : IsIsotopologue (map (element_in table) items) rows
  joined : concat rows ≡ counts

rows-from_splits : (table : TableEntries) (items : List (Item × ℕ)) (counts : List ℕ) → Splits table items counts → Rows table items counts
rows-from_splits table [] counts h = record { rows = []; isotopologue = tt; joined = sym h }
rows-from_splits table (p ∷ ps) counts h =
    let n = length (isotopes_of table p.0) in
    let more = rows-from_splits table ps (drop n counts) h.1 in
    record {
      rows = take n counts ∷ more.rows;
      isotopologue = (h.0, more.isotopologue);
      joined = ap (λ (xs : List ℕ). take n counts ++ xs) more.joined ∙ take-append-drop n counts;
    }

splits-from_rows : (table : TableEntries) (items : List (Item × ℕ)) (rows : List (List ℕ)) →
    IsIsotopologue (map (element_in table) items) rows → Splits table items (concat rows)
splits-from_rows table [] [] h = refl
splits-from_rows table [] (row ∷ rows) h = absurd h
splits-from_rows table (p ∷ ps) [] h = absurd h
splits-from_rows table (p ∷ ps) (row ∷ rows) h =
    let isotopes = isotopes_of table p.0 in
    let long : length row ≡ length isotopes = h.0.places_agree ∙ length-map isotopes (λ (i : Isotope). i.weight) in (
      subst (IsCounts (map (λ (i : Isotope). i.weight) isotopes) p.1) (sym (take_at row (concat rows) (length isotopes) long)) h.0,
      subst (Splits table ps) (sym (drop_at row (concat rows) (length isotopes) long)) (splits-from_rows table ps rows h.1),
    )

pub isotopologue-from_splits : (table : TableEntries) (formula : List (Item × ℕ)) (counts : List ℕ) →
    Splits table (plain_items formula) counts → IsIsotopologueOf table formula counts
isotopologue-from_splits table formula counts h =
    let found = rows-from_splits table (plain_items formula) counts h in
    record { by_element = found.rows; isotopologue = found.isotopologue; joined = found.joined }

pub splits-from_isotopologue : (table : TableEntries) (formula : List (Item × ℕ)) (counts : List ℕ) →
    IsIsotopologueOf table formula counts → Splits table (plain_items formula) counts
splits-from_isotopologue table formula counts h =
    subst (Splits table (plain_items formula)) h.joined (splits-from_rows table (plain_items formula) h.by_element h.isotopologue)

-- at an item without a label the rest begins with its counts

pub begins : (table : TableEntries) (items : List (Item × ℕ)) (i : ℕ) (part : Item × ℕ) (rest : List ℕ) (n : ℕ) →
    i < length items → part ≡ get_or items i part → part.0.label ≡ 0 → n ≡ length (isotopes_of table part.0) →
    Splits table (plain_items (drop i items)) rest → BeginsWithCounts n part.1 rest
begins table items i part rest n h e plain here splits =
    let own = subst (λ (ps : List (Item × ℕ)). Splits table ps rest) (plain-front items i part h e plain) splits in
    let long = own.0.places_agree ∙ length-map (isotopes_of table part.0) (λ (j : Isotope). j.weight) in
    let taken = length-take (length (isotopes_of table part.0)) rest in
    record {
      enough = omega arith;
      atoms_agree = ap (λ (k : ℕ). sum (take k rest)) here ∙ own.0.atoms_agree;
    }

-- after all items nothing is left

is-empty : (xs : List ℕ) → IsTrue (length xs == 0) → xs ≡ []
is-empty [] h = refl
is-empty (x ∷ xs) h = absurd (false≢true (sym (eqb-suc-zero (length xs)) ∙ h))

empty-is : (xs : List ℕ) → xs ≡ [] → IsTrue (length xs == 0)
empty-is xs e = subst (λ (ys : List ℕ). IsTrue (length ys == 0)) (sym e) refl

nothing-left : (table : TableEntries) (items : List (Item × ℕ)) (i : ℕ) → length items ≤ i → plain_items (drop i items) ≡ []
nothing-left table items i h = ap plain_items (drop_all i items h)

pub splits-from_end : (table : TableEntries) (items : List (Item × ℕ)) (i : ℕ) (rest : List ℕ) → length items ≤ i →
    IsTrue (length rest == 0) → Splits table (plain_items (drop i items)) rest
splits-from_end table items i rest h empty =
    subst (λ (ps : List (Item × ℕ)). Splits table ps rest) (sym (nothing-left table items i h)) (is-empty rest empty)

pub end-from_splits : (table : TableEntries) (items : List (Item × ℕ)) (i : ℕ) (rest : List ℕ) → length items ≤ i →
    Splits table (plain_items (drop i items)) rest → IsTrue (length rest == 0)
end-from_splits table items i rest h splits =
    empty-is rest (subst (λ (ps : List (Item × ℕ)). Splits table ps rest) (nothing-left table items i h) splits)
