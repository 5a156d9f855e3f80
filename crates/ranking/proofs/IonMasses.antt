-- An isotopologue of a formula weighs 0.5 to 400 Da for each atom of the formula, and the electrons of an ion weigh
-- less than an atom.
use Rattle.std.proofs.Common.{SFits, ◌≡◌, ℕ, ℤ, zero, suc, pos, ◌-ℤ◌, ◌*◌, ◌<◌, ◌≤◌, ◌≤ℤ◌, List, [], ◌∷◌, length, Bool}
use Rattle.std.proofs.Common.{true, false, cond, ltb, refl, sym, ap, subst, ◌∙◌, arith, All, map}
use Rattle.std.specs.Prelude.{Option, Some, None, IsTrue, is_some, unsigned_abs, ◌==◌, not, sum, flat_map}
use Rattle.std.specs.List.{zip, concat}
use Rattle.std.specs.Int.{w128}
use Rattle.std.specs.Str.{bytes_eq}
use Rattle.std.proofs.Math.Dec.{eqb-suc-zero}
use Rattle.std.proofs.Math.Nat.{mul-le-mul_left}
use Rattle.std.proofs.lemmas.Bool.{lt-ltb}
use Rattle.std.proofs.lemmas.Int.{ints}
use Rattle.std.proofs.lemmas.List.Elements.{All-nil, All-head, All-tail, All-filter, All-append}
use Rattle.std.proofs.lemmas.List.Filters.{sum_by-filter_both}
use Rattle.std.proofs.lemmas.List.Sums.{sum_by-cons, sum_by-append}
use Rattle.multinomial_bounds.specs.Isotopologue.{IsIsotopologue}
use Rattle.element_table.specs.declared.element.Isotope.{Isotope}
use Rattle.element_table.specs.Elements.{TableEntries, ElementEntry, IsTable, IsElement, IsIsotope, element_of, isotope_of, reference_isotope}
use Rattle.written_items.specs.declared.item.Item.{Item}
use Rattle.formula_text.specs.Formulas.{atoms_of, IsFormula}
use Rattle.formula_text.specs.Masses.{HasItems, item_isotope, item_mass, mass_of, isotope_in, isotope_if, isotope_mass}
use Rattle.isotopologue_text.specs.Isotopologues.{isotopes_if, isotopes_of, is_plain, plain_items, labelled_items}
use Rattle.isotopologue_text.specs.Isotopologues.{element_in, formula_isotopes, counts_mass, isotopologue_mass_of}
use Rattle.isotopologue_text.specs.Isotopologues.{IsIsotopologueOf}
use Rattle.isotopologue_text.proofs.Found.{found}
use Rattle.isotopologue_text.proofs.CountsLemmas.{counts-agree}

-- a mass of 0.5 to 400 Da for each of so many atoms
pub record IsMassOf (atoms mass : ℕ) : Type 0 where
  pub from : 500000000000 * atoms ≤ mass
  pub to : mass ≤ 400000000000000 * atoms

-- ---- the isotopes that are counted

counts-IsMassOf : (isotopes : List Isotope) (counts : List ℕ) → All IsIsotope isotopes →
    length counts ≡ length isotopes → IsMassOf (sum counts) (counts_mass isotopes counts)
counts-IsMassOf [] [] all agree = record { from = omega arith; to = omega arith }
counts-IsMassOf [] (c ∷ cs) all agree = absurd (omega (arith, agree))
counts-IsMassOf (i ∷ is) [] all agree = absurd (omega (arith, agree))
counts-IsMassOf (i ∷ is) (c ∷ cs) all agree =
    let own : IsIsotope i = All-head IsIsotope i is all in
    let rest : IsMassOf (sum cs) (counts_mass is cs) =
    counts-IsMassOf is cs (All-tail IsIsotope i is all) (omega (arith, agree)) in
    let low : c * 500000000000 ≤ c * i.mass = mul-le-mul_left c own.mass_from in
    let high : c * i.mass ≤ c * 400000000000000 = mul-le-mul_left c own.mass_to in
    let mass = sum_by-cons (λ (p : Isotope × ℕ). p.1 * p.0.mass) (i, c) (zip is cs) in
    let atoms = sum_by-cons (λ (n : ℕ). n) c cs in
    record {
      from = omega (arith, low, rest.from, mass, atoms);
      to = omega (arith, high, rest.to, mass, atoms);
    }

isotopes-of_element : (table : TableEntries) → IsTable table → (symbol : List ℕ) (o : Option ElementEntry) →
    element_of table symbol ≡ o → All IsIsotope (isotopes_if o)
isotopes-of_element table is symbol None e = All-nil IsIsotope
isotopes-of_element table is symbol (Some element) e =
    let sound : IsElement element =
    found IsElement (λ x. bytes_eq x.symbol symbol) table.elements element is.elements e in
    All-filter (λ (i : Isotope). ltb 0 i.weight) IsIsotope element.isotopes sound.isotopes

all-isotopes : (table : TableEntries) → IsTable table → (items : List (Item × ℕ)) →
    All IsIsotope (flat_map (λ p. isotopes_of table p.0) items)
all-isotopes table is [] = All-nil IsIsotope
all-isotopes table is (p ∷ ps) =
    All-append IsIsotope (isotopes_of table p.0) (flat_map (λ q. isotopes_of table q.0) ps)
    (isotopes-of_element table is p.0.symbol (element_of table p.0.symbol) refl) (all-isotopes table is ps)

-- an isotopologue has the atoms of its elements
rows-atoms : (table : TableEntries) (items : List (Item × ℕ)) (rows : List (List ℕ)) →
    IsIsotopologue (map (element_in table) items) rows → sum (concat rows) ≡ atoms_of items
rows-atoms table [] [] is = refl
rows-atoms table [] (row ∷ rows) is = absurd is
rows-atoms table (p ∷ ps) [] is = absurd is
rows-atoms table (p ∷ ps) (row ∷ rows) is =
    omega (
      arith,
      sum_by-append (λ (n : ℕ). n) row (concat rows),
      is.0.atoms_agree,
      rows-atoms table ps rows is.1,
      sum_by-cons (λ (q : Item × ℕ). q.1) p ps,
    )

-- ---- the items with a label

isotope-in_element : (element : ElementEntry) (label : ℕ) (i : Isotope) → IsElement element →
    isotope_in element label ≡ Some i → IsIsotope i
isotope-in_element element label i is =
    elim (label == 0) as (λ b. cond b (Some (reference_isotope element)) (isotope_of element.isotopes label) ≡ Some i
    → IsIsotope i) [
      | true ↦ λ e.
          let same : reference_isotope element ≡ i = cc in
          subst IsIsotope same
          (is.isotopes element.reference (record { number = 0; mass = 0; weight = 0 }) is.reference)
      | false ↦ λ e. found IsIsotope (λ x. x.number == label) element.isotopes i is.isotopes e
    ]

item-isotope : (table : TableEntries) (item : Item) (i : Isotope) → IsTable table →
    item_isotope table item ≡ Some i → IsIsotope i
item-isotope table item i is known = cases (element_of table item.symbol) refl known
  where
    cases : (o : Option ElementEntry) → element_of table item.symbol ≡ o → isotope_if o item.label ≡ Some i →
        IsIsotope i
    cases None e h = cc
    cases (Some element) e h =
        isotope-in_element element item.label i
        (found IsElement (λ x. bytes_eq x.symbol item.symbol) table.elements element is.elements e) h

item-IsMassOf : (table : TableEntries) (item : Item) → IsTable table → IsTrue (is_some (item_isotope table item)) →
    IsMassOf 1 (item_mass table item)
item-IsMassOf table item is known = cases (item_isotope table item) refl known
  where
    cases : (o : Option Isotope) → item_isotope table item ≡ o → IsTrue (is_some o) → IsMassOf 1 (isotope_mass o)
    cases None e h = absurd (let no : ◌≡◌ {A = Bool} false true = h in cc)
    cases (Some i) e h =
        let sound : IsIsotope i = item-isotope table item i is e in
        record { from = omega (arith, sound.mass_from); to = omega (arith, sound.mass_to) }

items-IsMassOf : (table : TableEntries) → IsTable table → (items : List (Item × ℕ)) → HasItems table items →
    IsMassOf (atoms_of items) (mass_of table items)
items-IsMassOf table is [] known = record { from = omega arith; to = omega arith }
items-IsMassOf table is (p ∷ ps) known =
    let Known : Item × ℕ → Type 0 = λ q. IsTrue (is_some (item_isotope table q.0)) in
    let own : IsMassOf 1 (item_mass table p.0) = item-IsMassOf table p.0 is (All-head Known p ps known) in
    let rest : IsMassOf (atoms_of ps) (mass_of table ps) = items-IsMassOf table is ps (All-tail Known p ps known) in
    let low : p.1 * 500000000000 ≤ p.1 * item_mass table p.0 = mul-le-mul_left p.1 (omega (arith, own.from)) in
    let high : p.1 * item_mass table p.0 ≤ p.1 * 400000000000000 = mul-le-mul_left p.1 (omega (arith, own.to)) in
    let mass = sum_by-cons (λ (q : Item × ℕ). q.1 * item_mass table q.0) p ps in
    let atoms = sum_by-cons (λ (q : Item × ℕ). q.1) p ps in
    record {
      from = omega (arith, low, rest.from, mass, atoms);
      to = omega (arith, high, rest.to, mass, atoms);
    }

-- ---- both together

labelled-is : (label : ℕ) → ltb 0 label ≡ not (label == 0)
labelled-is zero = refl
labelled-is (suc n) = lt-ltb 0 (suc n) (omega arith) ∙ ap not (sym (eqb-suc-zero n))

pub isotopologue-IsMassOf : (table : TableEntries) (formula : List (Item × ℕ)) (counts : List ℕ) → IsTable table →
    HasItems table formula → IsIsotopologueOf table formula counts →
    IsMassOf (atoms_of formula) (isotopologue_mass_of table formula counts)
isotopologue-IsMassOf table formula counts is known of =
    let atoms : sum counts ≡ atoms_of (plain_items formula) =
    ap sum (sym of.joined) ∙ rows-atoms table (plain_items formula) of.by_element of.isotopologue in
    let plain : IsMassOf (sum counts) (counts_mass (formula_isotopes table formula) counts) =
    counts-IsMassOf (formula_isotopes table formula) counts (all-isotopes table is (plain_items formula))
    (counts-agree table formula counts of) in
    let labelled : IsMassOf (atoms_of (labelled_items formula)) (mass_of table (labelled_items formula)) =
    items-IsMassOf table is (labelled_items formula)
    (All-filter (λ (p : Item × ℕ). ltb 0 p.0.label) (λ p. IsTrue (is_some (item_isotope table p.0))) formula known) in
    let all = sum_by-filter_both (λ (p : Item × ℕ). is_plain p.0) (λ p. ltb 0 p.0.label) (λ p. labelled-is p.0.label)
    (λ p. p.1) formula in
    record {
      from = omega (arith, plain.from, labelled.from, atoms, all);
      to = omega (arith, plain.to, labelled.to, atoms, all);
    }

-- the mass of at most 20,000 atoms is that of an ion, also without or with 30 electrons
pub ion-in_range : (atoms mass : ℕ) (electrons : ℤ) → 1 ≤ atoms → atoms ≤ 20000 → IsMassOf atoms mass →
    unsigned_abs electrons ≤ 30000000000 →
    (pos 1 ≤ℤ (pos mass -ℤ electrons)) × ((pos mass -ℤ electrons) ≤ℤ pos 9000000000000000000)
ion-in_range atoms mass electrons some few is light =
    (omega (arith, ints, is.from, light), omega (arith, ints, is.to, light))

-- a formula has an atom
pub some-atoms : (formula : List (Item × ℕ)) → IsFormula formula → 1 ≤ atoms_of formula
some-atoms [] is = absurd (omega (arith, is.some_atom))
some-atoms (p ∷ ps) is =
    let own : 0 < p.1 = All-head (λ (q : Item × ℕ). 0 < q.1) p ps is.parts.positive in
    omega (arith, own, sum_by-cons (λ (q : Item × ℕ). q.1) p ps)

-- such a mass fits an i128
pub fits-ion : (mass : ℤ) → pos 1 ≤ℤ mass → mass ≤ℤ pos 9000000000000000000 → SFits w128 mass
fits-ion mass from to = omega (arith, ints, from, to)
