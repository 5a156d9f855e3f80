-- The masses of an adduct and of its ions are in range.
use Rattle.std.proofs.Common.{◌≡◌, ℕ, ℤ, pos, ◌-ℤ◌, ◌*ℤ◌, ◌+◌, ◌*◌, ◌<◌, ◌≤◌, List, [], ◌∷◌, length, Bool, true, false, cond, refl, sym, ap, subst, ◌∙◌, arith}
use Rattle.std.specs.Prelude.{Option, Some, None, All, find, unsigned_abs, ◌==◌}
use Rattle.std.specs.Str.{bytes_eq}
use Rattle.std.proofs.lemmas.Int.{ints, unsigned_abs-mul}
use Rattle.std.proofs.lemmas.Nat.{mul-le}
use Rattle.std.specs.List.{AllByRecursion}
use Rattle.std.proofs.lemmas.List.Elements.{recursion_from_All}
use Rattle.std.proofs.Math.Nat.{mul-le-mul_left, mul-le-mul_right}
use Rattle.element_table.specs.declared.element.Isotope.{Isotope}
use Rattle.element_table.specs.Elements.{TableEntries, ElementEntry, IsTable, IsElement, IsIsotope, element_of, isotope_of, reference_isotope}
use Rattle.written_items.specs.declared.item.Item.{Item}
use Rattle.formula_text.specs.Formulas.{atoms_of, IsParts, IsFormula}
use Rattle.formula_text.specs.Masses.{item_mass, mass_of, isotope_mass, isotope_in, isotope_if}
use Rattle.formula_text.proofs.CountsInOrder.{atoms_of-cons}
use Rattle.mass_scaling.specs.Limits.{IsIonMass}
use Rattle.adducts.specs.Adducts.{AdductValue, IsAdduct}
use Rattle.adducts.specs.Ions.{mass_of_ion, shift_of}
use Rattle.adducts.proofs.WeighedSums.{weigh, weigh-cons}

-- counts of at most so many atoms each have few atoms in all
pub few-atoms : (xs : List (Item × ℕ)) → AllByRecursion (λ p. p.1 ≤ 10000) xs → atoms_of xs ≤ 10000 * length xs
few-atoms [] h = omega arith
few-atoms (x ∷ xs) h =
    let here : x.1 ≤ 10000 = h.0 in
    let rest = few-atoms xs h.1 in
    let cons = atoms_of-cons x xs in
    omega arith

-- where no atom of an item weighs more than 400 Da
pub few-weights : (w : Item → ℕ) (xs : List (Item × ℕ)) → ((item : Item) → w item ≤ 400000000000000)
    → weigh w xs ≤ 400000000000000 * atoms_of xs
few-weights w [] light = omega arith
few-weights w (x ∷ xs) light =
    let here : x.1 * w x.0 ≤ x.1 * 400000000000000 = mul-le-mul_left x.1 (light x.0) in
    let rest = few-weights w xs light in
    let cons = atoms_of-cons x xs in
    let weights = weigh-cons w x xs in
    omega arith

-- ---- the isotopes of a table

found : {A : Type 0} (P : A → Type 0) (p : A → Bool) (xs : List A) (x : A) → AllByRecursion P xs → find p xs ≡ Some x → P x
found P p [] x all e = cc
found P p (y ∷ ys) x all e =
    elim (p y) as (λ b. cond b (Some y) (find p ys) ≡ Some x → P x) [
      | true ↦ λ e. let same : y ≡ x = cc in subst P same all.0
      | false ↦ λ e. found P p ys x all.1 e
    ] e

isotope-light : (element : ElementEntry) (label : ℕ) → IsElement element
    → isotope_mass (isotope_in element label) ≤ 400000000000000
isotope-light element label is =
    elim (label == 0) as (λ b. isotope_mass (cond b (Some (reference_isotope element)) (isotope_of element.isotopes label))
    ≤ 400000000000000) [
      | true ↦ (is.isotopes element.reference (record { number = 0; mass = 0; weight = 0 }) is.reference).mass_to
      | false ↦ labelled (isotope_of element.isotopes label) refl
    ]
  where
    labelled : (o : Option Isotope) → isotope_of element.isotopes label ≡ o → isotope_mass o ≤ 400000000000000
    labelled None e = omega arith
    labelled (Some isotope) e =
        (found IsIsotope (λ i. i.number == label) element.isotopes isotope
        (recursion_from_All IsIsotope element.isotopes is.isotopes) e).mass_to

-- no atom of an item is heavier than 400 Da
pub item-light : (table : TableEntries) (item : Item) → IsTable table → item_mass table item ≤ 400000000000000
item-light table item is = light (element_of table item.symbol) refl
  where
    light : (o : Option ElementEntry) → element_of table item.symbol ≡ o
        → isotope_mass (isotope_if o item.label) ≤ 400000000000000
    light None e = omega arith
    light (Some element) e =
        isotope-light element item.label
        (found IsElement (λ x. bytes_eq x.symbol item.symbol) table.elements element
        (recursion_from_All IsElement table.elements is.elements) e)

-- the atoms of a formula, or of a part of one, weigh at most 8,000,000 Da
pub parts-light : (table : TableEntries) (parts : List (Item × ℕ)) → IsTable table → IsParts parts
    → mass_of table parts ≤ 8000000000000000000
parts-light table parts is of =
    let weights = few-weights (item_mass table) parts (λ item. item-light table item is) in
    let atoms = of.few_atoms in
    omega (arith, weights, atoms)

small : (mass : ℕ) (electrons : ℤ) → mass ≤ 8000000000000000000 → unsigned_abs electrons ≤ 30000000000
    → unsigned_abs (pos mass -ℤ electrons) ≤ 9000000000000000000
small mass electrons light few = omega (arith, ints, light, few)

-- as many electrons as a charge says weigh little
pub electrons-light : (charge : ℤ) (electron : ℕ) → unsigned_abs charge ≤ 30 → electron ≤ 1000000000
    → unsigned_abs (charge *ℤ pos electron) ≤ 30000000000
electrons-light charge electron few light =
    let most = mul-le (unsigned_abs charge) electron 30 1000000000 few light in
    subst (λ n. n ≤ 30000000000) (sym (unsigned_abs-mul charge (pos electron))) most

-- what an adduct adds is in range
pub shift-in_range : (table : TableEntries) (adduct : AdductValue) → IsTable table → IsAdduct adduct
    → IsIonMass (shift_of table adduct)
shift-in_range table adduct is of =
    apart (mass_of table adduct.added) (mass_of table adduct.lost) (adduct.charge *ℤ pos table.electron)
    (parts-light table adduct.added is of.added) (parts-light table adduct.lost is of.lost)
    (electrons-light adduct.charge table.electron of.few_charges is.electron_to)
  where
    apart : (added lost : ℕ) (electrons : ℤ) → added ≤ 8000000000000000000 → lost ≤ 8000000000000000000
        → unsigned_abs electrons ≤ 30000000000
        → unsigned_abs ((pos added -ℤ pos lost) -ℤ electrons) ≤ 9000000000000000000
    apart added lost electrons a l e = omega (arith, ints, a, l, e)

-- an ion's mass is in range
pub ion-in_range : (table : TableEntries) (adduct : AdductValue) (ion : List (Item × ℕ)) → IsTable table → IsAdduct adduct
    → IsFormula ion → IsIonMass (mass_of_ion table adduct ion)
ion-in_range table adduct ion is of formula =
    small (mass_of table ion) (adduct.charge *ℤ pos table.electron) (parts-light table ion is formula.parts)
    (electrons-light adduct.charge table.electron of.few_charges is.electron_to)
