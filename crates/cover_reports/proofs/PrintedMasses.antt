-- The masses of the members of a cover can be printed, also with the electrons taken off.
use Rattle.std.proofs.Common.{SFits, ◌≡◌, ℕ, ◌*◌, ◌≤◌, Bool, true, false, cond, List, [], ◌∷◌, ◌++◌, map, refl, sym}
use Rattle.std.proofs.Common.{subst, arith}
use Rattle.std.specs.Prelude.{ℤ, Option, Some, None, All, filter, nat_lt, sum}
use Rattle.std.specs.List.{AllByRecursion, flat_map, zip}
use Rattle.std.specs.Str.{bytes_eq}
use Rattle.std.specs.Int.{w128}
use Rattle.std.proofs.lemmas.Int.{ints}
use Rattle.std.proofs.lemmas.List.Elements.{All-from_recursion, All-take, recursion_from_All}
use Rattle.std.proofs.lemmas.List.Sums.{sum_by-cons}
use Rattle.std.proofs.Math.Nat.{mul-le-mul_left}
use Rattle.element_table.specs.declared.element.Isotope.{Isotope}
use Rattle.element_table.specs.Elements.{ElementEntry, IsElement, IsIsotope, IsTable, TableEntries, element_of}
use Rattle.written_items.specs.declared.item.Item.{Item}
use Rattle.formula_text.specs.Formulas.{IsFormula, atoms_of}
use Rattle.formula_text.specs.Masses.{item_mass}
use Rattle.formula_text.proofs.CountsInOrder.{atoms_of-cons}
use Rattle.adducts.proofs.MassBounds.{few-weights, item-light}
use Rattle.isotopologue_text.specs.Isotopologues.{IsIsotopologueOf, counts_mass, formula_isotopes, isotopes_if}
use Rattle.isotopologue_text.specs.Isotopologues.{isotopes_of, isotopologue_mass_of, labelled_items, plain_items}
use Rattle.isotopologue_text.proofs.CountsLemmas.{counts-few}
use Rattle.isotopologue_text.proofs.Found.{found}
use Rattle.isotopologue_sets.specs.Covers.{Member, cover_numbers}
use Rattle.isotopologue_text.specs.Isotopologues.{formula_elements}
use Rattle.cover_certificate.specs.FormulaCovers.{CoverEntries, MemberEntry, cover_of, member_entry}
use Rattle.report_lines.specs.ReportLines.{IsPrintedWith, cover_members}
use Rattle.cover_reports.specs.Inputs.{IsElectronShift}

-- ---- no isotope is heavier than 400 Da

abbrev Light : Isotope → Type 0
Light isotope = isotope.mass ≤ 400000000000000

light_filter : (p : Isotope → Bool) (isotopes : List Isotope) → AllByRecursion IsIsotope isotopes →
    AllByRecursion Light (filter p isotopes)
light_filter p [] each = tt
light_filter p (i ∷ is) each =
    elim (p i) as (λ b. AllByRecursion Light (cond b (i ∷ filter p is) (filter p is))) [
      | true ↦ (each.0.mass_to, light_filter p is each.1)
      | false ↦ light_filter p is each.1
    ]

light_isotopes : (table : TableEntries) (item : Item) → IsTable table → AllByRecursion Light (isotopes_of table item)
light_isotopes table item is = light (element_of table item.symbol) refl
  where
    light : (o : Option ElementEntry) → element_of table item.symbol ≡ o → AllByRecursion Light (isotopes_if o)
    light None e = tt
    light (Some element) e =
        light_filter (λ i. nat_lt 0 i.weight) element.isotopes
        (recursion_from_All IsIsotope element.isotopes
        (found IsElement (λ x. bytes_eq x.symbol item.symbol) table.elements element is.elements e).isotopes)

light_append : (xs ys : List Isotope) → AllByRecursion Light xs → AllByRecursion Light ys →
    AllByRecursion Light (xs ++ ys)
light_append [] ys a b = b
light_append (x ∷ xs) ys a b = (a.0, light_append xs ys a.1 b)

light_all : (table : TableEntries) (items : List (Item × ℕ)) → IsTable table →
    AllByRecursion Light (flat_map (λ (p : Item × ℕ). isotopes_of table p.0) items)
light_all table [] is = tt
light_all table (p ∷ ps) is =
    light_append (isotopes_of table p.0) (flat_map (λ (q : Item × ℕ). isotopes_of table q.0) ps)
    (light_isotopes table p.0 is) (light_all table ps is)

light_counts : (isotopes : List Isotope) (counts : List ℕ) → AllByRecursion Light isotopes →
    counts_mass isotopes counts ≤ sum counts * 400000000000000
light_counts [] counts each = omega arith
light_counts (i ∷ is) [] each = omega arith
light_counts (i ∷ is) (c ∷ cs) each =
    let own : c * i.mass ≤ c * 400000000000000 = mul-le-mul_left c each.0 in
    let rest = light_counts is cs each.1 in
    let masses = sum_by-cons (λ (p : Isotope × ℕ). p.1 * p.0.mass) (i, c) (zip is cs) in
    let atoms = sum_by-cons (λ (n : ℕ). n) c cs in
    omega arith

few_labelled : (items : List (Item × ℕ)) → atoms_of (labelled_items items) ≤ atoms_of items
few_labelled [] = omega arith
few_labelled (p ∷ ps) =
    let below = few_labelled ps in
    let all = atoms_of-cons p ps in
    let more = atoms_of-cons p (labelled_items ps) in
    elim (nat_lt 0 p.0.label) as (λ b. atoms_of (cond b (p ∷ labelled_items ps) (labelled_items ps)) ≤ atoms_of (p ∷ ps)) [
      | true ↦ omega arith
      | false ↦ omega arith
    ]

-- an isotopologue weighs less than 16,000,001 Da
light_isotopologue : (table : TableEntries) (formula : List (Item × ℕ)) (counts : List ℕ) → IsTable table →
    IsFormula formula → IsIsotopologueOf table formula counts →
    isotopologue_mass_of table formula counts ≤ 16000000000000000000
light_isotopologue table formula counts is of isotopologue =
    let plain = light_counts (formula_isotopes table formula) counts (light_all table (plain_items formula) is) in
    let few = counts-few table formula counts isotopologue in
    let labelled = few-weights (item_mass table) (labelled_items formula) (λ item. item-light table item is) in
    let fewer = few_labelled formula in
    let atoms = of.parts.few_atoms in
    omega arith

-- the mass of a few electrons fits 128 bits
pub fits_small : (shift : ℤ) → IsElectronShift shift → SFits w128 shift
fits_small shift small = omega (arith, ints, small)

-- ---- the members of a cover

mass_of-entry : (table : TableEntries) (formula : List (Item × ℕ)) (member : Member) →
    (member_entry table formula member).mass
    ≡ isotopologue_mass_of table formula (member_entry table formula member).counts
unfolding member_entry
mass_of-entry table formula member = refl

each_mass : (table : TableEntries) (formula : List (Item × ℕ)) (members : List Member) →
    AllByRecursion (λ (m : MemberEntry). m.mass ≡ isotopologue_mass_of table formula m.counts)
    (map (member_entry table formula) members)
each_mass table formula [] = tt
each_mass table formula (m ∷ ms) = (mass_of-entry table formula m, each_mass table formula ms)

cover_masses : (table : TableEntries) (formula : List (Item × ℕ)) (coverage : ℕ) →
    AllByRecursion (λ (m : MemberEntry). m.mass ≡ isotopologue_mass_of table formula m.counts)
    (cover_of table formula coverage).layer
unfolding cover_of
cover_masses table formula coverage =
    each_mass table formula (cover_numbers (formula_elements table formula) coverage).members

printed_with : (shift : ℤ) (member : MemberEntry) → IsElectronShift shift → member.mass ≤ 16000000000000000000 →
    IsPrintedWith shift member
printed_with shift member small light = λ fits.
    record { above = omega (arith, ints, small, light); below = omega (arith, ints, small, light) }

each_printed : (table : TableEntries) (formula : List (Item × ℕ)) (shift : ℤ) (members : List MemberEntry) →
    IsTable table → IsFormula formula → IsElectronShift shift →
    AllByRecursion (λ (m : MemberEntry). IsIsotopologueOf table formula m.counts) members →
    AllByRecursion (λ (m : MemberEntry). m.mass ≡ isotopologue_mass_of table formula m.counts) members →
    AllByRecursion (IsPrintedWith shift) members
each_printed table formula shift [] is of small isotopologues masses = tt
each_printed table formula shift (m ∷ ms) is of small isotopologues masses = (
  printed_with shift m small
      (subst (λ (n : ℕ). n ≤ 16000000000000000000) (sym masses.0)
      (light_isotopologue table formula m.counts is of isotopologues.0)),
  each_printed table formula shift ms is of small isotopologues.1 masses.1,
)

-- the members of a given cover can be printed
pub all_printed : (table : TableEntries) (formula : List (Item × ℕ)) (coverage : ℕ) (shift : ℤ) (given : CoverEntries) →
    IsTable table → IsFormula formula → IsElectronShift shift → cover_of table formula coverage ≡ given →
    All (λ m. IsIsotopologueOf table formula m.counts) given.layer → All (IsPrintedWith shift) (cover_members given)
all_printed table formula coverage shift given is of small covered isotopologues =
    All-take (IsPrintedWith shift) given.size given.layer
    (All-from_recursion (IsPrintedWith shift) given.layer
    (each_printed table formula shift given.layer is of small
    (recursion_from_All (λ (m : MemberEntry). IsIsotopologueOf table formula m.counts) given.layer isotopologues)
    (subst (λ (c : CoverEntries). AllByRecursion (λ (m : MemberEntry).
    m.mass ≡ isotopologue_mass_of table formula m.counts) c.layer) covered (cover_masses table formula coverage))))
