use Rattle.std.proofs.Common.{◌≡◌, ℤ, ℕ, ◌*◌, ◌<◌, ◌≤◌, ◌^◌, pos, ◌+ℤ◌, to_z, of_z, subst, sym, arith, ◌∙◌, ap}
use Rattle.std.specs.Int.{w128}
use Rattle.std.specs.Prelude.{unsigned_abs, is_some}
use Rattle.std.proofs.lemmas.Int.{ints}
use Rattle.formula_text.specs.Masses.{mass_of}
use Rattle.mass_scaling.specs.Limits.{IsIonMass}
use Rattle.adducts.specs.Ions.{AreCounts, ion_of, shift_of}
use Rattle.adducts.proofs.IonCounts.{formula-AreCounts}
use Rattle.adducts.proofs.IonAnswers.{IonMass, mass-is, no-mass}
use Rattle.adducts.proofs.ion.ion_mass.Goals as goal
use Rattle.adducts.proofs.ion.ion_mass.Goals.{After-shift}

pub has_ion-requires : goal.has_ion-requires
has_ion-requires c =
    subst AreCounts (sym c.items.ensures.items) (formula-AreCounts c.args.formula.now c.items.ensures.formula)

-- the sum as it is computed
added : (copies shift : ℤ) → unsigned_abs copies < 2 ^ 66 → IsIonMass shift
    → to_z w128 (of_z w128 (to_z w128 (of_z w128 copies) +ℤ to_z w128 (of_z w128 shift))) ≡ copies +ℤ shift
added copies shift small in_range = omega (arith, ints, small, in_range)

mass : (c : After-shift) → IonMass c.args.table.now c.args.adduct.now c.args.formula.now (to_z w128 (of_z w128 (to_z w128 (of_z w128 c.copied_mass-copies.result) +ℤ to_z w128 (of_z w128 c.shift.result))))
mass c =
    let table = c.args.table.now in
    let copies : c.copied_mass-copies.result ≡ pos (c.args.adduct.now.copies * mass_of table c.args.formula.now) =
    c.copied_mass-copies.ensures.mass ∙ ap (λ n. pos (n * c.mass.result)) c.copies.ensures.copies
    ∙ ap (λ n. pos (c.args.adduct.now.copies * n)) c.mass.ensures.mass in
    mass-is table c.args.adduct.now c.args.formula.now _ c.shift.ensures.table c.copies.ensures.adduct c.mass.ensures.formula
    (sym c.if-has_ion.true ∙ c.has_ion.ensures.ion ∙ ap (λ f. is_some (ion_of c.args.adduct.now f)) c.items.ensures.items)
    (added c.copied_mass-copies.result c.shift.result c.copied_mass-copies.ensures.small c.shift.ensures.in_range
    ∙ ap (λ z. z +ℤ c.shift.result) copies
    ∙ ap (λ z. pos (c.args.adduct.now.copies * mass_of table c.args.formula.now) +ℤ z) c.shift.ensures.shift)

pub returns-then-has_ion-clause-mass : goal.returns-then-has_ion-clause-mass
returns-then-has_ion-clause-mass c = (mass c).exact

pub returns-then-has_ion-clause-in_range : goal.returns-then-has_ion-clause-in_range
returns-then-has_ion-clause-in_range c = (mass c).in_range
