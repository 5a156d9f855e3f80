use Rattle.std.proofs.Common.{◌≡◌, ℤ, ℕ, ◌≤◌, pos, ◌-ℤ◌, ◌*ℤ◌, to_z, of_z, subst, sym, arith, ◌∙◌, ap}
use Rattle.std.specs.Int.{w32, w128}
use Rattle.std.specs.Prelude.{unsigned_abs}
use Rattle.std.proofs.lemmas.Int.{ints}
use Rattle.mass_scaling.specs.Limits.{IsIonMass}
use Rattle.formula_text.specs.Masses.{mass_of}
use Rattle.adducts.specs.Ions.{shift_of}
use Rattle.adducts.proofs.MassBounds.{parts-light, shift-in_range}
use Rattle.adducts.proofs.adduct.Adduct.shift.Goals as goal
use Rattle.adducts.proofs.adduct.Adduct.shift.Goals.{After-electron_mass}

-- the difference as it is computed
taken : (a l : ℤ) (added lost : ℕ) (electrons : ℤ) → a ≡ pos added → l ≡ pos lost → added ≤ 8000000000000000000
    → lost ≤ 8000000000000000000 → unsigned_abs electrons ≤ 30000000000
    → to_z w128 (of_z w128 (to_z w128 (of_z w128 (to_z w128 (of_z w128 a) -ℤ to_z w128 (of_z w128 l))) -ℤ to_z w128 (of_z w128 electrons)))
    ≡ (pos added -ℤ pos lost) -ℤ electrons
taken a l added lost electrons d e f g h = omega (arith, ints, d, e, f, g, h)

charge32 : (z : ℤ) → unsigned_abs z ≤ 30 → to_z w32 (of_z w32 z) ≡ z
charge32 z few = omega (arith, ints, few)

value : (c : After-electron_mass)
    → to_z w128 (of_z w128 (to_z w128 (of_z w128 (to_z w128 (of_z w128 c.from-added.result) -ℤ to_z w128 (of_z w128 c.from-lost.result))) -ℤ to_z w128 (of_z w128 c.electron_mass.result)))
    ≡ shift_of c.args.table.now c.args.self.now
value c =
    let table = c.args.table.now in
    let is = c.electron.ensures.table in
    let of = c.charge.ensures.adduct in
    let added : c.mass.result ≡ mass_of table c.args.self.now.added = c.mass.ensures.mass ∙ ap (mass_of table) c.added.ensures.added in
    let lost : c.mass-2.result ≡ mass_of table c.args.self.now.lost = c.mass-2.ensures.mass ∙ ap (mass_of table) c.lost.ensures.lost in
    let electrons : c.electron_mass.result ≡ c.args.self.now.charge *ℤ pos table.electron =
    c.electron_mass.ensures.mass
    ∙ ap (λ z. z *ℤ pos c.electron.result)
    (ap (λ z. to_z w32 (of_z w32 z)) c.charge.ensures.charge ∙ charge32 c.args.self.now.charge of.few_charges)
    ∙ ap (λ n. c.args.self.now.charge *ℤ pos n) c.electron.ensures.electron in
    let a_light : c.mass.result ≤ 8000000000000000000 = subst (λ n. n ≤ 8000000000000000000) (sym added) (parts-light table c.args.self.now.added is of.added) in
    let l_light : c.mass-2.result ≤ 8000000000000000000 = subst (λ n. n ≤ 8000000000000000000) (sym lost) (parts-light table c.args.self.now.lost is of.lost) in
    taken c.from-added.result c.from-lost.result c.mass.result c.mass-2.result c.electron_mass.result c.from-added.ensures
    c.from-lost.ensures a_light l_light c.electron_mass.ensures.small
    ∙ ap (λ n. (pos n -ℤ pos c.mass-2.result) -ℤ c.electron_mass.result) added
    ∙ ap (λ n. (pos (mass_of table c.args.self.now.added) -ℤ pos n) -ℤ c.electron_mass.result) lost
    ∙ ap (λ z. (pos (mass_of table c.args.self.now.added) -ℤ pos (mass_of table c.args.self.now.lost)) -ℤ z) electrons

pub returns-clause-shift : goal.returns-clause-shift
returns-clause-shift c = value c

pub returns-clause-in_range : goal.returns-clause-in_range
returns-clause-in_range c =
    subst IsIonMass (sym (value c)) (shift-in_range c.args.table.now c.args.self.now c.electron.ensures.table c.charge.ensures.adduct)
