-- What holds of a cover's numbers holds of the layer that has them.
use Rattle.std.proofs.Common.{◌+◌, ◌-◌, ◌*◌, ◌≤◌, All, Ok, length, sym, ap, subst}
use Rattle.multinomial_bounds.specs.Bounds.{IsEnclosure}
use Rattle.multinomial_bounds.specs.Isotopologue.{all_atoms, IsIsotopologue, isotopologue_weight, all_weight}
use Rattle.isotopologue_sets.specs.Covers.{CoverNumbers, IsCover}
use Rattle.isotopologue_sets.proofs.CoverClaims.{cover-claims}
use Rattle.isotopologue_sets.proofs.CoverMembers.{cover-isotopologues, cover-encloses, cover-width}
use Rattle.reaching_layer.proofs.SearchSteps.{past-few}
use Rattle.reaching_layer.proofs.layer.reaching_layer_with.Goals as goal

pub returns-clause-cover : goal.returns-clause-cover
returns-clause-cover c =
    let es = c.args.elements.now in
    let few = past-few es c.requires.elements c.args.coverage c.requires.below_one c.in_ok-layers.first
    c.in_ok-layers.layers c.in_ok-layers.ensures.layers in
    rw few (ap (λ n. Ok n) (sym c.in_ok-layer.ensures))

pub returns-clause-isotopologues : goal.returns-clause-isotopologues
returns-clause-isotopologues c =
    let es = c.args.elements.now in
    let P : CoverNumbers → Type 0 = λ n. All (λ m. IsIsotopologue es m.counts) n.members in
    subst P (sym c.in_ok-layer.ensures) (cover-isotopologues es c.args.coverage)

pub returns-clause-claims : goal.returns-clause-claims
returns-clause-claims c =
    let es = c.args.elements.now in
    let P : CoverNumbers → Type 0 = λ n. IsCover es c.args.coverage n.size n.bound n.members in
    subst P (sym c.in_ok-layer.ensures)
    (cover-claims es c.requires.elements c.args.coverage c.requires.some c.requires.below_one
    (past-few es c.requires.elements c.args.coverage c.requires.below_one c.in_ok-layers.first c.in_ok-layers.layers
    c.in_ok-layers.ensures.layers))

pub returns-clause-encloses : goal.returns-clause-encloses
returns-clause-encloses c =
    let es = c.args.elements.now in
    let P : CoverNumbers → Type 0 = λ n.
    All (λ m. IsEnclosure m.lo m.hi (isotopologue_weight es m.counts) (all_weight es)) n.members in
    subst P (sym c.in_ok-layer.ensures) (cover-encloses es c.args.coverage c.requires.elements)

pub returns-clause-width : goal.returns-clause-width
returns-clause-width c =
    let es = c.args.elements.now in
    let P : CoverNumbers → Type 0 = λ n. All (λ m. m.hi ≤ m.lo + (2 * all_atoms es + length es - 1)) n.members in
    subst P (sym c.in_ok-layer.ensures) (cover-width es c.args.coverage c.requires.elements)
