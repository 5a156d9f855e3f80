use Rattle.std.proofs.Common.{◌≡◌, ℕ, length, get_or, refl, ◌∙◌, arith}
use Rattle.layered_envelope.specs.declared.walk.Choice.{Choice}
use Rattle.layered_envelope.specs.Walks.{his_of}
use Rattle.layered_envelope.proofs.KeptLists.{length-ArePlaces}
use Rattle.layered_envelope.proofs.WalkSteps.{IsWalkTo_more}
use Rattle.layered_envelope.proofs.PlacesOfLists.{ArePlaces-at, his-many, places_more, places_all}
use Rattle.layered_envelope.proofs.places.choose_at.Goals as goal

pub bounds-places-element : goal.bounds-places-element
bounds-places-element c =
    omega (
      arith,
      his-many c.args.lists.now,
      length-ArePlaces (his_of c.args.lists.now) c.args.places.now c.requires.places,
      c.requires.as_many,
      c.loop-element.auto.choices,
    )

pub loop-element-preserved : goal.loop-element-preserved
loop-element-preserved c =
    let lists = c.args.lists.now in
    let places = c.args.places.now in
    let e : ℕ = c.loop-element.element in
    let choices = c.loop-element.choices in
    let choice : Choice = record { before = c.before_of-before.result; place = get_or places e 0 } in
    let many : length places ≡ length lists = length-ArePlaces (his_of lists) places c.requires.places
    ∙ his-many lists in (
      IsWalkTo_more lists choices e choice (omega arith) c.loop-element.invariant.0
          (ArePlaces-at (his_of lists) places e c.requires.places
          (omega (arith, his-many lists, c.requires.as_many, c.loop-element.auto.choices)))
          c.before_of-before.ensures.lo c.before_of-before.ensures.hi,
      places_more choices choice e places (omega arith)
          (omega (arith, c.requires.as_many, c.loop-element.auto.choices)) refl c.loop-element.invariant.1,
    )

pub returns-clause-places : goal.returns-clause-places
returns-clause-places c =
    let lists = c.args.lists.now in
    let places = c.args.places.now in
    let many : length places ≡ length lists = length-ArePlaces (his_of lists) places c.requires.places
    ∙ his-many lists in
    places_all c.loop-element.choices places c.loop-element.element (omega arith)
    (omega (arith, c.requires.as_many, c.loop-element.auto.choices)) c.loop-element.invariant.1
