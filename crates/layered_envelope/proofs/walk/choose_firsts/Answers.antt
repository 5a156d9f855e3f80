use Rattle.std.proofs.Common.{ℕ, ◌<◌, length, take, refl, arith, map}
use Rattle.std.proofs.lemmas.List.{length-map}
use Rattle.sub_isotopologues.specs.Listings.{Listing, items_of}
use Rattle.layered_envelope.specs.Walks.{his_of, places_of}
use Rattle.layered_envelope.proofs.WalkSteps.{IsWalkTo_more, first_places, some_of_each}
use Rattle.layered_envelope.proofs.walk.choose_firsts.Goals as goal

pub loop-later-preserved : goal.loop-later-preserved
loop-later-preserved c =
    let choices = c.loop-later.choices in
    let n : ℕ = c.loop-later.later in
    let lists = c.args.lists.now in
    let within : n < length choices = omega arith in
    let inside : n < length (his_of lists) =
    omega (
      arith,
      c.requires.as_many,
      c.loop-later.auto.choices,
      length-map lists
          (λ (l : Listing). map (λ i. i.hi) (items_of l)),
    ) in (
      IsWalkTo_more lists choices n (record {
        before = c.before_of-before.result;
        place =
            0;
      }) within c.loop-later.invariant.0
          (some_of_each (his_of lists) n c.requires.falling inside) c.before_of-before.ensures.lo
          c.before_of-before.ensures.hi,
      first_places choices c.args.element n (record { before = c.before_of-before.result; place = 0 })
          (take c.args.element (places_of c.args.choices.now)) (omega arith) within refl c.loop-later.invariant.1,
    )
