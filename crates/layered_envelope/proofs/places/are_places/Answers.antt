use Rattle.std.proofs.Common.{sym, ◌∙◌, arith, refl}
use Rattle.std.proofs.lemmas.Bool.{false≢true}
use Rattle.layered_envelope.specs.Walks.{his_of}
use Rattle.layered_envelope.proofs.KeptLists.{length-ArePlaces}
use Rattle.layered_envelope.proofs.PlacesOfLists.{ArePlaces-at, ArePlaces-from, his-many}
use Rattle.layered_envelope.proofs.places.are_places.Goals as goal

pub returns-then-lists-places : goal.returns-then-lists-places
returns-then-lists-places c = (
  λ h. absurd (false≢true h),
  λ are. absurd (c.if-lists-places.true
      (sym (his-many c.args.lists.now) ∙ sym (length-ArePlaces (his_of c.args.lists.now) c.args.places.now are))),
)

pub returns-then-places-element : goal.returns-then-places-element
returns-then-places-element c = (
  λ h. absurd (false≢true h),
  λ are.
      let within = ArePlaces-at (his_of c.args.lists.now) c.args.places.now c.loop-element.element are
      (omega (arith, his-many c.args.lists.now)) in
      absurd (omega (arith, c.if-places-element.true, c.item_count.ensures)),
)

pub returns : goal.returns
returns c =
    let same = c.if-lists-places.false in (
      λ h. ArePlaces-from (his_of c.args.lists.now) c.args.places.now (his-many c.args.lists.now ∙ same)
          (λ k within. c.loop-element.invariant k (omega (arith, his-many c.args.lists.now))),
      λ are. refl,
    )
