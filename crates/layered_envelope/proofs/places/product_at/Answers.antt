use Rattle.std.proofs.Common.{◌≡◌, ℕ, length, sym, ◌∙◌, ap, arith}
use Rattle.layered_envelope.specs.Walks.{lower, upper, los_of, his_of, reached}
use Rattle.layered_envelope.specs.CountedWalks.{lo_at, hi_at}
use Rattle.layered_envelope.proofs.KeptLists.{length-ArePlaces}
use Rattle.layered_envelope.proofs.WalkSteps.{reached_none, reached_more, reached_all}
use Rattle.layered_envelope.proofs.PlacesOfLists.{ArePlaces-at, his-many, los-many}
use Rattle.layered_envelope.proofs.places.product_at.Goals as goal

pub loop-element-init : goal.loop-element-init
loop-element-init c = (
  c.certain-product.ensures.lo ∙ sym (reached_none lower (los_of c.args.lists.now) c.args.places.now),
  c.certain-product.ensures.hi ∙ sym (reached_none upper (his_of c.args.lists.now) c.args.places.now),
)

pub bounds-places-element : goal.bounds-places-element
bounds-places-element c =
    omega (arith, his-many c.args.lists.now, length-ArePlaces (his_of c.args.lists.now) c.args.places.now c.requires)

pub item_at-requires-clause-within : goal.item_at-requires-clause-within
item_at-requires-clause-within c =
    ArePlaces-at (his_of c.args.lists.now) c.args.places.now c.loop-element.element c.requires
    (omega (arith, his-many c.args.lists.now))

pub loop-element-preserved : goal.loop-element-preserved
unfolding lower upper
loop-element-preserved c =
    let lists = c.args.lists.now in
    let places = c.args.places.now in
    let e : ℕ = c.loop-element.element in
    let many : length places ≡ length lists =
    length-ArePlaces (his_of lists) places c.requires ∙ his-many lists in (
      c.times-product.ensures.lo
          ∙ ap (λ (x : ℕ). lower x c.item_at.result.lo) c.loop-element.invariant.0
          ∙ ap (lower (reached lower (los_of lists) places e)) c.item_at.ensures.lo
          ∙ sym (reached_more lower (los_of lists) places e (omega (arith, los-many lists)) (omega arith)),
      c.times-product.ensures.hi
          ∙ ap (λ (x : ℕ). upper x c.item_at.result.hi) c.loop-element.invariant.1
          ∙ ap (upper (reached upper (his_of lists) places e)) c.item_at.ensures.hi
          ∙ sym (reached_more upper (his_of lists) places e (omega (arith, his-many lists)) (omega arith)),
    )

pub returns-clause-lo : goal.returns-clause-lo
unfolding lo_at
returns-clause-lo c =
    let lists = c.args.lists.now in
    c.loop-element.invariant.0
    ∙ reached_all lower (los_of lists) c.args.places.now c.loop-element.element
    (omega (arith, los-many lists))
    (omega (arith, his-many lists, length-ArePlaces (his_of lists) c.args.places.now c.requires))

pub returns-clause-hi : goal.returns-clause-hi
unfolding hi_at
returns-clause-hi c =
    let lists = c.args.lists.now in
    c.loop-element.invariant.1
    ∙ reached_all upper (his_of lists) c.args.places.now c.loop-element.element
    (omega (arith, his-many lists))
    (omega (arith, his-many lists, length-ArePlaces (his_of lists) c.args.places.now c.requires))
