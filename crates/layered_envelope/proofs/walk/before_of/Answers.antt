use Rattle.std.proofs.Common.{◌≡◌, ℕ, ◌-◌, ◌<◌, length, get_or, map, sym, ◌∙◌, arith}
use Rattle.std.proofs.lemmas.List.{length-map}
use Rattle.sub_isotopologues.specs.Listings.{Listing, items_of}
use Rattle.layered_envelope.specs.Walks.{lower, upper, los_of, his_of, places_of}
use Rattle.layered_envelope.proofs.WalkSteps.{reached_none, reached_last, place_at, lower_at, upper_at}
use Rattle.layered_envelope.proofs.walk.before_of.Goals as goal

pub returns-then-element-eq0-clause-lo : goal.returns-then-element-eq0-clause-lo
returns-then-element-eq0-clause-lo c =
    rw c.if-element-eq0.true
    (c.certain.ensures.lo ∙ sym (reached_none lower (los_of c.args.lists.now) (places_of c.args.choices.now)))

pub returns-then-element-eq0-clause-hi : goal.returns-then-element-eq0-clause-hi
returns-then-element-eq0-clause-hi c =
    rw c.if-element-eq0.true
    (c.certain.ensures.hi ∙ sym (reached_none upper (his_of c.args.lists.now) (places_of c.args.choices.now)))

pub returns-clause-lo : goal.returns-clause-lo
unfolding lower
returns-clause-lo c =
    let lists = c.args.lists.now in
    let choices = c.args.choices.now in
    let e : ℕ = c.args.element in
    let last = c.index-choices-element.result in
    let within : e - 1 < length choices = omega arith in
    let is : last ≡ get_or choices (e - 1) last = c.index-choices-element.is in
    reached_last lower (los_of lists) (places_of choices) e last.place last.before.lo c.item_at.result.lo
    c.times.result.lo
    c.if-element-eq0.false
    (omega (arith, length-map lists (λ (l : Listing). map (λ i. i.lo) (items_of l))))
    (omega (arith, length-map choices (λ c. c.place)))
    (place_at choices (e - 1) last within is)
    (sym (lower_at choices (e - 1) last within is) ∙ c.requires.walk.lowers (e - 1) (omega arith))
    c.item_at.ensures.lo c.times.ensures.lo

pub returns-clause-hi : goal.returns-clause-hi
unfolding upper
returns-clause-hi c =
    let lists = c.args.lists.now in
    let choices = c.args.choices.now in
    let e : ℕ = c.args.element in
    let last = c.index-choices-element.result in
    let within : e - 1 < length choices = omega arith in
    let is : last ≡ get_or choices (e - 1) last = c.index-choices-element.is in
    reached_last upper (his_of lists) (places_of choices) e last.place last.before.hi c.item_at.result.hi
    c.times.result.hi
    c.if-element-eq0.false
    (omega (arith, length-map lists (λ (l : Listing). map (λ i. i.hi) (items_of l))))
    (omega (arith, length-map choices (λ c. c.place)))
    (place_at choices (e - 1) last within is)
    (sym (upper_at choices (e - 1) last within is) ∙ c.requires.walk.uppers (e - 1) (omega arith))
    c.item_at.ensures.hi c.times.ensures.hi
