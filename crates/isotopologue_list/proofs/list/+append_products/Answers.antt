-- The products with each of an element's counts follow those with the counts before.
use Rattle.std.proofs.Common.{◌<◌, ◌≤◌, ◌+◌, ◌*◌, [], ℕ, length, map, sym, ◌∙◌, ap, rules, arith, drop}
use Rattle.std.proofs.lemmas.List.{map-append, append-nil}
use Rattle.multinomial_bounds.specs.Bounds.{certainty, floor_of, ceiling_of}
use Rattle.isotopologue_list.specs.Listed.{BoundedCounts}
use Rattle.isotopologue_list.proofs.ProductLemmas.{ends_of_none, ends_of_all, next_item}
use Rattle.isotopologue_list.proofs.list.+append_products.Goals as goal

pub returns-then-place-elements : goal.returns-then-place-elements
returns-then-place-elements t c =
    rw (c.in_ok-push.ensures.items, map-append, ends_of_none c.args.before.lo c.args.before.hi c.args.place c.args.elements.now c.if-place-elements.true)
    (search rules)

pub loop-row-init : goal.loop-row-init
loop-row-init t c = sym (append-nil (map {B = ℕ × ℕ} (λ e. (e.lo, e.hi)) c.args.enclosures.now.items))

pub loop-row-preserved : goal.loop-row-preserved
loop-row-preserved t c =
    let none : BoundedCounts = record { counts = []; lo = 0; hi = 0 } in
    let within : c.loop-row.row < length c.index-elements-place.result = omega arith in
    next_item (map {B = ℕ × ℕ} (λ e. (e.lo, e.hi)) c.args.enclosures.now.items)
    (map {B = ℕ × ℕ} (λ e. (e.lo, e.hi)) c.loop-row.enclosures.items)
    (map {B = ℕ × ℕ} (λ e. (e.lo, e.hi)) c.append_products.new.enclosures.items)
    (drop (c.args.place + 1) c.args.elements.now) c.args.before.lo c.args.before.hi c.times.result.lo c.times.result.hi
    c.index-elements-place.result c.loop-row.row none within
    (c.times.ensures.lo ∙ ap (λ (x : ℕ). floor_of (c.args.before.lo * x) certainty) (c.enclosure.ensures.lo none))
    (c.times.ensures.hi ∙ ap (λ (x : ℕ). ceiling_of (c.args.before.hi * x) certainty) (c.enclosure.ensures.hi none))
    c.loop-row.invariant c.in_ok-append_products.ensures

pub returns : goal.returns
returns t c =
    let all : length c.index-elements-place.result ≤ c.loop-row.row = omega arith in
    let within : c.args.place < length c.args.elements.now = omega arith in
    rw (ends_of_all c.args.before.lo c.args.before.hi c.args.place c.loop-row.row c.args.elements.now
    c.index-elements-place.result within c.index-elements-place.is all)
    c.loop-row.invariant
