-- Each element's moves are tried in turn.
use Rattle.std.proofs.Common.{◌≡◌, ◌<◌, ◌≤◌, ◌+◌, ℕ, List, [], length, map, take, drop, get_or, sym, ap, ◌∙◌, arith, refl}
use Rattle.std.specs.Prelude.{find}
use Rattle.multinomial_bounds.specs.Bounds.{floor_of, ceiling_of}
use Rattle.multinomial_bounds.specs.Isotopologue.{Element, bounds_of}
use Rattle.cover_claims.specs.CountsInRow.{counts_by_element}
use Rattle.cover_claims.specs.Claims.{Claimed, isotopologues_in, member_at, is_left_out}
use Rattle.isotopologue_neighbours.specs.Moves.{counts_moved}
use Rattle.cover_claims.specs.Surroundings.{as_row, left_out_among}
use Rattle.cover_claims.proofs.OtherCounts.{member-is}
use Rattle.cover_claims.proofs.Surround.{length-isotopologue}
use Rattle.cover_claims.proofs.NeighboursByElement.{neighbours-all, element-none, element-some, element-end, from-room}
use Rattle.cover_claims.proofs.NeighboursByElement.{own-room, own-row, own-long, next-from, row-around, own-small}
use Rattle.cover_claims.proofs.boundary.left_out_of.Goals as goal
use Rattle.cover_claims.proofs.boundary.left_out_of.Goals.{After-index-elements-element, After-split_at, After-split_at-in-loop-element}

abbrev member-at : Claimed → ℕ → List (List ℕ)
member-at claimed place = member_at (isotopologues_in claimed.members) place

rest-is : (c : After-split_at) → c.split_at.result.1.now ≡ drop c.loop-element.from c.row-row.result.now
rest-is c = c.split_at.ensures.back

own-is : (c : After-split_at-in-loop-element) →
    c.split_at-in-loop-element.result.0.now
    ≡ take (length c.index-elements-element.result.weights) (drop c.loop-element.from c.row-row.result.now)
own-is c =
    c.split_at-in-loop-element.ensures.front
    ∙ ap (λ (n : ℕ). take n c.split_at.result.1.now) c.isotopes-isotopes.ensures.number
    ∙ ap (take (length c.index-elements-element.result.weights)) c.split_at.ensures.back

after-is : (c : After-split_at-in-loop-element) →
    c.split_at-in-loop-element.result.1.now
    ≡ drop (length c.index-elements-element.result.weights) (drop c.loop-element.from c.row-row.result.now)
after-is c =
    c.split_at-in-loop-element.ensures.back
    ∙ ap (λ (n : ℕ). drop n c.split_at.result.1.now) c.isotopes-isotopes.ensures.number
    ∙ ap (drop (length c.index-elements-element.result.weights)) c.split_at.ensures.back

own-counts : (c : After-split_at-in-loop-element) →
    c.split_at-in-loop-element.result.0.now ≡ get_or (member-at c.args.claimed.now c.args.place) c.loop-element.element []
own-counts c =
    own-is c
    ∙ own-row c.args.claimed.now.elements c.elements-elements.ensures.within_limits
    (member-at c.args.claimed.now c.args.place) (member-is c.args.claimed.now c.args.place c.elements-elements.ensures.isotopologues c.requires.within)
    c.row-row.result.now c.row-row.ensures.counts c.row-row.ensures.length c.loop-element.element c.index-elements-element.result
    (rw c.elements-elements.ensures.value at c.loop-element-test.true) (rw c.elements-elements.ensures.value at c.index-elements-element.is)
    c.loop-element.from c.loop-element.invariant.from

pub loop-element-init : goal.loop-element-init
loop-element-init c =
    let es = c.args.claimed.now.elements in
    let members = isotopologues_in c.args.claimed.now.members in
    let i = member-at c.args.claimed.now c.args.place in
    record {
      lo =
          ap (map (λ e. e.lo)) c.as_mut_slice-parts.ensures.value ∙ c.in_ok-enclosures.ensures.lo
          ∙ ap (λ (ds : List Element). bounds_of floor_of ds (counts_by_element ds c.row-row.result.now))
          c.elements-elements.ensures.value
          ∙ ap (bounds_of floor_of es) c.row-row.ensures.counts;
      hi =
          ap (map (λ e. e.hi)) c.as_mut_slice-parts.ensures.value ∙ c.in_ok-enclosures.ensures.hi
          ∙ ap (λ (ds : List Element). bounds_of ceiling_of ds (counts_by_element ds c.row-row.result.now))
          c.elements-elements.ensures.value
          ∙ ap (bounds_of ceiling_of es) c.row-row.ensures.counts;
      from = refl;
      rest =
          ap (λ (xs : List (List (List ℕ))). as_row es (find (is_left_out es c.args.threshold members) xs))
          (neighbours-all i);
    }

pub split_at-requires : goal.split_at-requires
split_at-requires c =
    from-room c.args.claimed.now.elements c.elements-elements.ensures.within_limits
    (member-at c.args.claimed.now c.args.place) (member-is c.args.claimed.now c.args.place c.elements-elements.ensures.isotopologues c.requires.within)
    c.row-row.result.now c.row-row.ensures.counts c.row-row.ensures.length c.loop-element.element c.index-elements-element.result
    (rw c.elements-elements.ensures.value at c.loop-element-test.true) (rw c.elements-elements.ensures.value at c.index-elements-element.is)
    c.loop-element.from c.loop-element.invariant.from

pub split_at-requires-in-loop-element : goal.split_at-requires-in-loop-element
split_at-requires-in-loop-element c =
    rw (c.isotopes-isotopes.ensures.number, c.split_at.ensures.back)
    (own-room c.args.claimed.now.elements c.elements-elements.ensures.within_limits
    (member-at c.args.claimed.now c.args.place) (member-is c.args.claimed.now c.args.place c.elements-elements.ensures.isotopologues c.requires.within)
    c.row-row.result.now c.row-row.ensures.counts c.row-row.ensures.length c.loop-element.element c.index-elements-element.result
    (rw c.elements-elements.ensures.value at c.loop-element-test.true) (rw c.elements-elements.ensures.value at c.index-elements-element.is)
    c.loop-element.from c.loop-element.invariant.from)

pub left_out_by-requires-clause-around : goal.left_out_by-requires-clause-around
left_out_by-requires-clause-around c =
    let a = (goal.at.left_out_by-requires-clause-around c).After-split_at-in-loop-element in
    rw (c.split_at.ensures.front, own-is a, after-is a)
    (row-around c.args.claimed.now.elements c.elements-elements.ensures.within_limits
    (member-at c.args.claimed.now c.args.place) (member-is c.args.claimed.now c.args.place c.elements-elements.ensures.isotopologues c.requires.within)
    c.row-row.result.now c.row-row.ensures.counts c.row-row.ensures.length c.loop-element.element c.index-elements-element.result
    (rw c.elements-elements.ensures.value at c.loop-element-test.true) (rw c.elements-elements.ensures.value at c.index-elements-element.is)
    c.loop-element.from c.loop-element.invariant.from)

pub left_out_by-requires-clause-small : goal.left_out_by-requires-clause-small
left_out_by-requires-clause-small c =
    let a = (goal.at.left_out_by-requires-clause-small c).After-split_at-in-loop-element in
    rw (own-is a)
    (own-small c.args.claimed.now.elements c.elements-elements.ensures.within_limits
    (member-at c.args.claimed.now c.args.place) (member-is c.args.claimed.now c.args.place c.elements-elements.ensures.isotopologues c.requires.within)
    c.row-row.result.now c.row-row.ensures.counts c.row-row.ensures.length c.loop-element.element c.index-elements-element.result
    (rw c.elements-elements.ensures.value at c.loop-element-test.true) (rw c.elements-elements.ensures.value at c.index-elements-element.is)
    c.loop-element.from c.loop-element.invariant.from)

pub returns-in-Some : goal.returns-in-Some
returns-in-Some c =
    let a = (goal.at.returns-in-Some c).After-split_at-in-loop-element in
    let es = c.args.claimed.now.elements in
    let members = isotopologues_in c.args.claimed.now.members in
    let i = member-at c.args.claimed.now c.args.place in
    let i-is = member-is c.args.claimed.now c.args.place c.elements-elements.ensures.isotopologues c.requires.within in
    let within : c.loop-element.element < length i =
    omega (arith, c.loop-element-test.true, ap length c.elements-elements.ensures.value, length-isotopologue es i i-is) in
    sym
    (sym c.loop-element.invariant.rest
    ∙ element-some es c.args.threshold members i c.loop-element.element c.in-Some.found within
    (sym c.in-Some.is ∙ c.in_ok-found.ensures.found
    ∙ ap (λ (xs : List ℕ). left_out_among es c.args.threshold members i c.loop-element.element (counts_moved xs))
    (own-counts a)))

pub loop-element-preserved : goal.loop-element-preserved
loop-element-preserved c =
    let a = (goal.at.loop-element-preserved c).After-split_at-in-loop-element in
    let es = c.args.claimed.now.elements in
    let members = isotopologues_in c.args.claimed.now.members in
    let i = member-at c.args.claimed.now c.args.place in
    let i-is = member-is c.args.claimed.now c.args.place c.elements-elements.ensures.isotopologues c.requires.within in
    let within : c.loop-element.element < length i =
    omega (arith, c.loop-element-test.true, ap length c.elements-elements.ensures.value, length-isotopologue es i i-is) in
    record {
      lo = ap (map (λ e. e.lo)) c.left_out_by.ensures.parts ∙ c.loop-element.invariant.lo;
      hi = ap (map (λ e. e.hi)) c.left_out_by.ensures.parts ∙ c.loop-element.invariant.hi;
      from =
          ap (λ (xs : List ℕ). c.loop-element.from + length xs) (own-counts a)
          ∙ ap (λ (n : ℕ). c.loop-element.from + n) (own-long c.args.claimed.now.elements c.elements-elements.ensures.within_limits
          (member-at c.args.claimed.now c.args.place) (member-is c.args.claimed.now c.args.place c.elements-elements.ensures.isotopologues c.requires.within)
          c.row-row.result.now c.row-row.ensures.counts c.row-row.ensures.length c.loop-element.element c.index-elements-element.result
          (rw c.elements-elements.ensures.value at c.loop-element-test.true) (rw c.elements-elements.ensures.value at c.index-elements-element.is)
          c.loop-element.from c.loop-element.invariant.from)
          ∙ next-from c.args.claimed.now.elements c.elements-elements.ensures.within_limits
          (member-at c.args.claimed.now c.args.place) (member-is c.args.claimed.now c.args.place c.elements-elements.ensures.isotopologues c.requires.within)
          c.row-row.result.now c.row-row.ensures.counts c.row-row.ensures.length c.loop-element.element c.index-elements-element.result
          (rw c.elements-elements.ensures.value at c.loop-element-test.true) (rw c.elements-elements.ensures.value at c.index-elements-element.is)
          c.loop-element.from c.loop-element.invariant.from;
      rest =
          sym
          (element-none es c.args.threshold members i c.loop-element.element within
          (sym c.in_default.is ∙ c.in_ok-found.ensures.found
          ∙ ap (λ (xs : List ℕ). left_out_among es c.args.threshold members i c.loop-element.element (counts_moved xs))
          (own-counts a)))
          ∙ c.loop-element.invariant.rest;
    }

pub returns : goal.returns
returns c =
    let es = c.args.claimed.now.elements in
    let members = isotopologues_in c.args.claimed.now.members in
    let i = member-at c.args.claimed.now c.args.place in
    let i-is = member-is c.args.claimed.now c.args.place c.elements-elements.ensures.isotopologues c.requires.within in
    let past : length i ≤ c.loop-element.element =
    omega (arith, c.loop-element-test.false, ap length c.elements-elements.ensures.value, length-isotopologue es i i-is) in
    sym (element-end es c.args.threshold members i c.loop-element.element past) ∙ c.loop-element.invariant.rest
