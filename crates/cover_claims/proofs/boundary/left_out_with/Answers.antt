-- The member with other counts of one element is an isotopologue, whose bounds and counts are those that are found.
use Rattle.std.proofs.Common.{◌≡◌, ◌<◌, length, map, sym, arith, ◌∙◌}
use Rattle.std.proofs.lemmas.List.{length-map}
use Rattle.multinomial_bounds.specs.Bounds.{floor_of, ceiling_of}
use Rattle.isotopologue_sets.specs.Layers.{lo_of, hi_of}
use Rattle.cover_claims.specs.Claims.{isotopologues_in, member_at}
use Rattle.cover_claims.specs.Surroundings.{with_counts}
use Rattle.cover_claims.proofs.OtherCounts.{other-within, other-counts, other-by-element, other-length, other-bound, parts-within, not-above, not-out, left-out}
use Rattle.cover_claims.proofs.boundary.left_out_with.Goals as goal
use Rattle.cover_claims.proofs.boundary.left_out_with.Goals.{After-elements, After-index-elements-around, After-product_with-whole}

within : (c : After-elements) → c.args.around.element < length c.elements.result.now
within c =
    rw c.elements.ensures.value
    (other-within c.args.claimed.now c.args.around.place c.elements.ensures.isotopologues c.requires.within
    c.args.around.element c.args.around.before.now c.args.around.own.now c.args.around.after.now c.args.counts.now
    c.requires.around c.requires.places c.requires.atoms)

pub bounds-elements-around : goal.bounds-elements-around
bounds-elements-around c = within (goal.at.bounds-elements-around c).After-elements

pub offset_bounds-elements-around : goal.offset_bounds-elements-around
offset_bounds-elements-around c =
    let h : c.args.around.element < length c.elements.result.now = within (goal.at.offset_bounds-elements-around c).After-elements in
    let small = c.elements.type_inv in
    omega (arith, h, small.1)

pub enclosure-requires : goal.enclosure-requires
enclosure-requires c =
    other-counts c.args.claimed.now c.args.around.place c.elements.ensures.isotopologues c.requires.within
    c.args.around.element c.args.around.before.now c.args.around.own.now c.args.around.after.now c.args.counts.now
    c.requires.around c.requires.places c.requires.atoms c.index-elements-around.result
    (rw c.elements.ensures.value at c.index-elements-around.is)

pub product_with-whole-requires : goal.product_with-whole-requires
product_with-whole-requires c =
    let inside =
    parts-within c.args.claimed.now c.args.around.place c.elements.ensures.isotopologues c.requires.within
    c.args.around.element c.args.around.before.now c.args.around.own.now c.args.around.after.now c.args.counts.now
    c.requires.around c.requires.places c.requires.atoms floor_of (map (λ e. e.lo) c.args.parts.now) c.requires.lo in
    rw length-map at inside

whole-lo : (c : After-product_with-whole) →
    c.product_with-whole.result.lo
    ≡ lo_of c.args.claimed.now.elements
    (with_counts (member_at (isotopologues_in c.args.claimed.now.members) c.args.around.place) c.args.around.element
    c.args.counts.now)
whole-lo c =
    c.product_with-whole.ensures.lo
    ∙ other-bound c.args.claimed.now c.args.around.place c.elements.ensures.isotopologues c.requires.within
    c.args.around.element c.args.around.before.now c.args.around.own.now c.args.around.after.now c.args.counts.now
    c.requires.around c.requires.places c.requires.atoms floor_of (map (λ e. e.lo) c.args.parts.now)
    c.in_ok-changed.changed.lo c.index-elements-around.result
    (rw c.elements.ensures.value at c.index-elements-around.is) c.requires.lo c.in_ok-changed.ensures.lo

whole-hi : (c : After-product_with-whole) →
    c.product_with-whole.result.hi
    ≡ hi_of c.args.claimed.now.elements
    (with_counts (member_at (isotopologues_in c.args.claimed.now.members) c.args.around.place) c.args.around.element
    c.args.counts.now)
whole-hi c =
    c.product_with-whole.ensures.hi
    ∙ other-bound c.args.claimed.now c.args.around.place c.elements.ensures.isotopologues c.requires.within
    c.args.around.element c.args.around.before.now c.args.around.own.now c.args.around.after.now c.args.counts.now
    c.requires.around c.requires.places c.requires.atoms ceiling_of (map (λ e. e.hi) c.args.parts.now)
    c.in_ok-changed.changed.hi c.index-elements-around.result
    (rw c.elements.ensures.value at c.index-elements-around.is) c.requires.hi c.in_ok-changed.ensures.hi

pub returns-then-whole-threshold-clause-found : goal.returns-then-whole-threshold-clause-found
returns-then-whole-threshold-clause-found c =
    not-above c.args.claimed.now c.args.around.place c.elements.ensures.isotopologues c.requires.within
    c.args.around.element c.args.around.before.now c.args.around.own.now c.args.around.after.now c.args.counts.now
    c.requires.around c.requires.places c.requires.atoms c.args.threshold c.product_with-whole.result.hi
    (whole-hi (goal.at.returns-then-whole-threshold-clause-found c).After-product_with-whole) c.if-whole-threshold.true

pub is_member-requires-clause-bound : goal.is_member-requires-clause-bound
is_member-requires-clause-bound c =
    let same =
    other-by-element c.args.claimed.now c.args.around.place c.elements.ensures.isotopologues c.requires.within
    c.args.around.element c.args.around.before.now c.args.around.own.now c.args.around.after.now c.args.counts.now
    c.requires.around c.requires.places c.requires.atoms in
    rw (c.deref.ensures.value, c.in_ok-row.ensures, same)
    (whole-lo (goal.at.is_member-requires-clause-bound c).After-product_with-whole)

pub is_member-requires-clause-places : goal.is_member-requires-clause-places
is_member-requires-clause-places c =
    rw (c.deref.ensures.value, c.in_ok-row.ensures)
    (other-length c.args.claimed.now c.args.around.place c.elements.ensures.isotopologues c.requires.within
    c.args.around.element c.args.around.before.now c.args.around.own.now c.args.around.after.now c.args.counts.now
    c.requires.around c.requires.places c.requires.atoms)

pub returns-then-is_member-clause-found : goal.returns-then-is_member-clause-found
returns-then-is_member-clause-found c =
    let same =
    other-by-element c.args.claimed.now c.args.around.place c.elements.ensures.isotopologues c.requires.within
    c.args.around.element c.args.around.before.now c.args.around.own.now c.args.around.after.now c.args.counts.now
    c.requires.around c.requires.places c.requires.atoms in
    let found = rw (c.deref.ensures.value, c.in_ok-row.ensures, same) at c.is_member.ensures in
    not-out c.args.claimed.now c.args.around.place c.elements.ensures.isotopologues c.requires.within
    c.args.around.element c.args.around.before.now c.args.around.own.now c.args.around.after.now c.args.counts.now
    c.requires.around c.requires.places c.requires.atoms c.args.threshold c.product_with-whole.result.hi
    (whole-hi (goal.at.returns-then-is_member-clause-found c).After-product_with-whole)
    (sym c.if-is_member.true ∙ found)

pub returns-clause-found : goal.returns-clause-found
returns-clause-found c =
    let same =
    other-by-element c.args.claimed.now c.args.around.place c.elements.ensures.isotopologues c.requires.within
    c.args.around.element c.args.around.before.now c.args.around.own.now c.args.around.after.now c.args.counts.now
    c.requires.around c.requires.places c.requires.atoms in
    let found = rw (c.deref.ensures.value, c.in_ok-row.ensures, same) at c.is_member.ensures in
    rw c.in_ok-row.ensures
    (left-out c.args.claimed.now c.args.around.place c.elements.ensures.isotopologues c.requires.within
    c.args.around.element c.args.around.before.now c.args.around.own.now c.args.around.after.now c.args.counts.now
    c.requires.around c.requires.places c.requires.atoms c.args.threshold c.product_with-whole.result.hi
    (whole-hi (goal.at.returns-clause-found c).After-product_with-whole) c.if-whole-threshold.false
    (sym c.if-is_member.false ∙ found))
