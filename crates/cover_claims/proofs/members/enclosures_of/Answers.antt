-- The row at a place is the member there.
use Rattle.std.proofs.Common.{◌≡◌, ◌+◌, ◌*◌, ℕ, [], ◌∷◌, length, ap, arith, ◌∙◌, length-append}
use Rattle.isotopologue_sets.specs.Layers.{lo_of, hi_of}
use Rattle.cover_claims.specs.CountsInRow.{counts_by_element}
use Rattle.cover_claims.specs.Claims.{isotopologues_in, member_at}
use Rattle.cover_claims.specs.MemberRows.{member_rows}
use Rattle.cover_claims.proofs.RowLemmas.{member_at-row, length-isotopologues, row-within, length-row}
use Rattle.cover_claims.proofs.BoundedMembers.{bounded-none, bounded-more, bounded-all}
use Rattle.cover_claims.proofs.members.enclosures_of.Goals as goal
use Rattle.cover_claims.proofs.members.enclosures_of.Goals.{After-row_at}

row_is : (c : After-row_at) →
    counts_by_element c.args.elements.now c.row_at.result.now
    ≡ member_at (isotopologues_in (member_rows c.args.elements.now c.args.counts.now c.args.marks.now)) c.loop-place.place
row_is c =
    rw (c.row_at.ensures, c.requires.width)
    (member_at-row c.args.elements.now c.args.counts.now c.args.marks.now c.loop-place.place c.loop-place-test.true)

pub loop-place-init : goal.loop-place-init
loop-place-init c = record {
  so_far = ap length c.new-enclosures.ensures.items;
  bounded = rw c.new-enclosures.ensures.items (bounded-none c.args.elements.now _);
}

pub row_at-requires : goal.row_at-requires
row_at-requires c =
    row-within c.loop-place.place (length c.args.marks.now) c.args.isotopes (length c.args.counts.now)
    c.loop-place-test.true c.requires.rows

pub enclosure_of-requires-clause-isotopologue : goal.enclosure_of-requires-clause-isotopologue
enclosure_of-requires-clause-isotopologue c =
    let inside = length-isotopologues c.args.elements.now c.args.counts.now c.args.marks.now in
    rw (row_is (goal.at.enclosure_of-requires-clause-isotopologue c).After-row_at)
    (c.requires.isotopologues c.loop-place.place [] (omega (arith, inside)))

pub enclosure_of-requires-clause-enough : goal.enclosure_of-requires-clause-enough
enclosure_of-requires-clause-enough c =
    let within =
    row-within c.loop-place.place (length c.args.marks.now) c.args.isotopes (length c.args.counts.now)
    c.loop-place-test.true c.requires.rows in
    let long =
    length-row c.args.counts.now (c.loop-place.place * c.args.isotopes) c.args.isotopes within in
    rw c.row_at.ensures (omega (arith, long, c.requires.width))

pub loop-place-preserved : goal.loop-place-preserved
loop-place-preserved c =
    let members = isotopologues_in (member_rows c.args.elements.now c.args.counts.now c.args.marks.now) in
    let is = row_is (goal.at.loop-place-preserved c).After-row_at in
    record {
      so_far =
          ap length c.in_ok-push.ensures.items
          ∙ length-append c.loop-place.enclosures.items (c.in_ok-enclosure_of.field-0 ∷ [])
          ∙ ap (λ (n : ℕ). n + 1) c.loop-place.invariant.so_far;
      bounded =
          rw c.in_ok-push.ensures.items
          (bounded-more c.args.elements.now members c.loop-place.enclosures.items c.in_ok-enclosure_of.field-0
          c.loop-place.place c.loop-place.invariant.bounded c.loop-place.invariant.so_far
          (c.in_ok-enclosure_of.ensures.lo ∙ ap (lo_of c.args.elements.now) is)
          (c.in_ok-enclosure_of.ensures.hi ∙ ap (hi_of c.args.elements.now) is));
    }

pub returns : goal.returns
returns c =
    let all = length-isotopologues c.args.elements.now c.args.counts.now c.args.marks.now in
    bounded-all c.args.elements.now _ c.loop-place.enclosures.items c.loop-place.invariant.bounded
    (omega (arith, all, c.loop-place.invariant.so_far))
