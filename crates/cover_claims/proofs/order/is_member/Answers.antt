-- The member in the middle says on which side the isotopologue stands.
use Rattle.std.proofs.Common.{◌≡◌, ℕ, ◌+◌, ◌-◌, ◌/◌, ◌<◌, length, sym, ap, ◌∙◌, arith}
use Rattle.std.specs.Ordering.{nat_cmp, ordering_then}
use Rattle.std.specs.Cmp.Lexicographic.{slice_cmp}
use Rattle.isotopologue_sets.specs.Layers.{lo_of}
use Rattle.cover_claims.specs.CountsInRow.{counts_by_element}
use Rattle.cover_claims.specs.Claims.{isotopologues_in, member_at}
use Rattle.cover_claims.proofs.Comparison.{against}
use Rattle.cover_claims.proofs.Search.{low-after, high-after, found-equal, found-nowhere}
use Rattle.cover_claims.proofs.order.is_member.Goals as goal
use Rattle.cover_claims.proofs.order.is_member.Goals.{After-compare}

abbrev middle : After-compare → ℕ
middle c = c.loop-low.low + (c.loop-low.high - c.loop-low.low) / 2

inside : (c : After-compare) → middle c < length c.args.claimed.now.members
inside c = omega (arith, c.loop-low-test.true, c.loop-low.invariant.within)

stands : (c : After-compare) →
    c.compare.result
    ≡ against c.args.claimed.now.elements (member_at (isotopologues_in c.args.claimed.now.members) (middle c))
    (counts_by_element c.args.claimed.now.elements c.args.counts.now)
stands c =
    let es = c.args.claimed.now.elements in
    let member = member_at (isotopologues_in c.args.claimed.now.members) (middle c) in
    c.compare.ensures
    ∙ ap (λ (lo : ℕ).
    ordering_then (nat_cmp lo (lo_of es member))
    (slice_cmp (slice_cmp nat_cmp) member (counts_by_element es c.args.counts.now)))
    c.requires.bound

pub loop-low-preserved-in-Less : goal.loop-low-preserved-in-Less
loop-low-preserved-in-Less c =
    let a = (goal.at.loop-low-preserved-in-Less c).After-compare in
    record {
      within = c.loop-low.invariant.within;
      before =
          low-after c.args.claimed.now.elements c.args.claimed.now.members c.requires.in_order
          (counts_by_element c.args.claimed.now.elements c.args.counts.now) (middle a) (inside a)
          (sym (stands a) ∙ c.in-Less.is);
      behind = c.loop-low.invariant.behind;
    }

pub returns-in-Equal : goal.returns-in-Equal
returns-in-Equal c =
    let a = (goal.at.returns-in-Equal c).After-compare in
    found-equal c.args.claimed.now.elements c.args.claimed.now.members c.requires.in_order
    (counts_by_element c.args.claimed.now.elements c.args.counts.now) (middle a) (inside a)
    (sym (stands a) ∙ c.in-Equal.is)

pub loop-low-preserved : goal.loop-low-preserved
loop-low-preserved c =
    let a = (goal.at.loop-low-preserved c).After-compare in
    record {
      within = omega (arith, inside a);
      before = c.loop-low.invariant.before;
      behind =
          high-after c.args.claimed.now.elements c.args.claimed.now.members c.requires.in_order
          (counts_by_element c.args.claimed.now.elements c.args.counts.now) (middle a) (inside a)
          (sym (stands a) ∙ c.in-Greater.is);
    }

pub returns : goal.returns
returns c =
    found-nowhere c.args.claimed.now.elements c.args.claimed.now.members c.requires.in_order
    (counts_by_element c.args.claimed.now.elements c.args.counts.now) c.loop-low.low c.loop-low.high
    (omega (arith, c.loop-low-test.false)) c.loop-low.invariant.before c.loop-low.invariant.behind
