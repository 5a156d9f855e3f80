use Rattle.std.proofs.Common.{◌≡◌, ◌-◌, ◌<◌, ◌≤◌, ℕ, length, true}
use Rattle.isotopologue_sets.specs.Covers.{stands_before}
use Rattle.cover_claims.specs.CountsInRow.{counts_by_element}
use Rattle.cover_claims.specs.Claims.{isotopologues_in, member_at}
use Rattle.cover_claims.proofs.order.is_member.Given as goal

-- those before `low` stand before the isotopologue, and it stands before those from `high` on
abbrev pub invariant-loop-low : goal.invariant-loop-low
invariant-loop-low l = record {
  within : l.high ≤ length l.claimed.members;
  before : (k : ℕ) → k < l.low → k < length l.claimed.members →
      stands_before l.claimed.elements (member_at (isotopologues_in l.claimed.members) k)
      (counts_by_element l.claimed.elements l.counts) ≡ true;
  behind : (k : ℕ) → l.high ≤ k → k < length l.claimed.members →
      stands_before l.claimed.elements (counts_by_element l.claimed.elements l.counts)
      (member_at (isotopologues_in l.claimed.members) k) ≡ true;
}

abbrev pub decreases-loop-low : goal.decreases-loop-low
decreases-loop-low l = l.high - l.low
