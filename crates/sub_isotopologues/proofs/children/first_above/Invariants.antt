use Rattle.std.proofs.Common.{ℕ, ◌<◌, ◌≤◌, get_or}
use Rattle.sub_isotopologues.proofs.children.first_above.Given as goal

-- no place so far is above
abbrev pub invariant-loop-place : goal.invariant-loop-place
invariant-loop-place l = (k : ℕ) → k < l.place → get_or l.more k 0 ≤ get_or l.fewer k 0
