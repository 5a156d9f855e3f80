use Rattle.std.proofs.Common.{ℕ, ◌≤◌, get_or}
use Rattle.multinomial_bounds.proofs.path.last_above.Given as goal

abbrev pub invariant-loop-i : goal.invariant-loop-i
invariant-loop-i l = (k : ℕ) → l.i ≤ k → get_or l.more k 0 ≤ get_or l.fewer k 0
