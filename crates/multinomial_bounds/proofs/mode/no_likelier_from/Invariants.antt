use Rattle.std.proofs.Common.{ℕ, ◌+◌, ◌*◌, ◌<◌, ◌≤◌, get_or}
use Rattle.multinomial_bounds.proofs.mode.no_likelier_from.Given as goal

abbrev pub invariant-loop-j : goal.invariant-loop-j
invariant-loop-j l =
    (k : ℕ) → k < l.j → get_or l.counts k 0 * get_or l.weights l.to 0 ≤ (get_or l.counts l.to 0 + 1) * get_or l.weights k 0
