use Rattle.std.proofs.Common.{ℕ, ◌+◌, ◌*◌, ◌<◌, ◌≤◌, length, get_or}
use Rattle.multinomial_bounds.proofs.mode.is_mode.Given as goal

abbrev pub invariant-loop-i : goal.invariant-loop-i
invariant-loop-i l =
    (i j : ℕ) → i < l.i → j < length l.weights →
    get_or l.counts j 0 * get_or l.weights i 0 ≤ (get_or l.counts i 0 + 1) * get_or l.weights j 0
