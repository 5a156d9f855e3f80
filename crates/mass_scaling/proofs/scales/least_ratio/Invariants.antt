use Rattle.std.proofs.Common.{ℕ, ◌*◌, ◌<◌, ◌≤◌, length, get_or}
use Rattle.mass_scaling.proofs.scales.least_ratio.Given as goal

abbrev pub invariant-loop-place : goal.invariant-loop-place
invariant-loop-place l = record {
  within : l.least < length l.xs;
  no_less : (i : ℕ) → i < l.place → get_or l.xs l.least 0 * get_or l.ys i 0 ≤ get_or l.xs i 0 * get_or l.ys l.least 0;
}
