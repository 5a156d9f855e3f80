use Rattle.std.proofs.Common.{◌≡◌, ℕ, ◌+◌, ◌<◌, min, if◌then◌else◌, nat_lt, length, get_or}
use Rattle.residue_table.proofs.spans.minima_of_longer.Given as goal

abbrev pub invariant-loop-run : goal.invariant-loop-run
invariant-loop-run l = record {
  one_each : length l.longer.items ≡ l.run;
  least : (k : ℕ) → k < l.run → get_or l.longer.items k 0 ≡ (if nat_lt (k + l.runs) (length l.minima)
      then min (get_or l.minima k 0) (get_or l.minima (k + l.runs) 0) else get_or l.minima k 0);
}
