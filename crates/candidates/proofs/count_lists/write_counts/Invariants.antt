use Rattle.std.proofs.Common.{◌≡◌, ◌++◌, take, drop}
use Rattle.candidates.proofs.count_lists.write_counts.Given as goal

abbrev pub invariant-loop-place : goal.invariant-loop-place
invariant-loop-place l = l.counts ≡ take l.place l.kept ++ drop l.place l.initial.counts
