use Rattle.std.proofs.Common.{◌≡◌, ◌++◌, take, drop}
use Rattle.decompose.specs.Levels.{counts_of}
use Rattle.decompose.proofs.levels.write_counts.Given as goal

abbrev pub invariant-loop-place : goal.invariant-loop-place
invariant-loop-place l = l.counts ≡ counts_of (take l.place l.levels) ++ drop l.place l.initial.counts
