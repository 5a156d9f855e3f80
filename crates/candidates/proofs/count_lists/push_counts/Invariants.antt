use Rattle.std.proofs.Common.{◌≡◌, ◌++◌, take}
use Rattle.candidates.proofs.count_lists.push_counts.Given as goal

abbrev pub invariant-loop-count : goal.invariant-loop-count
invariant-loop-count l = l.kept.items ≡ l.initial.kept.items ++ take l.count-index l.counts
