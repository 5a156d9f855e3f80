use Rattle.std.proofs.Common.{◌≡◌, ◌*◌, ◌≤◌, ◌^◌, take}
use Rattle.std.specs.Prelude.{sum_by}
use Rattle.ranking.specs.Places.{RankedEntry}
use Rattle.peak_ranking.proofs.tally.size_sum.Given as goal

-- the sizes of the first candidates
abbrev pub invariant-loop-ranked : goal.invariant-loop-ranked
invariant-loop-ranked l = record {
  sum : l.sum ≡ sum_by (λ (entry : RankedEntry). entry.size) (take l.ranked-index l.found);
  small : l.sum ≤ l.ranked-index * 2 ^ 64;
}
