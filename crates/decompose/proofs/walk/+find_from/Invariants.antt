use Rattle.std.proofs.Common.{ℕ, suc, length, ◌≡◌, ◌+◌, ◌-◌, ◌*◌, ◌≤◌, ◌∷◌}
use Rattle.decompose.specs.Levels.{window_less}
use Rattle.decompose.specs.Numbers.{HasRoom}
use Rattle.decompose.proofs.CountedLists.{passed}
use Rattle.decompose.proofs.WalkSteps.{Reaches}
use Rattle.decompose.proofs.walk.+find_from.Given as goal

abbrev pub decreases-find_from : goal.decreases-find_from
decreases-find_from g l = length l.symbols.now

abbrev pub invariant-counts : goal.invariant-counts
invariant-counts g l = record {
  reaches : Reaches l.symbol l.below l.count l.fn.window l.level;
  rest : l.rest ≡ window_less l.fn.scaled (l.level.count * l.symbol.scaled);
  unchanged : l.levels ≡ l.initial.levels;
  steps : (most : ℕ) → HasRoom (l.symbol ∷ l.below) l.fn.scaled.hi most →
      l.steps ≤ l.initial.steps + l.level.count + (most + 1) * (suc (length l.below) *
      passed l.symbol l.below l.fn.scaled most l.count (l.level.count - l.count));
}

abbrev pub decreases-counts : goal.decreases-counts
decreases-counts g l = l.symbol.limit.high - l.level.count
