use Rattle.std.proofs.Common.{ℕ, length, drop, Some, None, ◌≡◌, ◌+◌, ◌-◌, ◌*◌, ◌≤◌}
use Rattle.decompose.specs.Levels.{counts_of}
use Rattle.decompose.specs.Numbers.{HasRoom, number_after}
use Rattle.decompose.specs.Probes.{scaled_at}
use Rattle.decompose.specs.Walk.{StandsAt}
use Rattle.decompose.proofs.walk.find_next.Given as goal

abbrev pub invariant-loop-place : goal.invariant-loop-place
invariant-loop-place g l = record {
  stands : StandsAt l.symbols l.window l.levels l.place;
  in_range : l.place ≤ length l.levels;
  not_above : l.place ≤ l.depth;
  unchanged : l.levels ≡ l.initial.levels;
  steps : (most : ℕ) → HasRoom l.symbols l.scaled.hi most →
      l.steps ≤ l.initial.steps + (most + 1) * (l.depth - l.place + length l.symbols *
      number_after (drop l.place l.symbols) (scaled_at l.symbols l.levels l.scaled l.place)
      (Some (drop l.place (counts_of l.levels))) most None);
}

abbrev pub decreases-loop-place : goal.decreases-loop-place
decreases-loop-place g l = l.place
