use Rattle.std.proofs.Common.{◌≡◌, map, take}
use Rattle.std.specs.Prelude.{unsigned_abs}
use Rattle.prediction_score.proofs.columns.column_of.Given as goal

abbrev pub invariant-loop-member : goal.invariant-loop-member
invariant-loop-member l = l.column.items ≡ map (λ m. unsigned_abs m.mass) (take l.member-index l.members)
