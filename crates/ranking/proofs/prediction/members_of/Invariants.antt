use Rattle.std.proofs.Common.{◌≡◌, map, take, All}
use Rattle.prediction_score.specs.Scores.{IsPredicted}
use Rattle.ranking.specs.Predictions.{predicted_member}
use Rattle.ranking.proofs.prediction.members_of.Given as goal

-- the members so far
abbrev pub invariant-loop-place : goal.invariant-loop-place
invariant-loop-place l = record {
  members : l.members.items ≡ map (predicted_member l.table l.ion l.charge) (take l.place l.layer.members);
  masses : All IsPredicted l.members.items;
}
