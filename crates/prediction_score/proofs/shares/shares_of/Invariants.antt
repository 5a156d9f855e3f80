use Rattle.std.proofs.Common.{length, take}
use Rattle.prediction_score.specs.Scores.{matches_of}
use Rattle.prediction_score.specs.PeakOrders.{AreShares}
use Rattle.prediction_score.proofs.shares.shares_of.Given as goal

abbrev pub invariant-loop-member : goal.invariant-loop-member
invariant-loop-member l =
    AreShares (length l.order) (matches_of l.order l.divisor l.tolerance (take l.member-index l.members)) l.shares
