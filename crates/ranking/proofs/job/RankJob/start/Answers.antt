use Rattle.std.proofs.Common.{ℕ, List, ap}
use Rattle.ranking.specs.Rankings.{RankTask}
use Rattle.ranking.proofs.JobStates.{begun-list, begun-stop}
use Rattle.ranking.proofs.job.RankJob.start.Goals as goal
use Rattle.ranking.proofs.job.RankJob.start.Goals.{In_ok-of}

abbrev task_over : In_ok-of → List (ℕ × ℕ) → RankTask
task_over c peaks =
    record { premises = c.args.premises.now; peaks = peaks; place = c.args.peak; coverage = c.args.coverage }

pub returns-clause-list : goal.returns-clause-list
returns-clause-list c =
    begun-list c.of-2.result _ _ (ap (task_over (goal.at.returns-clause-list c).In_ok-of) c.in_ok-of.ensures) c.of-2.ensures

pub returns-clause-stop : goal.returns-clause-stop
returns-clause-stop c =
    begun-stop c.of-2.result _ _ (ap (task_over (goal.at.returns-clause-stop c).In_ok-of) c.in_ok-of.ensures) c.of-2.ensures
