use Rattle.std.proofs.Common.{refl}
use Rattle.ranking.proofs.JobStates.{begun-list, begun-stop}
use Rattle.ranking.proofs.job.RankJob.sharing.Goals as goal

pub returns-clause-list : goal.returns-clause-list
returns-clause-list c = begun-list c.of.result _ _ refl c.of.ensures

pub returns-clause-stop : goal.returns-clause-stop
returns-clause-stop c = begun-stop c.of.result _ _ refl c.of.ensures
