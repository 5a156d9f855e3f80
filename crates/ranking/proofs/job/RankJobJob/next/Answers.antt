use Rattle.std.proofs.Common.{◌≡◌, ◌∷◌}
use Rattle.ranking.specs.RankJobs.{RankState}
use Rattle.ranking.specs.Ratings.{task_of, waiting_of}
use Rattle.ranking.proofs.JobStates.{gives-list, gives-stop, put_back-list, stops-here, taken-HasIon, taken-IsState}
use Rattle.ranking.proofs.job.RankJobJob.next.Goals as goal
use Rattle.ranking.proofs.job.RankJobJob.next.Goals.{In-Some}

-- the job as it was opened
abbrev opened : In-Some → RankState
opened c =
    record { task = task_of c.self.inside.task; formulas = waiting_of c.self.inside.waiting; room = c.self.inside.room }

first : (c : In-Some) → waiting_of c.self.inside.waiting ≡ c.in-Some.formula ∷ waiting_of c.take.new.self
first c = rw c.in-Some.is at c.in_ok-formula.ensures.taken

pub rated_within-rated-requires-clause-ion : goal.rated_within-rated-requires-clause-ion
rated_within-rated-requires-clause-ion c =
    let at = (goal.at.rated_within-rated-requires-clause-ion c).In-Some in
    taken-HasIon c.args.self.now (opened at) c.self.view_is c.in-Some.formula (waiting_of c.take.new.self) (first at)
    c.self.invariant

pub invariant_of-self-in-Ok : goal.invariant_of-self-in-Ok
invariant_of-self-in-Ok c =
    let at = (goal.at.invariant_of-self-in-Ok c).In-Some in
    taken-IsState c.args.self.now (opened at) c.self.view_is c.in-Some.formula (waiting_of c.take.new.self) (first at) _
    c.self.invariant

pub returns-in-Ok-clause-next : goal.returns-in-Ok-clause-next
returns-in-Ok-clause-next c =
    let at = (goal.at.returns-in-Ok-clause-next c).In-Some in
    gives-list c.args.self.now (opened at) c.self.view_is c.in-Some.formula (waiting_of c.take.new.self) (first at)
    c.in-Ok.rating c.in-Ok.ensures

pub returns-in-Ok-clause-stop : goal.returns-in-Ok-clause-stop
returns-in-Ok-clause-stop c =
    let at = (goal.at.returns-in-Ok-clause-stop c).In-Some in
    gives-stop c.args.self.now (opened at) c.self.view_is c.in-Some.formula (waiting_of c.take.new.self) (first at)
    c.in-Ok.rating c.in-Ok.ensures

pub returns-in-Err-clause-next : goal.returns-in-Err-clause-next
returns-in-Err-clause-next c =
    let at = (goal.at.returns-in-Err-clause-next c).In-Some in (
      put_back-list c.args.self.now (opened at) c.self.view_is c.in-Some.formula (waiting_of c.take.new.self) (first at)
          (waiting_of c.put_back.new.self) c.put_back.ensures,
      stops-here c.args.self.now (opened at) c.self.view_is c.in-Some.formula (waiting_of c.take.new.self) (first at)
          c.in-Err.fault c.in-Err.ensures,
    )
