use Rattle.job_turns.specs.Boards.{jobs_of}
use Rattle.turn_rounds.proofs.RoundLaws.{Gave}
use Rattle.turn_rounds.proofs.play_turns.Given as goal

-- the turns so far were given
abbrev pub invariant-loop-number : goal.invariant-loop-number
invariant-loop-number g l =
    let jobs = jobs_of g.J.Job.left g.J.Job.stop in
    Gave l.allow l.number (jobs l.initial.board) (jobs l.board)
