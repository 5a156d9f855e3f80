use Rattle.std.proofs.Common.{◌≡◌, take}
use Rattle.job_turns.specs.Boards.{jobs_of}
use Rattle.job_turns.specs.Turns.{MeetsNoStop, KeepsItems, board_after}
use Rattle.job_turns.proofs.board.JobBoard+J+J+Item.play.Given as goal

-- the turns so far were given
abbrev pub invariant-loop-turn : goal.invariant-loop-turn
invariant-loop-turn g l =
    let jobs = jobs_of g.J.Job.left g.J.Job.stop l.initial.self in
    let now = jobs_of g.J.Job.left g.J.Job.stop l.self in record {
      no_stop : MeetsNoStop (take l.turn-index l.turns) jobs;
      given : now ≡ board_after (take l.turn-index l.turns) jobs;
      kept : KeepsItems jobs now;
    }
