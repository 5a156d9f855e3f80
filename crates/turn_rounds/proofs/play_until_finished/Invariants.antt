use Rattle.std.proofs.Common.{◌≡◌, ◌+◌, ◌*◌, ℕ, false, cond}
use Rattle.job_turns.specs.Boards.{jobs_of}
use Rattle.turn_rounds.proofs.RoundLaws.{Gave, HaveEnded, InRound, items_left}
use Rattle.turn_rounds.proofs.play_until_finished.Given as goal

-- rounds and a part of one were given
abbrev pub invariant-loop-place : goal.invariant-loop-place
invariant-loop-place g l =
    let jobs = jobs_of g.J.Job.left g.J.Job.stop in
    (rounds : ℕ)
    × InRound l.allow rounds l.jobs l.place l.is_open (jobs l.fn.board) (jobs l.initial.board) (jobs l.board)

-- whole rounds were given, and where no turn of the last one was full all jobs have ended
abbrev pub invariant-loop-is_open : goal.invariant-loop-is_open
invariant-loop-is_open g l =
    let jobs = jobs_of g.J.Job.left g.J.Job.stop in
    (rounds : ℕ) × Gave l.allow (rounds * l.jobs) (jobs l.fn.board) (jobs l.board)
    × (l.is_open ≡ false → HaveEnded l.allow (rounds * l.jobs) l.jobs (jobs l.fn.board))

-- an item less is left after each round but the last one
abbrev pub decreases-loop-is_open : goal.decreases-loop-is_open
decreases-loop-is_open g l = items_left (jobs_of g.J.Job.left g.J.Job.stop l.board) + cond l.is_open 1 0
