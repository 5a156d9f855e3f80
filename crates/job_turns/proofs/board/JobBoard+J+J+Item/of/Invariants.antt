use Rattle.std.proofs.Common.{◌≡◌, map}
use Rattle.job_turns.specs.Turns.{begun}
use Rattle.job_turns.specs.Boards.{progress_of}
use Rattle.job_turns.proofs.board.JobBoard+J+J+Item.of.Given as goal

-- the jobs so far stand on the board
abbrev pub invariant-loop-job : goal.invariant-loop-job
invariant-loop-job g l =
    map (progress_of g.J.Job.left g.J.Job.stop) l.entries.items ≡ map
    (λ job. begun (g.J.Job.left job) (g.J.Job.stop job)) l.yielded
