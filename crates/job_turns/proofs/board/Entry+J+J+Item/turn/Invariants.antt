use Rattle.std.proofs.Common.{◌≡◌, ◌≤◌, length}
use Rattle.job_turns.specs.Turns.{progress_after}
use Rattle.job_turns.specs.Boards.{progress_of}
use Rattle.job_turns.proofs.board.Entry+J+J+Item.turn.Given as goal

-- so many items were found as there were calls
abbrev pub invariant-loop-gave : goal.invariant-loop-gave
invariant-loop-gave g l =
    (l.gave ≤ length (g.J.Job.left l.initial.self.job))
    × (progress_of g.J.Job.left g.J.Job.stop l.self ≡ progress_after l.gave
    (progress_of g.J.Job.left g.J.Job.stop l.initial.self))
