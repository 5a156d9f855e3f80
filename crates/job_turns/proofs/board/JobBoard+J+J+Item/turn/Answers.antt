use Rattle.std.proofs.Common.{◌<◌, length, arith}
use Rattle.std.proofs.lemmas.List.{length-map}
use Rattle.job_turns.specs.Boards.{progress_of, jobs_of}
use Rattle.job_turns.specs.Turns.{TurnOnBoard}
use Rattle.job_turns.proofs.BoardLaws.{turn_on_board, keeps_items, same_count}
use Rattle.job_turns.proofs.board.JobBoard+J+J+Item.turn.Goals as goal

pub returns-clause-turn : goal.returns-clause-turn
returns-clause-turn g c =
    let view = progress_of g.J.Job.left g.J.Job.stop in
    let entries = c.args.self.now.entries.items in
    let within : c.args.job < length entries = omega (arith, length-map entries view, c.requires.in_range) in
    turn_on_board view entries c.args.job c.args.allow c.index_mut.result.now c.turn.new.self c.turn.result within
    c.index_mut.ensures.value c.turn.ensures

pub returns-clause-kept : goal.returns-clause-kept
returns-clause-kept g c = keeps_items c.args.job c.args.allow _ _ c.turn.result (returns-clause-turn g c)

pub returns-clause-count : goal.returns-clause-count
returns-clause-count g c = same_count _ _ (returns-clause-kept g c)
