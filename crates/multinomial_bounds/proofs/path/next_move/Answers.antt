use Rattle.std.proofs.Common.{sym}
use Rattle.multinomial_bounds.proofs.PathLemmas.{same_counts}
use Rattle.multinomial_bounds.proofs.path.next_move.Goals as goal

pub returns-in_err-from : goal.returns-in_err-from
returns-in_err-from c =
    rw c.from_residual.ensures
    (same_counts c.args.current.now c.args.counts.now c.requires.same_places c.requires.same_atoms c.in_err-from.ensures)

pub returns-in_err-to : goal.returns-in_err-to
returns-in_err-to c =
    rw c.from_residual-in_err-to.ensures
    (sym (same_counts c.args.counts.now c.args.current.now (sym c.requires.same_places) (sym c.requires.same_atoms) c.in_err-to.ensures))
