use Rattle.std.proofs.Common.{arith}
use Rattle.residue_table.proofs.CarriedRows.{closed_once, closed_twice}
use Rattle.residue_table.proofs.round_robin.close_cycle.Goals as goal

pub returns-then-entries-start-clause-closed : goal.returns-then-entries-start-clause-closed
returns-then-entries-start-clause-closed c =
    closed_twice _ _ c.args.start c.args.step c.args.mass c.args.cycle _ _ _ c.requires.start c.requires.round
    c.carry.ensures.length c.carry.ensures.carried c.carry-then-entries-start.ensures.lowered
    c.carry-then-entries-start.ensures.carried

pub returns-then-entries-start-clause-sound : goal.returns-then-entries-start-clause-sound
returns-then-entries-start-clause-sound c masses s =
    c.carry-then-entries-start.ensures.sound masses (c.carry.ensures.sound masses s)

pub returns-else-entries-start-clause-closed : goal.returns-else-entries-start-clause-closed
returns-else-entries-start-clause-closed c =
    closed_once _ c.args.start c.args.step c.args.mass c.args.cycle _ _ c.requires.start c.requires.round
    c.carry.ensures.carried (omega (arith, c.if-entries-start.false))
