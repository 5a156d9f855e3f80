use Rattle.std.proofs.Common.{sym}
use Rattle.element_table.proofs.element.Element.reference.Goals as goal

-- it stands at the place kept
pub returns-clause-among : goal.returns-clause-among
returns-clause-among c =
    rw (← c.self.view_is) (c.self.inside.reference, c.self.invariant.reference, sym c.index.ensures)
