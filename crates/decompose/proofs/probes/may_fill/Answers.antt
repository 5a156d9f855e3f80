use Rattle.decompose.proofs.ProbeSteps.{filled_or_not, is_filled, is_filled_by_none}
use Rattle.decompose.proofs.probes.may_fill.Goals as goal

pub returns-else-scaled-eq0-clause-unfilled : goal.returns-else-scaled-eq0-clause-unfilled
returns-else-scaled-eq0-clause-unfilled g c =
    filled_or_not c.args.residues.now c.args.symbols.now c.args.scaled c.reaches_in.result
    c.requires.knows c.reaches_in.ensures.reaches

pub returns-else-scaled-eq0-clause-filled : goal.returns-else-scaled-eq0-clause-filled
returns-else-scaled-eq0-clause-filled g c =
    is_filled c.args.residues.now c.args.symbols.now c.args.scaled c.reaches_in.result
    c.requires.knows c.reaches_in.ensures.reaches

pub returns-then-scaled-eq0-clause-filled : goal.returns-then-scaled-eq0-clause-filled
returns-then-scaled-eq0-clause-filled g c =
    is_filled_by_none c.args.symbols.now c.args.scaled c.if-scaled-eq0.true
