use Rattle.peak_generator.proofs.MadeStates.{counts-drawn, four-draws}
use Rattle.peak_generator.proofs.formulas.made_counts.Goals as goal

pub returns-clause-counts : goal.returns-clause-counts
returns-clause-counts c = cc (counts-drawn c.args.draws.now)

pub returns-clause-state : goal.returns-clause-state
returns-clause-state c = cc (four-draws c.args.draws.now)
