use Rattle.decompose.proofs.ClimbedSteps.{first_steps}
use Rattle.decompose.proofs.walk.find_first.Goals as goal

pub returns-clause-steps : goal.returns-clause-steps
returns-clause-steps g c most room =
    first_steps c.args.symbols.now c.args.scaled c.first_low-low.result most c.args.steps.now c.find_from.new.steps _
    c.requires.some (c.find_from.ensures.steps most room)
