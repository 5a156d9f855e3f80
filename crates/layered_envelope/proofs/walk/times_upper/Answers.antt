use Rattle.std.proofs.Common.{rules}
use Rattle.layered_envelope.specs.Walks.{upper}
use Rattle.layered_envelope.proofs.walk.times_upper.Goals as goal

pub returns-clause-value : goal.returns-clause-value
unfolding upper
returns-clause-value c = search rules
