-- The laws are lemmas on the definitions.
use Rattle.isotopologue_neighbours.proofs.MoveLemmas.{neighbours_of-IsIsotopologue}
use Rattle.isotopologue_neighbours.proofs.OutsideMembers.{outside}
use Rattle.isotopologue_neighbours.proofs.ClosedBounds.{closed-Bound, reaches-by_lo}
use Rattle.isotopologue_neighbours.proofs.laws.neighbour_laws.Goals as goal

pub returns-clause-outside : goal.returns-clause-outside
returns-clause-outside c = outside

pub returns-clause-neighbours : goal.returns-clause-neighbours
returns-clause-neighbours c = neighbours_of-IsIsotopologue

pub returns-clause-bound : goal.returns-clause-bound
returns-clause-bound c = closed-Bound

pub returns-clause-reaches : goal.returns-clause-reaches
returns-clause-reaches c = reaches-by_lo
