-- The laws are lemmas on the definitions.
use Rattle.std.proofs.Common.{refl}
use Rattle.multinomial_bounds.specs.Bounds.{product_of}
use Rattle.multinomial_bounds.specs.Isotopologue.{bounds_of}
use Rattle.multinomial_bounds.proofs.EnclosureLemmas.{IsEnclosure-isotopologue}
use Rattle.multinomial_bounds.proofs.WidthLemmas.{isotopologue-width}
use Rattle.multinomial_bounds.proofs.IsotopologueList.{Contains-isotopologues_of}
use Rattle.multinomial_bounds.proofs.LexicographicOrder.{isotopologues_in_order}
use Rattle.multinomial_bounds.proofs.SumOfWeights.{weight_of-sum, weights-sum}
use Rattle.multinomial_bounds.proofs.laws.isotopologue_laws.Goals as goal

pub returns-clause-isotopologues : goal.returns-clause-isotopologues
returns-clause-isotopologues c = Contains-isotopologues_of

pub returns-clause-in_order : goal.returns-clause-in_order
returns-clause-in_order c = isotopologues_in_order

pub returns-clause-encloses : goal.returns-clause-encloses
returns-clause-encloses c elements ok isotopologue is = IsEnclosure-isotopologue elements isotopologue ok is

pub returns-clause-width : goal.returns-clause-width
returns-clause-width c = isotopologue-width

pub returns-clause-no_elements : goal.returns-clause-no_elements
unfolding product_of bounds_of
returns-clause-no_elements c round = refl

pub returns-clause-sum_of_counts : goal.returns-clause-sum_of_counts
returns-clause-sum_of_counts c = weight_of-sum

pub returns-clause-sum : goal.returns-clause-sum
returns-clause-sum c = weights-sum
