-- The laws are lemmas on the definitions.
use Rattle.isotopologue_sets.proofs.LayerLaws.{Contains-layer, layer_in_order}
use Rattle.isotopologue_sets.proofs.CoverOrder.{ordered_layer-IsTheOrder}
use Rattle.isotopologue_sets.proofs.AllReach.{layer_zero-reaches, last_threshold_for-ends, both-reaching}
use Rattle.isotopologue_sets.proofs.FirstThreshold.{last_threshold_for-halved, last_threshold_for-first}
use Rattle.isotopologue_sets.proofs.laws.layer_laws.Goals as goal

pub returns-clause-members : goal.returns-clause-members
returns-clause-members c = Contains-layer

pub returns-clause-in_order : goal.returns-clause-in_order
returns-clause-in_order c = layer_in_order

pub returns-clause-cover_order : goal.returns-clause-cover_order
returns-clause-cover_order c = ordered_layer-IsTheOrder

pub returns-clause-within_reach : goal.returns-clause-within_reach
returns-clause-within_reach c = layer_zero-reaches

pub returns-clause-ends : goal.returns-clause-ends
returns-clause-ends c = last_threshold_for-ends

pub returns-clause-halved : goal.returns-clause-halved
returns-clause-halved c = last_threshold_for-halved

pub returns-clause-first : goal.returns-clause-first
returns-clause-first c = last_threshold_for-first

pub returns-clause-reaching : goal.returns-clause-reaching
returns-clause-reaching c = both-reaching
