use Rattle.std.proofs.Common.{arith}
use Rattle.reaching_layer.proofs.SearchSteps.{guessed-not_yet}
use Rattle.reaching_layer.proofs.search.layers_to_reaching.Goals as goal

pub search_with-requires-clause-not_yet : goal.search_with-requires-clause-not_yet
search_with-requires-clause-not_yet c =
    guessed-not_yet c.args.elements.now c.args.coverage c.in_ok-layers.layers c.in_ok-layers.total c.in_ok-layers.ensures
    (omega (arith, c.if-total-from.false, c.from.ensures))
