use Rattle.decompose.proofs.ProbeSteps.{no_symbol}
use Rattle.decompose.proofs.StridesOfSymbols.{strides_of_two}
use Rattle.decompose.proofs.walk.find_below.Goals as goal

pub find_in_pair-requires-clause-strides : goal.find_in_pair-requires-clause-strides
find_in_pair-requires-clause-strides g c =
    strides_of_two c.args.symbols.now no_symbol no_symbol c.args.strides.now c.in-2.is c.requires.strides
