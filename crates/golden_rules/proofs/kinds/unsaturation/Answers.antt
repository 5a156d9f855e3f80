use Rattle.std.proofs.Common.{arith, sym, ◌∙◌}
use Rattle.std.proofs.lemmas.Int.{ints}
use Rattle.golden_rules.proofs.UnsaturationSums.{unsaturation-sums}
use Rattle.golden_rules.proofs.kinds.unsaturation.Goals as goal

pub returns : goal.returns
returns c =
    omega (arith, ints, c.valence_sum.ensures.sum, c.atom_count.ensures)
    ∙ sym (unsaturation-sums c.args.table.now c.args.formula.now)
