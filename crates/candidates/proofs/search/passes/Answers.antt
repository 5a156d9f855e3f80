use Rattle.std.proofs.Common.{sym, ◌∙◌}
use Rattle.adducts.proofs.IonCounts.{formula-AreCounts}
use Rattle.candidates.proofs.search.passes.Goals as goal

pub has_ion-requires : goal.has_ion-requires
has_ion-requires c =
    formula-AreCounts c.args.formula.now (c.requires.formula (sym c.is_formula.ensures ∙ c.if-not-is_formula.false))

pub are_met-requires : goal.are_met-requires
are_met-requires c = (c.requires.formula (sym c.is_formula.ensures ∙ c.if-not-is_formula.false)).parts.few_atoms
