use Rattle.isotopologue_text.proofs.CountsLemmas.{counts-agree}
use Rattle.isotopologue_text.proofs.text.isotopologue_text.Goals as goal

pub counts_text-requires-clause-agree : goal.counts_text-requires-clause-agree
counts_text-requires-clause-agree c =
    rw c.items-items.ensures.items (counts-agree c.args.table.now c.args.formula.now c.args.counts.now c.requires.isotopologue)
