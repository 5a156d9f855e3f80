use Rattle.peak_generator.specs.Draws.{draw}
use Rattle.std.proofs.Common.{ℕ, List, subst}
use Rattle.written_items.specs.declared.item.Item.{Item}
use Rattle.formula_text.specs.Formulas.{IsSumOf}
use Rattle.peak_generator.proofs.MadeCounts.{known-made}
use Rattle.peak_generator.proofs.formulas.made_formula.Goals as goal

pub returns-clause-known : goal.returns-clause-known
returns-clause-known c =
    let s = c.args.draws.now in
    λ table known. known-made table (draw s 0) (draw s 1) (draw s 2) (draw s 3) c.in-Some.formula
    (subst (λ (ps : List (Item × ℕ)). IsSumOf ps c.in-Some.formula) c.made_counts-counts.ensures.counts
    (rw c.in-Some.is at c.in_ok-formula.ensures.counts)) known
