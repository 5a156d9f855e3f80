use Rattle.std.proofs.Common.{◌∙◌, ap, subst}
use Rattle.formula_text.specs.Formulas.{IsParts, has_carbon, count_in}
use Rattle.formula_text.proofs.SumLimits.{equal-counts}
use Rattle.formula_text.proofs.HillOrderLaws.{T-IsTrue}
use Rattle.formula_text.proofs.CountsInOrder.{count_in-first}
use Rattle.formula_text.proofs.parts.Parts.count.Goals as goal

pub returns-clause-count : goal.returns-clause-count
returns-clause-count c =
    let items = c.self.inside.items.items in
    let first = count_in-first (has_carbon items) c.args.item items (T-IsTrue _ c.self.invariant.ordered) in
    rw (c.count_of.ensures, c.deref.ensures.value) (first ∙ ap (λ l. count_in l c.args.item) c.self.view_is)

pub returns-clause-tells : goal.returns-clause-tells
returns-clause-tells c =
    λ f h counts. equal-counts f c.args.self.now h (subst IsParts c.self.view_is c.self.invariant) counts
