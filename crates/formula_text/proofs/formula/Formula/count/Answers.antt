use Rattle.std.proofs.Common.{sym, ap, ◌∙◌}
use Rattle.formula_text.specs.Formulas.{count_in}
use Rattle.formula_text.proofs.formula.Formula.count.Goals as goal

pub returns-clause-tells : goal.returns-clause-tells
returns-clause-tells c = λ f h counts.
    c.count.ensures.tells f h.parts (λ q. counts q ∙ ap (λ l. count_in l q) (sym c.self.view_is)) ∙ c.self.view_is
