use Rattle.std.proofs.Common.{◌≡◌, ℕ, List, ap, ◌∙◌, subst}
use Rattle.std.specs.Prelude.{Option, IfOk}
use Rattle.written_items.specs.declared.item.Item.{Item}
use Rattle.candidates.specs.Enumeration.{formulas_left}
use Rattle.formula_reports.specs.PageFormulas.{first_of}
use Rattle.formula_reports.specs.Queries.{FormulaQuery}
use Rattle.formula_reports.proofs.JsonEntries.{page_given}
use Rattle.formula_reports.proofs.decomposition.Decomposition.formulas.Goals as goal

pub returns : goal.returns
returns c =
    let query = c.args.self.now in
    let found = c.in_ok-candidates.candidates in
    subst (λ (fs : List (List (Item × ℕ))). IfOk c.formulas_of.result (λ formulas. formulas.items ≡ fs))
    (ap (λ (q : FormulaQuery). first_of q.limit (formulas_left found)) c.self.view_is
    ∙ page_given query c.args.mz found c.in_ok-candidates.ensures.premises c.in_ok-candidates.ensures.left)
    c.formulas_of.ensures
