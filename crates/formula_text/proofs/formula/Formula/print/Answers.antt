use Rattle.std.proofs.Common.{◌≡◌, ℕ, List, subst, sym, ap, ◌∙◌}
use Rattle.std.proofs.lemmas.Result.{IfOk-weaker}
use Rattle.formula_text.specs.Formulas.{IsFormula}
use Rattle.formula_text.specs.PrintedText.{printed_text}
use Rattle.formula_text.specs.FormulaTexts.{FormulaText}
use Rattle.formula_text.specs.FormulaReader.{read_of}
use Rattle.formula_text.proofs.PrintedRows.{printed_text-FormulaText, same_formula, read_of-printed_text}
use Rattle.formula_text.proofs.formula.Formula.print.Goals as goal

module _ (c : goal.After-print) where
  formula : IsFormula c.args.self.now
  formula = subst IsFormula c.self.view_is c.self.invariant

  spelled : (text : List ℕ) → text ≡ printed_text c.self.inside.parts → text ≡ printed_text c.args.self.now
  spelled text e = e ∙ ap printed_text c.self.view_is

pub returns-clause-related : goal.returns-clause-related
returns-clause-related c =
    IfOk-weaker c.print.result _ _
    (λ text e. subst (λ t. FormulaText t c.args.self.now) (sym (spelled c text.items e))
    (printed_text-FormulaText c.args.self.now (formula c)))
    c.print.ensures.text

pub returns-clause-no_other : goal.returns-clause-no_other
returns-clause-no_other c =
    IfOk-weaker c.print.result _ _
    (λ text e f h related.
    same_formula (printed_text c.args.self.now) c.args.self.now f (formula c) h
    (printed_text-FormulaText c.args.self.now (formula c))
    (subst (λ t. FormulaText t f) (spelled c text.items e) related))
    c.print.ensures.text

pub returns-clause-read_back : goal.returns-clause-read_back
returns-clause-read_back c =
    IfOk-weaker c.print.result _ _
    (λ text e table known. ap (read_of table) (spelled c text.items e)
    ∙ read_of-printed_text table c.args.self.now (formula c) known)
    c.print.ensures.text
