use Rattle.std.proofs.Common.{◌≡◌, ◌∙◌, ap, subst, sym}
use Rattle.std.specs.Prelude.{None, Err, IfSome}
use Rattle.reader_answers.specs.Answers.{Gives}
use Rattle.formula_text.specs.FormulaFaults.{is_parts_memory}
use Rattle.formula_text.specs.Formulas.{IsSumOf, parts_of, formula_in, formula_of}
use Rattle.formula_text.proofs.SumLimits.{formula_of-only, formula_in-IsSumOf}
use Rattle.formula_text.proofs.formula.Formula.of.Goals as goal

pub returns-in-Ok-clause-counts : goal.returns-in-Ok-clause-counts
returns-in-Ok-clause-counts c =
    let counts = formula_in-IsSumOf c.args.parts.now c.in-Ok.parts (sym c.in-Ok.ensures.sum) c.in-Ok.ensures.parts in
    subst (λ o. IfSome o (IsSumOf c.args.parts.now)) (sym c.from_parts.ensures.formula) counts

pub returns-in-Ok-clause-only : goal.returns-in-Ok-clause-only
returns-in-Ok-clause-only c =
    λ f h. c.from_parts.ensures.formula ∙ ap formula_in (sym c.in-Ok.ensures.sum) ∙ formula_of-only c.args.parts.now f h

pub returns-in-Err-TooManyAtoms : goal.returns-in-Err-TooManyAtoms
returns-in-Err-TooManyAtoms c =
    let parts = c.args.parts.now in
    let sum =
    subst (λ e. Gives is_parts_memory (Err e)
    (parts_of parts)) c.in-Err-TooManyAtoms.field-0-is c.in-Err-TooManyAtoms.ensures.sum in
    let none : None ≡ formula_of parts = sym (ap formula_in sum) in
    record { sum = none; counts = tt; only = λ f h. none ∙ formula_of-only parts f h }

pub returns-in-Err-TooManyElements : goal.returns-in-Err-TooManyElements
returns-in-Err-TooManyElements c =
    let parts = c.args.parts.now in
    let sum =
    subst (λ e. Gives is_parts_memory (Err e)
    (parts_of parts)) c.in-Err-TooManyElements.field-0-is c.in-Err-TooManyElements.ensures.sum in
    let none : None ≡ formula_of parts = sym (ap formula_in sum) in
    record { sum = none; counts = tt; only = λ f h. none ∙ formula_of-only parts f h }
