use Rattle.std.proofs.Common.{◌≡◌, ◌<◌, List, length, Some, Err, sym, ap, subst, ◌∙◌}
use Rattle.std.proofs.lemmas.Result.{err_from_is_err_and}
use Rattle.reader_answers.specs.Answers.{Gives}
use Rattle.element_table.specs.Elements.{IsTable}
use Rattle.formula_text.specs.declared.read.ReadPart.{ReadPart}
use Rattle.formula_text.specs.Formulas.{parts_of}
use Rattle.formula_text.specs.FormulaFaults.{is_memory, fault_of}
use Rattle.formula_text.specs.FormulaReader.{formula_or_fault, values_fault}
use Rattle.formula_text.proofs.ReadAnswers.{read_of-bad, unless-memory, read_of-unknown, read_of-items, unless-same}
use Rattle.formula_text.proofs.ReadAnswers.{fault_of-parts, some_from_parts, none_from_parts}
use Rattle.formula_text.proofs.read.read_of.Goals as goal

pub returns-in_err-parts : goal.returns-in_err-parts
returns-in_err-parts c =
    let p = err_from_is_err_and c.from_residual.result c.from_residual.ensures.1 in
    let fault = c.in_err-parts.field-0.0 in
    rw (p.1, p.2) (unless-memory (is_memory fault) _ _
    (read_of-bad c.args.table.now c.args.text.now fault) c.in_err-parts.ensures.fault)

pub returns-in-Some : goal.returns-in-Some
returns-in-Some c =
    let fault = c.in-Some.fault in
    let parts = c.in_ok-parts.parts.items in
    let found : values_fault c.args.table.now parts ≡ Some fault =
    ap (values_fault c.args.table.now) (sym c.deref.ensures.value) ∙ sym c.values_fault.ensures.fault
    ∙ c.in-Some.is in
    let is : 0 < length parts → IsTable c.args.table.now =
    λ some. c.values_fault.ensures.table
    (subst (λ (p : List ReadPart). 0 < length p) (sym c.deref.ensures.value) some) in
    unless-same (is_memory fault) _
    (read_of-unknown c.args.table.now c.args.text.now parts fault c.in_ok-parts.ensures.parts is found)

pub returns-in_err-parts-2 : goal.returns-in_err-parts-2
returns-in_err-parts-2 c =
    let p = err_from_is_err_and c.from_residual-in_err-parts-2.result c.from_residual-in_err-parts-2.ensures.1 in
    let known =
    read_of-items c.args.table.now c.args.text.now c.in_ok-parts.parts.items c.deref.result.now c.deref-2.result.now
    c.deref-3.result.now
    c.in_ok-parts.ensures.parts c.deref.ensures.value c.deref-2.ensures.value c.values_fault.ensures.table
    (sym c.in_default.is ∙ c.values_fault.ensures.fault) (c.deref-3.ensures.value ∙ c.in_ok-items.ensures) in
    rw (p.1, p.2) (subst (Gives is_memory (Err (fault_of c.in_err-parts-2.field-0.0))) (sym known)
    (fault_of-parts c.in_err-parts-2.field-0.0 (parts_of c.deref-3.result.now) c.in_err-parts-2.ensures.sum))

pub returns-in-Some-from_parts : goal.returns-in-Some-from_parts
returns-in-Some-from_parts c =
    let known =
    read_of-items c.args.table.now c.args.text.now c.in_ok-parts.parts.items c.deref.result.now c.deref-2.result.now
    c.deref-3.result.now
    c.in_ok-parts.ensures.parts c.deref.ensures.value c.deref-2.ensures.value c.values_fault.ensures.table
    (sym c.in_default.is ∙ c.values_fault.ensures.fault) (c.deref-3.ensures.value ∙ c.in_ok-items.ensures) in
    known ∙ ap formula_or_fault c.in_ok-parts-2.ensures.sum
    ∙ some_from_parts c.in_ok-parts-2.parts c.in-Some-from_parts.formula c.in-Some-from_parts.ensures.formula

pub returns : goal.returns
returns c =
    let known =
    read_of-items c.args.table.now c.args.text.now c.in_ok-parts.parts.items c.deref.result.now c.deref-2.result.now
    c.deref-3.result.now
    c.in_ok-parts.ensures.parts c.deref.ensures.value c.deref-2.ensures.value c.values_fault.ensures.table
    (sym c.in_default.is ∙ c.values_fault.ensures.fault) (c.deref-3.ensures.value ∙ c.in_ok-items.ensures) in
    known ∙ ap formula_or_fault c.in_ok-parts-2.ensures.sum
    ∙ none_from_parts c.in_ok-parts-2.parts c.in-None.ensures.formula
