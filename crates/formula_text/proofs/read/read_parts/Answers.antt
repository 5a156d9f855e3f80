use Rattle.std.proofs.Common.{ℕ, ◌+◌, ◌<◌, List, ◌∷◌, [], length, drop, sym, ap, ◌∙◌, arith, length-drop}
use Rattle.std.proofs.lemmas.List.{take_rest, drop-drop}
use Rattle.written_items.specs.RowReading.{count_tail, leading_part, row_of}
use Rattle.formula_text.specs.FormulaReader.{part_answer, values_or_fault}
use Rattle.formula_text.proofs.ReadingSteps.{values_before, values_before-append, NextPart, next_part, BadPart}
use Rattle.formula_text.proofs.ReadingSteps.{bad_part, values-end}
use Rattle.formula_text.proofs.read.read_parts.Goals as goal
use Rattle.formula_text.proofs.read.read_parts.Goals.{In_ok-push-in-Ok, After-drop-parts-in-Err}

rest-some : (text : List ℕ) (at : ℕ) → at < length text → 0 < length (drop at text)
rest-some text at h = let len = length-drop at text in omega arith

next : (c : In_ok-push-in-Ok)
    → NextPart c.loop-at.at (drop c.loop-at.at c.args.text.now) (c.in-Ok.item, c.in-Ok.count, c.in-Ok.length)
next c =
    next_part c.loop-at.at (drop c.loop-at.at c.args.text.now) (c.in-Ok.item, c.in-Ok.count, c.in-Ok.length)
    (rest-some c.args.text.now c.loop-at.at c.loop-at-test.true)
    (ap (λ t. part_answer (leading_part count_tail t)) (sym (take_rest c.args.text.now c.loop-at.at))
    ∙ sym c.in-Ok.ensures)

bad : (c : After-drop-parts-in-Err) → BadPart c.loop-at.at (drop c.loop-at.at c.args.text.now) c.in-Err.bad
bad c =
    bad_part c.loop-at.at (drop c.loop-at.at c.args.text.now) c.in-Err.bad
    (rest-some c.args.text.now c.loop-at.at c.loop-at-test.true)
    (ap (λ t. part_answer (leading_part count_tail t)) (sym (take_rest c.args.text.now c.loop-at.at))
    ∙ sym c.in-Err.ensures)

pub overflow_add-at : goal.overflow_add-at
overflow_add-at c =
    let within = (next c).within in
    let len = length-drop c.loop-at.at c.args.text.now in
    omega (arith, c.loop-at-test.true)

pub loop-at-preserved : goal.loop-at-preserved
loop-at-preserved c =
    let step = next c in
    let within = step.within in
    let len = length-drop c.loop-at.at c.args.text.now in
    let text = c.args.text.now in
    let old = c.loop-at.parts.items in
    let kept = record { at = c.loop-at.at; item = c.in-Ok.item; count = c.in-Ok.count } ∷ [] in
    let behind =
    values_or_fault (c.loop-at.at + c.in-Ok.length)
    (row_of count_tail (drop c.in-Ok.length (drop c.loop-at.at text))) in (
      omega (arith, c.loop-at-test.true),
      c.loop-at.invariant.1 ∙ ap (values_before old) step.next ∙ values_before-append old kept behind
          ∙ ap (λ ps. values_before ps behind) (sym c.in_ok-push-in-Ok.ensures.items)
          ∙ ap (λ t. values_before c.push.new.self.items
          (values_or_fault (c.loop-at.at + c.in-Ok.length) (row_of count_tail t)))
          (drop-drop c.in-Ok.length c.loop-at.at text),
    )

pub overflow_add-result : goal.overflow_add-result
overflow_add-result c =
    let part =
    bad_part c.loop-at.at (drop c.loop-at.at c.args.text.now) c.in-Err.bad
    (rest-some c.args.text.now c.loop-at.at c.loop-at-test.true)
    (ap (λ t. part_answer (leading_part count_tail t)) (sym (take_rest c.args.text.now c.loop-at.at))
    ∙ sym c.in-Err.ensures) in
    let within = part.within in
    let len = length-drop c.loop-at.at c.args.text.now in
    omega (arith, c.loop-at-test.true)

pub returns-in-Err-clause-fault : goal.returns-in-Err-clause-fault
returns-in-Err-clause-fault c =
    c.loop-at.invariant.1 ∙ ap (values_before c.loop-at.parts.items) (bad c).fault

pub returns-clause-parts : goal.returns-clause-parts
returns-clause-parts c =
    let len = length-drop c.loop-at.at c.args.text.now in
    c.loop-at.invariant.1
    ∙ values-end c.loop-at.at (drop c.loop-at.at c.args.text.now) c.loop-at.parts.items
    (omega (arith, c.loop-at-test.false))
