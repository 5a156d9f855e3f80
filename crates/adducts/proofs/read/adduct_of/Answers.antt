use Rattle.std.proofs.Common.{◌≡◌, sym, ◌∙◌}
use Rattle.std.proofs.lemmas.Result.{err_from_is_err_and}
use Rattle.adducts.proofs.KeptAnswers.{bad-answer, unknown-answer, limits-answer, sums-answer, gives-same}
use Rattle.adducts.proofs.read.adduct_of.Goals as goal

pub returns-in_err-written : goal.returns-in_err-written
returns-in_err-written c =
    let p = err_from_is_err_and c.from_residual.result c.from_residual.ensures.1 in
    rw (p.1, p.2) (bad-answer c.args.table.now c.args.text.now c.in_err-written.field-0.0 c.in_err-written.ensures)

pub returns-in-Some : goal.returns-in-Some
returns-in-Some c =
    unknown-answer c.args.table.now c.args.text.now c.in_ok-written.written c.deref.result.now c.in-Some.place
    c.in_ok-written.ensures c.deref.ensures.value (sym c.unknown_place.ensures ∙ c.in-Some.is)

pub returns-in_err-added-2 : goal.returns-in_err-added-2
returns-in_err-added-2 c =
    let p = err_from_is_err_and c.from_residual-in_err-added-2.result c.from_residual-in_err-added-2.ensures.1 in
    rw (p.1, p.2) (limits-answer c.args.table.now c.args.text.now c.in_ok-written.written c.in_ok-written.ensures
    c.deref.result.now c.deref-2.result.now c.deref-3.result.now c.deref-4.result.now c.deref-5.result.now c.of.result
    c.of-2.result c.in_err-added-2.field-0.0 c.deref.ensures.value (sym c.unknown_place.ensures ∙ c.in_default.is)
    c.deref-2.ensures.value c.deref-3.ensures.value (c.deref-4.ensures.value ∙ c.in_ok-added.ensures)
    (c.deref-5.ensures.value ∙ c.in_ok-lost.ensures) c.of.ensures.sum c.of-2.ensures.sum
    (sym c.both_within.ensures ∙ c.in_err-added-2.was))

pub returns : goal.returns
returns c =
    gives-same c.adduct_with.result _
    (sums-answer c.args.table.now c.args.text.now c.in_ok-written.written c.in_ok-written.ensures
    c.deref.result.now c.deref-2.result.now c.deref-3.result.now c.deref-4.result.now c.deref-5.result.now c.of.result
    c.of-2.result c.in_ok-added-2.added c.in_ok-added-2.lost c.deref.ensures.value
    (sym c.unknown_place.ensures ∙ c.in_default.is)
    c.deref-2.ensures.value c.deref-3.ensures.value (c.deref-4.ensures.value ∙ c.in_ok-added.ensures)
    (c.deref-5.ensures.value ∙ c.in_ok-lost.ensures) c.of.ensures.sum c.of-2.ensures.sum
    (sym c.both_within.ensures ∙ c.in_ok-added-2.was) ∙ sym c.adduct_with.ensures)
