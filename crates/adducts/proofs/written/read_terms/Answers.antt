use Rattle.std.proofs.Common.{◌≡◌, refl, sym, ◌∙◌, ◌+◌, arith}
use Rattle.std.proofs.lemmas.List.{take_rest}
use Rattle.std.proofs.lemmas.Result.{err_from_is_err_and}
use Rattle.adducts.proofs.TextPlaces.{digits_at}
use Rattle.adducts.proofs.IonSteps.{bad-also}
use Rattle.adducts.proofs.ReaderSteps.{terms-go_on, terms-fail}
use Rattle.adducts.proofs.written.read_terms.Goals as goal

pub returns-in_err-at : goal.returns-in_err-at
returns-in_err-at c =
    let text = c.args.text.now in
    let at = c.loop-coefficient.at in
    let digits = c.leading_digits-coefficient.result.now in
    let is_there = sym c.is_sign_at.ensures.sign ∙ c.loop-coefficient-test.true in
    let inside = c.is_sign_at.ensures.within c.loop-coefficient-test.true in
    let of_digits =
    digits_at text _ digits (at + 1) (omega (arith, inside)) (take_rest text (at + 1))
    c.leading_digits-coefficient.ensures.digits in
    let p = err_from_is_err_and c.from_residual.result c.from_residual.ensures.1 in
    let fault = c.in_err-at.field-0.0 in
    rw (p.1, p.2) (bad-also _ _ fault
    (λ place fails. terms-fail text c.args.at c.args.parts.now.items c.loop-coefficient.parts.items at place digits
    c.loop-coefficient.invariant is_there inside of_digits fails) c.in_err-at.ensures)

pub loop-coefficient-preserved : goal.loop-coefficient-preserved
loop-coefficient-preserved c =
    let text = c.args.text.now in
    let at = c.loop-coefficient.at in
    let digits = c.leading_digits-coefficient.result.now in
    let is_there = sym c.is_sign_at.ensures.sign ∙ c.loop-coefficient-test.true in
    let inside = c.is_sign_at.ensures.within c.loop-coefficient-test.true in
    let of_digits =
    digits_at text _ digits (at + 1) (omega (arith, inside)) (take_rest text (at + 1))
    c.leading_digits-coefficient.ensures.digits in
    terms-go_on text c.args.at c.args.parts.now.items c.loop-coefficient.parts.items c.read_row.new.parts.items at
    c.in_ok-at.at digits _ c.loop-coefficient.invariant is_there inside of_digits c.number_or_one.ensures refl
    c.in_ok-at.ensures
