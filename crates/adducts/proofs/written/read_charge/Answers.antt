use Rattle.std.proofs.Common.{◌≡◌, refl, sym, ◌∙◌}
use Rattle.std.proofs.lemmas.List.{take_rest}
use Rattle.adducts.proofs.TextPlaces.{digits_at}
use Rattle.adducts.proofs.IonSteps.{bad-at}
use Rattle.adducts.proofs.ReaderSteps.{charge-no_sign, charge-more, charge-whole}
use Rattle.adducts.proofs.written.read_charge.Goals as goal

pub returns-then-not-is_sign_at : goal.returns-then-not-is_sign_at
returns-then-not-is_sign_at c =
    let text = c.args.text.now in
    let digits = c.leading_digits-digits.result.now in
    bad-at _ c.bad_text.result _ c.bad_text.ensures
    (charge-no_sign text digits c.args.at
    (digits_at text _ digits c.args.at c.requires (take_rest text c.args.at) c.leading_digits-digits.ensures.digits)
    (sym c.is_sign_at.ensures.sign ∙ c.if-not-is_sign_at.true))

pub returns-then-sign_at-text : goal.returns-then-sign_at-text
returns-then-sign_at-text c =
    let text = c.args.text.now in
    let digits = c.leading_digits-digits.result.now in
    bad-at _ c.bad_text-then-sign_at-text.result _ c.bad_text-then-sign_at-text.ensures
    (charge-more text digits c.args.at
    (digits_at text _ digits c.args.at c.requires (take_rest text c.args.at) c.leading_digits-digits.ensures.digits)
    (sym c.is_sign_at.ensures.sign ∙ c.if-not-is_sign_at.false) c.if-sign_at-text.true)

pub returns : goal.returns
returns c =
    let text = c.args.text.now in
    let digits = c.leading_digits-digits.result.now in
    charge-whole text digits c.args.at _
    (digits_at text _ digits c.args.at c.requires (take_rest text c.args.at) c.leading_digits-digits.ensures.digits)
    (sym c.is_sign_at.ensures.sign ∙ c.if-not-is_sign_at.false)
    (c.is_sign_at.ensures.within c.if-not-is_sign_at.false) c.if-sign_at-text.false c.number_or_one.ensures refl
