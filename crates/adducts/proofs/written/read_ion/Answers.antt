use Rattle.std.proofs.Common.{◌≡◌, [], refl, sym, ◌∙◌, ap}
use Rattle.std.proofs.lemmas.List.{take_rest}
use Rattle.std.proofs.lemmas.Result.{err_from_is_err_and}
use Rattle.written_items.proofs.LeadingItemLaws.{begins-some}
use Rattle.adducts.proofs.TextPlaces.{DigitsAt, digits_at}
use Rattle.adducts.proofs.IonSteps.{bad-also, ion-no_letter, ion-letter, ion-no_bracket, ion-bracket, ion-kept}
use Rattle.adducts.proofs.written.read_ion.Goals as goal

pub returns-in_err-expect_byte : goal.returns-in_err-expect_byte
returns-in_err-expect_byte c =
    let text = c.args.text.now in
    let copies = c.leading_digits-copies.result.now in
    let of_digits =
    digits_at text _ copies 1 (begins-some _ text c.requires) (take_rest text 1) c.leading_digits-copies.ensures.digits in
    let p = err_from_is_err_and c.from_residual.result c.from_residual.ensures.1 in
    rw (p.1, p.2) (bad-also _ _ c.in_err-expect_byte.field-0.0
    (λ place h. ion-no_letter text copies place c.requires of_digits h.0 h.1) c.in_err-expect_byte.ensures)

pub returns-in_err-bracket_at : goal.returns-in_err-bracket_at
returns-in_err-bracket_at c =
    let text = c.args.text.now in
    let copies = c.leading_digits-copies.result.now in
    let of_digits =
    digits_at text _ copies 1 (begins-some _ text c.requires) (take_rest text 1) c.leading_digits-copies.ensures.digits in
    let p =
    err_from_is_err_and c.from_residual-in_err-bracket_at.result c.from_residual-in_err-bracket_at.ensures.1 in
    rw (p.1, p.2) (bad-also _ _ c.in_err-bracket_at.field-0.0
    (λ place h. ion-letter text copies c.requires of_digits c.in_ok-expect_byte.ensures.1 ∙ h copies [])
    c.in_err-bracket_at.ensures)

pub returns-in_err-expect_byte-2 : goal.returns-in_err-expect_byte-2
returns-in_err-expect_byte-2 c =
    let text = c.args.text.now in
    let copies = c.leading_digits-copies.result.now in
    let of_digits =
    digits_at text _ copies 1 (begins-some _ text c.requires) (take_rest text 1) c.leading_digits-copies.ensures.digits in
    let p =
    err_from_is_err_and c.from_residual-in_err-expect_byte-2.result c.from_residual-in_err-expect_byte-2.ensures.1 in
    rw (p.1, p.2) (bad-also _ _ c.in_err-expect_byte-2.field-0.0
    (λ place h. ion-no_bracket text copies place c.in_ok-bracket_at.bracket_at c.new-parts.result.items
    c.read_terms.new.parts.items c.requires of_digits c.in_ok-expect_byte.ensures.1 c.in_ok-bracket_at.ensures h.0 h.1)
    c.in_err-expect_byte-2.ensures)

pub returns-in_err-charge : goal.returns-in_err-charge
returns-in_err-charge c =
    let text = c.args.text.now in
    let copies = c.leading_digits-copies.result.now in
    let of_digits =
    digits_at text _ copies 1 (begins-some _ text c.requires) (take_rest text 1) c.leading_digits-copies.ensures.digits in
    let p = err_from_is_err_and c.from_residual-in_err-charge.result c.from_residual-in_err-charge.ensures.1 in
    rw (p.1, p.2) (bad-also _ _ c.in_err-charge.field-0.0
    (λ place h. ion-bracket text copies c.in_ok-bracket_at.bracket_at c.new-parts.result.items
    c.read_terms.new.parts.items c.requires of_digits c.in_ok-expect_byte.ensures.1 c.in_ok-bracket_at.ensures
    c.in_ok-expect_byte-2.ensures.1 ∙ h copies c.in_ok-bracket_at.ensures.terms) c.in_err-charge.ensures)

pub returns : goal.returns
returns c =
    let text = c.args.text.now in
    let copies = c.leading_digits-copies.result.now in
    let of_digits =
    digits_at text _ copies 1 (begins-some _ text c.requires) (take_rest text 1) c.leading_digits-copies.ensures.digits in
    ion-kept text copies c.in_ok-bracket_at.bracket_at c.new-parts.result.items _ c.in_ok-charge.charge c.requires
    of_digits c.in_ok-expect_byte.ensures.1 c.in_ok-bracket_at.ensures c.new-parts.ensures.items
    c.in_ok-expect_byte-2.ensures.1 c.in_ok-charge.ensures c.number_or_one.ensures refl
