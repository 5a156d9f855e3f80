use Rattle.std.proofs.Common.{◌∙◌, ap, sym}
use Rattle.fixed_decimal.specs.Decimal.{at_most}
use Rattle.fixed_decimal.proofs.ReadTexts.{above_whole, above_decimals, at_most-Some, value_in_steps, all_digits-take}
use Rattle.fixed_decimal.proofs.parts.units_of.Goals as goal

pub returns-in_err-number : goal.returns-in_err-number
returns-in_err-number c =
    c.from_residual.ensures
    ∙ sym (above_whole c.args.limit c.args.decimals c.args.whole.now c.args.fraction.now c.in_err-number.ensures)

pub append_digits-requires-2 : goal.append_digits-requires-2
append_digits-requires-2 c = all_digits-take c.min-kept.result c.args.fraction.now c.requires.fraction

pub returns-in_err-number-2 : goal.returns-in_err-number-2
returns-in_err-number-2 c =
    c.from_residual-in_err-number-2.ensures
    ∙ sym (above_decimals c.args.limit c.args.decimals c.min-kept.result c.in_ok-number.number c.args.whole.now
    c.args.fraction.now c.min-kept.ensures
    (at_most-Some c.args.limit _ _ c.in_ok-number.ensures) c.in_err-number-2.ensures)

pub returns : goal.returns
returns c =
    let value = value_in_steps c.args.decimals c.min-kept.result _ _ c.args.whole.now c.args.fraction.now
    c.min-kept.ensures
    (at_most-Some c.args.limit _ _ c.in_ok-number.ensures) (at_most-Some c.args.limit _ _ c.in_ok-number-2.ensures) in
    c.append_zeros.ensures ∙ ap (at_most c.args.limit) (sym value)
