use Rattle.std.proofs.Common.{◌≡◌, ◌+◌, ◌*◌, ◌∙◌, get_or, sym, arith}
use Rattle.std.proofs.lemmas.Str.Parse.{digit_at}
use Rattle.std.specs.Char.{digit_value}
use Rattle.fixed_decimal.proofs.ReadTexts.{past_limit, digit_value-digit, digits_value_after-drop}
use Rattle.fixed_decimal.proofs.digits.append_digits.Goals as goal

pub returns-in_err-checked_mul : goal.returns-in_err-checked_mul
returns-in_err-checked_mul c =
    c.from_residual.ensures
    ∙ sym (past_limit c.args.limit c.loop-digit.value _ c.args.digits.now c.loop-digit.digit-index (omega arith)
    c.loop-digit-test.true c.loop-digit.invariant (omega arith))

pub overflow_sub-digit : goal.overflow_sub-digit
overflow_sub-digit c =
    omega (arith, digit_at c.args.digits.now c.loop-digit.digit-index c.requires c.loop-digit-test.true)

pub returns-in_err-value : goal.returns-in_err-value
returns-in_err-value c =
    let value : digit_value (get_or c.args.digits.now c.loop-digit.digit-index 0) + 48
    ≡ get_or c.args.digits.now c.loop-digit.digit-index 0 =
    digit_value-digit _ (digit_at c.args.digits.now c.loop-digit.digit-index c.requires c.loop-digit-test.true) in
    c.from_residual-in_err-value.ensures
    ∙ sym (past_limit c.args.limit c.loop-digit.value _ c.args.digits.now c.loop-digit.digit-index (omega arith)
    c.loop-digit-test.true c.loop-digit.invariant (omega arith))

pub loop-digit-preserved : goal.loop-digit-preserved
loop-digit-preserved c =
    let value : digit_value (get_or c.args.digits.now c.loop-digit.digit-index 0) + 48
    ≡ get_or c.args.digits.now c.loop-digit.digit-index 0 =
    digit_value-digit _ (digit_at c.args.digits.now c.loop-digit.digit-index c.requires c.loop-digit-test.true) in
    let step = digits_value_after-drop c.loop-digit.value c.args.digits.now c.loop-digit.digit-index
    c.loop-digit-test.true in
    let read : c.in_ok-value.value
    ≡ c.loop-digit.value * 10 + digit_value (get_or c.args.digits.now c.loop-digit.digit-index 0) = omega arith in
    rw read (sym step ∙ c.loop-digit.invariant)
