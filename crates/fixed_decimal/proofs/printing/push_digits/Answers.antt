use Rattle.std.proofs.Common.{◌∙◌, arith}
use Rattle.fixed_decimal.proofs.PrintedTexts.{move_digit, move_last}
use Rattle.fixed_decimal.proofs.printing.push_digits.Goals as goal

pub loop-rest-preserved : goal.loop-rest-preserved
loop-rest-preserved c =
    rw (c.in_ok-push.ensures.items, c.last_digit.ensures)
    (move_digit c.loop-rest.rest c.loop-rest.text.items (omega arith) (omega arith) ∙ c.loop-rest.invariant)

pub returns : goal.returns
returns c =
    rw (c.in_ok-push-2.ensures.items, c.last_digit-2.ensures)
    (move_last c.loop-rest.rest c.loop-rest.text.items (omega arith) ∙ c.loop-rest.invariant)
