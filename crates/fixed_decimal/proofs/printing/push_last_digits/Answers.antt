use Rattle.fixed_decimal.proofs.PrintedTexts.{next_rest, next_digit}
use Rattle.fixed_decimal.proofs.printing.push_last_digits.Goals as goal

pub loop-preserved : goal.loop-preserved
loop-preserved c =
    record {
      rest = rw c.loop.invariant.rest (next_rest c.args.number c.loop.counter);
      digits = rw (c.in_ok-push.ensures.items, c.last_digit.ensures, c.loop.invariant.rest)
          (next_digit c.args.number c.loop.counter c.loop.text.items _ c.loop.invariant.digits);
    }
