use Rattle.fixed_decimal.proofs.LeadingDigits.{leading}
use Rattle.fixed_decimal.proofs.digits.leading_digits.Goals as goal

pub returns-clause-meaning : goal.returns-clause-meaning
returns-clause-meaning c = rw c.digit_count.ensures.count (leading c.args.text.now)

pub returns-clause-number : goal.returns-clause-number
returns-clause-number c = rw c.digit_count.ensures.count (leading c.args.text.now).1
