use Rattle.std.proofs.Common.{arith}
use Rattle.fixed_decimal.proofs.ReadTexts.{all_digits-front, all_digits-whole}
use Rattle.fixed_decimal.proofs.parts.split.Goals as goal

pub returns-then-count-text-clause-whole_digits : goal.returns-then-count-text-clause-whole_digits
returns-then-count-text-clause-whole_digits c = all_digits-whole c.args.text.now (omega arith)

pub returns-clause-whole_digits : goal.returns-clause-whole_digits
returns-clause-whole_digits c = rw c.digit_count-count.ensures.count (all_digits-front c.args.text.now)

pub returns-clause-fraction_digits : goal.returns-clause-fraction_digits
returns-clause-fraction_digits c = all_digits-whole _ (omega arith)
