use Rattle.std.proofs.Common.{None, arith, rules}
use Rattle.std.proofs.lemmas.Grind.{common_steps}
use Rattle.fixed_decimal.specs.Decimal.{whole_number}
use Rattle.fixed_decimal.proofs.NumbersInRange.{whole_number-some, whole_number-none}
use Rattle.fixed_decimal.proofs.ReadTexts.{all_digits-whole}
use Rattle.fixed_decimal.proofs.digits.whole.Goals as goal
use Rattle.fixed_decimal.proofs.digits.whole.Goals.{then-is_empty-via-then-is_empty}
use Rattle.fixed_decimal.proofs.digits.whole.Goals.{then-is_empty-via-else-is_empty+then-digit_count-text}

pub append_digits-requires : goal.append_digits-requires
append_digits-requires c = all_digits-whole c.args.text.now (omega arith)

pub returns-then-is_empty-clause-none : goal.returns-then-is_empty-clause-none
unfolding whole_number
returns-then-is_empty-clause-none c =
    whole_number-none c.args.limit c.args.text.now None (
    elim c.then-is_empty.branch [
      | then-is_empty-via-then-is_empty w ↦ grind (arith, common_steps)
      | then-is_empty-via-else-is_empty+then-digit_count-text w ↦ grind (arith, common_steps)
    ])

pub returns-clause-some : goal.returns-clause-some
unfolding whole_number
returns-clause-some c = whole_number-some c.args.limit c.args.text.now c.append_digits.result (search rules)

pub returns-clause-none : goal.returns-clause-none
unfolding whole_number
returns-clause-none c = whole_number-none c.args.limit c.args.text.now c.append_digits.result (search rules)
