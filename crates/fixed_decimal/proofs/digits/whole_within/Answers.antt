use Rattle.std.proofs.Common.{◌≡◌, ◌∙◌, sym, rules}
use Rattle.fixed_decimal.specs.Decimal.{whole_within}
use Rattle.fixed_decimal.proofs.NumbersInRange.{IfSome-from, whole_within-some, whole_within-none, whole_within-range}
use Rattle.fixed_decimal.proofs.digits.whole_within.Goals as goal

pub returns-clause-within : goal.returns-clause-within
returns-clause-within c =
    let value : c.then_some.result ≡ whole_within c.args.low c.args.high c.args.text.now = search rules in
    IfSome-from c.then_some.result _
    (λ n is. whole_within-range c.args.low c.args.high c.args.text.now n (sym value ∙ is))

pub returns-clause-some : goal.returns-clause-some
returns-clause-some c = whole_within-some c.args.low c.args.high c.args.text.now c.then_some.result (search rules)

pub returns-clause-none : goal.returns-clause-none
returns-clause-none c = whole_within-none c.args.low c.args.high c.args.text.now c.then_some.result (search rules)
