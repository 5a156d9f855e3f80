-- Each return is the answer of `read_decimal`, which is the one that the text's reading allows.
use Rattle.std.proofs.Common.{Ok, Err, arith, rules}
use Rattle.std.proofs.lemmas.Grind.{common_steps}
use Rattle.fixed_decimal.specs.declared.DecimalFault.TheVariants.{TooFine}
use Rattle.fixed_decimal.specs.Decimal.{decimal_value, fine_place, read_decimal}
use Rattle.fixed_decimal.proofs.OneReading.{allowed_answer, only_answer}
use Rattle.fixed_decimal.proofs.Fixed.read.Goals as goal

pub returns-in_err-whole-clause-meaning : goal.returns-in_err-whole-clause-meaning
unfolding read_decimal decimal_value fine_place
returns-in_err-whole-clause-meaning g c =
    allowed_answer g.row.D c.args.limit c.args.text.now c.from_residual.result (search rules)

pub returns-in_err-whole-clause-only : goal.returns-in_err-whole-clause-only
unfolding read_decimal decimal_value fine_place
returns-in_err-whole-clause-only g c =
    only_answer g.row.D c.args.limit c.args.text.now c.from_residual.result (search rules)

pub returns-in-Some-clause-meaning : goal.returns-in-Some-clause-meaning
unfolding read_decimal decimal_value fine_place
returns-in-Some-clause-meaning g c =
    allowed_answer g.row.D c.args.limit c.args.text.now (Err (TooFine c.in-Some.place)) (grind (arith, common_steps))

pub returns-in-Some-clause-only : goal.returns-in-Some-clause-only
unfolding read_decimal decimal_value fine_place
returns-in-Some-clause-only g c =
    only_answer g.row.D c.args.limit c.args.text.now (Err (TooFine c.in-Some.place)) (grind (arith, common_steps))

pub returns-in_err-units-clause-meaning : goal.returns-in_err-units-clause-meaning
unfolding read_decimal decimal_value fine_place
returns-in_err-units-clause-meaning g c =
    allowed_answer g.row.D c.args.limit c.args.text.now c.from_residual-in_err-units.result (search rules)

pub returns-in_err-units-clause-only : goal.returns-in_err-units-clause-only
unfolding read_decimal decimal_value fine_place
returns-in_err-units-clause-only g c =
    only_answer g.row.D c.args.limit c.args.text.now c.from_residual-in_err-units.result (search rules)

pub returns-clause-meaning : goal.returns-clause-meaning
unfolding read_decimal decimal_value fine_place
returns-clause-meaning g c =
    allowed_answer g.row.D c.args.limit c.args.text.now (Ok c.in_ok-units.units) (search rules)

pub returns-clause-only : goal.returns-clause-only
unfolding read_decimal decimal_value fine_place
returns-clause-only g c =
    only_answer g.row.D c.args.limit c.args.text.now (Ok c.in_ok-units.units) (search rules)

pub returns-in_err-units-clause-value : goal.returns-in_err-units-clause-value
unfolding read_decimal fine_place decimal_value
returns-in_err-units-clause-value g c = search rules

pub returns-clause-value : goal.returns-clause-value
unfolding read_decimal fine_place decimal_value
returns-clause-value g c = search rules
