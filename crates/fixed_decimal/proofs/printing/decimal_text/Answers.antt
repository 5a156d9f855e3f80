use Rattle.std.proofs.Common.{arith}
use Rattle.std.proofs.lemmas.Grind.{common_steps}
use Rattle.fixed_decimal.specs.Decimal.{decimal_text}
use Rattle.fixed_decimal.proofs.PrintedTexts.{reverse-push}
use Rattle.fixed_decimal.proofs.printing.decimal_text.Goals as goal

pub returns : goal.returns
unfolding decimal_text
returns c = grind (arith, common_steps, reverse-push)
