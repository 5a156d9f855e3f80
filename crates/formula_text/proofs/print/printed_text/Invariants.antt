use Rattle.std.proofs.Common.{◌≡◌, take}
use Rattle.formula_text.specs.PrintedText.{printed_text}
use Rattle.formula_text.proofs.print.printed_text.Given as goal

abbrev pub invariant-loop-item : goal.invariant-loop-item
invariant-loop-item l = l.text.items ≡ printed_text (take l.item-index l.items)
