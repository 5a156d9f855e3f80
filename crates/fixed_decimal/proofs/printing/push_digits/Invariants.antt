use Rattle.std.proofs.Common.{◌≡◌, ◌++◌}
use Rattle.std.specs.Prelude.{reverse}
use Rattle.std.specs.Fmt.{decimal}
use Rattle.fixed_decimal.proofs.printing.push_digits.Given as goal

-- the digits that are left, before those in the text, are the number's
abbrev pub invariant-loop-rest : goal.invariant-loop-rest
invariant-loop-rest l =
    decimal l.rest ++ reverse l.text.items ≡ decimal l.fn.number ++ reverse l.initial.text.items

abbrev pub decreases-loop-rest : goal.decreases-loop-rest
decreases-loop-rest l = l.rest
