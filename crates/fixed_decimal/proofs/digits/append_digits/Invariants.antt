use Rattle.std.proofs.Common.{◌≡◌, drop}
use Rattle.std.specs.Str.Parse.{digits_value_after}
use Rattle.fixed_decimal.proofs.digits.append_digits.Given as goal

-- the digits that are left, behind the value so far, spell the number
abbrev pub invariant-loop-digit : goal.invariant-loop-digit
invariant-loop-digit l =
    digits_value_after 10 l.value (drop l.digit-index l.digits) ≡ digits_value_after 10 l.fn.number l.digits
