use Rattle.std.proofs.Common.{◌≡◌, ◌++◌, ◌/◌, ◌^◌}
use Rattle.std.specs.Prelude.{reverse}
use Rattle.fixed_decimal.specs.Decimal.{last_digits}
use Rattle.fixed_decimal.proofs.printing.push_last_digits.Given as goal

-- the text has as many digits more as there were turns
abbrev pub invariant-loop : goal.invariant-loop
invariant-loop l = record {
  rest : l.rest ≡ l.fn.number / 10 ^ l.counter;
  digits : reverse l.text.items ≡ last_digits l.counter l.fn.number ++ reverse l.initial.text.items;
}
