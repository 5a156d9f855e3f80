use Rattle.std.proofs.Common.{◌≡◌, ℕ, ◌+◌, ◌-◌, length, arith}
use Rattle.decompose.proofs.ProbeSteps.{no_symbol}
use Rattle.decompose.proofs.StridesOfSymbols.{strides_of_few, strides_of_last}
use Rattle.decompose.proofs.strides.Strides.of_last.Goals as goal

pub returns-then-number-lt2 : goal.returns-then-number-lt2
returns-then-number-lt2 c = strides_of_few c.args.symbols.now c.of.result (omega arith)

pub returns : goal.returns
returns c =
    let place : ℕ = length c.args.symbols.now - 2 in
    let next : place + 1 ≡ length c.args.symbols.now - 1 = omega arith in
    strides_of_last c.args.symbols.now no_symbol c.of-2.result place (omega arith) (rw next c.of-2.ensures)
