use Rattle.std.proofs.Common.{◌≡◌, ◌^◌, ◌+◌, ◌*◌, ◌%◌, ◌<◌, ◌≤◌, ◌++◌, [], ◌∷◌, length, rules, arith, ◌∙◌}
use Rattle.std.proofs.Math.Pow.{pow_mono}
use Rattle.residue_table.proofs.RunSpans.{longer_spans, push_spans, shifted, twice}
use Rattle.residue_table.proofs.spans.spans_of.Goals as goal

pub loop-power-preserved : goal.loop-power-preserved
loop-power-preserved c =
    let inv = c.loop-power.invariant in
    let power = c.loop-power.power in
    let runs = length c.args.minima.now in
    let short : 2 ^ power ≤ 2 ^ 9 = pow_mono {i = power} {j = 9} (omega (arith, c.loop-power-test.true)) in
    let shift : 1 * 2 ^ power % 18446744073709551616 ≡ 2 ^ power = shifted power 512 short (omega arith) in
    let length_is = rw c.deref.ensures.value at c.in_ok-longer.ensures.length in
    let least = rw (c.deref.ensures.value, shift) at c.in_ok-longer.ensures.least in
    record {
      one_each = omega (arith, c.in_ok-push.ensures.len, inv.one_each);
      as_many = length_is ∙ inv.as_many;
      spans = λ entries few are.
          rw c.in_ok-push.ensures.items
          (push_spans entries runs power c.loop-power.spans.items record { minima = c.loop-power.minima } inv.one_each
          (inv.spans entries few are) inv.as_many (inv.longest entries few are));
      longest = λ entries few are.
          rw (twice power)
          (longer_spans entries c.loop-power.minima.items c.in_ok-longer.longer.items (2 ^ power)
          (inv.longest entries few are) (omega (arith, few, inv.as_many)) length_is least);
    }
