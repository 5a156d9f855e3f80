use Rattle.std.proofs.Common.{◌*◌, ◌≤◌, get_or, below_more, arith, inl, inr}
use Rattle.std.proofs.lemmas.Bool.{cases_lt}
use Rattle.mass_scaling.proofs.RatioLemmas.{le_trade}
use Rattle.mass_scaling.proofs.scales.least_ratio.Goals as goal
use Rattle.mass_scaling.proofs.scales.least_ratio.Goals.{then-is_less, else-is_less}

pub loop-place-preserved : goal.loop-place-preserved
loop-place-preserved c =
    let xs = c.args.xs.now in
    let ys = c.args.ys.now in
    let least = c.loop-place.least in
    let place = c.loop-place.place in
    elim c.if-is_less.branch [
      | then-is_less w ↦
          let less : get_or xs place 0 * get_or ys least 0 ≤ get_or xs least 0 * get_or ys place 0 =
          omega (arith, c.is_less.ensures.0 w.if-is_less.true) in
          rw w.least-is
          record {
            within = omega arith;
            no_less = below_more (λ i. get_or xs place 0 * get_or ys i 0 ≤ get_or xs i 0 * get_or ys place 0) place
                (λ i h.
                omega (
                  arith,
                  le_trade (get_or ys i 0) (get_or xs i 0) (get_or xs place 0) (get_or ys place 0)
                      (get_or xs least 0) (get_or ys least 0)
                      (c.requires.ys_above_zero least c.loop-place.invariant.within) less
                      (omega (arith, c.loop-place.invariant.no_less i h)),
                )) (omega arith);
          }
      | else-is_less w ↦
          let not_less : get_or xs least 0 * get_or ys place 0 ≤ get_or xs place 0 * get_or ys least 0 =
          elim (cases_lt (get_or xs place 0 * get_or ys least 0) (get_or xs least 0 * get_or ys place 0)) [
            | inl lt ↦ let less = c.is_less.ensures.1 lt in absurd (cc)
            | inr ge ↦ ge
          ] in
          rw w.least-is
          record {
            within = c.loop-place.invariant.within;
            no_less = below_more (λ i. get_or xs least 0 * get_or ys i 0 ≤ get_or xs i 0 * get_or ys least 0) place
                c.loop-place.invariant.no_less not_less;
          }
    ]
