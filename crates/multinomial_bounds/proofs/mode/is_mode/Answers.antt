-- Where every isotope has passed, the counts are a mode, and what holds of a mode follows.
use Rattle.std.proofs.Common.{◌≤◌, length, sum, refl, arith}
use Rattle.multinomial_bounds.specs.Mode.{IsMode}
use Rattle.multinomial_bounds.proofs.LikeliestLemmas.{weight-towards-mode, weight-at-most-mode}
use Rattle.multinomial_bounds.proofs.mode.is_mode.Goals as goal

pub returns-clause-likeliest : goal.returns-clause-likeliest
returns-clause-likeliest c passes ok other is =
    let all : length c.args.weights.now ≤ c.loop-i.i = omega arith in
    let mode : IsMode c.args.weights.now c.args.counts.now =
    λ i j i_within j_within. c.loop-i.invariant i j (omega arith) j_within in
    weight-at-most-mode c.args.weights.now c.args.counts.now other (sum c.args.counts.now) ok mode
    (record { places_agree = c.requires; atoms_agree = refl }) is

pub returns-clause-towards : goal.returns-clause-towards
returns-clause-towards c passes ok atoms other i j is above below =
    let all : length c.args.weights.now ≤ c.loop-i.i = omega arith in
    let mode : IsMode c.args.weights.now c.args.counts.now =
    λ i j i_within j_within. c.loop-i.invariant i j (omega arith) j_within in
    weight-towards-mode c.args.weights.now c.args.counts.now other atoms i j ok mode c.requires is.places_agree
    above below
