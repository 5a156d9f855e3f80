-- The loop ends with the mode of all atoms, and what the definition's numbers mean is proved of them.
use Rattle.std.proofs.Common.{rules, ◌≡◌, sum, arith, ap, ◌∙◌}
use Rattle.multinomial_bounds.specs.Mode.{mode_of_atoms, mode_bound}
use Rattle.multinomial_bounds.proofs.ModeLemmas.{sum-IsWeights, sum-mode_of_atoms, length-mode_of_atoms}
use Rattle.multinomial_bounds.proofs.ModeLemmas.{IsMode-mode_of_atoms, IsEnclosure-mode, IsWeights-positive}
use Rattle.multinomial_bounds.proofs.LikeliestLemmas.{weight-at-most-mode}
use Rattle.multinomial_bounds.proofs.WidthLemmas.{width-mode}
use Rattle.multinomial_bounds.proofs.mode.mode_of.Goals as goal

pub total_weight-total-requires : goal.total_weight-total-requires
total_weight-total-requires c = omega (arith, sum-IsWeights c.args.weights.now c.requires.weights_in_range)

pub loop-drawn-init : goal.loop-drawn-init
unfolding mode_of_atoms mode_bound
loop-drawn-init c = record { mode = search rules; lo = c.certain-enclosure.ensures.lo; hi = c.certain-enclosure.ensures.hi }

pub invariant_of-mode : goal.invariant_of-mode
invariant_of-mode c =
    let all : c.loop-drawn.drawn ≡ c.args.atoms = omega arith in
    let kept : c.in_ok-kept.kept.items ≡ c.args.weights.now = search rules in
    let drawn : sum c.loop-drawn.counts.items ≡ c.loop-drawn.drawn =
    ap sum c.loop-drawn.invariant.mode
    ∙ sum-mode_of_atoms c.args.weights.now c.requires.weights_in_range.some c.loop-drawn.drawn in
    rw (kept, drawn) (c.loop-drawn.invariant.lo, c.loop-drawn.invariant.hi)

pub returns-clause-counts : goal.returns-clause-counts
returns-clause-counts c =
    let all : c.loop-drawn.drawn ≡ c.args.atoms = omega arith in
    rw c.loop-drawn.invariant.mode
    (record {
      places_agree = length-mode_of_atoms c.args.weights.now c.loop-drawn.drawn;
      atoms_agree = sum-mode_of_atoms c.args.weights.now c.requires.weights_in_range.some c.loop-drawn.drawn ∙ all;
    })

pub returns-clause-is_mode : goal.returns-clause-is_mode
returns-clause-is_mode c =
    rw c.loop-drawn.invariant.mode
    (IsMode-mode_of_atoms c.args.weights.now c.requires.weights_in_range.some c.loop-drawn.drawn)

pub returns-clause-encloses : goal.returns-clause-encloses
returns-clause-encloses c =
    let all : c.args.atoms ≡ c.loop-drawn.drawn = omega arith in
    rw (all, c.loop-drawn.invariant.mode, c.loop-drawn.invariant.lo, c.loop-drawn.invariant.hi)
    (IsEnclosure-mode c.args.weights.now c.requires.weights_in_range.some
    (IsWeights-positive c.args.weights.now c.requires.weights_in_range) c.loop-drawn.drawn)

pub returns-clause-width : goal.returns-clause-width
returns-clause-width c =
    let all : c.args.atoms ≡ c.loop-drawn.drawn = omega arith in
    rw (all, c.loop-drawn.invariant.lo, c.loop-drawn.invariant.hi)
    (width-mode c.args.weights.now c.requires.weights_in_range c.loop-drawn.drawn)

pub returns-clause-likeliest : goal.returns-clause-likeliest
returns-clause-likeliest c other is =
    let ws = c.args.weights.now in
    let all : c.loop-drawn.drawn ≡ c.args.atoms = omega arith in
    rw c.loop-drawn.invariant.mode
    (weight-at-most-mode ws (mode_of_atoms ws c.loop-drawn.drawn) other c.args.atoms c.requires.weights_in_range
    (IsMode-mode_of_atoms ws c.requires.weights_in_range.some c.loop-drawn.drawn)
    (record {
      places_agree = length-mode_of_atoms ws c.loop-drawn.drawn;
      atoms_agree = sum-mode_of_atoms ws c.requires.weights_in_range.some c.loop-drawn.drawn ∙ all;
    }) is)
