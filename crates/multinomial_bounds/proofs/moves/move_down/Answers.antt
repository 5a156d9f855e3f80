-- The weight changes by the move rule, so the enclosure is multiplied by the exact quotient, which is at most 1.
use Rattle.std.proofs.Common.{◌+◌, ◌-◌, ◌*◌, ◌≤◌, arith, get_or, sym}
use Rattle.std.proofs.Math.Nat.{mul-pos}
use Rattle.std.proofs.lemmas.List.Elements.{All-get_or}
use Rattle.multinomial_bounds.specs.Weight.{weight_of, total_of}
use Rattle.multinomial_bounds.proofs.WeightLemmas.{move_rule}
use Rattle.multinomial_bounds.proofs.BoundLemmas.{IsEnclosure-move}
use Rattle.multinomial_bounds.proofs.WidthLemmas.{width-step}
use Rattle.multinomial_bounds.proofs.moves.move_down.Goals as goal

pub returns-clause-encloses : goal.returns-clause-encloses
returns-clause-encloses c n e =
    let heavy : 1 ≤ get_or c.args.weights.now c.args.to 0 =
    All-get_or (λ w. 1 ≤ w) c.args.weights.now c.args.to 0 c.requires.to_within c.requires.weights_in_range.positive in
    rw (c.scaled.ensures.lo, c.scaled.ensures.hi, c.from.ensures, c.from-2.ensures, c.from-3.ensures, c.from-4.ensures)
    (IsEnclosure-move c.args.from_enclosure.lo c.args.from_enclosure.hi
    (weight_of c.args.weights.now n c.args.counts.now) _ _ _ (total_of c.args.weights.now n)
    (mul-pos c.requires.has_atom heavy) c.requires.falls e
    (sym (move_rule c.args.weights.now n c.args.counts.now c.args.from c.args.to
    c.requires.apart c.requires.has_atom (omega arith))))

pub returns-clause-width : goal.returns-clause-width
returns-clause-width c =
    let heavy : 1 ≤ get_or c.args.weights.now c.args.from 0 =
    All-get_or (λ w. 1 ≤ w) c.args.weights.now c.args.from 0 c.requires.from_within
    c.requires.weights_in_range.positive in
    let from_enclosure = c.args.from_enclosure in
    let step = width-step from_enclosure.lo from_enclosure.hi (from_enclosure.hi - from_enclosure.lo)
    (get_or c.args.counts.now c.args.from 0 * get_or c.args.weights.now c.args.to 0)
    ((get_or c.args.counts.now c.args.to 0 + 1) * get_or c.args.weights.now c.args.from 0)
    (mul-pos (omega arith) heavy) c.requires.falls (omega arith) in
    rw (c.scaled.ensures.lo, c.scaled.ensures.hi, c.from.ensures, c.from-2.ensures, c.from-3.ensures, c.from-4.ensures)
    (omega (arith, step))
