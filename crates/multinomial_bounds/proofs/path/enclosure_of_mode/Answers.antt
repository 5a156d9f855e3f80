-- Where the mode was found with these weights, it keeps its enclosure over them.
use Rattle.std.proofs.Common.{◌≡◌, sum, ap, sym, ◌∙◌}
use Rattle.std.proofs.lemmas.Slice.Eq.{bytes_eq-Decides}
use Rattle.multinomial_bounds.proofs.ModeLemmas.{sum-mode_of_atoms}
use Rattle.multinomial_bounds.proofs.path.enclosure_of_mode.Goals as goal
use Rattle.multinomial_bounds.proofs.path.enclosure_of_mode.Goals.{Then-eq}

same_weights : (c : Then-eq) → c.mode.inside.weights.items ≡ c.args.weights.now
same_weights c =
    sym c.as_slice.ensures.value
    ∙ (bytes_eq-Decides c.as_slice.result.now c.args.weights.now).0 (sym c.eq.ensures ∙ c.if-eq.true)

same_atoms : (c : Then-eq) → sum c.mode.inside.counts.items ≡ sum c.args.counts.now
same_atoms c =
    ap sum (c.mode.view_is ∙ c.requires.mode_of_these)
    ∙ sum-mode_of_atoms c.args.weights.now c.requires.weights_in_range.some (sum c.args.counts.now)

pub returns-then-eq-clause-lo : goal.returns-then-eq-clause-lo
returns-then-eq-clause-lo c =
    let then = (goal.at.returns-then-eq-clause-lo c).Then-eq in
    rw (← same_weights then, ← same_atoms then) c.mode.invariant.0

pub returns-then-eq-clause-hi : goal.returns-then-eq-clause-hi
returns-then-eq-clause-hi c =
    let then = (goal.at.returns-then-eq-clause-hi c).Then-eq in
    rw (← same_weights then, ← same_atoms then) c.mode.invariant.1
