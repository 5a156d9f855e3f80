-- The path begins at the mode, and the numbers of the definition enclose the probability.
use Rattle.std.proofs.Common.{rules, ◌≡◌, sum, length, ap, ◌∙◌}
use Rattle.multinomial_bounds.specs.Bounds.{floor_of, ceiling_of}
use Rattle.multinomial_bounds.specs.Mode.{mode_of_atoms}
use Rattle.multinomial_bounds.specs.Path.{bound_of}
use Rattle.multinomial_bounds.proofs.ModeLemmas.{length-mode_of_atoms, sum-mode_of_atoms, IsMode-mode_of_atoms}
use Rattle.multinomial_bounds.proofs.EnclosureLemmas.{IsEnclosure-bound_of}
use Rattle.multinomial_bounds.proofs.WidthLemmas.{width-bound_of}
use Rattle.multinomial_bounds.proofs.path.enclose.Goals as goal
use Rattle.multinomial_bounds.proofs.path.enclose.Goals.{After-deref_mut, After-drop-current}

begins_at_mode : (c : After-deref_mut) → c.deref_mut.result.now ≡ mode_of_atoms c.args.weights.now (sum c.args.counts.now)
begins_at_mode c = let h : c.deref_mut.result.now ≡ c.args.mode.now = search rules in h ∙ c.requires.mode_of_these

pub along_path-requires-clause-mode_places : goal.along_path-requires-clause-mode_places
along_path-requires-clause-mode_places c =
    ap length (begins_at_mode c) ∙ length-mode_of_atoms c.args.weights.now (sum c.args.counts.now)

pub along_path-requires-clause-same_atoms : goal.along_path-requires-clause-same_atoms
along_path-requires-clause-same_atoms c =
    ap sum (begins_at_mode c) ∙ sum-mode_of_atoms c.args.weights.now c.requires.weights_in_range.some (sum c.args.counts.now)

pub along_path-requires-clause-is_mode : goal.along_path-requires-clause-is_mode
along_path-requires-clause-is_mode c =
    rw (begins_at_mode c)
    (IsMode-mode_of_atoms c.args.weights.now c.requires.weights_in_range.some (sum c.args.counts.now))

gives_lo : (c : After-drop-current) → c.along_path.result.lo ≡ bound_of floor_of c.args.weights.now c.args.counts.now
unfolding bound_of
gives_lo c =
    let begins : c.deref_mut.result.now ≡ mode_of_atoms c.args.weights.now (sum c.args.counts.now) =
    begins_at_mode (goal.at.returns-clause-lo c).After-deref_mut in
    rw (c.along_path.ensures.lo, begins, c.in_ok-start.ensures.lo)

gives_hi : (c : After-drop-current) → c.along_path.result.hi ≡ bound_of ceiling_of c.args.weights.now c.args.counts.now
unfolding bound_of
gives_hi c =
    let begins : c.deref_mut.result.now ≡ mode_of_atoms c.args.weights.now (sum c.args.counts.now) =
    begins_at_mode (goal.at.returns-clause-lo c).After-deref_mut in
    rw (c.along_path.ensures.hi, begins, c.in_ok-start.ensures.hi)

pub returns-clause-lo : goal.returns-clause-lo
returns-clause-lo c = gives_lo c

pub returns-clause-hi : goal.returns-clause-hi
returns-clause-hi c = gives_hi c

pub returns-clause-encloses : goal.returns-clause-encloses
returns-clause-encloses c =
    rw (gives_lo c, gives_hi c)
    (IsEnclosure-bound_of c.args.weights.now c.args.counts.now c.requires.weights_in_range c.requires.same_places)

pub returns-clause-width : goal.returns-clause-width
returns-clause-width c =
    rw (gives_lo c, gives_hi c)
    (width-bound_of c.args.weights.now c.args.counts.now c.requires.weights_in_range c.requires.same_places)
