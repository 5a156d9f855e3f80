use Rattle.std.proofs.Common.{◌≡◌, ◌+◌, ◌-◌, ℕ, arith, subst}
use Rattle.layered_envelope.proofs.CutoffLaws.{AreFrom, AreFrom-none, AreFrom-more, AreFrom-all}
use Rattle.layered_envelope.proofs.cutoffs.find_cutoffs.Goals as goal

pub loop-place-init : goal.loop-place-init
loop-place-init c =
    AreFrom-none c.args.threshold c.args.modes.now c.args.cutoffs.now c.requires.as_many c.requires.at_most_one

pub loop-place-preserved : goal.loop-place-preserved
loop-place-preserved c =
    let back : c.loop-place.place - 1 + 1 ≡ c.loop-place.place = omega arith in
    AreFrom-more c.args.threshold c.args.modes.now c.loop-place.cutoffs (c.loop-place.place - 1) c.loop-place.cutoff
    c.cutoff_of_factor-cutoff.result (omega arith) (c.requires.most (c.loop-place.place - 1) 0 (omega arith))
    (rw back c.loop-place.invariant) c.cutoff_of_factor-cutoff.ensures.at_most_one
    c.cutoff_of_factor-cutoff.ensures.cuts

pub returns-clause-cutoffs : goal.returns-clause-cutoffs
returns-clause-cutoffs c =
    let none : c.loop-place.place ≡ 0 = omega arith in
    (AreFrom-all c.args.threshold c.args.modes.now c.loop-place.cutoffs c.loop-place.cutoff
    (subst (λ (k : ℕ). AreFrom c.args.threshold k c.args.modes.now c.loop-place.cutoffs c.loop-place.cutoff) none
    c.loop-place.invariant)).0

pub returns-clause-at_most_one : goal.returns-clause-at_most_one
returns-clause-at_most_one c =
    let none : c.loop-place.place ≡ 0 = omega arith in
    (AreFrom-all c.args.threshold c.args.modes.now c.loop-place.cutoffs c.loop-place.cutoff
    (subst (λ (k : ℕ). AreFrom c.args.threshold k c.args.modes.now c.loop-place.cutoffs c.loop-place.cutoff) none
    c.loop-place.invariant)).1
