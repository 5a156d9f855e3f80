-- The tests are taken in turn.
use Rattle.std.proofs.Common.{ℕ, sym, ap, ◌∙◌, arith, Some}
use Rattle.cover_claims.specs.declared.fault.ClaimFault.TheVariants.{SizeDiffers, CoverShort, BoundTooHigh}
use Rattle.cover_claims.proofs.ClaimSteps.{misplaced, no_mode, open_boundary, other_size, short, no_bound, too_high, accepted}
use Rattle.cover_claims.proofs.ClaimTruth.{claim-true}
use Rattle.cover_claims.proofs.claim.claim_fault.Goals as goal

pub returns-in-Some-clause-fault : goal.returns-in-Some-clause-fault
returns-in-Some-clause-fault c =
    sym (misplaced c.args.claimed.now c.args.claim c.in-Some.place (sym c.first_misplaced.ensures ∙ c.in-Some.is))

pub returns-then-not-branch-clause-fault : goal.returns-then-not-branch-clause-fault
returns-then-not-branch-clause-fault c =
    sym
    (no_mode c.args.claimed.now c.args.claim (sym c.first_misplaced.ensures ∙ c.in_default.is)
    (sym c.in_ok-has_mode.ensures.value ∙ c.if-not-branch.true))

pub returns-in-Some-2-clause-fault : goal.returns-in-Some-2-clause-fault
returns-in-Some-2-clause-fault c =
    sym
    (open_boundary c.args.claimed.now c.args.claim (sym c.first_misplaced.ensures ∙ c.in_default.is)
    (sym c.in_ok-has_mode.ensures.value ∙ c.if-not-branch.false) c.in-Some-2.fault
    (sym c.in_ok-fault.ensures ∙ c.in-Some-2.is))

pub returns-then-found-claim-clause-fault : goal.returns-then-found-claim-clause-fault
returns-then-found-claim-clause-fault c =
    sym
    (other_size c.args.claimed.now c.args.claim (sym c.first_misplaced.ensures ∙ c.in_default.is)
    (sym c.in_ok-has_mode.ensures.value ∙ c.if-not-branch.false) (sym c.in_ok-fault.ensures ∙ c.in_default-2.is)
    (λ same. c.if-found-claim.true (c.marked_count-found.ensures ∙ same))
    ∙ ap (λ (n : ℕ). Some (SizeDiffers n)) (sym c.marked_count-found.ensures))

pub returns-then-covered-from-clause-fault : goal.returns-then-covered-from-clause-fault
returns-then-covered-from-clause-fault c =
    sym
    (short c.args.claimed.now c.args.claim (sym c.first_misplaced.ensures ∙ c.in_default.is)
    (sym c.in_ok-has_mode.ensures.value ∙ c.if-not-branch.false) (sym c.in_ok-fault.ensures ∙ c.in_default-2.is)
    (sym c.marked_count-found.ensures ∙ c.if-found-claim.false)
    (omega (arith, c.marked_total-covered.ensures, c.if-covered-from.true, c.from.ensures))
    ∙ ap (λ (n : ℕ). Some (CoverShort n)) (sym c.marked_total-covered.ensures))

pub returns-then-claim-eq0-clause-fault : goal.returns-then-claim-eq0-clause-fault
returns-then-claim-eq0-clause-fault c =
    sym
    (no_bound c.args.claimed.now c.args.claim (sym c.first_misplaced.ensures ∙ c.in_default.is)
    (sym c.in_ok-has_mode.ensures.value ∙ c.if-not-branch.false) (sym c.in_ok-fault.ensures ∙ c.in_default-2.is)
    (sym c.marked_count-found.ensures ∙ c.if-found-claim.false)
    (omega (arith, c.marked_total-covered.ensures, c.if-covered-from.false, c.from.ensures))
    c.if-claim-eq0.true)

pub returns-then-claim-eq0-clause-sound : goal.returns-then-claim-eq0-clause-sound
returns-then-claim-eq0-clause-sound c none =
    claim-true c.args.claimed.now c.args.claim c.has_mode.ensures.within_limits c.has_mode.ensures.isotopologues
    (no_bound c.args.claimed.now c.args.claim (sym c.first_misplaced.ensures ∙ c.in_default.is)
    (sym c.in_ok-has_mode.ensures.value ∙ c.if-not-branch.false) (sym c.in_ok-fault.ensures ∙ c.in_default-2.is)
    (sym c.marked_count-found.ensures ∙ c.if-found-claim.false)
    (omega (arith, c.marked_total-covered.ensures, c.if-covered-from.false, c.from.ensures))
    c.if-claim-eq0.true)

pub returns-then-total-from-clause-fault : goal.returns-then-total-from-clause-fault
returns-then-total-from-clause-fault c =
    sym
    (too_high c.args.claimed.now c.args.claim (sym c.first_misplaced.ensures ∙ c.in_default.is)
    (sym c.in_ok-has_mode.ensures.value ∙ c.if-not-branch.false) (sym c.in_ok-fault.ensures ∙ c.in_default-2.is)
    (sym c.marked_count-found.ensures ∙ c.if-found-claim.false)
    (omega (arith, c.marked_total-covered.ensures, c.if-covered-from.false, c.from.ensures))
    c.if-claim-eq0.false
    (omega (arith, c.in_ok-total.ensures, c.if-total-from.true, c.from-2.ensures))
    ∙ ap (λ (n : ℕ). Some (BoundTooHigh n)) (sym c.in_ok-total.ensures))

pub returns-clause-fault : goal.returns-clause-fault
returns-clause-fault c =
    sym
    (accepted c.args.claimed.now c.args.claim (sym c.first_misplaced.ensures ∙ c.in_default.is)
    (sym c.in_ok-has_mode.ensures.value ∙ c.if-not-branch.false) (sym c.in_ok-fault.ensures ∙ c.in_default-2.is)
    (sym c.marked_count-found.ensures ∙ c.if-found-claim.false)
    (omega (arith, c.marked_total-covered.ensures, c.if-covered-from.false, c.from.ensures))
    c.if-claim-eq0.false
    (omega (arith, c.in_ok-total.ensures, c.if-total-from.false, c.from-2.ensures)))

pub returns-clause-sound : goal.returns-clause-sound
returns-clause-sound c none =
    claim-true c.args.claimed.now c.args.claim c.has_mode.ensures.within_limits c.has_mode.ensures.isotopologues
    (accepted c.args.claimed.now c.args.claim (sym c.first_misplaced.ensures ∙ c.in_default.is)
    (sym c.in_ok-has_mode.ensures.value ∙ c.if-not-branch.false) (sym c.in_ok-fault.ensures ∙ c.in_default-2.is)
    (sym c.marked_count-found.ensures ∙ c.if-found-claim.false)
    (omega (arith, c.marked_total-covered.ensures, c.if-covered-from.false, c.from.ensures))
    c.if-claim-eq0.false
    (omega (arith, c.in_ok-total.ensures, c.if-total-from.false, c.from-2.ensures)))
