use Rattle.std.specs.declared.alloc.AllocError.{AllocError}
use Rattle.std.proofs.Common.{Ok, Some, None, cond, refl, sym, ap, subst, ◌∙◌}
use Rattle.std.proofs.lemmas.Result.{err_from_is_err_and}
use Rattle.formula_text.specs.Formulas.{formula_of}
use Rattle.candidates.specs.Enumeration.{CandidateEnumeration}
use Rattle.candidates.specs.PeakFormulas.{counts_of}
use Rattle.candidates.specs.StepBounds.{counts_given}
use Rattle.candidates.proofs.CandidateBounds.{bounded-end, candidate-steps, candidate-no_steps}
use Rattle.candidates.specs.Searches.{Finds}
use Rattle.candidates.proofs.StandingSteps.{standing-kept, standing-next, given-formulas, given-not_end, given-not_none, given-token, given-upto}
use Rattle.candidates.proofs.candidates.Candidates.next.Goals as goal

pub invariant_of-self : goal.invariant_of-self
invariant_of-self g c =
    let is = c.self.invariant.1 in (
      c.self.invariant.0,
      standing-kept c.self.inside.premises.now c.self.inside.mz c.self.inside.search c.find.new.self _ c.find.result is
          (c.find.ensures.finds c.self.inside.mz is.admits),
    )

pub invariant_of-self-in_err-parts : goal.invariant_of-self-in_err-parts
invariant_of-self-in_err-parts g c =
    let is = c.self.invariant.1 in (
      c.self.invariant.0,
      standing-kept c.self.inside.premises.now c.self.inside.mz c.self.inside.search c.find.new.self _ c.find.result is
          (c.find.ensures.finds c.self.inside.mz is.admits),
    )

pub invariant_of-self-in_err-found : goal.invariant_of-self-in_err-found
invariant_of-self-in_err-found g c =
    let is = c.self.invariant.1 in (
      c.self.invariant.0,
      standing-kept c.self.inside.premises.now c.self.inside.mz c.self.inside.search c.find.new.self _ c.find.result is
          (c.find.ensures.finds c.self.inside.mz is.admits),
    )

pub invariant_of-self-2 : goal.invariant_of-self-2
invariant_of-self-2 g c =
    let is = c.self.invariant.1 in
    standing-next c.self.inside.premises.now c.self.inside.mz c.self.inside.search c.find.new.self c.give.new.self _
    c.self.inside.last c.give.new.last is
    (subst (Finds c.self.inside.premises.now c.self.inside.mz c.self.inside.search c.find.new.self) c.if-not-find.false
    (c.find.ensures.finds c.self.inside.mz is.admits)) c.self.invariant.0 c.give.ensures.search c.give.ensures.given

pub returns-clause-next : goal.returns-clause-next
returns-clause-next g c =
    let is = c.self.invariant.1 in
    let premises = c.self.inside.premises.now in
    let mz = c.self.inside.mz in
    given-formulas premises mz c.self.inside.search c.find.new.self _ c.in_ok-found.found c.give.new.last c.args.self.now is
    (subst (Finds premises mz c.self.inside.search c.find.new.self) c.if-not-find.false (c.find.ensures.finds mz is.admits))
    (c.in_ok-found.ensures.sum
    ∙ ap formula_of (c.deref.ensures.value ∙ c.in_ok-parts.ensures
    ∙ ap (λ counts. counts_of c.alphabet.result.now counts) c.counts-counts.ensures
    ∙ ap (λ alphabet. counts_of alphabet c.find.new.self.counts) c.alphabet.ensures.alphabet))
    c.give.ensures.given (sym c.self.view_is)

pub returns-clause-end : goal.returns-clause-end
returns-clause-end g c =
    let is = c.self.invariant.1 in
    let premises = c.self.inside.premises.now in
    let mz = c.self.inside.mz in
    given-not_end premises mz c.self.inside.search c.find.new.self _ c.in_ok-found.found c.args.self.now is
    (subst (Finds premises mz c.self.inside.search c.find.new.self) c.if-not-find.false (c.find.ensures.finds mz is.admits))
    (c.in_ok-found.ensures.sum
    ∙ ap formula_of (c.deref.ensures.value ∙ c.in_ok-parts.ensures
    ∙ ap (λ counts. counts_of c.alphabet.result.now counts) c.counts-counts.ensures
    ∙ ap (λ alphabet. counts_of alphabet c.find.new.self.counts) c.alphabet.ensures.alphabet))
    (sym c.self.view_is)

pub returns-clause-at_end : goal.returns-clause-at_end
returns-clause-at_end g c =
    let is = c.self.invariant.1 in
    let premises = c.self.inside.premises.now in
    let mz = c.self.inside.mz in
    given-not_none premises mz c.self.inside.search c.find.new.self c.in_ok-found.found
    (subst (Finds premises mz c.self.inside.search c.find.new.self) c.if-not-find.false (c.find.ensures.finds mz is.admits))
    (c.in_ok-found.ensures.sum
    ∙ ap formula_of (c.deref.ensures.value ∙ c.in_ok-parts.ensures
    ∙ ap (λ counts. counts_of c.alphabet.result.now counts) c.counts-counts.ensures
    ∙ ap (λ alphabet. counts_of alphabet c.find.new.self.counts) c.alphabet.ensures.alphabet))

pub returns-clause-given : goal.returns-clause-given
returns-clause-given g c =
    let is = c.self.invariant.1 in
    let premises = c.self.inside.premises.now in
    let mz = c.self.inside.mz in
    given-token premises mz c.self.inside.search c.find.new.self c.in_ok-found.found c.give.new.last c.args.self.now
    is.is_ground
    (subst (Finds premises mz c.self.inside.search c.find.new.self) c.if-not-find.false (c.find.ensures.finds mz is.admits))
    (c.in_ok-found.ensures.sum
    ∙ ap formula_of (c.deref.ensures.value ∙ c.in_ok-parts.ensures
    ∙ ap (λ counts. counts_of c.alphabet.result.now counts) c.counts-counts.ensures
    ∙ ap (λ alphabet. counts_of alphabet c.find.new.self.counts) c.alphabet.ensures.alphabet))
    c.give.ensures.given (ap (λ (e : CandidateEnumeration). e.premises) (sym c.self.view_is))

pub returns-clause-steps : goal.returns-clause-steps
returns-clause-steps g c =
    let is = c.self.invariant.1 in
    let premises = c.self.inside.premises.now in
    let mz = c.self.inside.mz in
    candidate-steps premises mz c.self.inside.search _ _ c.args.steps.now c.find.new.steps is
    (cond c.find.result (Some c.find.new.self.counts) None)
    (given-upto {E = AllocError} premises mz c.self.inside.search c.find.new.self c.in_ok-found.found c.args.self.now
    (Ok c.in_ok-found.found) is.is_ground
    (subst (Finds premises mz c.self.inside.search c.find.new.self) c.if-not-find.false (c.find.ensures.finds mz is.admits))
    (c.in_ok-found.ensures.sum
    ∙ ap formula_of (c.deref.ensures.value ∙ c.in_ok-parts.ensures
    ∙ ap (λ counts. counts_of c.alphabet.result.now counts) c.counts-counts.ensures
    ∙ ap (λ alphabet. counts_of alphabet c.find.new.self.counts) c.alphabet.ensures.alphabet))
    refl (ap (λ (e : CandidateEnumeration). e.premises) (sym c.self.view_is))
    ∙ ap (λ b. cond b (Some c.find.new.self.counts) None) (sym c.if-not-find.false))
    c.find.ensures.steps c.args.self.now (sym c.self.view_is)

pub returns-clause-no_steps : goal.returns-clause-no_steps
returns-clause-no_steps g c =
    candidate-no_steps c.self.inside.premises.now c.self.inside.mz c.self.inside.search _ _
    c.args.steps.now c.find.new.steps c.self.invariant.1 (cond c.find.result (Some c.find.new.self.counts) None) refl
    c.find.ensures.steps c.args.self.now (sym c.self.view_is)

pub returns-then-not-find-clause-steps : goal.returns-then-not-find-clause-steps
returns-then-not-find-clause-steps g c =
    candidate-steps c.self.inside.premises.now c.self.inside.mz c.self.inside.search _ None
    c.args.steps.now c.find.new.steps c.self.invariant.1 (cond c.find.result (Some c.find.new.self.counts) None)
    (ap (λ b. cond b (Some c.find.new.self.counts) None) (sym c.if-not-find.true))
    c.find.ensures.steps c.args.self.now (sym c.self.view_is)

pub returns-then-not-find-clause-no_steps : goal.returns-then-not-find-clause-no_steps
returns-then-not-find-clause-no_steps g c =
    candidate-no_steps c.self.inside.premises.now c.self.inside.mz c.self.inside.search _ _
    c.args.steps.now c.find.new.steps c.self.invariant.1 (cond c.find.result (Some c.find.new.self.counts) None) refl
    c.find.ensures.steps c.args.self.now (sym c.self.view_is)

pub returns-in_err-parts-clause-steps : goal.returns-in_err-parts-clause-steps
returns-in_err-parts-clause-steps g c =
    let p = err_from_is_err_and c.from_residual.result c.from_residual.ensures.1 in
    candidate-steps c.self.inside.premises.now c.self.inside.mz c.self.inside.search _ _
    c.args.steps.now c.find.new.steps c.self.invariant.1 None
    (ap (counts_given c.args.self.now.premises.alphabet) p.1)
    (bounded-end c.self.inside.search _ c.args.steps.now c.find.new.steps c.find.ensures.steps)
    c.args.self.now (sym c.self.view_is)

pub returns-in_err-parts-clause-no_steps : goal.returns-in_err-parts-clause-no_steps
returns-in_err-parts-clause-no_steps g c =
    candidate-no_steps c.self.inside.premises.now c.self.inside.mz c.self.inside.search _ _
    c.args.steps.now c.find.new.steps c.self.invariant.1 (cond c.find.result (Some c.find.new.self.counts) None) refl
    c.find.ensures.steps c.args.self.now (sym c.self.view_is)

pub returns-in_err-found-clause-steps : goal.returns-in_err-found-clause-steps
returns-in_err-found-clause-steps g c =
    let p = err_from_is_err_and c.from_residual-in_err-found.result c.from_residual-in_err-found.ensures.1 in
    candidate-steps c.self.inside.premises.now c.self.inside.mz c.self.inside.search _ _
    c.args.steps.now c.find.new.steps c.self.invariant.1 None
    (ap (counts_given c.args.self.now.premises.alphabet) p.1)
    (bounded-end c.self.inside.search _ c.args.steps.now c.find.new.steps c.find.ensures.steps)
    c.args.self.now (sym c.self.view_is)

pub returns-in_err-found-clause-no_steps : goal.returns-in_err-found-clause-no_steps
returns-in_err-found-clause-no_steps g c =
    candidate-no_steps c.self.inside.premises.now c.self.inside.mz c.self.inside.search _ _
    c.args.steps.now c.find.new.steps c.self.invariant.1 (cond c.find.result (Some c.find.new.self.counts) None) refl
    c.find.ensures.steps c.args.self.now (sym c.self.view_is)
