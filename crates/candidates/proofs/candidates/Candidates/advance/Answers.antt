use Rattle.std.proofs.Common.{◌∷◌, Some, None, cond, refl, sym, ap, subst, ◌∙◌}
use Rattle.candidates.specs.Enumeration.{counts_left}
use Rattle.candidates.specs.PeakFormulas.{formulas_of_peak}
use Rattle.decompose.specs.Enumeration.{after_given}
use Rattle.candidates.specs.Searches.{Finds}
use Rattle.candidates.proofs.CandidateBounds.{candidate-steps, candidate-no_steps}
use Rattle.candidates.proofs.StandingSteps.{standing-kept, standing-next, given-next}
use Rattle.candidates.proofs.candidates.Candidates.advance.Goals as goal

pub invariant_of-self : goal.invariant_of-self
invariant_of-self g c =
    let is = c.self.invariant.1 in (
      c.self.invariant.0,
      standing-kept c.self.inside.premises.now c.self.inside.mz c.self.inside.search c.find.new.self _ c.find.result is
          (c.find.ensures.finds c.self.inside.mz is.admits),
    )

pub invariant_of-self-2 : goal.invariant_of-self-2
invariant_of-self-2 g c =
    let is = c.self.invariant.1 in
    standing-next c.self.inside.premises.now c.self.inside.mz c.self.inside.search c.find.new.self c.give.new.self _
    c.self.inside.last c.give.new.last is
    (subst (Finds c.self.inside.premises.now c.self.inside.mz c.self.inside.search c.find.new.self) c.if-not-find.false
    (c.find.ensures.finds c.self.inside.mz is.admits)) c.self.invariant.0 c.give.ensures.search c.give.ensures.given

pub returns-clause-next : goal.returns-clause-next
returns-clause-next g c =
    let is = c.self.invariant.1 in
    let premises = c.self.inside.premises.now in
    let mz = c.self.inside.mz in
    ap counts_left (sym c.self.view_is)
    ∙ given-next premises mz c.self.inside.search c.find.new.self _ is
    (subst (Finds premises mz c.self.inside.search c.find.new.self) c.if-not-find.false (c.find.ensures.finds mz is.admits))
    ∙ ap (λ cs. cs ∷ after_given (formulas_of_peak premises mz) (Some cs)) (sym c.give.ensures.given)

pub returns-clause-steps : goal.returns-clause-steps
returns-clause-steps g c =
    candidate-steps c.self.inside.premises.now c.self.inside.mz c.self.inside.search _ (Some c.give.new.last)
    c.args.steps.now c.find.new.steps c.self.invariant.1 (cond c.find.result (Some c.find.new.self.counts) None)
    (ap Some c.give.ensures.given ∙ ap (λ b. cond b (Some c.find.new.self.counts) None) (sym c.if-not-find.false))
    c.find.ensures.steps c.args.self.now (sym c.self.view_is)

pub returns-then-not-find-clause-steps : goal.returns-then-not-find-clause-steps
returns-then-not-find-clause-steps g c =
    candidate-steps c.self.inside.premises.now c.self.inside.mz c.self.inside.search _ None
    c.args.steps.now c.find.new.steps c.self.invariant.1 (cond c.find.result (Some c.find.new.self.counts) None)
    (ap (λ b. cond b (Some c.find.new.self.counts) None) (sym c.if-not-find.true))
    c.find.ensures.steps c.args.self.now (sym c.self.view_is)

pub returns-clause-no_steps : goal.returns-clause-no_steps
returns-clause-no_steps g c =
    candidate-no_steps c.self.inside.premises.now c.self.inside.mz c.self.inside.search _ _
    c.args.steps.now c.find.new.steps c.self.invariant.1 (cond c.find.result (Some c.find.new.self.counts) None) refl
    c.find.ensures.steps c.args.self.now (sym c.self.view_is)

pub returns-then-not-find-clause-no_steps : goal.returns-then-not-find-clause-no_steps
returns-then-not-find-clause-no_steps g c =
    candidate-no_steps c.self.inside.premises.now c.self.inside.mz c.self.inside.search _ _
    c.args.steps.now c.find.new.steps c.self.invariant.1 (cond c.find.result (Some c.find.new.self.counts) None) refl
    c.find.ensures.steps c.args.self.now (sym c.self.view_is)
