use Rattle.std.proofs.Common.{true, false, refl, sym, ap, subst, ◌∙◌}
use Rattle.std.specs.Vec.{with_items}
use Rattle.candidates.specs.Searches.{Takes, is_formed}
use Rattle.candidates.proofs.SearchBounds.{call_steps, walked-ended, walked-found, walked-taken}
use Rattle.candidates.proofs.SearchSteps.{so_far-taken, so_far-passed, finds-none, finds-some, sure-taken}
use Rattle.candidates.proofs.search.Search.find.Goals as goal

pub returns-then-self-clause-finds : goal.returns-then-self-clause-finds
returns-then-self-clause-finds g c =
    let premises = c.args.premises.now in
    let so_far =
    so_far-taken premises c.args.self.now c.lists.self c.take.new.self c.take.result c.lists.invariant.so_far c.take.ensures.takes in
    let pending = c.take.ensures.takes.is ∙ c.lists-test.true in
    λ mz admits. finds-some premises mz c.args.self.now c.take.new.self _ c.requires.premises so_far pending
    (sure-taken premises c.args.self.now c.take.new.self so_far pending c.if-self.true) refl refl refl refl refl admits

pub returns-then-self-clause-steps : goal.returns-then-self-clause-steps
returns-then-self-clause-steps g c =
    let premises = c.args.premises.now in
    let so_far =
    so_far-taken premises c.args.self.now c.lists.self c.take.new.self c.take.result c.lists.invariant.so_far c.take.ensures.takes in
    walked-found c.args.self.now c.take.new.self.decomps.given c.take.new.self.counts c.args.steps.now c.take.new.steps
    (so_far.is_search.taken (c.take.ensures.takes.is ∙ c.lists-test.true))
    (walked-taken premises c.requires.premises c.args.self.now c.lists.self c.take.new.self c.lists.invariant.so_far
    c.args.steps.now c.lists.steps c.take.new.steps
    (subst (Takes c.lists.self c.take.new.self) c.lists-test.true c.take.ensures.takes)
    (call_steps c.lists.self c.take.new.self.counts c.take.result true c.lists.steps c.take.new.steps c.lists-test.true
    c.take.ensures.steps c.take.ensures.no_steps c.take.ensures.pending) c.lists.invariant.walked)

pub returns-then-is_formed-clause-finds : goal.returns-then-is_formed-clause-finds
returns-then-is_formed-clause-finds g c =
    λ mz admits. finds-some c.args.premises.now mz c.args.self.now c.take.new.self _ c.is_formed.ensures.premises
    (so_far-taken c.args.premises.now c.args.self.now c.lists.self c.take.new.self c.take.result c.lists.invariant.so_far c.take.ensures.takes)
    (c.take.ensures.takes.is ∙ c.lists-test.true)
    (ap (is_formed c.args.premises.now) (sym c.counts.ensures) ∙ sym c.is_formed.ensures.formed ∙ c.if-is_formed.true)
    (sym (with_items c.take.new.self.room c.is_formed.new.room).ok.0 ∙ c.take.new.self.room.ok.0) refl refl refl refl admits

pub returns-then-is_formed-clause-steps : goal.returns-then-is_formed-clause-steps
returns-then-is_formed-clause-steps g c =
    let premises = c.args.premises.now in
    let so_far =
    so_far-taken premises c.args.self.now c.lists.self c.take.new.self c.take.result c.lists.invariant.so_far c.take.ensures.takes in
    walked-found c.args.self.now c.take.new.self.decomps.given c.take.new.self.counts c.args.steps.now c.take.new.steps
    (so_far.is_search.taken (c.take.ensures.takes.is ∙ c.lists-test.true))
    (walked-taken premises c.requires.premises c.args.self.now c.lists.self c.take.new.self c.lists.invariant.so_far
    c.args.steps.now c.lists.steps c.take.new.steps
    (subst (Takes c.lists.self c.take.new.self) c.lists-test.true c.take.ensures.takes)
    (call_steps c.lists.self c.take.new.self.counts c.take.result true c.lists.steps c.take.new.steps c.lists-test.true
    c.take.ensures.steps c.take.ensures.no_steps c.take.ensures.pending) c.lists.invariant.walked)

pub returns-clause-steps : goal.returns-clause-steps
returns-clause-steps g c =
    walked-ended c.args.premises.now c.requires.premises c.args.self.now c.lists.self c.take.new.self
    c.lists.invariant.so_far c.args.steps.now c.lists.steps c.take.new.steps
    (call_steps c.lists.self c.take.new.self.counts c.take.result false c.lists.steps c.take.new.steps c.lists-test.false
    c.take.ensures.steps c.take.ensures.no_steps c.take.ensures.pending) c.lists.invariant.walked

pub returns-clause-finds : goal.returns-clause-finds
returns-clause-finds g c =
    λ mz admits. finds-none c.args.premises.now mz c.args.self.now c.lists.self c.take.new.self c.lists.invariant.so_far
    (subst (Takes c.lists.self c.take.new.self) c.lists-test.false c.take.ensures.takes) admits

pub lists-preserved : goal.lists-preserved
lists-preserved g c =
    record {
      so_far =
          so_far-passed c.args.premises.now c.args.self.now c.take.new.self _ c.is_formed.ensures.premises
          (so_far-taken c.args.premises.now c.args.self.now c.lists.self c.take.new.self c.take.result
          c.lists.invariant.so_far c.take.ensures.takes)
          (c.take.ensures.takes.is ∙ c.lists-test.true)
          (ap (is_formed c.args.premises.now) (sym c.counts.ensures) ∙ sym c.is_formed.ensures.formed
          ∙ c.if-is_formed.false)
          (sym (with_items c.take.new.self.room c.is_formed.new.room).ok.0 ∙ c.take.new.self.room.ok.0) refl refl refl
          refl;
      walked =
          walked-taken c.args.premises.now c.requires.premises c.args.self.now c.lists.self c.take.new.self
          c.lists.invariant.so_far c.args.steps.now c.lists.steps c.take.new.steps
          (subst (Takes c.lists.self c.take.new.self) c.lists-test.true c.take.ensures.takes)
          (call_steps c.lists.self c.take.new.self.counts c.take.result true c.lists.steps c.take.new.steps
          c.lists-test.true c.take.ensures.steps c.take.ensures.no_steps c.take.ensures.pending)
          c.lists.invariant.walked;
    }
