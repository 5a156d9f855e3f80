use Rattle.std.proofs.Common.{ap, arith, ◌∙◌}
use Rattle.std.specs.Prelude.{Ok}
use Rattle.std.proofs.lemmas.Result.{err_from_is_err_and}
use Rattle.layered_envelope.specs.Layerings.{with_next}
use Rattle.reaching_layer.proofs.SearchSteps.{never_all, never_none, reached, faulty}
use Rattle.reaching_layer.proofs.search.search_with.Goals as goal

pub returns-in_err-end-clause-fault : goal.returns-in_err-end-clause-fault
returns-in_err-end-clause-fault g c =
    let p = err_from_is_err_and c.from_residual.result c.from_residual.ensures.1 in
    rw (p.1, p.2)
    (faulty c.args.layers.now.elements c.requires.elements c.args.coverage c.requires.below_one c.loop-count.count
    c.loop-count.invariant.2 c.loop-count.layers c.loop-count.invariant.0 c.loop-count.invariant.1
    c.loop-count-test.true c.in_err-end.field-0.0 c.in_err-end.ensures.gives)

pub unreachable-requires : goal.unreachable-requires
unreachable-requires g c =
    never_none c.args.layers.now.elements c.requires.elements c.args.coverage c.requires.below_one c.loop-count.count
    c.loop-count.invariant.2 c.loop-count.layers c.loop-count.invariant.0 c.loop-count.invariant.1
    (c.in_ok-end.ensures.gives ∙ ap (λ o. Ok o) c.in_default.is)

pub unreachable-requires-2 : goal.unreachable-requires-2
unreachable-requires-2 g c =
    never_all c.args.layers.now.elements c.requires.elements c.args.coverage c.requires.below_one c.loop-count.count
    c.loop-count.invariant.2 (omega arith)

pub returns-then-end-from-clause-layers : goal.returns-then-end-from-clause-layers
returns-then-end-from-clause-layers g c =
    (reached c.args.layers.now.elements c.requires.elements c.args.coverage c.requires.below_one c.loop-count.count
    c.loop-count.invariant.2 c.loop-count.layers c.loop-count.invariant.0 c.loop-count.invariant.1 c.in-Some.end
    (c.in_ok-end.ensures.gives ∙ ap (λ o. Ok o) c.in-Some.is) c.loop-count-test.true
    (omega (arith, c.from.ensures, c.if-end-from.true)) c.next_layer.new.self
    (c.in_ok-end.ensures.given ∙ ap (with_next c.loop-count.layers) c.in-Some.is))
