use Rattle.std.proofs.Common.{◌≡◌, ◌+◌, ◌-◌, ◌<◌, length, drop, Err, sym, ◌∙◌, ap, subst, arith}
use Rattle.std.proofs.lemmas.List.{take_at, length-map}
use Rattle.std.proofs.lemmas.Result.{err_from_is_err_and}
use Rattle.reader_answers.specs.Answers.{GivesAs}
use Rattle.isotopologue_sets.specs.Layers.{threshold_at}
use Rattle.sub_isotopologues.specs.Listings.{Listing}
use Rattle.layered_envelope.specs.declared.layers.Layers.{Layers}
use Rattle.layered_envelope.specs.declared.layer_end.LayerEnd.{LayerEnd}
use Rattle.layered_envelope.specs.declared.layer_end.TheConstants.{MAX_MEMBERS}
use Rattle.layered_envelope.specs.LayerLists.{elements_of, kinds_of, AreLayers, IsLast}
use Rattle.layered_envelope.specs.Layerings.{is_memory, end_within_limit}
use Rattle.layered_envelope.proofs.Thresholds.{number_is, later-lower, later-below, layers-given}
use Rattle.layered_envelope.proofs.LastEnds.{last-above, last-counted, last-given}
use Rattle.layered_envelope.proofs.LoweredLists.{kinds-elements}
use Rattle.layered_envelope.proofs.LayerAnswers.{layering, later_fault, steps_within}
use Rattle.layered_envelope.proofs.layers.Layers.skip_to.Goals as goal

pub next_end-requires-clause-lower : goal.next_end-requires-clause-lower
next_end-requires-clause-lower g c =
    let s = c.layers.inside in
    let later : s.given < c.args.number = omega (arith, ap (λ l. l.given) c.layers.view_is, c.requires.later) in
    rw c.deref_mut.ensures.value
    (later-lower s.lists.items s.modes.items s.mode_hi s.given c.layers.invariant.0 c.args.number later)

pub next_end-requires-clause-below : goal.next_end-requires-clause-below
next_end-requires-clause-below g c =
    let s = c.layers.inside in
    let later : s.given < c.args.number = omega (arith, ap (λ l. l.given) c.layers.view_is, c.requires.later) in
    rw c.deref.ensures.value
    (later-below s.lists.items s.modes.items s.mode_hi s.given c.layers.invariant.0 c.args.number later)

pub next_end-requires-clause-last : goal.next_end-requires-clause-last
next_end-requires-clause-last g c =
    let s = c.layers.inside in
    let later : s.given < c.args.number = omega (arith, ap (λ l. l.given) c.layers.view_is, c.requires.later) in
    rw c.deref_mut.ensures.value
    (last-counted s.lists.items s.modes.items s.mode_hi s.given c.layers.invariant.0 s.last c.layers.invariant.1
    c.args.number later)

pub next_end-requires-clause-last_above : goal.next_end-requires-clause-last_above
next_end-requires-clause-last_above g c =
    let s = c.layers.inside in
    let later : s.given < c.args.number = omega (arith, ap (λ l. l.given) c.layers.view_is, c.requires.later) in
    last-above s.lists.items s.modes.items s.mode_hi s.given c.layers.invariant.0 s.last c.layers.invariant.1
    c.args.number later

pub returns-in_err-end-clause-gives : goal.returns-in_err-end-clause-gives
returns-in_err-end-clause-gives g c =
    let s = c.layers.inside in
    let fault = c.in_err-end.field-0.0 in
    let p = err_from_is_err_and c.from_residual.result c.from_residual.ensures.1 in
    let number = number_is s.lists.items s.modes.items s.mode_hi s.given c.layers.invariant.0 c.args.number
    (omega (arith, c.requires.later)) in
    let gives = rw (c.deref_mut.ensures.value, number) at c.in_err-end.ensures.gives in
    rw (p.1, p.2)
    (later_fault (λ (found : Layers × LayerEnd). found.1) fault _ (subst (λ l. GivesAs (λ x. x) is_memory (Err fault)
    (end_within_limit l.elements (threshold_at l.elements (c.args.number - 1)))) c.layers.view_is gives))

pub returns-in_err-end-clause-steps_at_limit : goal.returns-in_err-end-clause-steps_at_limit
returns-in_err-end-clause-steps_at_limit g c =
    let p = err_from_is_err_and c.from_residual.result c.from_residual.ensures.1 in
    let n : length c.args.self.elements ≡ length c.deref_mut.result.now =
    ap (λ l. length l.elements) (sym c.layers.view_is) ∙ length-map c.layers.inside.lists.items (λ (l : Listing). l.element)
    ∙ ap length (sym c.deref_mut.ensures.value) in
    rw (p.1, n)
    (steps_within (length c.deref_mut.result.now) (MAX_MEMBERS + 1) c.next_end.new.steps c.args.steps.now
    c.in_err-end.ensures.steps_at_limit)

pub invariant_of-layers : goal.invariant_of-layers
invariant_of-layers g c =
    let s = c.layers.inside in
    let later : s.given < c.args.number = omega (arith, ap (λ l. l.given) c.layers.view_is, c.requires.later) in
    let new = c.next_end.new.lists in
    let e = take_at new (drop (length new) s.lists.items) s.lists.len (c.next_end.auto.lists
    ∙ c.deref_mut.ensures.len) in
    let kinds = c.in_ok-end.ensures.kinds ∙ ap kinds_of c.deref_mut.ensures.value in
    let gives = rw c.deref_mut.ensures.value at c.in_ok-end.ensures.gives in
    let cut = c.next_end.new.cutoffs in
    let written = take_at cut (drop (length cut) s.cutoffs.items) s.cutoffs.len (c.next_end.auto.cutoffs
    ∙ c.deref_mut-2.ensures.len) in
    let many = ap length written ∙ c.next_end.auto.cutoffs ∙ ap length c.deref_mut-2.ensures.value
    ∙ c.layers.invariant.2 in
    let kept = subst
    (λ ls. AreLayers ls s.modes.items s.mode_hi c.args.number
    × IsLast (elements_of ls) s.mode_hi c.args.number c.in_ok-end.end)
    (sym e) (
      layers-given s.lists.items s.modes.items s.mode_hi s.given c.layers.invariant.0 c.args.number later new kinds
          c.in_ok-end.ensures.at_least c.in_ok-end.ensures.ok c.requires.few,
      last-given s.lists.items s.modes.items s.mode_hi s.given c.layers.invariant.0 s.last c.layers.invariant.1
          c.args.number later new kinds c.in_ok-end.end c.in_ok-end.ensures.fits c.in_ok-end.ensures.threshold gives,
    ) in
    (kept.0, kept.1, many)

pub returns-clause-gives : goal.returns-clause-gives
returns-clause-gives g c =
    let s = c.layers.inside in
    let number = number_is s.lists.items s.modes.items s.mode_hi s.given c.layers.invariant.0 c.args.number
    (omega (arith, c.requires.later)) in
    rw (← c.layers.view_is) (rw (c.deref_mut.ensures.value, number) at c.in_ok-end.ensures.gives)

pub returns-clause-given : goal.returns-clause-given
returns-clause-given g c =
    let s = c.layers.inside in
    let new = c.next_end.new.lists in
    let e = take_at new (drop (length new) s.lists.items) s.lists.len (c.next_end.auto.lists
    ∙ c.deref_mut.ensures.len) in
    let kinds = c.in_ok-end.ensures.kinds ∙ ap kinds_of c.deref_mut.ensures.value in
    ap (λ ls. layering (elements_of ls) c.args.number) e
    ∙ ap (λ es. layering es c.args.number) (kinds-elements new s.lists.items kinds ∙ ap (λ l. l.elements) c.layers.view_is)

pub returns-clause-steps : goal.returns-clause-steps
returns-clause-steps g c =
    let n : length c.args.self.elements ≡ length c.deref_mut.result.now =
    ap (λ l. length l.elements) (sym c.layers.view_is) ∙ length-map c.layers.inside.lists.items (λ (l : Listing). l.element)
    ∙ ap length (sym c.deref_mut.ensures.value) in
    rw n
    (steps_within (length c.deref_mut.result.now) c.in_ok-end.end.members c.next_end.new.steps c.args.steps.now
    c.in_ok-end.ensures.steps)
