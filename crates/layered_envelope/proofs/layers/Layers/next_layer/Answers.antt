use Rattle.std.proofs.Common.{◌≡◌, ◌≢◌, ℕ, ◌+◌, ◌/◌, ◌^◌, ◌<◌, length, drop, Err, sym, ◌∙◌, ap, subst, arith}
use Rattle.std.proofs.lemmas.List.{take_at, length-map}
use Rattle.std.proofs.lemmas.Result.{err_from_is_err_and}
use Rattle.reader_answers.specs.Answers.{Gives}
use Rattle.sub_isotopologues.specs.Listings.{Listing}
use Rattle.layered_envelope.specs.LayerLists.{elements_of, kinds_of, AreLayers, IsLast}
use Rattle.layered_envelope.specs.Layerings.{is_memory, next_end}
use Rattle.layered_envelope.proofs.Thresholds.{next_is, last_is, few-unless_last, later-lower, later-below, layers-lowered, layers-given}
use Rattle.layered_envelope.proofs.LastEnds.{last-above, last-same, last-counted, last-given}
use Rattle.layered_envelope.proofs.LoweredLists.{kinds-elements}
use Rattle.layered_envelope.proofs.LayerAnswers.{layering, all_given, not_all_given, end_given, fault_given, steps_within, seen_given}
use Rattle.layered_envelope.proofs.layers.Layers.next_layer.Goals as goal
use Rattle.layered_envelope.proofs.layers.Layers.next_layer.Goals.{else-self-gt0-via-then-self-gt0+else-self-eq0, else-self-gt0-via-else-self-gt0}

pub returns-then-self-eq0-clause-gives : goal.returns-then-self-eq0-clause-gives
returns-then-self-eq0-clause-gives g c =
    let s = c.self.inside in
    let last = last_is s.lists.items s.modes.items s.mode_hi s.given c.self.invariant.0 c.if-self-gt0.true in
    rw (← c.self.view_is)
    (all_given (layering (elements_of s.lists.items) s.given) c.if-self-gt0.true (sym last ∙ c.if-self-eq0.true))

pub next_end-requires-clause-lower : goal.next_end-requires-clause-lower
next_end-requires-clause-lower g c =
    let s = c.self.inside in
    rw c.deref_mut.ensures.value (later-lower s.lists.items s.modes.items s.mode_hi s.given c.self.invariant.0 (s.given + 1) (omega arith))

pub next_end-requires-clause-below : goal.next_end-requires-clause-below
next_end-requires-clause-below g c =
    let s = c.self.inside in
    rw c.deref.ensures.value (later-below s.lists.items s.modes.items s.mode_hi s.given c.self.invariant.0 (s.given + 1) (omega arith))

pub next_end-requires-clause-last : goal.next_end-requires-clause-last
next_end-requires-clause-last g c =
    let s = c.self.inside in
    rw c.deref_mut.ensures.value
    (last-counted s.lists.items s.modes.items s.mode_hi s.given c.self.invariant.0 s.last c.self.invariant.1 (s.given + 1)
    (omega arith))

pub next_end-requires-clause-last_above : goal.next_end-requires-clause-last_above
next_end-requires-clause-last_above g c =
    let s = c.self.inside in
    last-above s.lists.items s.modes.items s.mode_hi s.given c.self.invariant.0 s.last c.self.invariant.1 (s.given + 1)
    (omega arith)

pub invariant_of-self : goal.invariant_of-self
invariant_of-self g c =
    let s = c.self.inside in
    let new = c.next_end.new.lists in
    let e = take_at new (drop (length new) s.lists.items) s.lists.len (c.next_end.auto.lists
    ∙ c.deref_mut.ensures.len) in
    let kinds = c.in_err-end.ensures.kinds ∙ ap kinds_of c.deref_mut.ensures.value in
    let cut = c.next_end.new.cutoffs in
    let written = take_at cut (drop (length cut) s.cutoffs.items) s.cutoffs.len (c.next_end.auto.cutoffs
    ∙ c.deref_mut-2.ensures.len) in
    let many = ap length written ∙ c.next_end.auto.cutoffs ∙ ap length c.deref_mut-2.ensures.value
    ∙ c.self.invariant.2 in
    let kept = subst
    (λ ls. AreLayers ls s.modes.items s.mode_hi s.given × IsLast (elements_of ls) s.mode_hi s.given s.last) (sym e) (
      layers-lowered s.lists.items s.modes.items s.mode_hi s.given c.self.invariant.0 new kinds
          c.in_err-end.ensures.at_least (rw c.deref_mut.ensures.value at c.in_err-end.ensures.at_most),
      last-same s.lists.items s.modes.items s.mode_hi s.given c.self.invariant.0 s.last c.self.invariant.1 new kinds,
    ) in
    (kept.0, kept.1, many)

pub returns-in_err-end-clause-gives : goal.returns-in_err-end-clause-gives
returns-in_err-end-clause-gives g c =
    let s = c.self.inside in
    let es = elements_of s.lists.items in
    let fault = c.in_err-end.field-0.0 in
    let p = err_from_is_err_and c.from_residual.result c.from_residual.ensures.1 in
    let more : 0 < s.given → s.mode_hi / 2 ^ s.given ≢ 0 =
    elim c.else-self-gt0.branch [
      | else-self-gt0-via-then-self-gt0+else-self-eq0 w ↦ λ some. w.if-self-eq0.false
      | else-self-gt0-via-else-self-gt0 w ↦ λ some. absurd (omega (arith, w.if-self-gt0.false))
    ] in
    let not_all = not_all_given (layering es s.given)
    (λ some last. more some (last_is s.lists.items s.modes.items s.mode_hi s.given c.self.invariant.0 some ∙ last)) in
    let gives =
    rw (c.deref_mut.ensures.value, next_is s.lists.items s.modes.items s.mode_hi s.given c.self.invariant.0) at
    c.in_err-end.ensures.gives in
    rw (p.1, p.2)
    (subst (λ l. Gives is_memory (Err fault) (next_end l)) c.self.view_is
    (fault_given (layering es s.given) fault not_all gives))

pub returns-in_err-end-clause-unchanged : goal.returns-in_err-end-clause-unchanged
returns-in_err-end-clause-unchanged g c =
    let s = c.self.inside in
    let new = c.next_end.new.lists in
    let p = err_from_is_err_and c.from_residual.result c.from_residual.ensures.1 in
    let e = take_at new (drop (length new) s.lists.items) s.lists.len (c.next_end.auto.lists
    ∙ c.deref_mut.ensures.len) in
    let kinds = c.in_err-end.ensures.kinds ∙ ap kinds_of c.deref_mut.ensures.value in
    rw p.1
    (ap (λ ls. layering (elements_of ls) s.given) e
    ∙ ap (λ es. layering es s.given) (kinds-elements new s.lists.items kinds)
    ∙ c.self.view_is)

pub invariant_of-self-2 : goal.invariant_of-self-2
invariant_of-self-2 g c =
    let s = c.self.inside in
    let new = c.next_end.new.lists in
    let e = take_at new (drop (length new) s.lists.items) s.lists.len (c.next_end.auto.lists
    ∙ c.deref_mut.ensures.len) in
    let kinds = c.in_ok-end.ensures.kinds ∙ ap kinds_of c.deref_mut.ensures.value in
    let more : 0 < s.given → s.mode_hi / 2 ^ s.given ≢ 0 =
    elim c.else-self-gt0.branch [
      | else-self-gt0-via-then-self-gt0+else-self-eq0 w ↦ λ some. w.if-self-eq0.false
      | else-self-gt0-via-else-self-gt0 w ↦ λ some. absurd (omega (arith, w.if-self-gt0.false))
    ] in
    let gives = rw c.deref_mut.ensures.value at c.in_ok-end.ensures.gives in
    let cut = c.next_end.new.cutoffs in
    let written = take_at cut (drop (length cut) s.cutoffs.items) s.cutoffs.len (c.next_end.auto.cutoffs
    ∙ c.deref_mut-2.ensures.len) in
    let many = ap length written ∙ c.next_end.auto.cutoffs ∙ ap length c.deref_mut-2.ensures.value
    ∙ c.self.invariant.2 in
    let kept = subst
    (λ ls. AreLayers ls s.modes.items s.mode_hi (s.given + 1)
    × IsLast (elements_of ls) s.mode_hi (s.given + 1) c.in_ok-end.end)
    (sym e) (
      layers-given s.lists.items s.modes.items s.mode_hi s.given c.self.invariant.0 (s.given + 1) (omega arith) new kinds
          c.in_ok-end.ensures.at_least c.in_ok-end.ensures.ok
          (few-unless_last (elements_of s.lists.items) c.self.invariant.0.lists_are.elements.weights s.given
          c.self.invariant.0.few
          (λ some last. more some (last_is s.lists.items s.modes.items s.mode_hi s.given c.self.invariant.0 some ∙ last))),
      last-given s.lists.items s.modes.items s.mode_hi s.given c.self.invariant.0 s.last c.self.invariant.1 (s.given + 1)
          (omega arith) new kinds c.in_ok-end.end c.in_ok-end.ensures.fits c.in_ok-end.ensures.threshold gives,
    ) in
    (kept.0, kept.1, many)

pub returns-clause-gives : goal.returns-clause-gives
returns-clause-gives g c =
    let s = c.self.inside in
    let es = elements_of s.lists.items in
    let more : 0 < s.given → s.mode_hi / 2 ^ s.given ≢ 0 =
    elim c.else-self-gt0.branch [
      | else-self-gt0-via-then-self-gt0+else-self-eq0 w ↦ λ some. w.if-self-eq0.false
      | else-self-gt0-via-else-self-gt0 w ↦ λ some. absurd (omega (arith, w.if-self-gt0.false))
    ] in
    let not_all = not_all_given (layering es s.given)
    (λ some last. more some (last_is s.lists.items s.modes.items s.mode_hi s.given c.self.invariant.0 some ∙ last)) in
    let gives =
    rw (c.deref_mut.ensures.value, next_is s.lists.items s.modes.items s.mode_hi s.given c.self.invariant.0) at
    c.in_ok-end.ensures.gives in
    rw (← c.self.view_is) (end_given (layering es s.given) c.in_ok-end.end not_all gives)

pub returns-clause-given : goal.returns-clause-given
returns-clause-given g c =
    let s = c.self.inside in
    let new = c.next_end.new.lists in
    let e = take_at new (drop (length new) s.lists.items) s.lists.len (c.next_end.auto.lists
    ∙ c.deref_mut.ensures.len) in
    let kinds = c.in_ok-end.ensures.kinds ∙ ap kinds_of c.deref_mut.ensures.value in
    let one =
    ap (λ (n : ℕ). n + 1) (sym (seen_given (elements_of s.lists.items) s.given c.args.self.now c.self.view_is)) in
    ap (λ ls. layering (elements_of ls) (s.given + 1)) e
    ∙ ap (λ es. layering es (s.given + 1)) (kinds-elements new s.lists.items kinds
    ∙ ap (λ l. l.elements) c.self.view_is)
    ∙ ap (λ (n : ℕ). layering c.args.self.now.elements n) one

pub returns-clause-steps : goal.returns-clause-steps
returns-clause-steps g c =
    let s = c.self.inside in
    let n : length c.args.self.now.elements ≡ length c.deref_mut.result.now =
    ap (λ l. length l.elements) (sym c.self.view_is) ∙ length-map s.lists.items (λ (l : Listing). l.element)
    ∙ ap length (sym c.deref_mut.ensures.value) in
    rw n
    (steps_within (length c.deref_mut.result.now) c.in_ok-end.end.members c.next_end.new.steps c.args.steps.now
    c.in_ok-end.ensures.steps)
