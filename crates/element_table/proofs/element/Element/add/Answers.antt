use Rattle.std.proofs.Common.{arith, rules, sym, ap, ◌∙◌}
use Rattle.std.proofs.lemmas.List.Sorted.{answers_always}
use Rattle.element_table.proofs.FaultSteps.{unless_fault-none, unless_fault-some}
use Rattle.element_table.proofs.IsotopeFault.{isotope_fault-repeated, isotope_fault-full, isotope_fault-none}
use Rattle.element_table.proofs.Rising.{IsGap, IsGap-none, IsGap-insert, IsGap-from_search, IsElement-insert}
use Rattle.element_table.proofs.Rising.{found_by_search, with_isotope-placed}
use Rattle.element_table.proofs.element.Element.add.Goals as goal
use Rattle.element_table.proofs.element.Element.add.Goals.{In-Err}
use Rattle.element_table.specs.Elements.{ElementEntry, reference_place}
use Rattle.element_table.specs.declared.element.Element.TheInside.{Inside}

-- the element as contracts see it
abbrev entry : Inside → ElementEntry
entry e = record { symbol = e.symbol; valence = e.valence; isotopes = e.isotopes.items; reference = e.reference }

-- the isotope that the search found has the mass number
pub returns-in-Ok-clause-added : goal.returns-in-Ok-clause-added
returns-in-Ok-clause-added c =
    let by_number = c.in-Ok.ensures.position (λ i. i.number) (answers_always _ _ _ (λ f a r g called. search rules)) in
    let found =
    rw c.deref.ensures.value at
    (found_by_search c.deref.result.now c.args.isotope.number c.in-Ok.field-0 c.in-Ok.ensures.bound by_number) in
    rw (← c.self.view_is)
    (unless_fault-some _ _ _ (isotope_fault-repeated _
    (entry c.self.inside) _ c.args.isotope c.if-self-valence.false found))

-- the place that the search gave
gap : (c : In-Err) → IsGap c.self.inside.isotopes.items c.args.isotope.number c.in-Err.field-0
gap c =
    let by_number = c.in-Err.ensures.position (λ i. i.number) (answers_always _ _ _ (λ f a r g called. search rules)) in
    rw c.deref.ensures.value at (IsGap-from_search c.deref.result.now c.args.isotope.number c.in-Err.field-0
    (rw c.deref.ensures.value c.self.invariant.rising) c.in-Err.ensures.bound by_number)

pub returns-in-Err-clause-added : goal.returns-in-Err-clause-added
returns-in-Err-clause-added c =
    let none = IsGap-none (gap (goal.at.returns-in-Err-clause-added c).In-Err) in
    rw (← c.self.view_is) (unless_fault-some _ _ _
    (isotope_fault-full _ (entry c.self.inside) _ c.args.isotope c.if-self-valence.false none (omega arith)))

pub invariant_of-self-in-Err-2 : goal.invariant_of-self-in-Err-2
invariant_of-self-in-Err-2 c =
    let items = c.in_ok-insert-in-Err-2.ensures.items in
    let first = c.reference_place-self-inside.ensures ∙ ap reference_place (c.deref-in-Err-2.ensures.value ∙ items) in
    let place = gap (goal.at.invariant_of-self-in-Err-2 c).In-Err in
    rw items (IsElement-insert (entry c.self.inside) _ _ _ c.self.invariant c.requires place (omega arith) first)

pub returns-in_ok-insert-in-Err-2-clause-element : goal.returns-in_ok-insert-in-Err-2-clause-element
returns-in_ok-insert-in-Err-2-clause-element c = invariant_of-self-in-Err-2 c

pub returns-in_ok-insert-in-Err-2-clause-added : goal.returns-in_ok-insert-in-Err-2-clause-added
returns-in_ok-insert-in-Err-2-clause-added c =
    let place = gap (goal.at.returns-in_ok-insert-in-Err-2-clause-added c).In-Err in
    let placed = IsGap-insert _ _ c.args.isotope place in
    let first = c.reference_place-self-inside.ensures ∙ ap reference_place c.deref-in-Err-2.ensures.value in
    rw (← c.self.view_is) (unless_fault-none _ _ _
    (isotope_fault-none _ (entry c.self.inside) _ c.args.isotope c.if-self-valence.false (IsGap-none place)
    (omega arith))
    (with_isotope-placed (entry c.self.inside) c.args.isotope _ _
    (c.in_ok-insert-in-Err-2.ensures.items ∙ sym placed) first))
