use Rattle.std.proofs.Common.{◌≡◌, [], refl, length, ◌≤◌, ◌∷◌, ◌++◌, sym, ap, ◌∙◌, arith}
use Rattle.std.proofs.lemmas.List.{length-map, map-append}
use Rattle.std.proofs.lemmas.Bool.{eq-eqb, ne_eqb}
use Rattle.indexmap.proofs.CallerLemmas.{insert_entry-new}
use Rattle.std.specs.Map.{values_of}
use Rattle.std.specs.Str.{bytes_eq}
use Rattle.element_table.specs.TableRows.{element_with}
use Rattle.element_table.proofs.Entries.{lookup_by_symbol, values-with_isotope, symbols-set_value, with_isotope_of-new}
use Rattle.element_table.proofs.Entries.{AreElements-set_value, AreElements-push, fault_among-found, fault_among-new}
use Rattle.element_table.proofs.FaultSteps.{GivesAs-within, unless_fault-none, unless_fault-some}
use Rattle.element_table.proofs.gathering.add_isotope.Goals as goal
use Rattle.element_table.proofs.gathering.add_isotope.Goals.{Joined-branch-3}

pub returns-in-Some-clause-added : goal.returns-in-Some-clause-added
returns-in-Some-clause-added c =
    let written = c.get_mut.follows.holds c.add.new.self in
    let found = sym c.in-Some.ensures.value in
    GivesAs-within c.add.result (fault_among-found _ _ _ _ _ c.requires.symbols _ found)
    (λ is. rw written.0 (values-with_isotope _ _ _ _ _ _ c.requires.symbols found is))
    c.add.ensures.added

pub returns-in-Some-clause-symbols : goal.returns-in-Some-clause-symbols
returns-in-Some-clause-symbols c =
    let written = c.get_mut.follows.holds c.add.new.self in
    written.1 ∙ c.requires.symbols
    ∙ sym (rw written.0 (symbols-set_value _ _ _ _ (sym c.in-Some.ensures.value) c.add.ensures.symbol))

pub returns-in-Some-clause-elements : goal.returns-in-Some-clause-elements
returns-in-Some-clause-elements c =
    let written = c.get_mut.follows.holds c.add.new.self in
    let symbols = returns-in-Some-clause-symbols c in
    rw written.0 (AreElements-set_value _ _ _ c.requires.elements c.add.ensures.element (rw written.0 at written.2)
    (rw written.0 at symbols) (rw written.0 at written.4))

pub returns-then-len-eq-MAX_ELEMENTS-clause-added : goal.returns-then-len-eq-MAX_ELEMENTS-clause-added
returns-then-len-eq-MAX_ELEMENTS-clause-added c =
    let full : length c.args.elements.now.entries ≡ 120 =
    rw c.get_mut.follows.holds-at-none at (sym c.len.ensures.len ∙ c.if-len-eq-MAX_ELEMENTS.true) in
    unless_fault-some _ _ _
    (fault_among-new _ _ _ _ _ c.requires.symbols (sym c.in_default.ensures.value) ∙ rw (eq-eqb _ 120 full) refl)

room : (c : Joined-branch-3) → length c.args.elements.now.entries ≡ 120 → ⊥
room c =
    rw c.get_mut.follows.holds-at-none at
    (λ (full : length c.get_mut.follows.lender-at-none.entries ≡ 120). c.if-len-eq-MAX_ELEMENTS.false
    (c.len.ensures.len ∙ full))

-- the new element stands behind the others
entries : (c : Joined-branch-3)
    → c.insert.new.self.entries
    ≡ c.args.elements.now.entries ++
    (c.args.symbol, element_with c.args.symbol c.args.valence (c.args.isotope ∷ [])) ∷ []
entries c =
    rw c.get_mut.follows.holds-at-none at c.in_ok-insert.ensures.entries
    ∙ insert_entry-new bytes_eq c.args.elements.now c.args.symbol c.in_ok-element.element
    (sym c.in_default.ensures.value)
    ∙ ap (λ e. c.args.elements.now.entries ++ (c.args.symbol, e) ∷ []) c.in_ok-element.ensures.entry

pub returns-clause-added : goal.returns-clause-added
returns-clause-added c =
    let none = sym c.in_default.ensures.value in
    let no_fault = fault_among-new c.args.record_number _ c.args.valence c.args.isotope _ c.requires.symbols none in
    let added =
    with_isotope_of-new c.args.symbol c.args.valence c.args.isotope _ (sym (lookup_by_symbol _ _ c.requires.symbols)
    ∙ none) in
    unless_fault-none _ _ _ (no_fault ∙ rw (ne_eqb _ 120 (room c)) refl)
    (ap values_of (entries c) ∙ map-append _ _ _ ∙ sym added)

pub returns-clause-symbols : goal.returns-clause-symbols
returns-clause-symbols c =
    rw (entries c, map-append, map-append, map-append) (ap (λ l. l ++ c.args.symbol ∷ []) c.requires.symbols)

pub returns-clause-elements : goal.returns-clause-elements
returns-clause-elements c =
    let full = room c in
    let few : length c.args.elements.now.entries ≤ 120 = rw length-map at c.requires.elements.few in
    rw (entries c) (AreElements-push _ _ _ c.requires.elements
    (rw c.in_ok-element.ensures.entry at c.in_ok-element.ensures.element) (omega arith)
    (rw (entries c) at (returns-clause-symbols c)) (rw (entries c) at c.in_ok-insert.ensures.unique))
