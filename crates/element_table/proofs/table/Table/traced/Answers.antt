use Rattle.std.proofs.Common.{◌≡◌, ◌∙◌, None, ap, find, sym}
use Rattle.element_table.specs.Tracers.{is_weightless_by, traced_elements}
use Rattle.element_table.proofs.TracedElements.{DifferInWeights-traced, IsTable-traced}
use Rattle.element_table.proofs.table.Table.traced.Goals as goal
use Rattle.element_table.proofs.table.Table.traced.Goals.{In_ok-elements}

-- the elements are those of the table with the weights of the rows
elements : (c : In_ok-elements)
    → c.in_ok-elements.elements.items ≡ traced_elements c.in_ok-rows.rows.items c.self.inside.elements.items
elements c =
    c.in_ok-elements.ensures ∙ ap (λ rows. traced_elements rows c.self.inside.elements.items) c.deref.ensures.value

pub new-requires : goal.new-requires
new-requires c =
    let traced = elements (goal.at.new-requires c).In_ok-elements in
    let none : find (is_weightless_by c.in_ok-rows.rows.items)
    (traced_elements c.in_ok-rows.rows.items c.self.inside.elements.items) ≡ None =
    rw (c.deref-2.ensures.value, c.deref-3.ensures.value, traced) at (sym c.in-None.ensures) in
    rw traced (IsTable-traced _ _ c.in_ok-rows.ensures.within c.self.invariant none)

pub returns-clause-kept : goal.returns-clause-kept
returns-clause-kept c =
    let traced = elements (goal.at.returns-clause-kept c).In_ok-elements in
    rw (c.new.ensures, traced, ← c.self.view_is) (DifferInWeights-traced c.in_ok-rows.rows.items _)
