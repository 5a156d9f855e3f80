use Rattle.std.proofs.Common.{◌≡◌, ◌≤◌, Some, None, Ok, refl, sym, ap, rules, arith}
use Rattle.std.specs.Option.{ForSome}
use Rattle.std.proofs.lemmas.Grind.{common_steps}
use Rattle.element_table.specs.Limits.{min_electron_mass, max_electron_mass}
use Rattle.element_table.specs.Elements.{IsTable}
use Rattle.element_table.specs.TableRows.{weightless_element}
use Rattle.element_table.proofs.Weights.{IsTable-from_weighted}
use Rattle.element_table.proofs.gathering.Gathered.into_table.Goals as goal
use Rattle.element_table.proofs.gathering.Gathered.into_table.Goals.{In_ok-elements}

-- the electron has been read
electron : (c : In_ok-elements) → c.args.self.electron ≡ Some c.in_ok-electron.electron
electron c = grind (arith, common_steps)

-- and all elements are collected
elements : (c : In_ok-elements) → c.in_ok-elements.elements.items ≡ c.args.self.elements
elements c = search rules

-- and where none is without weight, they make a table
table : (c : In_ok-elements) → weightless_element c.in_ok-elements.elements.items ≡ None
    → IsTable (record { electron = c.in_ok-electron.electron; elements = c.in_ok-elements.elements.items })
table c none =
    let within : ForSome c.args.self.electron (λ mass. (min_electron_mass ≤ mass) × (mass ≤ max_electron_mass)) =
    rw (← c.self.view_is) c.self.invariant.electron_ok in
    IsTable-from_weighted _ _ (within _ (electron c))
    (rw (elements c, ← c.self.view_is) c.self.invariant.elements_ok) none

pub new-requires : goal.new-requires
new-requires c =
    let none : weightless_element c.in_ok-elements.elements.items ≡ None = grind (arith, common_steps) in
    table (goal.at.new-requires c).In_ok-elements none

pub returns-in-Some-clause-table : goal.returns-in-Some-clause-table
returns-in-Some-clause-table c =
    let some : weightless_element c.in_ok-elements.elements.items ≡ Some c.in-Some.element.now = cc in
    rw (
      electron (goal.at.returns-in-Some-clause-table c).In_ok-elements,
      ← elements
          (goal.at.returns-in-Some-clause-table c).In_ok-elements,
      some,
      c.symbol.ensures.symbol,
    ) refl

pub returns-in-None-clause-table : goal.returns-in-None-clause-table
returns-in-None-clause-table c =
    let none : weightless_element c.in_ok-elements.elements.items ≡ None = grind (arith, common_steps) in
    rw (
      electron (goal.at.returns-in-None-clause-table c).In_ok-elements,
      ← elements
          (goal.at.returns-in-None-clause-table c).In_ok-elements,
      none,
    ) (ap Ok (sym c.new.ensures))

pub returns-in-None-clause-within : goal.returns-in-None-clause-within
returns-in-None-clause-within c =
    let none : weightless_element c.in_ok-elements.elements.items ≡ None = grind (arith, common_steps) in
    rw c.new.ensures (table (goal.at.returns-in-None-clause-within c).In_ok-elements none)
