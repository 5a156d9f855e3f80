use Rattle.std.proofs.Common.{◌≡◌, ◌*◌, ◌≤◌, take}
use Rattle.element_table.specs.Elements.{total_weight}
use Rattle.element_table.proofs.element.Element.total.Given as goal

abbrev pub invariant-loop-isotope : goal.invariant-loop-isotope
invariant-loop-isotope l =
    (l.total ≡ total_weight (take l.isotope-index l.isotope-items)) × (l.total ≤ 1000000000000 * l.isotope-index)
