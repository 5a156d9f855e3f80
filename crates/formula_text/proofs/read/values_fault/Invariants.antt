use Rattle.std.proofs.Common.{◌≡◌, ◌<◌, drop}
use Rattle.element_table.specs.Elements.{IsTable}
use Rattle.formula_text.specs.FormulaReader.{values_fault}
use Rattle.formula_text.proofs.read.values_fault.Given as goal

abbrev pub invariant-loop-part : goal.invariant-loop-part
invariant-loop-part l =
    (values_fault l.table l.parts
    ≡ values_fault l.table (drop l.part-index l.parts)) × (0 < l.part-index → IsTable l.table)
