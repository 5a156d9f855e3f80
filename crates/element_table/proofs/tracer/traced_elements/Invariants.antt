use Rattle.std.proofs.Common.{◌≡◌, take}
use Rattle.element_table.specs.Tracers.{traced_elements}
use Rattle.element_table.proofs.tracer.traced_elements.Given as goal

abbrev pub invariant-loop-element : goal.invariant-loop-element
invariant-loop-element l = l.traced.items ≡ traced_elements l.rows (take l.element-index l.element-items)
