use Rattle.std.proofs.Common.{◌≡◌, ◌≤◌, take}
use Rattle.formula_text.specs.Formulas.{atoms_of}
use Rattle.formula_text.proofs.sum.has_many_atoms.Given as goal

abbrev pub invariant-loop-count : goal.invariant-loop-count
invariant-loop-count l = (l.atoms ≡ atoms_of (take l.count-index l.parts)) × (l.atoms ≤ 20000)
