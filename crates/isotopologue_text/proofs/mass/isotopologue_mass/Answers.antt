use Rattle.std.proofs.Common.{◌≤◌, arith}
use Rattle.std.specs.Prelude.{sum}
use Rattle.formula_text.specs.Formulas.{atoms_of}
use Rattle.isotopologue_text.proofs.CountsLemmas.{counts-agree, counts-few}
use Rattle.isotopologue_text.proofs.mass.isotopologue_mass.Goals as goal

pub counts_mass-requires-clause-agree : goal.counts_mass-requires-clause-agree
counts_mass-requires-clause-agree c =
    rw c.items-items.ensures.items (counts-agree c.args.table.now c.args.formula.now c.args.counts.now c.requires.isotopologue)

pub counts_mass-requires-clause-few_atoms : goal.counts_mass-requires-clause-few_atoms
counts_mass-requires-clause-few_atoms c =
    let few : sum c.args.counts.now ≤ atoms_of c.args.formula.now =
    counts-few c.args.table.now c.args.formula.now c.args.counts.now c.requires.isotopologue in
    let all : atoms_of c.args.formula.now ≤ 20000 = c.items-items.ensures.formula.parts.few_atoms in
    omega arith
