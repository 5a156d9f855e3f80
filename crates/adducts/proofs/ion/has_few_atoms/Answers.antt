use Rattle.std.proofs.Common.{◌≤◌, arith}
use Rattle.std.proofs.lemmas.List.Elements.{recursion_from_All}
use Rattle.adducts.proofs.MassBounds.{few-atoms}
use Rattle.adducts.proofs.ion.has_few_atoms.Goals as goal

pub atoms_in-requires : goal.atoms_in-requires
atoms_in-requires c =
    let few = few-atoms c.args.counts.now (recursion_from_All _ c.args.counts.now c.requires.few_of_each) in
    let items = c.requires.few in
    omega (arith, few, items)
