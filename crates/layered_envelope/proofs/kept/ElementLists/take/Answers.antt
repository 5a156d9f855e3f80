use Rattle.std.proofs.Common.{◌<◌, length, ◌∙◌, arith}
use Rattle.std.proofs.lemmas.List.{get_or_default}
use Rattle.std.specs.Prelude.{None}
use Rattle.layered_envelope.proofs.PlacedLists.{list-at}
use Rattle.layered_envelope.proofs.kept.ElementLists.take.Goals as goal

pub returns-then-place-len-clause-element : goal.returns-then-place-len-clause-element
returns-then-place-len-clause-element c =
    let within : c.args.atoms < length c.self.inside.by_atoms.items = omega (arith, c.len.ensures, c.if-place-len.true) in
    rw (← c.self.view_is)
    (list-at c.self.inside.weights.items c.self.inside.by_atoms.items c.args.atoms c.take.result c.self.invariant
    (c.take.ensures.value ∙ c.index_mut.ensures.value ∙ get_or_default _ _ _ None within))
