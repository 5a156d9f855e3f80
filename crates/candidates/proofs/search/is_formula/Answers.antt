use Rattle.std.proofs.Common.{◌≡◌, ◌<◌, length, ◌∙◌, sym, ap, arith}
use Rattle.std.specs.Prelude.{nat_le}
use Rattle.std.proofs.lemmas.Bool.Decides.{nat_tests}
use Rattle.adducts.proofs.MassBounds.{few-atoms}
use Rattle.candidates.proofs.CandidateTests.{none-formed, big-formed, few-formed, few-each}
use Rattle.candidates.proofs.search.is_formula.Goals as goal

pub atoms_in-requires : goal.atoms_in-requires
atoms_in-requires c =
    let few = few-atoms c.args.items.now (few-each c.args.items.now (sym c.if-not-has_few_of_each.ensures)) in
    omega (arith, few, c.requires)

pub returns : goal.returns
returns c =
    let some : 0 < length c.args.items.now = grind (arith, nat_tests, c.if-is_empty.ensures) in
    ap (λ n. nat_le n 20000) c.atoms_in.ensures
    ∙ sym (few-formed c.args.items.now c.requires some (sym c.if-not-has_few_of_each.ensures))

pub returns-then-is_empty : goal.returns-then-is_empty
returns-then-is_empty c =
    let none : length c.args.items.now ≡ 0 = grind (arith, nat_tests, c.if-is_empty.ensures) in
    sym (none-formed c.args.items.now none)

pub returns-then-not-has_few_of_each : goal.returns-then-not-has_few_of_each
returns-then-not-has_few_of_each c =
    sym (big-formed c.args.items.now (sym c.if-not-has_few_of_each.ensures))
