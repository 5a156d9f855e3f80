use Rattle.std.proofs.Common.{◌≡◌, ◌≤◌, ◌+◌, ◌*◌, [], length, sym, ap, ◌∙◌, arith}
use Rattle.std.proofs.lemmas.Bool.{leb-true}
use Rattle.formula_text.specs.Formulas.{atoms_of}
use Rattle.adducts.proofs.ItemLists.{parts-Distinct}
use Rattle.candidates.proofs.SureLists.{few-ion, none-of, some-atoms}
use Rattle.candidates.proofs.line.is_far_from_limits.Goals as goal

pub returns : goal.returns
returns c =
    let adduct = c.args.adduct.now in
    let formula = c.args.formula.now in
    let lost : adduct.lost ≡ [] =
    sym (c.items.ensures.items ∙ c.lost.ensures.lost) ∙ none-of c.items.result.now (c.if-not-is_empty.ensures) in
    let added = c.added-added.ensures.added in
    let atoms = c.atoms.ensures.atoms ∙ ap atoms_of added in
    let own = c.from-2.ensures ∙ c.atoms_in.ensures in
    let copies = c.from.ensures ∙ c.copies.ensures.copies in
    let copied = ap (λ n. n * c.from-2.result) copies ∙ ap (λ n. adduct.copies * n) own in
    let few : adduct.copies * atoms_of formula + atoms_of adduct.added ≤ 10000 =
    omega (arith, c.if-copied-from.false, copied, c.from-3.ensures ∙ atoms, c.from-4.ensures) in
    let others = ap length (c.items-2.ensures.items ∙ added) in
    λ short.
    few-ion adduct formula c.lost.ensures.adduct (parts-Distinct formula c.requires.parts) lost
    (some-atoms formula c.requires.some_atom c.requires.parts.positive) few
    (omega (arith, leb-true (length formula + length c.items-2.result.now) 20 short, others))
