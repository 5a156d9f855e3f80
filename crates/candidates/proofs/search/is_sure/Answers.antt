use Rattle.std.proofs.Common.{◌≡◌, ◌≤◌, ◌+◌, ◌*◌, ◌/◌, [], length, sym, ap, ◌∙◌, arith}
use Rattle.std.proofs.lemmas.Bool.{and_parts, leb-true}
use Rattle.std.proofs.lemmas.List.{length-map}
use Rattle.std.specs.Prelude.{nat_le}
use Rattle.alphabet_text.specs.declared.entries.AlphabetEntry.{AlphabetEntry}
use Rattle.adducts.specs.Adducts.{AdductValue}
use Rattle.formula_text.specs.Formulas.{atoms_of}
use Rattle.decompose.specs.Masses as lists
use Rattle.candidates.proofs.SureLists.{sure-formed, none-of}
use Rattle.candidates.specs.PeakFormulas.{masses_of}
use Rattle.candidates.proofs.search.is_sure.Goals as goal

pub returns : goal.returns
returns c =
    let premises = c.args.premises.now in
    let adduct = premises.adduct in
    let same = c.adduct-adduct.ensures.adduct in
    let rules : premises.rules ≡ [] =
    sym (c.rules-2.ensures.rules ∙ c.rules.ensures.rules)
    ∙ none-of c.rules-2.result.now (c.if-not-is_empty.ensures) in
    let lost : adduct.lost ≡ [] =
    sym (c.items.ensures.items ∙ c.lost.ensures.lost ∙ ap (λ (a : AdductValue). a.lost) same)
    ∙ none-of c.items.result.now (c.if-not-is_empty-2.ensures) in
    let added = c.added-added.ensures.added ∙ ap (λ (a : AdductValue). a.added) same in
    let atoms = c.atoms.ensures.atoms ∙ ap atoms_of added in
    let copies = c.copies.ensures.copies ∙ ap (λ (a : AdductValue). a.copies) same in
    let hi = c.args.window.hi in
    let copied = ap (λ n. n * (hi / 500000000000)) (c.from.ensures ∙ copies) in
    let few : adduct.copies * (hi / 500000000000) + atoms_of adduct.added ≤ 10000 =
    omega (arith, c.if-copied-from.false, copied, c.from-2.ensures ∙ atoms, c.from-3.ensures) in
    let items = ap length c.items-2.ensures.items ∙ length-map c.alphabet.result.now (λ (e : AlphabetEntry). e.item)
    ∙ ap length c.alphabet.ensures.alphabet in
    let others = ap length (c.items-3.ensures.items ∙ added) in
    λ short counts h.
    let mass = lists.mass_of (masses_of premises.alphabet) counts in
    let both = and_parts (nat_le c.args.window.lo mass) (nat_le mass hi) h in
    let from = leb-true c.args.window.lo mass both.0 in
    sure-formed premises hi counts c.adduct-adduct.ensures.premises rules lost few
    (omega (arith, leb-true (length c.items-2.result.now + length c.items-3.result.now) 20 short, items, others))
    (omega (arith, from, c.requires.above_zero)) (leb-true mass hi both.1)
