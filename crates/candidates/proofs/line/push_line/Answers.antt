use Rattle.std.proofs.Common.{◌≡◌, length, take, sym, ap, subst, ◌∙◌}
use Rattle.std.specs.Prelude.{AllPairs}
use Rattle.std.proofs.lemmas.List.{length-map}
use Rattle.written_items.specs.declared.item.Item.{Item}
use Rattle.alphabet_text.specs.declared.entries.AlphabetEntry.{AlphabetEntry}
use Rattle.decompose.specs.Masses.{mass_of}
use Rattle.candidates.specs.PeakFormulas.{items_of, masses_of}
use Rattle.candidates.proofs.AlphabetMasses.{apart-items, box-length}
use Rattle.candidates.proofs.LineTexts.{written-formula, written-mass, written-light}
use Rattle.candidates.proofs.line.push_line.Goals as goal

pub write-count-requires-clause-different : goal.write-count-requires-clause-different
write-count-requires-clause-different c =
    subst (AllPairs (λ (a b : Item). a ≡ b → ⊥)) (sym c.items-items.ensures.items)
    (apart-items c.alphabet-alphabet.result.now c.items-items.ensures.alphabet)

pub write-count-requires-clause-one_count_each : goal.write-count-requires-clause-one_count_each
write-count-requires-clause-one_count_each c =
    box-length c.args.premises.now.alphabet c.args.counts.now c.requires.in_box
    ∙ sym (ap length c.alphabet-alphabet.ensures.alphabet)
    ∙ sym (ap length c.items-items.ensures.items ∙ length-map c.alphabet-alphabet.result.now (λ (e : AlphabetEntry). e.item))

pub mass_of-mass-requires-clause-one_count_each : goal.mass_of-mass-requires-clause-one_count_each
mass_of-mass-requires-clause-one_count_each c =
    box-length c.args.premises.now.alphabet c.args.counts.now c.requires.in_box
    ∙ sym (ap length c.alphabet-alphabet.ensures.alphabet)
    ∙ sym (ap length c.masses.ensures.masses ∙ length-map c.alphabet-alphabet.result.now (λ (e : AlphabetEntry). e.mass))

pub mass_of-mass-requires-clause-light : goal.mass_of-mass-requires-clause-light
mass_of-mass-requires-clause-light c =
    let premises = c.args.premises.now in
    let is = c.alphabet-alphabet.ensures.premises in
    let of_items = c.items-items.ensures.items ∙ ap items_of c.alphabet-alphabet.ensures.alphabet in
    let of_masses = c.masses.ensures.masses ∙ ap masses_of c.alphabet-alphabet.ensures.alphabet in
    let written = take c.write-count.result c.write-count.new.room in
    written-light premises (mass_of c.masses.result.now c.args.counts.now) written is
    (written-formula premises c.args.counts.now c.items-items.result.now written is c.requires
    c.write-count.ensures.formula of_items c.write-count.ensures.items)
    (written-mass premises c.args.counts.now c.items-items.result.now c.masses.result.now written is
    c.write-count.ensures.formula of_items of_masses)

pub push_formula-requires-clause-formula : goal.push_formula-requires-clause-formula
push_formula-requires-clause-formula c =
    written-formula c.args.premises.now c.args.counts.now c.items-items.result.now _ c.alphabet-alphabet.ensures.premises
    c.requires c.write-count.ensures.formula
    (c.items-items.ensures.items ∙ ap items_of c.alphabet-alphabet.ensures.alphabet) c.write-count.ensures.items

pub push_formula-requires-clause-mass : goal.push_formula-requires-clause-mass
push_formula-requires-clause-mass c =
    c.mass_of-mass.ensures
    ∙ written-mass c.args.premises.now c.args.counts.now c.items-items.result.now c.masses.result.now _
    c.alphabet-alphabet.ensures.premises c.write-count.ensures.formula
    (c.items-items.ensures.items ∙ ap items_of c.alphabet-alphabet.ensures.alphabet)
    (c.masses.ensures.masses ∙ ap masses_of c.alphabet-alphabet.ensures.alphabet)
