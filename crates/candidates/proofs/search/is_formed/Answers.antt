use Rattle.std.proofs.Common.{◌≡◌, ℕ, sym, ap, subst, ◌∙◌}
use Rattle.std.specs.Prelude.{All, AllPairs, is_some}
use Rattle.std.specs.List.{zip}
use Rattle.written_items.specs.declared.item.Item.{Item}
use Rattle.formula_text.specs.Formulas.{IsFormula, IsItem, formula_in, sum_of, within_limits}
use Rattle.candidates.specs.PeakFormulas.{items_of}
use Rattle.candidates.specs.Searches.{passes}
use Rattle.candidates.proofs.AlphabetMasses.{apart-items}
use Rattle.candidates.proofs.CandidateTests.{formula-counts}
use Rattle.candidates.proofs.search.is_formed.Goals as goal

pub write-count-requires-clause-different : goal.write-count-requires-clause-different
write-count-requires-clause-different c =
    subst (AllPairs (λ (a b : Item). a ≡ b → ⊥)) (sym c.items-items.ensures.items)
    (apart-items c.alphabet.result.now c.items-items.ensures.alphabet)

pub passes-requires-clause-formula : goal.passes-requires-clause-formula
passes-requires-clause-formula c =
    let sum = c.write-count.ensures.formula in
    λ h. subst IsFormula (sym sum)
    (formula-counts (zip c.items-items.result.now c.args.counts.now)
    (subst (All (λ (p : Item × ℕ). IsItem p.0)) sum c.write-count.ensures.items)
    (ap (λ f. is_some (formula_in (within_limits f))) (sym sum) ∙ h))

pub returns-clause-formed : goal.returns-clause-formed
returns-clause-formed c =
    c.passes.ensures
    ∙ ap (passes c.args.premises.now) (c.write-count.ensures.formula
    ∙ ap (λ items. sum_of (zip items c.args.counts.now))
    (c.items-items.ensures.items ∙ ap items_of c.alphabet.ensures.alphabet))
