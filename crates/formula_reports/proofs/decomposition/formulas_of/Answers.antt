use Rattle.std.proofs.Common.{◌≡◌, ℕ, List, [], ◌∷◌, ◌++◌, refl, ap, ◌∙◌}
use Rattle.std.specs.Prelude.{Option}
use Rattle.written_items.specs.declared.item.Item.{Item}
use Rattle.candidates.specs.Enumeration.{formulas_left}
use Rattle.formula_reports.specs.PageFormulas.{first_of}
use Rattle.formula_reports.proofs.PageLines.{page_next}
use Rattle.formula_reports.proofs.decomposition.formulas_of.Goals as goal

pub formulas-preserved : goal.formulas-preserved
formulas-preserved g c =
    let done : List (List (Item × ℕ)) = c.formulas.formulas.items in
    let left : List (List (Item × ℕ)) = formulas_left c.formulas.candidates in
    let rest : List (List (Item × ℕ)) = formulas_left c.next.new.self in
    let formula : List (Item × ℕ) = c.in-Some.formula in
    let next : left ≡ formula ∷ rest = rw c.in-Some.is at c.in_ok-formula.ensures.next in
    ap (λ (fs : List (List (Item × ℕ))). fs ++ first_of c.one_less-most.result rest) c.in_ok-push.ensures.items
    ∙ ap (λ (most : Option ℕ). (done ++ formula ∷ []) ++ first_of most rest) c.one_less-most.ensures
    ∙ page_next done left rest (first_of c.args.limit (formulas_left c.args.candidates.now)) c.formulas.most formula next
    (c.formulas-test.ensures.0 refl) c.formulas.invariant
