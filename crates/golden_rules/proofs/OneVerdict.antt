-- A formula has one verdict.
use Rattle.std.proofs.Common.{◌≡◌, ℕ, ◌<◌, List, ◌∷◌, length, get_or, inl, inr, refl, sym, ◌∙◌, ap, subst}
use Rattle.std.proofs.Common.{arith, length-append}
use Rattle.std.proofs.lemmas.Bool.{cases_order}
use Rattle.std.proofs.lemmas.List.{get_or_append_left}
use Rattle.std.proofs.Math.Seq.{get_or-append_seam}
use Rattle.element_table.specs.Elements.{TableEntries}
use Rattle.written_items.specs.declared.item.Item.{Item}
use Rattle.golden_rules.specs.MeetsRules.{IsFirstFailing, IsVerdict, Meets, MeetsAll}
use Rattle.golden_rules.specs.declared.rule.Rule.{Rule}
use Rattle.golden_rules.specs.declared.rule.Rule.TheVariants.{Senior}
use Rattle.golden_rules.specs.declared.rules.Verdict.{Verdict}
use Rattle.golden_rules.specs.declared.rules.Verdict.TheVariants.{Pass, Fails}

-- the failing rule stands behind those before it
failing_place : (table : TableEntries) (rules : List Rule) (formula : List (Item × ℕ)) (number : ℕ)
    → (first : IsFirstFailing table rules formula number)
    → get_or rules (length first.before) Senior ≡ first.failing
failing_place table rules formula number first =
    ap (λ (rs : List Rule). get_or rs (length first.before) Senior) first.parts
    ∙ get_or-append_seam first.before first.failing first.after Senior

-- a formula that meets all rules fails at none
passes-fails : (table : TableEntries) (rules : List Rule) (formula : List (Item × ℕ)) (number : ℕ)
    → MeetsAll table rules formula → IsFirstFailing table rules formula number → ⊥
passes-fails table rules formula number all first =
    let sizes = ap (λ (rs : List Rule). length rs) first.parts in
    let parts = length-append first.before (first.failing ∷ first.after) in
    let within : length first.before < length rules = omega (arith, sizes, parts) in
    first.unmet (subst (Meets table formula) (failing_place table rules formula number first)
    (all (length first.before) Senior within))

-- no rule fails before the first failing one
not_before : (table : TableEntries) (rules : List Rule) (formula : List (Item × ℕ)) (m n : ℕ)
    → IsFirstFailing table rules formula m → IsFirstFailing table rules formula n → m < n → ⊥
not_before table rules formula m n first second less =
    let place : ℕ = length first.before in
    let within : place < length second.before = omega (arith, first.number_is, second.number_is) in
    let there : get_or rules place Senior ≡ get_or second.before place Senior =
    ap (λ (rs : List Rule). get_or rs place Senior) second.parts
    ∙ get_or_append_left second.before (second.failing ∷ second.after) Senior place within in
    first.unmet (subst (Meets table formula) (sym there ∙ failing_place table rules formula m first)
    (second.met place Senior within))

pub one-verdict : (table : TableEntries) (rules : List Rule) (formula : List (Item × ℕ)) (v w : Verdict)
    → IsVerdict table rules formula v → IsVerdict table rules formula w → v ≡ w
one-verdict table rules formula Pass Pass here there = refl
one-verdict table rules formula Pass (Fails n) here there = absurd (passes-fails table rules formula n here there)
one-verdict table rules formula (Fails m) Pass here there = absurd (passes-fails table rules formula m there here)
one-verdict table rules formula (Fails m) (Fails n) here there =
    elim (cases_order m n) [
      | inl same ↦ ap Fails same
      | inr other ↦ absurd (elim other [
        | inl earlier ↦ not_before table rules formula m n here there earlier
        | inr later ↦ not_before table rules formula n m there here later
      ])
    ]
