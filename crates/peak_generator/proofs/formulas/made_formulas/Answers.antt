use Rattle.std.proofs.Common.{◌≡◌, ℕ, List, [], ◌∷◌, ◌++◌, length, sym, ap, ◌∙◌, subst, arith}
use Rattle.std.specs.Prelude.{All}
use Rattle.std.specs.List.{AllByRecursion}
use Rattle.std.proofs.lemmas.List.Elements.{All-from_recursion, recursion_from_All}
use Rattle.written_items.specs.declared.item.Item.{Item}
use Rattle.formula_text.specs.Masses.{HasItems}
use Rattle.peak_generator.specs.Draws.{state_after}
use Rattle.peak_generator.specs.MadeFormulas.{made_formula, made_formulas}
use Rattle.peak_generator.proofs.MadeStates.{formula-later, formulas-more, formulas-none, length-made_formulas, state-first, state-later}
use Rattle.peak_generator.proofs.formulas.made_formulas.Goals as goal

each-more : {X : Type 0} (P : X → Type 0) (xs : List X) (x : X) → AllByRecursion P xs → P x →
    AllByRecursion P (xs ++ x ∷ [])
each-more P [] x each last = (last, tt)
each-more P (y ∷ ys) x each last = (each.0, each-more P ys x each.1 last)

all-more : {X : Type 0} (P : X → Type 0) (xs : List X) (x : X) → All P xs → P x → All P (xs ++ x ∷ [])
all-more P xs x all last =
    All-from_recursion P (xs ++ x ∷ []) (each-more P xs x (recursion_from_All P xs all) last)

pub loop-init : goal.loop-init
loop-init c = record {
  state = c.of-draws.ensures ∙ state-first c.args.number;
  formulas = c.new-formulas.ensures.items ∙ formulas-none c.args.number;
  known = λ table h k d within. absurd (omega (arith, within, ap length c.new-formulas.ensures.items));
}

pub loop-preserved : goal.loop-preserved
loop-preserved c =
    let n = c.args.number in
    let i = c.loop.counter in
    let formula = c.in_ok-made_formula.field-0 in
    let pushed : c.push.new.self.items ≡ c.loop.formulas.items ++ formula ∷ [] = c.in_ok-push.ensures.items in
    let made : formula ≡ made_formula n i =
    c.in_ok-made_formula.ensures.formula ∙ ap (λ s. made_formula s 0) c.loop.invariant.state ∙ formula-later n i in
    record {
      state = c.made_formula.ensures.state ∙ ap (λ s. state_after s 4) c.loop.invariant.state ∙ state-later n i;
      formulas = pushed ∙ ap (λ (l : List (List (Item × ℕ))). l ++ formula ∷ []) c.loop.invariant.formulas
          ∙ ap (λ (f : List (Item × ℕ)). made_formulas n i ++ f ∷ []) made ∙ formulas-more n i;
      known = λ table h.
          subst (λ (l : List (List (Item × ℕ))). All (HasItems table) l) (sym pushed)
          (all-more (HasItems table) c.loop.formulas.items formula (c.loop.invariant.known table h)
          (c.in_ok-made_formula.ensures.known table h));
    }

pub returns-clause-count : goal.returns-clause-count
returns-clause-count c =
    let end : c.loop.counter ≡ c.args.count = omega arith in
    ap length c.loop.invariant.formulas ∙ length-made_formulas c.args.number c.loop.counter ∙ end
