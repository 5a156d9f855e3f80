-- In one order there is one list of positive counts.
use Rattle.std.proofs.Common.{◌≡◌, ℕ, ◌<◌, Bool, true, false, cond, T, List, [], ◌∷◌, refl, sym, ap, ◌∙◌, arith}
use Rattle.std.specs.Prelude.{Option, Some, None, unwrap_or, MatchOption, ⊤}
use Rattle.std.specs.Ordering.{eq_by_cmp}
use Rattle.std.specs.FinMap.{find, is_sorted}
use Rattle.std.specs.FinMap.Entries.{same_entries}
use Rattle.std.specs.List.{AllByRecursion}
use Rattle.written_items.specs.declared.item.Item.{Item}
use Rattle.formula_text.specs.HillOrder.{hill_cmp}
use Rattle.formula_text.specs.Formulas.{count_in}
use Rattle.formula_text.proofs.HillOrderLaws.{hill_same, hill_total}
use Rattle.formula_text.proofs.CountsInOrder.{count_in-find}
use Rattle.formula_text.proofs.SumFolds.{HasAtoms}

find-positive : (carbon : Bool) (q : Item) (es : List (Item × ℕ)) → AllByRecursion HasAtoms es
    → MatchOption (find (hill_cmp carbon) q es) ⊤ (λ n. 0 < n)
find-positive carbon q [] h = tt
find-positive carbon q (e ∷ es) h =
    elim (eq_by_cmp (hill_cmp carbon) q e.0) as
    (λ b. MatchOption (cond b (Some e.1) (find (hill_cmp carbon) q es)) ⊤ (λ n. 0 < n)) [
      | true ↦ h.0
      | false ↦ find-positive carbon q es h.1
    ]

same_positive : (a b : Option ℕ) → MatchOption a ⊤ (λ n. 0 < n) → MatchOption b ⊤ (λ n. 0 < n)
    → unwrap_or a 0 ≡ unwrap_or b 0 → a ≡ b
same_positive None None g h e = refl
same_positive None (Some n) g h e = absurd (omega arith)
same_positive (Some m) None g h e = absurd (omega arith)
same_positive (Some m) (Some n) g h e = ap Some e

-- in one order there is one list of positive counts
pub only_sum : (carbon : Bool) (es fs : List (Item × ℕ)) → T (is_sorted (hill_cmp carbon) es)
    → T (is_sorted (hill_cmp carbon) fs) → AllByRecursion HasAtoms es → AllByRecursion HasAtoms fs
    → ((q : Item) → count_in es q ≡ count_in fs q) → es ≡ fs
only_sum carbon es fs g h some_e some_f same =
    same_entries (hill_cmp carbon) (hill_total carbon) (hill_same carbon) es fs g h
    (λ q. same_positive _ _ (find-positive carbon q es some_e) (find-positive carbon q fs some_f)
    (sym (count_in-find carbon q es g) ∙ same q ∙ count_in-find carbon q fs h))
