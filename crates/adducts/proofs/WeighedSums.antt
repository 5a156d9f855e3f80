-- Lists of items with equal counts weigh the same, whatever an atom of each item weighs.
use Rattle.std.proofs.Common.{◌≡◌, ℕ, ◌+◌, ◌*◌, ◌<◌, Bool, true, false, cond, ltb, T, List, [], ◌∷◌, ◌++◌, map, filter}
use Rattle.std.proofs.Common.{sum_by, fold, refl, sym, ap, subst, ◌∙◌, arith}
use Rattle.std.specs.declared.cmp.Ordering.TheVariants.{Less, Equal, Greater}
use Rattle.std.specs.Ordering.{is_lt}
use Rattle.std.specs.FinMap.{put, is_sorted}
use Rattle.std.specs.FinMap.Entries.{by_order, below_all}
use Rattle.std.proofs.lemmas.Bool.{ltb-false}
use Rattle.std.proofs.lemmas.List.Sums.{sum_by-cons, sum_by-append}
use Rattle.written_items.specs.declared.item.Item.{Item}
use Rattle.written_items.specs.Items.{item_eq}
use Rattle.formula_text.specs.HillOrder.{hill_cmp}
use Rattle.formula_text.specs.Formulas.{count_in, has_carbon, with_part, sum_of, SumsUp}
use Rattle.formula_text.proofs.HillOrderLaws.{hill_same, item_eq-itself}
use Rattle.formula_text.proofs.CountsInOrder.{share, share-other, count_in-cons, count_in-below, below-before, t_first, t_second, t_both}
use Rattle.formula_text.proofs.SumFolds.{with_atoms, is_sorted-with_part}
use Rattle.formula_text.proofs.SumLimits.{same_sums, sum_of-AreSums}

-- the weight of the atoms of a list, where an atom of an item weighs so much
abbrev pub weigh : (Item → ℕ) → List (Item × ℕ) → ℕ
weigh w parts = sum_by (λ p. p.1 * w p.0) parts

pub weigh-cons : (w : Item → ℕ) (p : Item × ℕ) (ps : List (Item × ℕ)) → weigh w (p ∷ ps) ≡ p.1 * w p.0 + weigh w ps
weigh-cons w p ps = sum_by-cons (λ q. q.1 * w q.0) p ps

pub weigh-append : (w : Item → ℕ) (ps qs : List (Item × ℕ)) → weigh w (ps ++ qs) ≡ weigh w ps + weigh w qs
weigh-append w ps qs = sum_by-append (λ q. q.1 * w q.0) ps qs

weigh-put : (w : Item → ℕ) (carbon : Bool) (k : Item) (v : ℕ) (es : List (Item × ℕ)) → T (is_sorted (hill_cmp carbon) es)
    → weigh w (put (hill_cmp carbon) k v es) + count_in es k * w k ≡ weigh w es + v * w k
weigh-put w carbon k v [] h = omega arith
weigh-put w carbon k v (e ∷ es) h =
    elim (hill_cmp carbon k e.0) as (λ o. hill_cmp carbon k e.0
    ≡ o → weigh w (by_order o ((k, v) ∷ e ∷ es) ((e.0, v) ∷ es) (e ∷ put (hill_cmp carbon) k v es)) + count_in
    (e ∷ es) k * w k ≡ weigh w (e ∷ es) + v * w k) [
      | Less ↦ λ is.
          let before = below-before carbon k e.0 es is (t_first _ _ h) in
          let none = count_in-below carbon k (e ∷ es) (t_both _ _ (subst (λ r. T (is_lt r)) (sym is) tt) before) in
          let nothing : count_in (e ∷ es) k * w k ≡ 0 * w k = ap (λ n. n * w k) none in
          let cons = weigh-cons w (k, v) (e ∷ es) in
          omega arith
      | Equal ↦ λ is.
          let same = hill_same carbon k e.0 is in
          let own : share k e ≡ e.1 = ap (λ x. share x e) same ∙ ap (λ b. cond b e.1 0) (item_eq-itself e.0) in
          let none =
          count_in-below carbon k es (subst (λ x. T (below_all (hill_cmp carbon) x es)) (sym same)
          (t_first _ _ h)) in
          let count : count_in (e ∷ es) k ≡ e.1 = count_in-cons e es k ∙ omega (arith, own, none) in
          let old : count_in (e ∷ es) k * w k ≡ e.1 * w e.0 = ap (λ n. n * w k) count ∙ ap (λ x. e.1 * w x) same in
          let new : v * w e.0 ≡ v * w k = ap (λ x. v * w x) (sym same) in
          let cons_new = weigh-cons w (e.0, v) es in
          let cons_old = weigh-cons w e es in
          omega arith
      | Greater ↦ λ is.
          let other = share-other carbon k e Greater is refl in
          let count : count_in (e ∷ es) k ≡ count_in es k = count_in-cons e es k ∙ omega (arith, other) in
          let old : count_in (e ∷ es) k * w k ≡ count_in es k * w k = ap (λ n. n * w k) count in
          let tail : T (is_sorted (hill_cmp carbon) es) =
          t_second (below_all (hill_cmp carbon) e.0 es) (is_sorted (hill_cmp carbon) es) h in
          let rest : weigh w (put (hill_cmp carbon) k v es) + count_in es k * w k ≡ weigh w es + v * w k =
          weigh-put w carbon k v es tail in
          let cons_new = weigh-cons w e (put (hill_cmp carbon) k v es) in
          let cons_old = weigh-cons w e es in
          omega arith
    ] refl

weigh-with_part : (w : Item → ℕ) (carbon : Bool) (es : List (Item × ℕ)) (p : Item × ℕ)
    → T (is_sorted (hill_cmp carbon) es) → weigh w (with_part carbon es p) ≡ weigh w es + p.1 * w p.0
weigh-with_part w carbon es p h =
    let step = weigh-put w carbon p.0 (count_in es p.0 + p.1) es h in omega arith

fold-weigh : (w : Item → ℕ) (carbon : Bool) (es ps : List (Item × ℕ)) → T (is_sorted (hill_cmp carbon) es)
    → weigh w (fold (with_part carbon) es ps) ≡ weigh w es + weigh w ps
fold-weigh w carbon es [] h = omega arith
fold-weigh w carbon es (p ∷ ps) h =
    let rest = fold-weigh w carbon (with_part carbon es p) ps (is_sorted-with_part carbon es p h) in
    let step = weigh-with_part w carbon es p h in
    let cons = weigh-cons w p ps in
    omega arith

weigh-with_atoms : (w : Item → ℕ) (ps : List (Item × ℕ)) → weigh w (with_atoms ps) ≡ weigh w ps
weigh-with_atoms w [] = refl
weigh-with_atoms w (p ∷ ps) =
    let rest : weigh w (with_atoms ps) ≡ weigh w ps = weigh-with_atoms w ps in
    elim (ltb 0 p.1) as (λ b. ltb 0 p.1 ≡ b → weigh w (cond b (p ∷ with_atoms ps) (with_atoms ps))
    ≡ weigh w (p ∷ ps)) [
      | true ↦ λ e. let new = weigh-cons w p (with_atoms ps) in let old = weigh-cons w p ps in omega arith
      | false ↦ λ e.
          let none : p.1 ≡ 0 = omega (arith, ltb-false 0 p.1 e) in
          let nothing : p.1 * w p.0 ≡ 0 * w p.0 = ap (λ n. n * w p.0) none in
          let old = weigh-cons w p ps in
          omega arith
    ] refl

pub weigh-sum_of : (w : Item → ℕ) (parts : List (Item × ℕ)) → weigh w (sum_of parts) ≡ weigh w parts
weigh-sum_of w parts =
    let rest = weigh-with_atoms w parts in
    fold-weigh w (has_carbon parts) [] (with_atoms parts) tt ∙ omega arith

-- lists with equal counts weigh the same
pub equal-weights : (w : Item → ℕ) (ps qs : List (Item × ℕ)) → SumsUp ps qs → weigh w ps ≡ weigh w qs
equal-weights w ps qs counts =
    let of_qs = sum_of-AreSums qs in
    let same : sum_of qs ≡ sum_of ps =
    same_sums ps (sum_of qs)
    (record {
      ordered = of_qs.ordered;
      positive = of_qs.positive;
      counts = λ item. of_qs.counts item ∙ counts item;
    }) in
    sym (weigh-sum_of w ps) ∙ ap (weigh w) (sym same) ∙ weigh-sum_of w qs

-- a list taken several times
abbrev pub times : ℕ → List (Item × ℕ) → List (Item × ℕ)
times k ps = map (λ p. (p.0, k * p.1)) ps

pub weigh-times : (w : Item → ℕ) (k : ℕ) (ps : List (Item × ℕ)) → weigh w (times k ps) ≡ k * weigh w ps
weigh-times w k [] = omega arith
weigh-times w k (p ∷ ps) =
    let rest = weigh-times w k ps in
    let new = weigh-cons w (p.0, k * p.1) (times k ps) in
    let old = weigh-cons w p ps in
    let both : k * weigh w (p ∷ ps) ≡ k * (p.1 * w p.0 + weigh w ps) = ap (λ n. k * n) old in
    omega arith

pub count_in-times : (k : ℕ) (ps : List (Item × ℕ)) (q : Item) → count_in (times k ps) q ≡ k * count_in ps q
count_in-times k [] q = omega arith
count_in-times k (p ∷ ps) q =
    let rest = count_in-times k ps q in
    let new = count_in-cons (p.0, k * p.1) (times k ps) q in
    let old : k * count_in (p ∷ ps) q ≡ k * (share q p + count_in ps q) = ap (λ n. k * n) (count_in-cons p ps q) in
    let own : share q (p.0, k * p.1) ≡ k * share q p =
    elim (item_eq q p.0) as (λ b. cond b (k * p.1) 0 ≡ k * cond b p.1 0) [ true ↦ refl | false ↦ omega arith ] in
    omega arith

pub count_in-append : (ps qs : List (Item × ℕ)) (q : Item) → count_in (ps ++ qs) q ≡ count_in ps q + count_in qs q
count_in-append ps qs q = sum_by-append (share q) ps qs
