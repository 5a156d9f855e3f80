-- The place of an item in a list in Hill order, and the list after the item's atoms were added there.
use Rattle.std.proofs.Common.{◌≡◌, ℕ, ◌+◌, ◌<◌, Bool, false, cond, T, List, [], ◌∷◌, length, get_or, set, refl, sym, ap}
use Rattle.std.proofs.Common.{subst, ◌∙◌, arith}
use Rattle.std.specs.Prelude.{insert, IsTrue}
use Rattle.std.proofs.lemmas.Bool.{false≢true}
use Rattle.std.proofs.lemmas.Cmp.{tied_itself}
use Rattle.std.proofs.Math.Numerals.{one-add}
use Rattle.std.specs.declared.cmp.Ordering.{Ordering}
use Rattle.std.specs.declared.cmp.Ordering.TheVariants.{Less, Equal, Greater}
use Rattle.std.specs.Ordering.{is_gt, is_eq, is_lt}
use Rattle.std.specs.FinMap.{put, is_sorted}
use Rattle.std.specs.FinMap.Entries.{by_order, below_all}
use Rattle.std.specs.List.{prefix_len}
use Rattle.written_items.specs.declared.item.Item.{Item}
use Rattle.formula_text.specs.HillOrder.{hill_cmp}
use Rattle.formula_text.specs.Formulas.{count_in, with_part}
use Rattle.formula_text.proofs.HillOrderLaws.{hill_total, hill_same, T-IsTrue, item_eq-itself}
use Rattle.formula_text.proofs.CountsInOrder.{share, share-other, count_in-cons, count_in-below, below-before, t_first}
use Rattle.formula_text.proofs.CountsInOrder.{t_second, t_both}

-- how many of the items stand before this one
abbrev pub place_of : Bool → Item → List (Item × ℕ) → ℕ
place_of carbon k es = prefix_len (λ p. is_gt (hill_cmp carbon k p.0)) es

-- the item stands at its place
abbrev pub FoundAt : Item → List (Item × ℕ) → ℕ → Type 0
FoundAt k es n = (n < length es) × ((d : Item × ℕ) → (get_or es n d).0 ≡ k)

-- another item stands there, or none
abbrev pub AbsentAt : Item → List (Item × ℕ) → ℕ → Type 0
AbsentAt k es n = n < length es → (d : Item × ℕ) → (get_or es n d).0 ≡ k → ⊥

tied : (carbon : Bool) (a b : Item) → b ≡ a → hill_cmp carbon a b ≡ Equal
tied carbon a b e = ap (λ x. hill_cmp carbon a x) e ∙ tied_itself (hill_total carbon) a

not_tied : (o : Ordering) → o ≡ Equal → is_eq o ≡ false → ⊥
not_tied o e f = false≢true (sym f ∙ ap is_eq e)

put_found : (carbon : Bool) (k : Item) (v : ℕ) (es : List (Item × ℕ)) → FoundAt k es (place_of carbon k es)
    → put (hill_cmp carbon) k v es ≡ set es (place_of carbon k es) (k, v)
put_found carbon k v [] at = absurd (omega (arith, at.0))
put_found carbon k v (e ∷ es) at =
    elim (hill_cmp carbon k e.0) as (λ o. hill_cmp carbon k e.0
    ≡ o → FoundAt k (e ∷ es) (cond (is_gt o) (1 + place_of carbon k es) 0)
    → by_order o ((k, v) ∷ e ∷ es) ((e.0, v) ∷ es) (e ∷ put (hill_cmp carbon) k v es)
    ≡ set (e ∷ es) (cond (is_gt o) (1 + place_of carbon k es) 0) (k, v)) [
      | Less ↦ λ is at. absurd (not_tied Less (sym is ∙ tied carbon k e.0 (at.1 e)) refl)
      | Equal ↦ λ is at. ap (λ x. (x, v) ∷ es) (sym (hill_same carbon k e.0 is))
      | Greater ↦ λ is. subst (λ n. FoundAt k (e ∷ es) n → e ∷ put (hill_cmp carbon) k v es
          ≡ set (e ∷ es) n (k, v)) (sym (one-add (place_of carbon k es)))
          (λ at. ap (λ t. e ∷ t) (put_found carbon k v es (omega (arith, at.0), at.1)))
    ] refl at

put_absent : (carbon : Bool) (k : Item) (v : ℕ) (es : List (Item × ℕ)) → AbsentAt k es (place_of carbon k es)
    → put (hill_cmp carbon) k v es ≡ insert es (place_of carbon k es) (k, v)
put_absent carbon k v [] at = refl
put_absent carbon k v (e ∷ es) at =
    elim (hill_cmp carbon k e.0) as (λ o. hill_cmp carbon k e.0
    ≡ o → AbsentAt k (e ∷ es) (cond (is_gt o) (1 + place_of carbon k es) 0)
    → by_order o ((k, v) ∷ e ∷ es) ((e.0, v) ∷ es) (e ∷ put (hill_cmp carbon) k v es)
    ≡ insert (e ∷ es) (cond (is_gt o) (1 + place_of carbon k es) 0) (k, v)) [
      | Less ↦ λ is at. refl
      | Equal ↦ λ is at. absurd (at (omega arith) e (sym (hill_same carbon k e.0 is)))
      | Greater ↦ λ is. subst (λ n. AbsentAt k (e ∷ es) n → e ∷ put (hill_cmp carbon) k v es
          ≡ insert (e ∷ es) n (k, v)) (sym (one-add (place_of carbon k es)))
          (λ at. ap (λ t. e ∷ t) (put_absent carbon k v es (λ h. at (omega arith))))
    ] refl at

count_found : (carbon : Bool) (k : Item) (es : List (Item × ℕ)) (d : Item × ℕ) → T (is_sorted (hill_cmp carbon) es)
    → FoundAt k es (place_of carbon k es) → count_in es k ≡ (get_or es (place_of carbon k es) d).1
count_found carbon k [] d h at = absurd (omega (arith, at.0))
count_found carbon k (e ∷ es) d h at =
    let cons = count_in-cons e es k in
    elim (hill_cmp carbon k e.0) as (λ o. hill_cmp carbon k e.0
    ≡ o → FoundAt k (e ∷ es) (cond (is_gt o) (1 + place_of carbon k es) 0)
    → count_in (e ∷ es) k ≡ (get_or (e ∷ es) (cond (is_gt o) (1 + place_of carbon k es) 0) d).1) [
      | Less ↦ λ is at. absurd (not_tied Less (sym is ∙ tied carbon k e.0 (at.1 e)) refl)
      | Equal ↦ λ is at.
          let same = hill_same carbon k e.0 is in
          let own : share k e ≡ e.1 = ap (λ x. share x e) same ∙ ap (λ b. cond b e.1 0) (item_eq-itself e.0) in
          let none =
          count_in-below carbon k es (subst (λ x. T (below_all (hill_cmp carbon) x es)) (sym same)
          (t_first (below_all (hill_cmp carbon) e.0 es) _ h)) in
          omega arith
      | Greater ↦ λ is. subst (λ n. FoundAt k (e ∷ es) n → count_in (e ∷ es) k
          ≡ (get_or (e ∷ es) n d).1) (sym (one-add (place_of carbon k es)))
          (λ at.
          let other = share-other carbon k e Greater is refl in
          let tail : T (is_sorted (hill_cmp carbon) es) =
          t_second (below_all (hill_cmp carbon) e.0 es) (is_sorted (hill_cmp carbon) es) h in
          let rest : count_in es k ≡ (get_or es (place_of carbon k es) d).1 =
          count_found carbon k es d tail (omega (arith, at.0), at.1) in
          omega arith)
    ] refl at

count_absent : (carbon : Bool) (k : Item) (es : List (Item × ℕ)) → T (is_sorted (hill_cmp carbon) es)
    → AbsentAt k es (place_of carbon k es) → count_in es k ≡ 0
count_absent carbon k [] h at = refl
count_absent carbon k (e ∷ es) h at =
    let cons = count_in-cons e es k in
    elim (hill_cmp carbon k e.0) as (λ o. hill_cmp carbon k e.0
    ≡ o → AbsentAt k (e ∷ es) (cond (is_gt o) (1 + place_of carbon k es) 0) → count_in (e ∷ es) k ≡ 0) [
      | Less ↦ λ is at. count_in-below carbon k (e ∷ es)
          (t_both _ _ (subst (λ r. T (is_lt r)) (sym is) tt)
          (below-before carbon k e.0 es is (t_first (below_all (hill_cmp carbon) e.0 es) _ h)))
      | Equal ↦ λ is at. absurd (at (omega arith) e (sym (hill_same carbon k e.0 is)))
      | Greater ↦ λ is. subst (λ n. AbsentAt k (e ∷ es) n → count_in (e ∷ es) k
          ≡ 0) (sym (one-add (place_of carbon k es)))
          (λ at.
          let other = share-other carbon k e Greater is refl in
          let tail : T (is_sorted (hill_cmp carbon) es) =
          t_second (below_all (hill_cmp carbon) e.0 es) (is_sorted (hill_cmp carbon) es) h in
          let rest : count_in es k ≡ 0 = count_absent carbon k es tail (λ h. at (omega arith)) in
          omega arith)
    ] refl at

-- the atoms are added to those that stand at the item's place
pub with_part-found : (carbon : Bool) (es : List (Item × ℕ)) (p d : Item × ℕ) → IsTrue (is_sorted (hill_cmp carbon) es)
    → (n : ℕ) → n ≡ place_of carbon p.0 es → FoundAt p.0 es n
    → with_part carbon es p ≡ set es n (p.0, (get_or es n d).1 + p.1)
with_part-found carbon es p d h n is at =
    let found = subst (FoundAt p.0 es) is at in
    put_found carbon p.0 (count_in es p.0 + p.1) es found
    ∙ ap (λ c. set es (place_of carbon p.0 es) (p.0, c + p.1)) (count_found carbon p.0 es d (T-IsTrue _ h) found)
    ∙ ap (λ n. set es n (p.0, (get_or es n d).1 + p.1)) (sym is)

-- or the item is put there
pub with_part-absent : (carbon : Bool) (es : List (Item × ℕ)) (p : Item × ℕ) → IsTrue (is_sorted (hill_cmp carbon) es)
    → (n : ℕ) → n ≡ place_of carbon p.0 es → AbsentAt p.0 es n → with_part carbon es p ≡ insert es n p
with_part-absent carbon es p h n is at =
    let absent = subst (AbsentAt p.0 es) is at in
    put_absent carbon p.0 (count_in es p.0 + p.1) es absent
    ∙ ap (λ c. insert es (place_of carbon p.0 es) (p.0, c))
    (omega (arith, count_absent carbon p.0 es (T-IsTrue _ h) absent))
    ∙ ap (λ n. insert es n p) (sym is)
