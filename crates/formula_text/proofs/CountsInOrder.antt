-- The count of an item in a list in Hill order is that of its one entry.
use Rattle.std.proofs.Common.{◌≡◌, ℕ, ◌+◌, Bool, true, false, cond, ◌&&◌, T, List, [], ◌∷◌, refl, sym, ap, subst, ◌∙◌}
use Rattle.std.proofs.Common.{arith}
use Rattle.std.specs.Prelude.{Some, unwrap_or, find as list_find}
use Rattle.std.specs.declared.cmp.Ordering.{Ordering}
use Rattle.std.specs.declared.cmp.Ordering.TheVariants.{Less, Equal, Greater}
use Rattle.std.specs.Ordering.{is_eq, is_lt}
use Rattle.std.specs.FinMap.{find, is_sorted}
use Rattle.std.specs.FinMap.Entries.{below_all}
use Rattle.std.specs.Option.{option_map_or}
use Rattle.std.proofs.lemmas.List.Sums.{sum_by-cons}
use Rattle.written_items.specs.declared.item.Item.{Item}
use Rattle.written_items.specs.Items.{item_eq}
use Rattle.formula_text.specs.HillOrder.{hill_cmp}
use Rattle.formula_text.specs.Formulas.{count_in, atoms_of}
use Rattle.formula_text.proofs.HillOrderLaws.{hill_ties, hill_total, item_eq-same, item_eq-symm}

-- what an entry adds to the count of an item
abbrev pub share : Item → Item × ℕ → ℕ
share q p = cond (item_eq q p.0) p.1 0

pub count_in-cons : (p : Item × ℕ) (ps : List (Item × ℕ)) (q : Item) → count_in (p ∷ ps) q ≡ share q p + count_in ps q
count_in-cons p ps q = sum_by-cons (share q) p ps

pub atoms_of-cons : (p : Item × ℕ) (ps : List (Item × ℕ)) → atoms_of (p ∷ ps) ≡ p.1 + atoms_of ps
atoms_of-cons p ps = sum_by-cons (λ x. x.1) p ps

pub t_first : (a b : Bool) → T (a && b) → T a
t_first true b h = tt
t_first false b h = h

pub t_second : (a b : Bool) → T (a && b) → T b
t_second true b h = h
t_second false b h = absurd h

pub t_both : (a b : Bool) → T a → T b → T (a && b)
t_both true b g h = h
t_both false b g h = g

less_from_is_lt : (o : Ordering) → T (is_lt o) → o ≡ Less
less_from_is_lt Less h = refl
less_from_is_lt Equal h = absurd h
less_from_is_lt Greater h = absurd h

-- an item has no share in one that doesn't tie with it
pub share-other : (carbon : Bool) (q : Item) (p : Item × ℕ) (o : Ordering) → hill_cmp carbon q p.0 ≡ o → is_eq o ≡ false
    → share q p ≡ 0
share-other carbon q p o is apart =
    ap (λ b. cond b p.1 0) (sym (hill_ties carbon q p.0) ∙ ap is_eq is ∙ apart)

-- nothing of an item stands among those that it stands before
pub count_in-below : (carbon : Bool) (q : Item) (es : List (Item × ℕ)) → T (below_all (hill_cmp carbon) q es)
    → count_in es q ≡ 0
count_in-below carbon q [] h = refl
count_in-below carbon q (e ∷ es) h =
    let less : hill_cmp carbon q e.0 ≡ Less =
    less_from_is_lt _ (t_first (is_lt (hill_cmp carbon q e.0)) (below_all (hill_cmp carbon) q es) h) in
    let tail : T (below_all (hill_cmp carbon) q es) =
    t_second (is_lt (hill_cmp carbon q e.0)) (below_all (hill_cmp carbon) q es) h in
    let none : share q e ≡ 0 = share-other carbon q e Less less refl in
    let rest : count_in es q ≡ 0 = count_in-below carbon q es tail in
    let cons = count_in-cons e es q in
    omega arith

pub below-before : (carbon : Bool) (x y : Item) (es : List (Item × ℕ)) → hill_cmp carbon x y ≡ Less
    → T (below_all (hill_cmp carbon) y es) → T (below_all (hill_cmp carbon) x es)
below-before carbon x y [] p h = tt
below-before carbon x y (e ∷ es) p h =
    t_both _ _
    (subst (λ r. T (is_lt r)) (sym ((hill_total carbon).trans x y e.0 p (less_from_is_lt _ (t_first _ _ h)))) tt)
    (below-before carbon x y es p (t_second _ _ h))

-- in a list in order the count of an item is what its one entry says
pub count_in-find : (carbon : Bool) (q : Item) (es : List (Item × ℕ)) → T (is_sorted (hill_cmp carbon) es)
    → count_in es q ≡ unwrap_or (find (hill_cmp carbon) q es) 0
count_in-find carbon q [] h = refl
count_in-find carbon q (e ∷ es) h =
    let tail : T (is_sorted (hill_cmp carbon) es) =
    t_second (below_all (hill_cmp carbon) e.0 es) (is_sorted (hill_cmp carbon) es) h in
    let rest : count_in es q ≡ unwrap_or (find (hill_cmp carbon) q es) 0 = count_in-find carbon q es tail in
    count_in-cons e es q
    ∙ elim (item_eq q e.0) as (λ b. item_eq q e.0 ≡ b → cond b e.1 0 + count_in es q
    ≡ unwrap_or (cond b (Some e.1) (find (hill_cmp carbon) q es)) 0) [
      | true ↦ λ t.
          let none =
          count_in-below carbon q es (subst (λ x. T (below_all (hill_cmp carbon) x es)) (sym (item_eq-same q e.0 t))
          (t_first _ _ h)) in
          omega arith
      | false ↦ λ t. omega arith
    ] refl
    ∙ ap (λ b. unwrap_or (cond b (Some e.1) (find (hill_cmp carbon) q es)) 0) (sym (hill_ties carbon q e.0))

-- which is the first entry of the item
pub count_in-first : (carbon : Bool) (q : Item) (es : List (Item × ℕ)) → T (is_sorted (hill_cmp carbon) es)
    → option_map_or (λ (p : Item × ℕ). p.1) (list_find (λ (p : Item × ℕ). item_eq p.0 q) es) 0 ≡ count_in es q
count_in-first carbon q [] h = refl
count_in-first carbon q (e ∷ es) h =
    let tail : T (is_sorted (hill_cmp carbon) es) =
    t_second (below_all (hill_cmp carbon) e.0 es) (is_sorted (hill_cmp carbon) es) h in
    let rest : option_map_or (λ (p : Item × ℕ). p.1) (list_find (λ (p : Item × ℕ). item_eq p.0 q) es) 0
    ≡ count_in es q = count_in-first carbon q es tail in
    let cons = count_in-cons e es q in
    let turned = item_eq-symm e.0 q in
    elim (item_eq e.0 q) as (λ b. item_eq e.0 q
    ≡ b → option_map_or (λ (p : Item × ℕ). p.1) (cond b (Some e) (list_find (λ (p : Item × ℕ). item_eq p.0 q) es)) 0
    ≡ count_in (e ∷ es) q) [
      | true ↦ λ t.
          let own : share q e ≡ e.1 = ap (λ b. cond b e.1 0) (sym turned ∙ t) in
          let none =
          count_in-below carbon q es (subst (λ x. T (below_all (hill_cmp carbon) x es)) (item_eq-same e.0 q t)
          (t_first (below_all (hill_cmp carbon) e.0 es) _ h)) in
          omega arith
      | false ↦ λ t.
          let other : share q e ≡ 0 = ap (λ b. cond b e.1 0) (sym turned ∙ t) in
          omega arith
    ] refl
