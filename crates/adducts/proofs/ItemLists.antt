-- Lists in which no item stands twice: the count of an item is what its one entry says, and their sum has the same
-- entries.
use Rattle.std.proofs.Common.{◌≡◌, ℕ, zero, suc, ◌+◌, ◌<◌, ◌≤◌, Bool, true, false, cond, ltb, T, List, [], ◌∷◌, ◌++◌}
use Rattle.std.proofs.Common.{length, map, filter, fold, get_or, refl, sym, ap, subst, ◌∙◌, arith}
use Rattle.std.specs.Prelude.{Option, Some, None, AllPairs, not, ◌&&◌, ◌||◌}
use Rattle.std.specs.List.{AllByRecursion, list_any, find as list_find}
use Rattle.std.specs.Option.{option_map_or}
use Rattle.std.specs.declared.cmp.Ordering.{Ordering}
use Rattle.std.specs.declared.cmp.Ordering.TheVariants.{Less, Equal, Greater}
use Rattle.std.specs.Ordering.{is_lt}
use Rattle.std.specs.FinMap.{put, is_sorted}
use Rattle.std.specs.FinMap.Entries.{by_order, below_all}
use Rattle.std.proofs.lemmas.Bool.{false≢true}
use Rattle.std.proofs.lemmas.List.Kept.{AllPairs-cons}
use Rattle.std.proofs.lemmas.List.Elements.{All-from_recursion}
use Rattle.std.proofs.lemmas.Cmp.{tied_itself}
use Rattle.written_items.specs.declared.item.Item.{Item}
use Rattle.written_items.specs.Items.{item_eq}
use Rattle.formula_text.specs.HillOrder.{hill_cmp}
use Rattle.formula_text.specs.Formulas.{count_in, has_carbon, with_part, sum_of, IsParts}
use Rattle.formula_text.proofs.HillOrderLaws.{hill_total, hill_same, item_eq-same, item_eq-itself, item_eq-symm, T-IsTrue}
use Rattle.formula_text.proofs.CountsInOrder.{share, count_in-cons, t_first, t_second}
use Rattle.formula_text.proofs.SumFolds.{with_atoms, sum_of-sorted}
use Rattle.adducts.specs.Ions.{has_item}

or_false : (a b : Bool) → (a || b) ≡ false → (a ≡ false) × (b ≡ false)
or_false true b h = absurd (false≢true (sym h))
or_false false b h = (refl, h)

-- no item stands twice
abbrev pub Distinct : List (Item × ℕ) → Type 0
Distinct [] = Unit {0}
Distinct (p ∷ ps) = (has_item ps p.0 ≡ false) × Distinct ps

not_among : (q : Item) (ps : List (Item × ℕ)) → ((k : ℕ) (d : Item × ℕ) → k < length ps → q ≡ (get_or ps k d).0 → ⊥)
    → has_item ps q ≡ false
not_among q [] apart = refl
not_among q (p ∷ ps) apart =
    elim (item_eq p.0 q) as (λ b. item_eq p.0 q ≡ b → (b || has_item ps q) ≡ false) [
      | true ↦ λ e. absurd (apart zero p (omega arith) (sym (item_eq-same p.0 q e)))
      | false ↦ λ _. not_among q ps (λ k d within same. apart (suc k) d (omega (arith, within)) same)
    ] refl

pub Distinct-AllPairs : (xs : List (Item × ℕ)) → AllPairs (λ (p q : Item × ℕ). p.0 ≡ q.0 → ⊥) xs → Distinct xs
Distinct-AllPairs [] pairs = tt
Distinct-AllPairs (p ∷ ps) pairs = (
  not_among p.0 ps (λ k d within same. pairs zero (suc k) d (omega arith) (omega (arith, within)) same),
  Distinct-AllPairs ps (λ i j d before within. pairs (suc i) (suc j) d (omega (arith, before)) (omega (arith, within))),
)

differ : (q : Item) (ps : List (Item × ℕ)) → has_item ps q ≡ false → AllByRecursion (λ p. q ≡ p.0 → ⊥) ps
differ q [] h = tt
differ q (p ∷ ps) h =
    let parts = or_false (item_eq p.0 q) (has_item ps q) h in (
      λ same. false≢true (sym parts.0 ∙ ap (item_eq p.0) same ∙ item_eq-itself p.0),
      differ q ps parts.1,
    )

pub AllPairs-Distinct : (xs : List (Item × ℕ)) → Distinct xs → AllPairs (λ (p q : Item × ℕ). p.0 ≡ q.0 → ⊥) xs
AllPairs-Distinct [] h = λ i j d before within. absurd (omega (arith, within))
AllPairs-Distinct (p ∷ ps) h =
    AllPairs-cons (λ (a b : Item × ℕ). a.0 ≡ b.0 → ⊥) p ps
    (All-from_recursion (λ (b : Item × ℕ). p.0 ≡ b.0 → ⊥) ps (differ p.0 ps h.0)) (AllPairs-Distinct ps h.1)

below-absent : (carbon : Bool) (q : Item) (es : List (Item × ℕ)) → T (below_all (hill_cmp carbon) q es)
    → has_item es q ≡ false
below-absent carbon q [] h = refl
below-absent carbon q (e ∷ es) h =
    let rest = below-absent carbon q es (t_second (is_lt (hill_cmp carbon q e.0)) (below_all (hill_cmp carbon) q es) h) in
    elim (item_eq e.0 q) as (λ b. item_eq e.0 q ≡ b → (b || has_item es q) ≡ false) [
      | true ↦ λ same.
          let tied : hill_cmp carbon q e.0 ≡ Equal =
          ap (hill_cmp carbon q) (item_eq-same e.0 q same) ∙ tied_itself (hill_total carbon) q in
          absurd (subst (λ o. T (is_lt o)) tied
          (t_first (is_lt (hill_cmp carbon q e.0)) (below_all (hill_cmp carbon) q es) h))
      | false ↦ λ _. rest
    ] refl

sorted-Distinct : (carbon : Bool) (es : List (Item × ℕ)) → T (is_sorted (hill_cmp carbon) es) → Distinct es
sorted-Distinct carbon [] h = tt
sorted-Distinct carbon (e ∷ es) h = (
  below-absent carbon e.0 es (t_first (below_all (hill_cmp carbon) e.0 es) (is_sorted (hill_cmp carbon) es) h),
  sorted-Distinct carbon es (t_second (below_all (hill_cmp carbon) e.0 es) (is_sorted (hill_cmp carbon) es) h),
)

pub sum-Distinct : (parts : List (Item × ℕ)) → Distinct (sum_of parts)
sum-Distinct parts = sorted-Distinct (has_carbon parts) (sum_of parts) (sum_of-sorted parts)

pub parts-Distinct : (es : List (Item × ℕ)) → IsParts es → Distinct es
parts-Distinct es is = sorted-Distinct (has_carbon es) es (T-IsTrue _ is.ordered)

-- ---- counts

absent-share : (q : Item) (p : Item × ℕ) → item_eq p.0 q ≡ false → share q p ≡ 0
absent-share q p e = ap (λ b. cond b p.1 0) (item_eq-symm q p.0 ∙ e)

pub count_in-absent : (ps : List (Item × ℕ)) (q : Item) → has_item ps q ≡ false → count_in ps q ≡ 0
count_in-absent [] q h = refl
count_in-absent (p ∷ ps) q h =
    let parts = or_false (item_eq p.0 q) (has_item ps q) h in
    let none = absent-share q p parts.0 in
    let rest = count_in-absent ps q parts.1 in
    let cons = count_in-cons p ps q in
    omega arith

own-share : (p : Item × ℕ) → share p.0 p ≡ p.1
own-share p = ap (λ b. cond b p.1 0) (item_eq-itself p.0)

none_of : (ps : List (Item × ℕ)) (q : Item) → has_item ps q ≡ false → AllByRecursion (λ p. item_eq p.0 q ≡ false) ps
none_of [] q h = tt
none_of (p ∷ ps) q h =
    let parts = or_false (item_eq p.0 q) (has_item ps q) h in (parts.0, none_of ps q parts.1)

others : (p : Item × ℕ) (whole ps : List (Item × ℕ)) → AllByRecursion (λ q. item_eq q.0 p.0 ≡ false) ps
    → AllByRecursion (λ q. count_in whole q.0 ≡ q.1) ps → AllByRecursion (λ q. count_in (p ∷ whole) q.0 ≡ q.1) ps
others p whole [] apart counts = tt
others p whole (q ∷ ps) apart counts =
    let none : share q.0 p ≡ 0 = absent-share q.0 p (item_eq-symm p.0 q.0 ∙ apart.0) in
    let own : count_in whole q.0 ≡ q.1 = counts.0 in
    let cons = count_in-cons p whole q.0 in
    (omega arith, others p whole ps apart.1 counts.1)

-- each entry tells the count of its item
pub own-counts : (xs : List (Item × ℕ)) → Distinct xs → AllByRecursion (λ p. count_in xs p.0 ≡ p.1) xs
own-counts [] h = tt
own-counts (p ∷ ps) h =
    let own = own-share p in
    let none = count_in-absent ps p.0 h.0 in
    let cons = count_in-cons p ps p.0 in
    (omega arith, others p ps ps (none_of ps p.0 h.0) (own-counts ps h.1))

more-counts : (p : Item × ℕ) (whole ps : List (Item × ℕ)) → AllByRecursion (λ q. q.1 ≤ count_in whole q.0) ps
    → AllByRecursion (λ q. q.1 ≤ count_in (p ∷ whole) q.0) ps
more-counts p whole [] h = tt
more-counts p whole (q ∷ ps) h =
    let here : q.1 ≤ count_in whole q.0 = h.0 in
    let cons = count_in-cons p whole q.0 in
    (omega arith, more-counts p whole ps h.1)

pub each-within : (xs : List (Item × ℕ)) → AllByRecursion (λ p. p.1 ≤ count_in xs p.0) xs
each-within [] = tt
each-within (p ∷ ps) =
    let own = own-share p in
    let cons = count_in-cons p ps p.0 in
    (omega arith, more-counts p ps ps (each-within ps))

-- what bounds each entry bounds each count
pub at-most : (xs : List (Item × ℕ)) (bound : Item → ℕ) → Distinct xs → AllByRecursion (λ p. p.1 ≤ bound p.0) xs
    → (q : Item) → count_in xs q ≤ bound q
at-most [] bound h within q = omega arith
at-most (p ∷ ps) bound h within q =
    let cons = count_in-cons p ps q in
    elim (item_eq p.0 q) as (λ b. item_eq p.0 q ≡ b → count_in (p ∷ ps) q ≤ bound q) [
      | true ↦ λ e. subst (λ x. count_in (p ∷ ps) x ≤ bound x) (item_eq-same p.0 q e)
          (let own = own-share p in
          let none = count_in-absent ps p.0 h.0 in
          let first = count_in-cons p ps p.0 in
          let here : p.1 ≤ bound p.0 = within.0 in
          omega arith)
      | false ↦ λ e.
          let none = absent-share q p e in
          let rest : count_in ps q ≤ bound q = at-most ps bound h.1 within.1 q in
          omega arith
    ] refl

-- the count of an item whose entries are counted anew
pub counted-anew : (count : Item → ℕ) (xs : List (Item × ℕ)) → Distinct xs → (q : Item)
    → count_in (map (λ p. (p.0, count p.0)) xs) q ≡ cond (has_item xs q) (count q) 0
counted-anew count [] h q = refl
counted-anew count (p ∷ ps) h q =
    let new = counted-anew count ps h.1 in
    let cons = count_in-cons (p.0, count p.0) (map (λ (r : Item × ℕ). (r.0, count r.0)) ps) q in
    elim (item_eq p.0 q) as (λ b. item_eq p.0 q ≡ b
    → count_in (map (λ (r : Item × ℕ). (r.0, count r.0)) (p ∷ ps)) q ≡ cond (b || has_item ps q) (count q) 0) [
      | true ↦ λ e.
          let same = item_eq-same p.0 q e in
          let own : share q (p.0, count p.0) ≡ count q =
          ap (λ b. cond b (count p.0) 0) (item_eq-symm q p.0 ∙ e) ∙ ap count same in
          let none : count_in (map (λ (r : Item × ℕ). (r.0, count r.0)) ps) q ≡ 0 =
          new q ∙ ap (λ b. cond b (count q) 0) (ap (has_item ps) (sym same) ∙ h.0) in
          omega arith
      | false ↦ λ e.
          let none = absent-share q (p.0, count p.0) e in
          let rest = new q in
          omega arith
    ] refl

-- ---- what is left of a list

pub has_item-filter : (test : Item → Bool) (xs : List (Item × ℕ)) (q : Item)
    → has_item (filter (λ p. test p.0) xs) q ≡ (has_item xs q && test q)
has_item-filter test [] q = refl
has_item-filter test (p ∷ ps) q =
    let rest = has_item-filter test ps q in
    elim (item_eq p.0 q) as (λ b. item_eq p.0 q ≡ b
    → has_item (cond (test p.0) (p ∷ filter (λ r. test r.0) ps) (filter (λ r. test r.0) ps)) q
    ≡ ((b || has_item ps q) && test q)) [
      | true ↦ λ e.
          let same = ap test (item_eq-same p.0 q e) in
          elim (test p.0) as (λ t. test p.0 ≡ t
          → has_item (cond t (p ∷ filter (λ r. test r.0) ps) (filter (λ r. test r.0) ps)) q ≡ test q) [
            | true ↦ λ t. ap (λ b. b || has_item (filter (λ r. test r.0) ps) q) e ∙ sym (sym same ∙ t)
            | false ↦ λ t. rest ∙ ap (λ b. has_item ps q && b) (sym same ∙ t) ∙ nothing (has_item ps q)
                ∙ sym (sym same ∙ t)
          ] refl
      | false ↦ λ e. elim (test p.0) as (λ t.
          has_item (cond t (p ∷ filter (λ r. test r.0) ps) (filter (λ r. test r.0) ps)) q
          ≡ (has_item ps q && test q)) [
            | true ↦ ap (λ b. b || has_item (filter (λ r. test r.0) ps) q) e ∙ rest
            | false ↦ rest
          ]
    ] refl
  where
    nothing : (b : Bool) → (b && false) ≡ false
    nothing true = refl
    nothing false = refl

pub Distinct-filter : (test : Item × ℕ → Bool) (xs : List (Item × ℕ)) → Distinct xs → Distinct (filter test xs)
Distinct-filter test [] h = tt
Distinct-filter test (p ∷ ps) h =
    elim (test p) as (λ b. Distinct (cond b (p ∷ filter test ps) (filter test ps))) [
      | true ↦ (still-absent ps p.0 h.0, Distinct-filter test ps h.1)
      | false ↦ Distinct-filter test ps h.1
    ]
  where
    still-absent : (xs : List (Item × ℕ)) (q : Item) → has_item xs q ≡ false → has_item (filter test xs) q ≡ false
    still-absent [] q h = refl
    still-absent (x ∷ xs) q h =
        let parts = or_false (item_eq x.0 q) (has_item xs q) h in
        elim (test x) as (λ b. has_item (cond b (x ∷ filter test xs) (filter test xs)) q ≡ false) [
          | true ↦ ap (λ b. b || has_item (filter test xs) q) parts.0 ∙ still-absent xs q parts.1
          | false ↦ still-absent xs q parts.1
        ]

has_item-anew : (count : Item × ℕ → ℕ) (xs : List (Item × ℕ)) (q : Item)
    → has_item (map (λ p. (p.0, count p)) xs) q ≡ has_item xs q
has_item-anew count [] q = refl
has_item-anew count (p ∷ ps) q = ap (λ b. item_eq p.0 q || b) (has_item-anew count ps q)

pub Distinct-anew : (count : Item × ℕ → ℕ) (xs : List (Item × ℕ)) → Distinct xs → Distinct (map (λ p. (p.0, count p)) xs)
Distinct-anew count [] h = tt
Distinct-anew count (p ∷ ps) h = (has_item-anew count ps p.0 ∙ h.0, Distinct-anew count ps h.1)

pub Distinct-append : (xs ys : List (Item × ℕ)) → Distinct xs → Distinct ys
    → AllByRecursion (λ x. has_item ys x.0 ≡ false) xs → Distinct (xs ++ ys)
Distinct-append [] ys g h apart = h
Distinct-append (x ∷ xs) ys g h apart = (
  absent-both xs ys x.0 g.0 apart.0,
  Distinct-append xs ys g.1 h apart.1,
)
  where
    absent-both : (xs ys : List (Item × ℕ)) (q : Item) → has_item xs q ≡ false → has_item ys q ≡ false
        → has_item (xs ++ ys) q ≡ false
    absent-both [] ys q g h = h
    absent-both (x ∷ xs) ys q g h =
        let parts = or_false (item_eq x.0 q) (has_item xs q) g in
        ap (λ b. b || has_item (xs ++ ys) q) parts.0 ∙ absent-both xs ys q parts.1 h

pub has_item-anew_at : (count : Item × ℕ → ℕ) (xs : List (Item × ℕ)) (q : Item)
    → has_item (map (λ p. (p.0, count p)) xs) q ≡ has_item xs q
has_item-anew_at = has_item-anew

-- the entry that is found
pub found-count : (q : Item) (xs : List (Item × ℕ)) → Distinct xs
    → option_map_or (λ (p : Item × ℕ). p.1) (list_find (λ (p : Item × ℕ). item_eq p.0 q) xs) 0 ≡ count_in xs q
found-count q [] h = refl
found-count q (p ∷ ps) h =
    let cons = count_in-cons p ps q in
    elim (item_eq p.0 q) as (λ b. item_eq p.0 q ≡ b
    → option_map_or (λ (r : Item × ℕ). r.1) (cond b (Some p) (list_find (λ (r : Item × ℕ). item_eq r.0 q) ps)) 0
    ≡ count_in (p ∷ ps) q) [
      | true ↦ λ e.
          let same = item_eq-same p.0 q e in
          let own : share q p ≡ p.1 = ap (λ b. cond b p.1 0) (item_eq-symm q p.0 ∙ e) in
          let none = count_in-absent ps q (ap (has_item ps) (sym same) ∙ h.0) in
          omega arith
      | false ↦ λ e.
          let none = absent-share q p e in
          let rest = found-count q ps h.1 in
          omega arith
    ] refl

-- ---- the sum

record Put (test : Item × ℕ → Bool) (k : Item × ℕ) (es new : List (Item × ℕ)) : Type 0 where
  one_more : length new ≡ 1 + length es
  tested : list_any test new ≡ (test k || list_any test es)
  items : (q : Item) → has_item new q ≡ (item_eq k.0 q || has_item es q)

swap_or : (a b c : Bool) → (a || (b || c)) ≡ (b || (a || c))
swap_or true true c = refl
swap_or true false c = refl
swap_or false true c = refl
swap_or false false c = refl

put-absent : (test : Item × ℕ → Bool) (carbon : Bool) (k : Item) (v : ℕ) (es : List (Item × ℕ)) → has_item es k ≡ false
    → Put test (k, v) es (put (hill_cmp carbon) k v es)
put-absent test carbon k v [] h = record { one_more = refl; tested = refl; items = λ q. refl }
put-absent test carbon k v (e ∷ es) h =
    let parts = or_false (item_eq e.0 k) (has_item es k) h in
    let rest = put-absent test carbon k v es parts.1 in
    let more = rest.one_more in
    elim (hill_cmp carbon k e.0) as (λ o. hill_cmp carbon k e.0 ≡ o
    → Put test (k, v) (e ∷ es) (by_order o ((k, v) ∷ e ∷ es) ((e.0, v) ∷ es) (e ∷ put (hill_cmp carbon) k v es))) [
      | Less ↦ λ _. record { one_more = omega arith; tested = refl; items = λ q. refl }
      | Equal ↦ λ is. absurd (false≢true (sym parts.0 ∙ ap (item_eq e.0) (hill_same carbon k e.0 is) ∙ item_eq-itself e.0))
      | Greater ↦ λ _. record {
        one_more = omega arith;
        tested =
            ap (λ b. test e || b) rest.tested ∙ swap_or (test e) (test (k, v)) (list_any test es);
        items = λ q. ap (λ b. item_eq e.0 q || b) (rest.items q) ∙ swap_or (item_eq e.0 q) (item_eq k q) (has_item es q);
      }
    ] refl

still-absent : (k : Item) (es new ps : List (Item × ℕ)) → ((q : Item) → has_item new q ≡ (item_eq k q || has_item es q))
    → AllByRecursion (λ p. item_eq p.0 k ≡ false) ps → AllByRecursion (λ p. has_item es p.0 ≡ false) ps
    → AllByRecursion (λ p. has_item new p.0 ≡ false) ps
still-absent k es new [] items apart absent = tt
still-absent k es new (p ∷ ps) items apart absent = (
  items p.0 ∙ ap (λ b. b || has_item es p.0) (item_eq-symm k p.0 ∙ apart.0) ∙ absent.0,
  still-absent k es new ps items apart.1 absent.1,
)

pub record SameEntries (test : Item × ℕ → Bool) (es ps new : List (Item × ℕ)) : Type 0 where
  pub one_each : length new ≡ length es + length ps
  pub tested : list_any test new ≡ (list_any test es || list_any test ps)

fold-entries : (test : Item × ℕ → Bool) (carbon : Bool) (es ps : List (Item × ℕ)) → Distinct ps
    → AllByRecursion (λ p. has_item es p.0 ≡ false) ps → SameEntries test es ps (fold (with_part carbon) es ps)
fold-entries test carbon es [] h absent = record { one_each = omega arith; tested = sym (or_nothing (list_any test es)) }
  where
    or_nothing : (b : Bool) → (b || false) ≡ b
    or_nothing true = refl
    or_nothing false = refl
fold-entries test carbon es (p ∷ ps) h absent =
    let none = count_in-absent es p.0 absent.0 in
    let own : count_in es p.0 + p.1 ≡ p.1 = omega arith in
    let step : Put test p es (with_part carbon es p) =
    subst (λ v. Put test p es (put (hill_cmp carbon) p.0 v es)) (sym own) (put-absent test carbon p.0 p.1 es absent.0) in
    let rest =
    fold-entries test carbon (with_part carbon es p) ps h.1
    (still-absent p.0 es (with_part carbon es p) ps step.items (none_of ps p.0 h.0) absent.1) in
    let more = step.one_more in
    let each = rest.one_each in
    record {
      one_each = omega arith;
      tested =
          rest.tested ∙ ap (λ b. b || list_any test ps) step.tested
          ∙ regroup (test p) (list_any test es) (list_any test ps);
    }
  where
    regroup : (a b c : Bool) → ((a || b) || c) ≡ (b || (a || c))
    regroup true true c = refl
    regroup true false c = refl
    regroup false true c = refl
    regroup false false c = refl

all_absent : (ps : List (Item × ℕ)) → AllByRecursion (λ p. has_item [] p.0 ≡ false) ps
all_absent [] = tt
all_absent (p ∷ ps) = (refl, all_absent ps)

-- the sum of items that stand once each has the entries with an atom
pub sum-entries : (test : Item × ℕ → Bool) (parts : List (Item × ℕ)) → Distinct parts
    → SameEntries test [] (with_atoms parts) (sum_of parts)
sum-entries test parts h =
    fold-entries test (has_carbon parts) [] (with_atoms parts) (Distinct-filter (λ p. ltb 0 p.1) parts h)
    (all_absent (with_atoms parts))
