-- The entries of an order with the counts of a list are the formula of the list.
use Rattle.std.proofs.Common.{◌≡◌, ℕ, zero, ◌-◌, ◌<◌, ◌≤◌, Bool, true, false, cond, ltb, T, ◌⊎◌, inl, inr, List, []}
use Rattle.std.proofs.Common.{◌∷◌, length, map, get_or, refl, sym, ap, subst, ◌∙◌, arith}
use Rattle.std.specs.Prelude.{All, not}
use Rattle.std.specs.List.{AllByRecursion, zip}
use Rattle.std.specs.Ordering.{is_lt}
use Rattle.std.specs.FinMap.{is_sorted}
use Rattle.std.specs.FinMap.Entries.{below_all}
use Rattle.std.proofs.lemmas.Bool.{ltb-true, ltb-false}
use Rattle.std.proofs.lemmas.List.Elements.{All-from_recursion, recursion_from_All}
use Rattle.written_items.specs.declared.item.Item.{Item}
use Rattle.written_items.specs.Items.{item_eq}
use Rattle.formula_text.specs.HillOrder.{hill_cmp}
use Rattle.formula_text.specs.Formulas.{IsItem, IsParts, count_in, has_carbon, sum_of}
use Rattle.formula_text.proofs.CountsInOrder.{share, count_in-cons, t_first, t_second, t_both}
use Rattle.formula_text.proofs.HillOrderLaws.{IsTrue-T}
use Rattle.formula_text.proofs.SumFolds.{HasAtoms, with_atoms, sum_of-sorted, sum_of-counts, sum_of-positive}
use Rattle.formula_text.proofs.SumLimits.{same_sums}
use Rattle.formula_text.proofs.CarbonAmongCounts.{has_carbon-same}
use Rattle.adducts.specs.Ions.{has_item}
use Rattle.adducts.proofs.ItemLists.{Distinct, own-counts, counted-anew, count_in-absent, sum-Distinct, sum-entries, Distinct-filter}
use Rattle.candidates.specs.HillOrders.{numbered, is_carbon, others_of, counted, with_counts}
use Rattle.candidates.proofs.NumberedItems.{IsApart, numbered-Distinct, at-most-number, at-number, none-counted}
use Rattle.candidates.proofs.NumberedItems.{carbon-numbered, count_in-filter, others-no_carbon, no_carbon-counted}
use Rattle.candidates.proofs.NumberedItems.{length-filtered, length-numbered}

-- ---- what an order is

-- an order in which the items of a formula stand, with or without carbon
record IsOrder (carbon : Bool) (items : List Item) (order : List (Item × ℕ)) : Type 0 where
  sorted : T (is_sorted (hill_cmp carbon) order)
  distinct : Distinct order
  positive : AllByRecursion HasAtoms order
  numbers : AllByRecursion (λ p. p.1 ≡ count_in (numbered items) p.0) order
  absent : (q : Item) → has_item order q ≡ false
      → (count_in (numbered items) q ≡ 0) ⊎ ((carbon ≡ false) × (is_carbon q ≡ true))

own-numbers : (order : List (Item × ℕ)) (number : Item → ℕ) → Distinct order
    → ((q : Item) → 0 < count_in order q → count_in order q ≡ number q) → AllByRecursion HasAtoms order
    → AllByRecursion (λ p. p.1 ≡ number p.0) order
own-numbers order number apart same some = each order (own-counts order apart) some
  where
    each : (ps : List (Item × ℕ)) → AllByRecursion (λ p. count_in order p.0 ≡ p.1) ps → AllByRecursion HasAtoms ps
        → AllByRecursion (λ p. p.1 ≡ number p.0) ps
    each [] own some = tt
    each (p ∷ ps) own some = (sym own.0 ∙ same p.0 (omega (arith, own.0, some.0)), each ps own.1 some.1)

carbon-order : (items : List Item) (counts : List ℕ) → has_carbon (zip items counts) ≡ true
    → IsOrder true items (sum_of (numbered items))
carbon-order items counts carbon =
    let order = sum_of (numbered items) in
    record {
      sorted =
          subst (λ b. T (is_sorted (hill_cmp b) order)) (carbon-numbered zero items counts carbon) (sum_of-sorted (numbered items));
      distinct = sum-Distinct (numbered items);
      positive = sum_of-positive (numbered items);
      numbers =
          own-numbers order (count_in (numbered items)) (sum-Distinct (numbered items))
          (λ q _. sum_of-counts (numbered items) q) (sum_of-positive (numbered items));
      absent = λ q none. inl (sym (sum_of-counts (numbered items) q) ∙ count_in-absent order q none);
    }

other-order : (items : List Item) → IsOrder false items (sum_of (others_of (numbered items)))
other-order items =
    let others = others_of (numbered items) in
    let order = sum_of others in
    let counts : (q : Item) → count_in order q ≡ cond (not (is_carbon q)) (count_in (numbered items) q) 0 =
    λ q. sum_of-counts others q ∙ count_in-filter (λ item. not (is_carbon item)) (numbered items) q in
    record {
      sorted = subst (λ b. T (is_sorted (hill_cmp b) order)) (others-no_carbon (numbered items)) (sum_of-sorted others);
      distinct = sum-Distinct others;
      positive = sum_of-positive others;
      numbers =
          own-numbers order (count_in (numbered items)) (sum-Distinct others)
          (λ q some. counts q ∙ kept (not (is_carbon q)) (count_in (numbered items) q) (subst (λ n. 0 < n) (counts q) some))
          (sum_of-positive others);
      absent = λ q none.
          let nothing : cond (not (is_carbon q)) (count_in (numbered items) q) 0 ≡ 0 =
          sym (counts q) ∙ count_in-absent order q none in
          elim (is_carbon q) as (λ b. is_carbon q ≡ b → cond (not b) (count_in (numbered items) q) 0 ≡ 0
          → (count_in (numbered items) q ≡ 0) ⊎ ((false ≡ false) × (is_carbon q ≡ true))) [
            | true ↦ λ e _. inr (refl, e)
            | false ↦ λ _ h. inl h
          ] refl nothing;
    }
  where
    kept : (b : Bool) (n : ℕ) → 0 < cond b n 0 → cond b n 0 ≡ n
    kept true n h = refl
    kept false n h = absurd (omega (arith, h))

-- ---- the entries with their counts

entries-counted : (items : List Item) (counts : List ℕ) (order : List (Item × ℕ)) → IsApart items
    → length counts ≡ length items → AllByRecursion HasAtoms order
    → AllByRecursion (λ p. p.1 ≡ count_in (numbered items) p.0) order
    → map (counted counts) order ≡ map (λ p. (p.0, count_in (zip items counts) p.0)) order
entries-counted items counts [] apart same some numbers = refl
entries-counted items counts (p ∷ ps) apart same some numbers =
    let here : get_or counts (p.1 - 1) 0 ≡ count_in (zip items counts) p.0 =
    ap (λ n. get_or counts (n - 1) 0) numbers.0
    ∙ at-number zero items counts p.0 (numbered-Distinct 1 items apart) same (omega (arith, numbers.0, some.0)) in
    ap (λ n. (p.0, n) ∷ map (counted counts) ps) here
    ∙ ap (λ l. (p.0, count_in (zip items counts) p.0) ∷ l) (entries-counted items counts ps apart same some.1 numbers.1)

counts-with_atoms : (ps : List (Item × ℕ)) (q : Item) → count_in (with_atoms ps) q ≡ count_in ps q
counts-with_atoms [] q = refl
counts-with_atoms (p ∷ ps) q =
    let rest = counts-with_atoms ps q in
    let old = count_in-cons p ps q in
    elim (ltb 0 p.1) as (λ b. ltb 0 p.1 ≡ b → count_in (cond b (p ∷ with_atoms ps) (with_atoms ps)) q ≡ count_in (p ∷ ps) q) [
      | true ↦ λ e. let new = count_in-cons p (with_atoms ps) q in omega (arith, new, old, rest)
      | false ↦ λ e.
          let none = ltb-false 0 p.1 e in
          let nothing : share q p ≡ 0 =
          elim (item_eq q p.0) as (λ b. cond b p.1 0 ≡ 0) [ true ↦ omega (arith, none) | false ↦ refl ] in
          omega (arith, old, nothing, rest)
    ] refl

have-atoms : (ps : List (Item × ℕ)) → AllByRecursion HasAtoms (with_atoms ps)
have-atoms [] = tt
have-atoms (p ∷ ps) =
    elim (ltb 0 p.1) as (λ b. ltb 0 p.1 ≡ b → AllByRecursion HasAtoms (cond b (p ∷ with_atoms ps) (with_atoms ps))) [
      | true ↦ λ e. (ltb-true 0 p.1 e, have-atoms ps)
      | false ↦ λ _. have-atoms ps
    ] refl

below-counted : (carbon : Bool) (counts : List ℕ) (x : Item) (order : List (Item × ℕ)) → T (below_all (hill_cmp carbon) x order)
    → T (below_all (hill_cmp carbon) x (with_counts counts order))
below-counted carbon counts x [] h = tt
below-counted carbon counts x (p ∷ ps) h =
    let rest = below-counted carbon counts x ps (t_second _ _ h) in
    elim (ltb 0 (get_or counts (p.1 - 1) 0)) as (λ b. T (below_all (hill_cmp carbon) x
    (cond b (counted counts p ∷ with_counts counts ps) (with_counts counts ps)))) [
      | true ↦ t_both (is_lt (hill_cmp carbon x p.0)) _ (t_first _ _ h) rest
      | false ↦ rest
    ]

sorted-counted : (carbon : Bool) (counts : List ℕ) (order : List (Item × ℕ)) → T (is_sorted (hill_cmp carbon) order)
    → T (is_sorted (hill_cmp carbon) (with_counts counts order))
sorted-counted carbon counts [] h = tt
sorted-counted carbon counts (p ∷ ps) h =
    let rest = sorted-counted carbon counts ps (t_second _ _ h) in
    elim (ltb 0 (get_or counts (p.1 - 1) 0)) as (λ b. T (is_sorted (hill_cmp carbon)
    (cond b (counted counts p ∷ with_counts counts ps) (with_counts counts ps)))) [
      | true ↦ t_both _ _ (below-counted carbon counts p.0 ps (t_first _ _ h)) rest
      | false ↦ rest
    ]

-- ---- they are the formula

formula-counted : (carbon : Bool) (items : List Item) (counts : List ℕ) (order : List (Item × ℕ)) → IsApart items
    → length counts ≡ length items → has_carbon (zip items counts) ≡ carbon → IsOrder carbon items order
    → with_counts counts order ≡ sum_of (zip items counts)
formula-counted carbon items counts order apart same has is =
    let parts = zip items counts in
    let found : with_counts counts order ≡ with_atoms (map (λ p. (p.0, count_in parts p.0)) order) =
    ap with_atoms (entries-counted items counts order apart same is.positive is.numbers) in
    let sums : (q : Item) → count_in (with_counts counts order) q ≡ count_in parts q =
    λ q. ap (λ l. count_in l q) found ∙ counts-with_atoms (map (λ p. (p.0, count_in parts p.0)) order) q
    ∙ counted-anew (count_in parts) order is.distinct q ∙ present q (has_item order q) refl in
    same_sums parts (with_counts counts order)
    (record {
      ordered =
          IsTrue-T _ (subst (λ b. T (is_sorted (hill_cmp b) (with_counts counts order)))
          (sym (has_carbon-same (with_counts counts order) parts sums ∙ has)) (sorted-counted carbon counts order is.sorted));
      positive = All-from_recursion HasAtoms _ (have-atoms (map (counted counts) order));
      counts = sums;
    })
  where
    present : (q : Item) (b : Bool) → has_item order q ≡ b → cond b (count_in (zip items counts) q) 0 ≡ count_in (zip items counts) q
    present q true e = refl
    present q false e =
        elim (is.absent q e) [
          | inl none ↦ sym (none-counted zero items counts q none)
          | inr other ↦ sym (no_carbon-counted (zip items counts) q (has ∙ other.0) other.1)
        ]

pub carbon-formula : (items : List Item) (counts : List ℕ) → IsApart items → length counts ≡ length items
    → has_carbon (zip items counts) ≡ true → with_counts counts (sum_of (numbered items)) ≡ sum_of (zip items counts)
carbon-formula items counts apart same has =
    formula-counted true items counts (sum_of (numbered items)) apart same has (carbon-order items counts has)

pub other-formula : (items : List Item) (counts : List ℕ) → IsApart items → length counts ≡ length items
    → has_carbon (zip items counts) ≡ false
    → with_counts counts (sum_of (others_of (numbered items))) ≡ sum_of (zip items counts)
other-formula items counts apart same has =
    formula-counted false items counts (sum_of (others_of (numbered items))) apart same has (other-order items)

-- ---- places and items

abbrev pub IsPlace : List ℕ → Item × ℕ → Type 0
IsPlace counts p = (1 ≤ p.1) × (p.1 ≤ length counts)

places : (items : List Item) (counts : List ℕ) (order : List (Item × ℕ)) → IsApart items → length counts ≡ length items
    → AllByRecursion HasAtoms order → AllByRecursion (λ p. p.1 ≡ count_in (numbered items) p.0) order
    → AllByRecursion (IsPlace counts) order
places items counts [] apart same some numbers = tt
places items counts (p ∷ ps) apart same some numbers =
    let most = at-most-number zero items p.0 (numbered-Distinct 1 items apart) in
    ((some.0, omega (arith, most, numbers.0, same)), places items counts ps apart same some.1 numbers.1)

pub carbon-places : (items : List Item) (counts : List ℕ) → IsApart items → length counts ≡ length items
    → has_carbon (zip items counts) ≡ true → All (IsPlace counts) (sum_of (numbered items))
carbon-places items counts apart same has =
    let is = carbon-order items counts has in
    All-from_recursion (IsPlace counts) (sum_of (numbered items))
    (places items counts (sum_of (numbered items)) apart same is.positive is.numbers)

pub other-places : (items : List Item) (counts : List ℕ) → IsApart items → length counts ≡ length items
    → All (IsPlace counts) (sum_of (others_of (numbered items)))
other-places items counts apart same =
    let is = other-order items in
    All-from_recursion (IsPlace counts) (sum_of (others_of (numbered items)))
    (places items counts (sum_of (others_of (numbered items))) apart same is.positive is.numbers)

items-counted : (counts : List ℕ) (order : List (Item × ℕ)) → AllByRecursion (λ p. IsItem p.0) order
    → AllByRecursion (λ p. IsItem p.0) (with_counts counts order)
items-counted counts [] h = tt
items-counted counts (p ∷ ps) h =
    elim (ltb 0 (get_or counts (p.1 - 1) 0)) as (λ b. AllByRecursion (λ r. IsItem r.0)
    (cond b (counted counts p ∷ with_counts counts ps) (with_counts counts ps))) [
      | true ↦ (h.0, items-counted counts ps h.1)
      | false ↦ items-counted counts ps h.1
    ]

pub order-items : (counts : List ℕ) (order : List (Item × ℕ)) → IsParts order → All (λ p. IsItem p.0) (with_counts counts order)
order-items counts order is =
    All-from_recursion (λ (p : Item × ℕ). IsItem p.0) (with_counts counts order)
    (items-counted counts order (recursion_from_All (λ (p : Item × ℕ). IsItem p.0) order is.are_items))

-- ---- how many

pub carbon-few : (items : List Item) → IsApart items → length (sum_of (numbered items)) ≤ length items
carbon-few items apart =
    let entries = (sum-entries (λ _. true) (numbered items) (numbered-Distinct 1 items apart)).one_each in
    let fewer = length-filtered (λ p. ltb 0 p.1) (numbered items) in
    omega (arith, entries, fewer, length-numbered 1 items)

pub other-few : (items : List Item) → IsApart items → length (sum_of (others_of (numbered items))) ≤ length items
other-few items apart =
    let others = others_of (numbered items) in
    let distinct = Distinct-filter (λ p. not (is_carbon p.0)) (numbered items) (numbered-Distinct 1 items apart) in
    let entries = (sum-entries (λ _. true) others distinct).one_each in
    let fewer = length-filtered (λ p. ltb 0 p.1) others in
    let shorter = length-filtered (λ p. not (is_carbon p.0)) (numbered items) in
    omega (arith, entries, fewer, shorter, length-numbered 1 items)
