-- The order of items is a strict order, and the items of a longer list begin with those of a shorter one.
use Rattle.std.proofs.Common.{◌≡◌, ℕ, ◌+◌, ◌<◌, ◌≤◌, false, List, [], ◌∷◌, ◌++◌, length, map, get_or, eqb, ltb, refl, sym, ◌∙◌, ap, arith, All, ⊎_elim}
use Rattle.std.specs.Prelude.{◌⊎◌, ◌≢◌, ◌||◌, ◌&&◌, AllPairs}
use Rattle.std.specs.Ordering.{is_lt, nat_cmp, ordering_then, ordering_reverse, then_cmp, flip_args, on}
use Rattle.std.specs.declared.cmp.Ordering.{Ordering}
use Rattle.std.specs.declared.cmp.Ordering.TheVariants.{Less, Equal, Greater}
use Rattle.std.specs.Cmp.{IsTotalOrder, IsStrictWeakOrder}
use Rattle.std.specs.Cmp.Lexicographic.{slice_cmp}
use Rattle.std.specs.List.Sorted.{IsPermutation, IsSortedBy}
use Rattle.std.proofs.lemmas.Bool.{cases_order, lt-ltb, le-ltb, ltb-false, eq-eqb, ne_eqb, or_parts, false≢true}
use Rattle.std.proofs.lemmas.Cmp.{nat_cmp_total, nat_list_cmp_total, on_total, back_total, then_total}
use Rattle.std.proofs.lemmas.List.{map-append, length-map, get_or-map}
use Rattle.std.proofs.lemmas.List.Elements.{All-weaker, All-head, All-tail, All-map}
use Rattle.std.proofs.lemmas.List.Sorted.{ranks_by, sorted_far, All-permutation, length_permutation}
use Rattle.std.proofs.lemmas.List.Sorted.{IsPermutation-map, IsPermutation-trans, IsPermutation-append_right}
use Rattle.std.proofs.lemmas.Map.Lookups.{exact_bytes}
use Rattle.sorted_lists.specs.SortedLists.{sorted_by, IsStrictOrder}
use Rattle.sorted_lists.proofs.SortedListLaws.{IsPermutation-sorted_by, IsSortedBy-sorted_by, AllPairs-sorted_by, sorted_by-only}
use Rattle.multinomial_bounds.specs.Bounds.{ceiling_of}
use Rattle.multinomial_bounds.specs.Path.{bound_of}
use Rattle.sub_isotopologues.specs.SubIsotopologues.{SubIsotopologue, sub_isotopologue_of, stands_before}
use Rattle.sub_isotopologues.specs.Children.{counts_over}
use Rattle.sub_isotopologues.specs.Growth.{AreItemsOver, items_over, item_stands_before}
use Rattle.sub_isotopologues.proofs.ListParts.{AllPairs-append}
use Rattle.sub_isotopologues.proofs.CountsOver.{over-above, over-distinct}
use Rattle.sub_isotopologues.proofs.ItemLists.{counts_in, counts-of_items, AreItems, AreItems-of, item-at, counts-at}

then_tied : (o p : Ordering) → ordering_then o p ≡ Equal → p ≡ Equal
then_tied Less p e = absurd (let t : ◌≡◌ {A = Ordering} Less Equal = e in cc)
then_tied Equal p e = e
then_tied Greater p e = absurd (let t : ◌≡◌ {A = Ordering} Greater Equal = e in cc)

less_is : (x y : ℕ) (o : Ordering) → (ltb x y || (eqb y x && is_lt o)) ≡ is_lt (ordering_then (nat_cmp x y) o)
less_is x y o =
    ⊎_elim
    (λ (same : x ≡ y). rw (le-ltb x y (omega arith), eq-eqb x y same, eq-eqb y x (sym same)) refl)
    (λ (apart : (x < y) ⊎ (y < x)).
    ⊎_elim
    (λ (below : x < y). rw (lt-ltb x y below) refl)
    (λ (above : y < x).
    rw (le-ltb x y (omega arith), ne_eqb x y (λ e. omega arith), ne_eqb y x (λ e. omega arith)) refl)
    apart)
    (cases_order x y)

tied_unless_less : {K : Type 0} {R : K → K → Ordering} (total : IsTotalOrder R) (a b : K) → is_lt (R a b) ≡ false →
    is_lt (R b a) ≡ false → R a b ≡ Equal
tied_unless_less {K} {R} total a b first second =
    cases (R a b) (R b a) (total.antisymm b a) first second
  where
    cases : (o p : Ordering) → p ≡ ordering_reverse o → is_lt o ≡ false → is_lt p ≡ false → o ≡ Equal
    cases Less p turned first second = absurd (false≢true (sym first))
    cases Equal p turned first second = refl
    cases Greater p turned first second = absurd (false≢true (sym (rw turned at second)))

All-append_right : {X : Type 0} (P : X → Type 0) (xs ys : List X) → All P (xs ++ ys) → All P ys
All-append_right P [] ys all = all
All-append_right P (x ∷ xs) ys all = All-append_right P xs ys (All-tail P x (xs ++ ys) all)

module _ (ws : List ℕ) where
  -- the comparison of counts whose `Less` the order is
  counts_cmp : List ℕ → List ℕ → Ordering
  counts_cmp = then_cmp (flip_args (on (bound_of ceiling_of ws) nat_cmp)) (slice_cmp nat_cmp)

  counts_cmp_total : IsTotalOrder counts_cmp
  unfolding counts_cmp
  counts_cmp_total = then_total (back_total (on_total (bound_of ceiling_of ws) nat_cmp_total)) nat_list_cmp_total

  stands_before_is : (a b : List ℕ) → stands_before ws a b ≡ is_lt (counts_cmp a b)
  unfolding counts_cmp
  stands_before_is a b = less_is (bound_of ceiling_of ws b) (bound_of ceiling_of ws a) (slice_cmp nat_cmp a b)

  pub stands_before-IsStrictOrder : IsStrictOrder (stands_before ws)
  unfolding counts_cmp
  stands_before-IsStrictOrder =
      let less : IsStrictWeakOrder (λ a b. is_lt (counts_cmp a b)) = ranks_by counts_cmp_total (λ a. a) in
      record {
        weak = record {
          one_way = λ a b before. stands_before_is b a ∙ less.one_way a b (sym (stands_before_is a b) ∙ before);
          chain = λ a b c first second.
              stands_before_is a c
              ∙ less.chain a b c (sym (stands_before_is a b) ∙ first) (sym (stands_before_is b c) ∙ second);
        };
        one = λ a b first second.
            let tied : counts_cmp a b ≡ Equal =
            tied_unless_less counts_cmp_total a b (sym (stands_before_is a b) ∙ first)
            (sym (stands_before_is b a) ∙ second) in
            exact_bytes a b
            (then_tied (nat_cmp (bound_of ceiling_of ws b) (bound_of ceiling_of ws a)) (slice_cmp nat_cmp a b) tied);
      }

  -- what does not stand before another has no greater upper bound
  pub hi-falls : (a b : List ℕ) → stands_before ws b a ≡ false → bound_of ceiling_of ws b ≤ bound_of ceiling_of ws a
  hi-falls a b behind = ltb-false (bound_of ceiling_of ws a) (bound_of ceiling_of ws b) (or_parts _ _ behind).0

  -- the order of items is that of their counts
  pub item-order : (i j : SubIsotopologue) → i.hi ≡ bound_of ceiling_of ws i.counts →
      j.hi ≡ bound_of ceiling_of ws j.counts →
      item_stands_before i j ≡ stands_before ws i.counts j.counts
  unfolding counts_cmp
  item-order i j first second =
      rw (first, second) (sym (stands_before_is i.counts j.counts))

  Behind : List ℕ → List ℕ → Type 0
  Behind a b = stands_before ws b a ≡ false

  behind-sorted : (xs : List (List ℕ)) → IsSortedBy (stands_before ws) xs → AllPairs
      (λ a b. stands_before ws b a ≡ false) xs
  behind-sorted xs sorted i j d before within =
      sorted_far (stands_before ws) stands_before-IsStrictOrder.weak xs sorted i j d (omega arith) within

  sorted-behind : (xs : List (List ℕ)) → AllPairs (λ a b. stands_before ws b a ≡ false) xs → IsSortedBy
      (stands_before ws) xs
  sorted-behind xs behind k d from within = behind k (k + 1) d (omega arith) within

  above_is_before : (a b : List ℕ) → bound_of ceiling_of ws b < bound_of ceiling_of ws a → stands_before ws b a ≡ false
  above_is_before a b above =
      rw (
        le-ltb (bound_of ceiling_of ws a) (bound_of ceiling_of ws b) (omega arith),
        ne_eqb (bound_of ceiling_of ws b) (bound_of ceiling_of ws a) (λ e. omega arith),
      ) refl

  -- sorted counts behind sorted ones of greater upper bounds
  pub sorted-append : (u : ℕ) (xs ys : List (List ℕ)) → IsSortedBy (stands_before ws) xs → IsSortedBy
      (stands_before ws) ys →
      All (λ x. u < bound_of ceiling_of ws x) xs → All (λ y. bound_of ceiling_of ws y ≤ u) ys →
      IsSortedBy (stands_before ws) (xs ++ ys)
  sorted-append u xs ys first second high low =
      sorted-behind (xs ++ ys)
      (AllPairs-append (λ a b. stands_before ws b a ≡ false) xs ys (behind-sorted xs first) (behind-sorted ys second)
      (All-weaker (λ x. u < bound_of ceiling_of ws x) (λ x. All (λ y. stands_before ws y x ≡ false) ys)
      (λ x above.
      All-weaker (λ y. bound_of ceiling_of ws y ≤ u) (λ y. stands_before ws y x ≡ false)
      (λ y below. above_is_before x y (omega arith)) ys low)
      xs high))

  -- each item has the bounds of its counts
  pub AreItems-each : (items : List SubIsotopologue) → AreItems ws items →
      All (λ i. i ≡ sub_isotopologue_of ws i.counts) items
  AreItems-each items are k d within =
      item-at ws items are k within d ∙ ap (sub_isotopologue_of ws) (sym (counts-at ws items are k within d))

  pub AreItems-from_each : (items : List SubIsotopologue) → All (λ i. i ≡ sub_isotopologue_of ws i.counts) items →
      AreItems ws items
  AreItems-from_each [] each = refl
  AreItems-from_each (i ∷ items) each =
      let here : i ≡ sub_isotopologue_of ws i.counts = All-head
      (λ i. i ≡ sub_isotopologue_of ws i.counts) i items each in
      let rest : items ≡ map (sub_isotopologue_of ws) (counts_in items) =
      AreItems-from_each items (All-tail (λ i. i ≡ sub_isotopologue_of ws i.counts) i items each) in
      ap (λ j. j ∷ items) here ∙ ap (λ js. sub_isotopologue_of ws i.counts ∷ js) rest

  pub hi-each : (items : List SubIsotopologue) → All (λ i. i ≡ sub_isotopologue_of ws i.counts) items →
      All (λ i. i.hi ≡ bound_of ceiling_of ws i.counts) items
  unfolding sub_isotopologue_of
  hi-each items each =
      All-weaker (λ i. i ≡ sub_isotopologue_of ws i.counts) (λ i. i.hi ≡ bound_of ceiling_of ws i.counts)
      (λ i is. ap (λ (j : SubIsotopologue). j.hi) is) items each

  -- items in their order have their counts in order
  pub sorted-counts : (items : List SubIsotopologue) → All (λ i. i ≡ sub_isotopologue_of ws i.counts) items →
      IsSortedBy item_stands_before items → IsSortedBy (stands_before ws) (counts_in items)
  sorted-counts items each sorted k d from within =
      let inside : k + 1 < length items = rw length-map at within in
      let e : SubIsotopologue = sub_isotopologue_of ws d in
      let his = hi-each items each in
      let order : item_stands_before (get_or items (k + 1) (sub_isotopologue_of ws d))
      (get_or items k (sub_isotopologue_of ws d)) ≡ false =
      sorted k (sub_isotopologue_of ws d) from inside in
      let same = item-order (get_or items (k + 1) (sub_isotopologue_of ws d))
      (get_or items k (sub_isotopologue_of ws d))
      (his (k + 1) (sub_isotopologue_of ws d) inside) (his k (sub_isotopologue_of ws d) (omega arith)) in
      rw (
        get_or-map {Y = List ℕ} (λ (i : SubIsotopologue). i.counts) items (k + 1) (sub_isotopologue_of ws d) d inside,
        get_or-map {Y = List ℕ} (λ (i : SubIsotopologue). i.counts) items k (sub_isotopologue_of ws d) d (omega arith),
      ) (sym same ∙ order)

  module _ (n : ℕ) where
    pub over-counts : (u : ℕ) → counts_in (items_over ws n u) ≡ sorted_by (stands_before ws) (counts_over ws n u)
    unfolding items_over
    over-counts u = counts-of_items ws (sorted_by (stands_before ws) (counts_over ws n u))

    pub length-items_over : (u : ℕ) → length (items_over ws n u) ≡ length (counts_over ws n u)
    unfolding items_over
    length-items_over u =
        length-map (sorted_by (stands_before ws) (counts_over ws n u)) (sub_isotopologue_of ws)
        ∙ length_permutation (counts_over ws n u) (sorted_by (stands_before ws) (counts_over ws n u))
        (IsPermutation-sorted_by (stands_before ws) (counts_over ws n u))

    pub AreItemsOver-items : (u : ℕ) → AreItemsOver ws n u (items_over ws n u)
    unfolding items_over
    AreItemsOver-items u = record {
      values = AreItems-of ws (sorted_by (stands_before ws) (counts_over ws n u)) (items_over ws n u) refl;
      same_counts = rw (over-counts u) (IsPermutation-sorted_by (stands_before ws) (counts_over ws n u));
      distinct = rw (over-counts u)
          (AllPairs-sorted_by (λ a b. a ≢ b) (λ a b apart same. apart (sym same)) (stands_before ws)
          (counts_over ws n u)
          (over-distinct ws n u));
    }

    -- the items from before, and those that are found, in their order
    pub joined : (a u : ℕ) (items found sorted : List SubIsotopologue) → items ≡ items_over ws n u →
        AreItemsOver ws n a (items ++ found) → All (λ i. i.hi ≤ u) found → IsPermutation found sorted →
        IsSortedBy item_stands_before sorted → items ++ sorted ≡ items_over ws n a
    unfolding items_over
    joined a u items found sorted is over low moved in_order =
        let all_moved : IsPermutation (items ++ found) (items ++ sorted) = IsPermutation-append_right items found sorted
        moved in
        let each : All (λ i. i ≡ sub_isotopologue_of ws i.counts) (items ++ sorted) =
        All-permutation (λ i. i ≡ sub_isotopologue_of ws i.counts) (items ++ found) (items ++ sorted) all_moved
        (AreItems-each (items ++ found) over.values) in
        let each_sorted : All (λ i. i ≡ sub_isotopologue_of ws i.counts) sorted = All-append_right
        (λ i. i ≡ sub_isotopologue_of ws i.counts) items sorted each in
        let front : counts_in items ≡ sorted_by (stands_before ws) (counts_over ws n u) = ap counts_in is
        ∙ over-counts u in
        let front_sorted : IsSortedBy (stands_before ws) (counts_in items) =
        rw front (IsSortedBy-sorted_by stands_before-IsStrictOrder (counts_over ws n u)) in
        let high : All (λ x. u < bound_of ceiling_of ws x) (counts_in items) =
        rw front
        (All-permutation (λ x. u < bound_of ceiling_of ws x) (counts_over ws n u)
        (sorted_by (stands_before ws) (counts_over ws n u))
        (IsPermutation-sorted_by (stands_before ws) (counts_over ws n u)) (over-above ws n u)) in
        let low_sorted : All (λ i. i.hi ≤ u) sorted = All-permutation (λ i. i.hi ≤ u) found sorted moved low in
        let low_counts : All (λ y. bound_of ceiling_of ws y ≤ u) (counts_in sorted) =
        All-map (λ y. bound_of ceiling_of ws y ≤ u) (λ (i : SubIsotopologue). i.counts) sorted
        (λ k d within. omega (arith, low_sorted k d within, hi-each sorted each_sorted k d within)) in
        let whole : IsSortedBy (stands_before ws) (counts_in items ++ counts_in sorted) =
        sorted-append u (counts_in items) (counts_in sorted) front_sorted
        (sorted-counts sorted each_sorted in_order) high
        low_counts in
        let split : counts_in (items ++ sorted) ≡ counts_in items ++ counts_in sorted =
        map-append (λ (i : SubIsotopologue). i.counts) items sorted in
        let same : IsPermutation (counts_over ws n a) (counts_in (items ++ sorted)) =
        IsPermutation-trans (counts_over ws n a) (counts_in (items ++ found))
        (counts_in (items ++ sorted)) over.same_counts
        (IsPermutation-map (λ (i : SubIsotopologue). i.counts) (items ++ found) (items ++ sorted) all_moved) in
        AreItems-from_each (items ++ sorted) each
        ∙ ap (map (sub_isotopologue_of ws))
        (sorted_by-only stands_before-IsStrictOrder (counts_over ws n a) (counts_in (items ++ sorted)) same
        (rw split whole))

-- the comparison of items is an order
cmp_of_items : SubIsotopologue → SubIsotopologue → Ordering
cmp_of_items =
    then_cmp (flip_args (on (λ (i : SubIsotopologue). i.hi) nat_cmp))
    (on (λ (i : SubIsotopologue). i.counts) (slice_cmp nat_cmp))

pub item_order : IsStrictWeakOrder item_stands_before
unfolding cmp_of_items
item_order =
    let total : IsTotalOrder cmp_of_items =
    then_total (back_total (on_total (λ (i : SubIsotopologue). i.hi) nat_cmp_total))
    (on_total (λ (i : SubIsotopologue). i.counts) nat_list_cmp_total) in
    ranks_by total (λ (i : SubIsotopologue). i)
