-- The cover's order is a strict order: by falling lower bound, ties in lexicographic order of the counts.
use Rattle.std.proofs.Common.{◌≡◌, ℕ, ◌<◌, ◌≤◌, false, List, [], ◌∷◌, refl, sym, ◌∙◌, arith, eqb, ltb, ⊎_elim}
use Rattle.std.specs.Prelude.{◌⊎◌, ◌||◌, ◌&&◌}
use Rattle.std.specs.Ordering.{is_lt, nat_cmp, ordering_then, ordering_reverse, then_cmp, flip_args, on}
use Rattle.std.specs.declared.cmp.Ordering.{Ordering}
use Rattle.std.specs.declared.cmp.Ordering.TheVariants.{Less, Equal, Greater}
use Rattle.std.specs.Cmp.{IsTotalOrder, IsStrictWeakOrder}
use Rattle.std.specs.Cmp.Lexicographic.{slice_cmp}
use Rattle.std.proofs.lemmas.Bool.{cases_order, lt-ltb, le-ltb, ltb-false, eq-eqb, ne_eqb, or_parts, false≢true}
use Rattle.std.proofs.lemmas.Cmp.{nat_cmp_total, nat_list_cmp_total, lists_total, on_total, back_total, then_total}
use Rattle.std.proofs.lemmas.List.Sorted.{ranks_by}
use Rattle.std.proofs.lemmas.Map.Lookups.{CmpEqualImpliesEq, exact_bytes}
use Rattle.sorted_lists.specs.SortedLists.{IsStrictOrder, IsTheOrder}
use Rattle.sorted_lists.proofs.SortedListLaws.{the-order}
use Rattle.multinomial_bounds.specs.Isotopologue.{Element}
use Rattle.isotopologue_sets.specs.Layers.{lo_of, layer}
use Rattle.isotopologue_sets.specs.Covers.{stands_before, ordered_layer}

-- both parts of a comparison are equal where the whole is
then_tied : (o p : Ordering) → ordering_then o p ≡ Equal → p ≡ Equal
then_tied Less p e = absurd (let t : ◌≡◌ {A = Ordering} Less Equal = e in cc)
then_tied Equal p e = e
then_tied Greater p e = absurd (let t : ◌≡◌ {A = Ordering} Greater Equal = e in cc)

first_tied : (o p : Ordering) → ordering_then o p ≡ Equal → o ≡ Equal
first_tied Less p e = e
first_tied Equal p e = refl
first_tied Greater p e = e

-- lists whose items compare as equal only where they are the same
exact_lists : {K : Type 0} (R : K → K → Ordering) → CmpEqualImpliesEq R → CmpEqualImpliesEq (slice_cmp R)
exact_lists R exact [] [] tied = refl
exact_lists R exact [] (y ∷ ys) tied = absurd (let t : ◌≡◌ {A = Ordering} Less Equal = tied in cc)
exact_lists R exact (x ∷ xs) [] tied = absurd (let t : ◌≡◌ {A = Ordering} Greater Equal = tied in cc)
exact_lists R exact (x ∷ xs) (y ∷ ys) tied =
    let first : x ≡ y = exact x y (first_tied (R x y) (slice_cmp R xs ys) tied) in
    let rest : xs ≡ ys = exact_lists R exact xs ys (then_tied (R x y) (slice_cmp R xs ys) tied) in
    cc

-- the comparison whose `Less` the order is
cover_cmp : List Element → List (List ℕ) → List (List ℕ) → Ordering
cover_cmp es = then_cmp (flip_args (on (lo_of es) nat_cmp)) (slice_cmp (slice_cmp nat_cmp))

cover_cmp_total : (es : List Element) → IsTotalOrder (cover_cmp es)
unfolding cover_cmp
cover_cmp_total es = then_total (back_total (on_total (lo_of es) nat_cmp_total)) (lists_total nat_list_cmp_total)

pub less_is : (x y : ℕ) (o : Ordering) → (ltb x y || (eqb y x && is_lt o)) ≡ is_lt (ordering_then (nat_cmp x y) o)
less_is x y o =
    ⊎_elim
    (λ (same : x ≡ y). rw (le-ltb x y (omega arith), eq-eqb x y same, eq-eqb y x (sym same)) refl)
    (λ (apart : (x < y) ⊎ (y < x)).
    ⊎_elim
    (λ (below : x < y). rw (lt-ltb x y below) refl)
    (λ (above : y < x).
    rw (le-ltb x y (omega arith), ne_eqb x y (λ e. omega arith), ne_eqb y x (λ e. omega arith)) refl)
    apart)
    (cases_order x y)

stands_before_is : (es : List Element) (a b : List (List ℕ)) → stands_before es a b ≡ is_lt (cover_cmp es a b)
unfolding cover_cmp
stands_before_is es a b = less_is (lo_of es b) (lo_of es a) (slice_cmp (slice_cmp nat_cmp) a b)

tied_unless_less : {K : Type 0} {R : K → K → Ordering} (total : IsTotalOrder R) (a b : K) → is_lt (R a b) ≡ false →
    is_lt (R b a) ≡ false → R a b ≡ Equal
tied_unless_less {K} {R} total a b first second =
    cases (R a b) (R b a) (total.antisymm b a) first second
  where
    cases : (o p : Ordering) → p ≡ ordering_reverse o → is_lt o ≡ false → is_lt p ≡ false → o ≡ Equal
    cases Less p turned first second = absurd (false≢true (sym first))
    cases Equal p turned first second = refl
    cases Greater p turned first second = absurd (false≢true (sym (rw turned at second)))

-- The order is strict, and two isotopologues of which neither stands before the other are one.
pub stands_before-IsStrictOrder : (es : List Element) → IsStrictOrder (stands_before es)
unfolding cover_cmp
stands_before-IsStrictOrder es =
    let less : IsStrictWeakOrder (λ a b. is_lt (cover_cmp es a b)) = ranks_by (cover_cmp_total es) (λ a. a) in
    record {
      weak = record {
        one_way = λ a b before. stands_before_is es b a ∙ less.one_way a b (sym (stands_before_is es a b) ∙ before);
        chain = λ a b c first second.
            stands_before_is es a c
            ∙ less.chain a b c (sym (stands_before_is es a b) ∙ first) (sym (stands_before_is es b c) ∙ second);
      };
      one = λ a b first second.
          let tied : cover_cmp es a b ≡ Equal =
          tied_unless_less (cover_cmp_total es) a b (sym (stands_before_is es a b) ∙ first)
          (sym (stands_before_is es b a) ∙ second) in
          exact_lists (slice_cmp nat_cmp) exact_bytes a b
          (then_tied (nat_cmp (lo_of es b) (lo_of es a)) (slice_cmp (slice_cmp nat_cmp) a b) tied);
    }

-- what does not stand before another has no greater lower bound
pub lo_of-falls : (es : List Element) (a b : List (List ℕ)) → stands_before es b a ≡ false → lo_of es b ≤ lo_of es a
lo_of-falls es a b behind = ltb-false (lo_of es a) (lo_of es b) (or_parts _ _ behind).0

-- The ordered layer has the layer's members, in order, and no other list of them is in order.
pub ordered_layer-IsTheOrder : (es : List Element) (threshold : ℕ) →
    IsTheOrder (stands_before es) (layer es threshold) (ordered_layer es threshold)
unfolding ordered_layer
ordered_layer-IsTheOrder es threshold = the-order (stands_before-IsStrictOrder es) (layer es threshold)
