-- The children of counts: exactly those whose parent the counts are, each once.
use Rattle.std.proofs.Common.{◌≡◌, ◌≢◌, ℕ, zero, suc, ◌+◌, ◌<◌, ◌≤◌, Bool, true, false, cond, List, [], ◌∷◌, ◌++◌}
use Rattle.std.proofs.Common.{length, map, sum, refl, ◌∙◌, ap, subst, arith, All}
use Rattle.std.specs.Prelude.{AllPairs, Contains, filter}
use Rattle.std.specs.List.{range_with_len}
use Rattle.std.proofs.lemmas.List.{map-append}
use Rattle.std.proofs.lemmas.List.Elements.{All-nil, All-cons, All-append, All-weaker}
use Rattle.multinomial_bounds.specs.Path.{first_above, atoms_above, parent_of}
use Rattle.multinomial_bounds.proofs.CompositionLemmas.{Contains-map, Contains-flat_map}
use Rattle.multinomial_bounds.proofs.PathLemmas.{IsParentMove, IsParentMove-from}
use Rattle.isotopologue_list.proofs.FlatLemmas.{flat_map_range_more}
use Rattle.sub_isotopologues.specs.Children.{moved, is_child_move, children_gaining, children_first, children}
use Rattle.sub_isotopologues.proofs.ChildMoves.{IsChildMove-from, is_child_move-from, IsChildBy, IsChildBy-from, IsChildMove-back, moved-back}
use Rattle.sub_isotopologues.proofs.ListParts.{contains_filter, contains_range, filter_range_more, AllPairs-none, AllPairs-one, AllPairs-append}

-- one child more
one_child : List ℕ → List ℕ → ℕ → ℕ → List (List ℕ)
one_child m x i j = cond (is_child_move m x i j) (moved x i j ∷ []) []

module _ (m x : List ℕ) where
  pub children_gaining-none : (i : ℕ) → children_gaining m x i 0 ≡ []
  unfolding children_gaining
  children_gaining-none i = refl

  pub children_gaining-more : (i n : ℕ) →
      children_gaining m x i (n + 1) ≡ children_gaining m x i n ++ cond (is_child_move m x i n) (moved x i n ∷ []) []
  unfolding children_gaining
  children_gaining-more i n =
      ap (map (moved x i)) (filter_range_more (is_child_move m x i) n)
      ∙ map-append (moved x i) (filter (is_child_move m x i) (range_with_len 0 n))
      (cond (is_child_move m x i n) (n ∷ []) [])
      ∙ ap (λ ys. map (moved x i) (filter (is_child_move m x i) (range_with_len 0 n)) ++ ys)
      (elim (is_child_move m x i n) as
      (λ b. map (moved x i) (cond b (n ∷ []) []) ≡ cond b (moved x i n ∷ []) []) [ true ↦ refl | false ↦ refl ])

  pub children_first-none : children_first m x 0 ≡ []
  unfolding children_first
  children_first-none = refl

  pub children_first-more : (n : ℕ) →
      children_first m x (n + 1) ≡ children_first m x n ++ children_gaining m x n (length x)
  unfolding children_first
  children_first-more n = flat_map_range_more (λ gain. children_gaining m x gain (length x)) n

-- a child by a move of one of the first isotopes
record IsEarlier (m x : List ℕ) (i n : ℕ) (y : List ℕ) : Type 0 where
  pub places : length y ≡ length x
  pub atoms : sum y ≡ sum x
  pub parent : parent_of m y ≡ x
  pub farther : atoms_above m y ≡ atoms_above m x + 1
  pub gain : first_above m y ≡ i
  pub loss : first_above y m < n

-- a child of counts
pub record IsChild (m x y : List ℕ) : Type 0 where
  pub places : length y ≡ length x
  pub atoms : sum y ≡ sum x
  pub parent : parent_of m y ≡ x
  pub farther : atoms_above m y ≡ atoms_above m x + 1

record IsChildBefore (m x : List ℕ) (n : ℕ) (y : List ℕ) : Type 0 where
  pub child : IsChild m x y
  pub gain : first_above m y < n

module _ (m x : List ℕ) (same : length m ≡ length x) where
  All-one : (i j : ℕ) → i < length x → All (IsChildBy m x i j) (cond (is_child_move m x i j) (moved x i j ∷ []) [])
  All-one i j within =
      let Goal : Bool → Type 0 = λ b. is_child_move m x i j ≡ b → All (IsChildBy m x i j)
      (cond b (moved x i j ∷ []) []) in
      (elim (is_child_move m x i j) as Goal [
        | true ↦ λ e.
            All-cons (IsChildBy m x i j) (moved x i j) []
            (IsChildBy-from m x i j same within (IsChildMove-from m x i j e)) (All-nil (IsChildBy m x i j))
        | false ↦ λ e. All-nil (IsChildBy m x i j)
      ]) refl

  All-gaining : (i n : ℕ) → i < length x → All (IsEarlier m x i n) (children_gaining m x i n)
  All-gaining i zero within = rw (children_gaining-none m x i) (All-nil (IsEarlier m x i 0))
  All-gaining i (suc n) within =
      let next : suc n ≡ n + 1 = omega arith in
      rw (next, children_gaining-more m x i n)
      (All-append (IsEarlier m x i (n + 1)) (children_gaining m x i n)
      (cond (is_child_move m x i n) (moved x i n ∷ []) [])
      (All-weaker (IsEarlier m x i n) (IsEarlier m x i (n + 1))
      (λ y e. record {
        places = e.places;
        atoms = e.atoms;
        parent = e.parent;
        farther = e.farther;
        gain = e.gain;
        loss =
            omega (arith, e.loss);
      })
      (children_gaining m x i n) (All-gaining i n within))
      (All-weaker (IsChildBy m x i n) (IsEarlier m x i (n + 1))
      (λ y e. record {
        places = e.places;
        atoms = e.atoms;
        parent = e.parent;
        farther = e.farther;
        gain = e.gain;
        loss =
            omega (arith, e.loss);
      })
      (cond (is_child_move m x i n) (moved x i n ∷ []) []) (All-one i n within)))

  All-first : (n : ℕ) → n ≤ length x → All (IsChildBefore m x n) (children_first m x n)
  All-first zero within = rw (children_first-none m x) (All-nil (IsChildBefore m x 0))
  All-first (suc n) within =
      let next : suc n ≡ n + 1 = omega arith in
      rw (next, children_first-more m x n)
      (All-append (IsChildBefore m x (n + 1)) (children_first m x n) (children_gaining m x n (length x))
      (All-weaker (IsChildBefore m x n) (IsChildBefore m x (n + 1))
      (λ y e. record { child = e.child; gain = omega (arith, e.gain) })
      (children_first m x n) (All-first n (omega arith)))
      (All-weaker (IsEarlier m x n (length x)) (IsChildBefore m x (n + 1))
      (λ y e. record {
        child = record { places = e.places; atoms = e.atoms; parent = e.parent; farther = e.farther };
        gain = omega (arith, e.gain);
      })
      (children_gaining m x n (length x)) (All-gaining n (length x) (omega arith))))

  pub All-children : All (IsChild m x) (children m x)
  All-children =
      All-weaker (IsChildBefore m x (length x)) (IsChild m x) (λ y e. e.child) (children m x)
      (All-first (length x) (omega arith))

  distinct-one : (i j : ℕ) → AllPairs (λ y z. y ≢ z) (cond (is_child_move m x i j) (moved x i j ∷ []) [])
  distinct-one i j =
      elim (is_child_move m x i j) as (λ b. AllPairs (λ y z. y ≢ z) (cond b (moved x i j ∷ []) [])) [
        | true ↦ AllPairs-one (λ y z. y ≢ z) (moved x i j)
        | false ↦ AllPairs-none (λ y z. y ≢ z)
      ]

  distinct-gaining : (i n : ℕ) → i < length x → AllPairs (λ y z. y ≢ z) (children_gaining m x i n)
  distinct-gaining i zero within = rw (children_gaining-none m x i) (AllPairs-none (λ y z. y ≢ z))
  distinct-gaining i (suc n) within =
      let next : suc n ≡ n + 1 = omega arith in
      rw (next, children_gaining-more m x i n)
      (AllPairs-append (λ y z. y ≢ z) (children_gaining m x i n) (cond (is_child_move m x i n) (moved x i n ∷ []) [])
      (distinct-gaining i n within) (distinct-one i n)
      (All-weaker (IsEarlier m x i n) (λ y. All (λ z. y ≢ z) (cond (is_child_move m x i n) (moved x i n ∷ []) []))
      (λ y e.
      All-weaker (IsChildBy m x i n) (λ z. y ≢ z)
      (λ z by same.
      let P : List ℕ → Type 0 = λ w. first_above w m < n in
      let h : first_above z m < n = subst P same e.loss in
      omega (arith, by.loss))
      (cond (is_child_move m x i n) (moved x i n ∷ []) []) (All-one i n within))
      (children_gaining m x i n) (All-gaining i n within)))

  distinct-first : (n : ℕ) → n ≤ length x → AllPairs (λ y z. y ≢ z) (children_first m x n)
  distinct-first zero within = rw (children_first-none m x) (AllPairs-none (λ y z. y ≢ z))
  distinct-first (suc n) within =
      let next : suc n ≡ n + 1 = omega arith in
      rw (next, children_first-more m x n)
      (AllPairs-append (λ y z. y ≢ z) (children_first m x n) (children_gaining m x n (length x))
      (distinct-first n (omega arith)) (distinct-gaining n (length x) (omega arith))
      (All-weaker (IsChildBefore m x n) (λ y. All (λ z. y ≢ z) (children_gaining m x n (length x)))
      (λ y e.
      All-weaker (IsEarlier m x n (length x)) (λ z. y ≢ z)
      (λ z by same.
      let P : List ℕ → Type 0 = λ w. first_above m w < n in
      let h : first_above m z < n = subst P same e.gain in
      omega (arith, by.gain))
      (children_gaining m x n (length x)) (All-gaining n (length x) (omega arith)))
      (children_first m x n) (All-first n (omega arith))))

  pub children-distinct : AllPairs (λ y z. y ≢ z) (children m x)
  children-distinct = distinct-first (length x) (omega arith)

-- counts that aren't the mode are among the children of their parent
pub Contains-children : (m y : List ℕ) (d : ℕ) → length m ≡ length y → sum m ≡ sum y → atoms_above m y ≡ suc d →
    Contains (children m (parent_of m y)) y
unfolding children_first children_gaining
Contains-children m y d same atoms far =
    let x : List ℕ = parent_of m y in
    let i : ℕ = first_above m y in
    let j : ℕ = first_above y m in
    let move : IsParentMove m y d = IsParentMove-from m y d same atoms far in
    let gains : first_above m y < length (parent_of m y) = omega (arith, move.above_within, move.places) in
    let loses : first_above y m < length (parent_of m y) = omega (arith, move.below_within, move.places) in
    let first = contains_range (length (parent_of m y)) (first_above m y) gains in
    let passes : is_child_move m (parent_of m y) (first_above m y) (first_above y m) ≡ true =
    is_child_move-from m (parent_of m y) i j (IsChildMove-back m y d same atoms far) in
    let kept : Contains (filter (is_child_move m (parent_of m y) (first_above m y))
    (range_with_len 0 (length (parent_of m y)))) (first_above y m) =
    contains_filter (is_child_move m (parent_of m y) (first_above m y)) (range_with_len 0 (length (parent_of m y)))
    (first_above y m) passes (contains_range (length (parent_of m y)) (first_above y m) loses) in
    let by : Contains (map (moved (parent_of m y) (first_above m y))
    (filter (is_child_move m (parent_of m y) (first_above m y)) (range_with_len 0 (length (parent_of m y)))))
    (moved (parent_of m y) (first_above m y) (first_above y m)) =
    Contains-map (moved (parent_of m y) (first_above m y)) _ (first_above y m) kept in
    let P : List ℕ → Type 0 = λ z. Contains (map (moved (parent_of m y) (first_above m y))
    (filter (is_child_move m (parent_of m y) (first_above m y)) (range_with_len 0 (length (parent_of m y))))) z in
    Contains-flat_map (λ gain. children_gaining m (parent_of m y) gain (length (parent_of m y)))
    (range_with_len 0 (length (parent_of m y))) (first_above m y) y first.0 first.1 first.2
    (subst P (moved-back m y d same atoms far) by)
