-- The path from the mode to other counts: the first isotope above, the atoms above, and the parent.
use Rattle.std.proofs.Common.{subst, ◌≡◌, ◌≢◌, ℕ, zero, suc, ◌+◌, ◌-◌, ◌*◌, ◌<◌, ◌≤◌, List, [], ◌∷◌, refl, ap, sym, ◌∙◌}
use Rattle.std.proofs.Common.{arith, length, get_or, set, ⊎_elim, sum, ltb, add-one, get_or-set_same, get_or-set_other}
use Rattle.std.proofs.Math.Nat.{le_trans, mul-le-mul_right}
use Rattle.std.specs.List.{sum_by, range_with_len}
use Rattle.std.proofs.lemmas.Bool.{cases_lt, cases_eq, ltb-true, ltb-false, lt-ltb, le-ltb}
use Rattle.std.proofs.lemmas.List.{length-set, get_or_past, set-set, set-get_or}
use Rattle.std.proofs.lemmas.List.Sums.{sum_by-set, sum_by-cons}
use Rattle.multinomial_bounds.specs.Weight.{places, one_less, one_more}
use Rattle.multinomial_bounds.specs.Mode.{IsMode}
use Rattle.multinomial_bounds.specs.Path.{first_above, atoms_above, parent_of, bound_at}
use Rattle.multinomial_bounds.proofs.SumLemmas.{sum_by_zero, sum_by_change}
use Rattle.multinomial_bounds.proofs.PlaceLemmas.{first_place_is, first_place_passes, first_place_fails}
use Rattle.multinomial_bounds.proofs.WeightLemmas.{moved_to, one_less-one_more, in_list}
use Rattle.multinomial_bounds.proofs.ModeLemmas.{sum-le-scaled, length-one_more, sum-one_more}

-- counts that are nowhere less, of as many atoms, are the same
pub sum-le : (xs ys : List ℕ) → length xs ≡ length ys → ((k : ℕ) → get_or xs k 0 ≤ get_or ys k 0) → sum xs ≤ sum ys
sum-le xs ys same each = omega (arith, sum-le-scaled 1 1 xs ys same (λ k h. omega (arith, each k)))

pub same_counts : (xs ys : List ℕ) → length xs ≡ length ys → sum xs ≡ sum ys → ((k : ℕ) → get_or xs k 0 ≤ get_or ys k 0) →
    xs ≡ ys
same_counts [] [] same atoms each = refl
same_counts [] (y ∷ ys) same atoms each = absurd (omega arith)
same_counts (x ∷ xs) [] same atoms each = absurd (omega arith)
same_counts (x ∷ xs) (y ∷ ys) same atoms each =
    let here : x ≤ y = each zero in
    let rest : sum xs ≤ sum ys = sum-le xs ys (omega arith) (λ k. each (suc k)) in
    let left : sum (x ∷ xs) ≡ x + sum xs = sum_by-cons (λ z. z) x xs in
    let right : sum (y ∷ ys) ≡ y + sum ys = sum_by-cons (λ z. z) y ys in
    let tail : xs ≡ ys = same_counts xs ys (omega arith) (omega arith) (λ k. each (suc k)) in
    let head : x ≡ y = omega arith in
    rw (head, tail)

-- the first isotope above
pub first_above_is : (a b : List ℕ) (i : ℕ) → get_or a i 0 < get_or b i 0 →
    ((k : ℕ) → k < i → get_or b k 0 ≤ get_or a k 0) → first_above a b ≡ i
unfolding first_above
first_above_is a b i above before =
    first_place_is (λ k. ltb (get_or a k 0) (get_or b k 0)) (length b) i (in_list b i (omega arith)) (lt-ltb _ _ above)
    (λ k h. le-ltb _ _ (before k h))

pub first_above-none : (a b : List ℕ) → length b ≤ first_above a b → (k : ℕ) → get_or b k 0 ≤ get_or a k 0
unfolding first_above
first_above-none a b none k =
    ⊎_elim
    (λ (h : k < length b).
    ltb-false _ _ (first_place_fails (λ k. ltb (get_or a k 0) (get_or b k 0)) (length b) k h (omega arith)))
    (λ (h : length b ≤ k). omega (arith, get_or_past b k 0 h))
    (cases_lt k (length b))

pub first_above-above : (a b : List ℕ) → first_above a b < length b →
    get_or a (first_above a b) 0 < get_or b (first_above a b) 0
unfolding first_above
first_above-above a b some =
    ltb-true _ _ (first_place_passes (λ k. ltb (get_or a k 0) (get_or b k 0)) (length b) some)

-- the atoms above
pub atoms_above-none : (a b : List ℕ) → ((k : ℕ) → get_or b k 0 ≤ get_or a k 0) → atoms_above a b ≡ 0
unfolding atoms_above
atoms_above-none a b none =
    sum_by_zero (λ k. get_or b k 0 - get_or a k 0) (places b) (λ k. let h : get_or b k 0 ≤ get_or a k 0 = none k in omega arith)

pub atoms_above-self : (a : List ℕ) → atoms_above a a ≡ 0
atoms_above-self a = atoms_above-none a a (λ k. omega arith)

pub atoms_above-set : (a b : List ℕ) (i v : ℕ) → i < length b →
    atoms_above a (set b i v) + (get_or b i 0 - get_or a i 0) ≡ atoms_above a b + (v - get_or a i 0)
unfolding atoms_above
atoms_above-set a b i v within =
    let there : get_or (set b i v) i 0 ≡ v = get_or-set_same b i v 0 within in
    let change : sum_by (λ k. get_or (set b i v) k 0 - get_or a k 0) (range_with_len 0 (length b)) + (get_or b i 0 - get_or a i 0)
    ≡ sum_by (λ k. get_or b k 0 - get_or a k 0) (range_with_len 0 (length b)) + (get_or (set b i v) i 0 - get_or a i 0) =
    sum_by_change (λ k. get_or (set b i v) k 0 - get_or a k 0) (λ k. get_or b k 0 - get_or a k 0) i 0 (length b)
    (omega arith) (omega arith)
    (λ k ne. ap (λ c. c - get_or a k 0) (get_or-set_other b i k v 0 ne)) in
    rw (length-set b i v) (rw there at change)

pub atoms_above-zero : (a b : List ℕ) → atoms_above a b ≡ 0 → (k : ℕ) → get_or b k 0 ≤ get_or a k 0
atoms_above-zero a b none k =
    ⊎_elim
    (λ (h : k < length b). omega (arith, atoms_above-set a b k (get_or a k 0) h))
    (λ (h : length b ≤ k). omega (arith, get_or_past b k 0 h))
    (cases_lt k (length b))

-- an isotope is above, and one below, where counts of as many atoms differ
pub first_above-within : (m x : List ℕ) (d : ℕ) → atoms_above m x ≡ suc d → first_above m x < length x
first_above-within m x d some =
    ⊎_elim
    (λ (h : first_above m x < length x). h)
    (λ (h : length x ≤ first_above m x).
    let none : atoms_above m x ≡ 0 = atoms_above-none m x (first_above-none m x h) in absurd (omega arith))
    (cases_lt (first_above m x) (length x))

pub first_below-within : (m x : List ℕ) (d : ℕ) → length m ≡ length x → sum m ≡ sum x → atoms_above m x ≡ suc d →
    first_above x m < length m
first_below-within m x d same atoms some =
    ⊎_elim
    (λ (h : first_above x m < length m). h)
    (λ (h : length m ≤ first_above x m).
    let e : m ≡ x = same_counts m x same atoms (first_above-none x m h) in
    let none : atoms_above m x ≡ 0 = ap (λ y. atoms_above m y) (sym e) ∙ atoms_above-self m in
    absurd (omega arith))
    (cases_lt (first_above x m) (length m))

-- a move of one atom keeps the places and the atoms
pub sum-one_less : (x : List ℕ) (i : ℕ) → 1 ≤ get_or x i 0 → sum (one_less x i) + 1 ≡ sum x
sum-one_less x i has = omega (arith, sum_by-set (λ c. c) x i (get_or x i 0 - 1) 0 (in_list x i has))

pub length-moved : (x : List ℕ) (i j : ℕ) → length (one_more (one_less x i) j) ≡ length x
length-moved x i j = length-one_more (one_less x i) j ∙ length-set x i (get_or x i 0 - 1)

pub sum-moved : (x : List ℕ) (i j : ℕ) → 1 ≤ get_or x i 0 → j < length x → sum (one_more (one_less x i) j) ≡ sum x
sum-moved x i j has within =
    omega (arith, sum-one_less x i has, sum-one_more (one_less x i) j (rw length-set within))

pub one_more-one_less : (x : List ℕ) (i : ℕ) → 1 ≤ get_or x i 0 → one_more (one_less x i) i ≡ x
one_more-one_less x i has =
    let there : get_or (one_less x i) i 0 ≡ get_or x i 0 - 1 = get_or-set_same x i (get_or x i 0 - 1) 0 (in_list x i has) in
    let back : get_or (one_less x i) i 0 + 1 ≡ get_or x i 0 = omega arith in
    rw (back, set-set x i (get_or x i 0 - 1) (get_or x i 0)) (set-get_or x i 0)

-- The atoms above, where an isotope above gives one to an isotope below.
pub atoms_above-moved : (a x : List ℕ) (i j : ℕ) → get_or a i 0 < get_or x i 0 → get_or x j 0 < get_or a j 0 → j < length x →
    atoms_above a (one_more (one_less x i) j) + 1 ≡ atoms_above a x
atoms_above-moved a x i j above below within =
    let has : i < length x = in_list x i (omega arith) in
    let apart : j ≢ i = λ e. let h : get_or x i 0 < get_or a i 0 = rw (← e) below in omega arith in
    let inside : j < length (one_less x i) = rw (length-set x i (get_or x i 0 - 1)) within in
    let there : get_or (one_less x i) j 0 ≡ get_or x j 0 = get_or-set_other x i j (get_or x i 0 - 1) 0 apart in
    omega (
      arith,
      atoms_above-set a x i (get_or x i 0 - 1) has,
      atoms_above-set a (one_less x i) j (get_or (one_less x i) j 0 + 1) inside,
    )

-- The move from counts back to their parent, which is one move nearer to the mode m.
pub record IsParentMove (m x : List ℕ) (d : ℕ) : Type 0 where
  pub above_within : first_above m x < length x
  pub below_within : first_above x m < length x
  pub above : get_or m (first_above m x) 0 < get_or x (first_above m x) 0
  pub below : get_or x (first_above x m) 0 < get_or m (first_above x m) 0
  pub apart : first_above m x ≢ first_above x m
  pub places : length (parent_of m x) ≡ length x
  pub atoms : sum (parent_of m x) ≡ sum x
  pub nearer : atoms_above m (parent_of m x) ≡ d

pub IsParentMove-from : (m x : List ℕ) (d : ℕ) → length m ≡ length x → sum m ≡ sum x → atoms_above m x ≡ suc d →
    IsParentMove m x d
unfolding parent_of
IsParentMove-from m x d same atoms some =
    let i : ℕ = first_above m x in
    let j : ℕ = first_above x m in
    let above_within : first_above m x < length x = first_above-within m x d some in
    let below_in_mode : first_above x m < length m = first_below-within m x d same atoms some in
    let below_within : first_above x m < length x = omega arith in
    let above : get_or m (first_above m x) 0 < get_or x (first_above m x) 0 = first_above-above m x above_within in
    let below : get_or x (first_above x m) 0 < get_or m (first_above x m) 0 = first_above-above x m below_in_mode in
    let has : 1 ≤ get_or x (first_above m x) 0 = omega arith in
    record {
      above_within = above_within;
      below_within = below_within;
      above = above;
      below = below;
      apart = λ e.
          let P : ℕ → Type 0 = λ k. get_or m k 0 < get_or x k 0 in
          let h : get_or m j 0 < get_or x j 0 = subst P e above in omega arith;
      places = length-moved x i j;
      atoms = sum-moved x i j has below_within;
      nearer = omega (arith, atoms_above-moved m x i j above below below_within);
    }

-- Away from the mode no move is to likelier counts.
pub IsParentMove-falls : (ws m x : List ℕ) (d : ℕ) → length x ≡ length ws → IsMode ws m → IsParentMove m x d →
    (get_or x (first_above x m) 0 + 1) * get_or ws (first_above m x) 0
    ≤ get_or x (first_above m x) 0 * get_or ws (first_above x m) 0
IsParentMove-falls ws m x d same mode move =
    let i_within : first_above m x < length ws = rw (← same) move.above_within in
    let j_within : first_above x m < length ws = rw (← same) move.below_within in
    le_trans (mul-le-mul_right (get_or ws (first_above m x) 0) (omega (arith, move.below)))
    (le_trans (mode (first_above m x) (first_above x m) i_within j_within)
    (mul-le-mul_right (get_or ws (first_above x m) 0) (omega (arith, move.above))))

-- The path from the mode m to the counts x, as far as y: what is above y is not below m, and an
-- isotope that still has to change stands behind those that have not changed.
pub record IsOnPath (m x y : List ℕ) : Type 0 where
  pub risen : (k : ℕ) → get_or y k 0 < get_or x k 0 → get_or m k 0 ≤ get_or y k 0
  pub fallen : (k : ℕ) → get_or x k 0 < get_or y k 0 → get_or y k 0 ≤ get_or m k 0
  pub risen_last : (k l : ℕ) → k < l → get_or y l 0 < get_or x l 0 → get_or y k 0 ≤ get_or m k 0
  pub fallen_last : (k l : ℕ) → k < l → get_or x l 0 < get_or y l 0 → get_or m k 0 ≤ get_or y k 0

pub IsOnPath-start : (m x : List ℕ) → IsOnPath m x m
IsOnPath-start m x =
    record {
      risen = λ k h. omega arith;
      fallen = λ k h. omega arith;
      risen_last = λ k l h g. omega arith;
      fallen_last = λ k l h g. omega arith;
    }

pub bound_at-suc : (round : ℕ → ℕ → ℕ) (ws m : List ℕ) (start d : ℕ) (x : List ℕ) →
    bound_at round ws m start (suc d) x
    ≡ round
    (bound_at round ws m start d (parent_of m x)
    * ((get_or x (first_above x m) 0 + 1) * get_or ws (first_above m x) 0))
    (get_or x (first_above m x) 0 * get_or ws (first_above x m) 0)
unfolding bound_at
bound_at-suc round ws m start d x = refl

pub bound_at-mode : (round : ℕ → ℕ → ℕ) (ws m : List ℕ) (start : ℕ) →
    bound_at round ws m start (atoms_above m m) m ≡ start
unfolding bound_at
bound_at-mode round ws m start = ap (λ d. bound_at round ws m start d m) (atoms_above-self m)

-- no step on the path is to likelier counts
pub step-falls : (ws m x y : List ℕ) (from to : ℕ) → IsMode ws m → IsOnPath m x y →
    get_or x from 0 < get_or y from 0 → get_or y to 0 < get_or x to 0 → from < length ws → to < length ws →
    get_or y from 0 * get_or ws to 0 ≤ (get_or y to 0 + 1) * get_or ws from 0
step-falls ws m x y from to mode path too_many too_few from_within to_within =
    le_trans (mul-le-mul_right (get_or ws to 0) (path.fallen from too_many))
    (le_trans (mode to from to_within from_within)
    (mul-le-mul_right (get_or ws from 0) (omega (arith, path.risen to too_few))))

-- a step on the path: the last isotope with too many atoms gives one to the last with too few
module _ (m x y : List ℕ) (from to : ℕ) (path : IsOnPath m x y)
    (too_many : get_or x from 0 < get_or y from 0) (too_few : get_or y to 0 < get_or x to 0) (within : to < length y)
    (last_from : (k : ℕ) → from < k → get_or y k 0 ≤ get_or x k 0)
    (last_to : (k : ℕ) → to < k → get_or x k 0 ≤ get_or y k 0) where
  pub step-apart : from ≢ to
  step-apart e = let h : get_or x to 0 < get_or y to 0 = rw (← e) too_many in omega arith

  pub step-to : get_or (one_more (one_less y from) to) to 0 ≡ get_or y to 0 + 1
  step-to = moved_to y from to step-apart within

  pub step-from : get_or (one_more (one_less y from) to) from 0 + 1 ≡ get_or y from 0
  step-from =
      let inside : from < length y = in_list y from (omega arith) in
      omega (
        arith,
        get_or-set_other (one_less y from) to from (get_or (one_less y from) to 0 + 1) 0 step-apart,
        get_or-set_same y from (get_or y from 0 - 1) 0 inside,
      )

  pub step-other : (k : ℕ) → (k ≡ from → ⊥) → (k ≡ to → ⊥) → get_or (one_more (one_less y from) to) k 0 ≡ get_or y k 0
  step-other k not_from not_to =
      get_or-set_other (one_less y from) to k (get_or (one_less y from) to 0 + 1) 0 not_to
      ∙ get_or-set_other y from k (get_or y from 0 - 1) 0 not_from

  -- no other isotope gains, and no other loses
  pub step-le : (k : ℕ) → (k ≡ to → ⊥) → get_or (one_more (one_less y from) to) k 0 ≤ get_or y k 0
  step-le k not_to =
      ⊎_elim
      (λ (e : k ≡ from). rw e (omega (arith, step-from)))
      (λ (ne : k ≡ from → ⊥). omega (arith, step-other k ne not_to))
      (cases_eq k from)

  pub step-ge : (k : ℕ) → (k ≡ from → ⊥) → get_or y k 0 ≤ get_or (one_more (one_less y from) to) k 0
  step-ge k not_from =
      ⊎_elim
      (λ (e : k ≡ to). rw e (omega (arith, step-to)))
      (λ (ne : k ≡ to → ⊥). omega (arith, step-other k not_from ne))
      (cases_eq k to)

  pub step-first_above : first_above m (one_more (one_less y from) to) ≡ to
  step-first_above =
      first_above_is m (one_more (one_less y from) to) to (omega (arith, step-to, path.risen to too_few))
      (λ k h. le_trans (step-le k (λ e. omega arith)) (path.risen_last k to h too_few))

  pub step-first_below : first_above (one_more (one_less y from) to) m ≡ from
  step-first_below =
      first_above_is (one_more (one_less y from) to) m from (omega (arith, step-from, path.fallen from too_many))
      (λ k h. le_trans (path.fallen_last k from h too_many) (step-ge k (λ e. omega arith)))

  pub step-back : one_more (one_less (one_more (one_less y from) to) to) from ≡ y
  step-back =
      let inside : to < length (one_less y from) = rw (length-set y from (get_or y from 0 - 1)) within in
      let has : 1 ≤ get_or y from 0 = omega arith in
      rw (one_less-one_more (one_less y from) to inside) (one_more-one_less y from has)

  pub step-parent : parent_of m (one_more (one_less y from) to) ≡ y
  unfolding parent_of
  step-parent = rw (step-first_above, step-first_below) step-back

  pub step-atoms : atoms_above m (one_more (one_less y from) to) ≡ suc (atoms_above m y)
  step-atoms =
      let inside : from < length (one_more (one_less y from) to) =
      rw (length-moved y from to) (in_list y from (omega arith)) in
      let moved : atoms_above m (one_more (one_less (one_more (one_less y from) to) to) from) + 1
      ≡ atoms_above m (one_more (one_less y from) to) =
      atoms_above-moved m (one_more (one_less y from) to) to from (omega (arith, step-to, path.risen to too_few))
      (omega (arith, step-from, path.fallen from too_many)) inside in
      sym (rw step-back at moved) ∙ add-one (atoms_above m y)

  pub step-left : atoms_above x (one_more (one_less y from) to) + 1 ≡ atoms_above x y
  step-left = atoms_above-moved x y from to too_many too_few within

  -- the isotopes that still have to change
  pub step-not_from : (k : ℕ) → get_or (one_more (one_less y from) to) k 0 < get_or x k 0 → k ≡ from → ⊥
  step-not_from k h e =
      let P : ℕ → Type 0 = λ j. get_or (one_more (one_less y from) to) j 0 < get_or x j 0 in
      let g : get_or (one_more (one_less y from) to) from 0 < get_or x from 0 = subst P e h in
      omega (arith, step-from)

  pub step-not_to : (k : ℕ) → get_or x k 0 < get_or (one_more (one_less y from) to) k 0 → k ≡ to → ⊥
  step-not_to k h e =
      let P : ℕ → Type 0 = λ j. get_or x j 0 < get_or (one_more (one_less y from) to) j 0 in
      let g : get_or x to 0 < get_or (one_more (one_less y from) to) to 0 = subst P e h in
      omega (arith, step-to)

  pub step-path : IsOnPath m x (one_more (one_less y from) to)
  step-path =
      record {
        risen = λ k h.
            let ne : k ≡ from → ⊥ = step-not_from k h in
            le_trans (path.risen k (omega (arith, step-ge k ne))) (step-ge k ne);
        fallen = λ k h.
            let ne : k ≡ to → ⊥ = step-not_to k h in
            le_trans (step-le k ne) (path.fallen k (omega (arith, step-le k ne)));
        risen_last = λ k l kl h.
            let ne : l ≡ from → ⊥ = step-not_from l h in
            let still : get_or y l 0 < get_or x l 0 = omega (arith, step-ge l ne) in
            let before : l ≤ to =
            ⊎_elim (λ (g : to < l). absurd (omega (arith, last_to l g))) (λ (g : l ≤ to). g) (cases_lt to l) in
            le_trans (step-le k (λ e. omega arith)) (path.risen_last k l kl still);
        fallen_last = λ k l kl h.
            let ne : l ≡ to → ⊥ = step-not_to l h in
            let still : get_or x l 0 < get_or y l 0 = omega (arith, step-le l ne) in
            let before : l ≤ from =
            ⊎_elim (λ (g : from < l). absurd (omega (arith, last_from l g))) (λ (g : l ≤ from). g) (cases_lt from l) in
            le_trans (path.fallen_last k l kl still) (step-ge k (λ e. omega arith));
      }

  -- the bound of the counts after the step
  pub step-bound : (round : ℕ → ℕ → ℕ) (ws : List ℕ) (start : ℕ) →
      bound_at round ws m start (atoms_above m (one_more (one_less y from) to)) (one_more (one_less y from) to)
      ≡ round (bound_at round ws m start (atoms_above m y) y * (get_or y from 0 * get_or ws to 0))
      ((get_or y to 0 + 1) * get_or ws from 0)
  step-bound round ws start =
      ap (λ d. bound_at round ws m start d (one_more (one_less y from) to)) step-atoms
      ∙ bound_at-suc round ws m start (atoms_above m y) (one_more (one_less y from) to)
      ∙ rw (step-first_above, step-first_below, step-parent, step-to, step-from)
