-- A stable sort by score gives ranked candidates by rising score, ties in their order.
use Rattle.std.proofs.Common.{◌≡◌, ℕ, suc, ◌+◌, ◌<◌, ◌≤◌, Bool, true, false, cond, List, [], ◌∷◌, length, map, get_or}
use Rattle.std.proofs.Common.{ltb, refl, sym, ap, subst, ◌∙◌, arith, All}
use Rattle.std.specs.Prelude.{filter}
use Rattle.std.specs.List.{enumerate_from}
use Rattle.std.specs.List.Sorted.{IsSortedBy, IsSortedByKey, IsStableByKey, IsNonDecreasingBy, ties}
use Rattle.std.specs.Ordering.{is_lt, nat_cmp}
use Rattle.std.specs.declared.cmp.Ordering.TheVariants.{Less, Equal, Greater}
use Rattle.std.specs.Prelude.{◌==◌}
use Rattle.std.proofs.lemmas.Bool.{le-ltb}
use Rattle.std.proofs.lemmas.List.{length-map, get_or-map}
use Rattle.std.proofs.lemmas.List.Elements.{All-nil, All-cons, All-head, All-tail, All-filter}
use Rattle.std.proofs.lemmas.List.Sorted.{All-permutation, IsNonDecreasingBy-from_sort}
use Rattle.sorted_lists.specs.SortedLists.{put_in_order, sorted_by}
use Rattle.sorted_lists.proofs.SortedListLaws.{IsPermutation-sorted_by, IsSortedBy-sorted_by, map-sorted_by}
use Rattle.ranking.specs.Places.{RankedEntry, stands_before, key_of, placed_before, ranking, by_score}
use Rattle.ranking.proofs.RankingOrder.{stands_before-IsStrictOrder}

abbrev lower : RankedEntry → RankedEntry → Bool
lower a b = is_lt (nat_cmp a.score b.score)

lower-by_cases : (less same : Bool) → is_lt (cond less Less (cond same Equal Greater)) ≡ less
lower-by_cases true same = refl
lower-by_cases false true = refl
lower-by_cases false false = refl

lower-is : (a b : RankedEntry) → lower a b ≡ ltb a.score b.score
lower-is a b = lower-by_cases (ltb a.score b.score) (a.score == b.score)

-- neither is lower than the other
abbrev tie : RankedEntry → RankedEntry → Bool
tie = ties lower

tie-is : (a b : RankedEntry) → a.score ≡ b.score → tie a b ≡ true
tie-is a b same =
    let one : lower a b ≡ false = lower-is a b ∙ le-ltb a.score b.score (omega (arith, same)) in
    let other : lower b a ≡ false = lower-is b a ∙ le-ltb b.score a.score (omega (arith, same)) in
    rw (one, other) refl

-- one that ties with another ties with none of a lower score
tie-one : (z a b : RankedEntry) → b.score < a.score → tie z a ≡ true → tie z b ≡ false
tie-one z a b less with_a =
    let za = lower-is z a in
    let az = lower-is a z in
    let zb = lower-is z b in
    let bz = lower-is b z in
    grind arith

abbrev Rising : List RankedEntry → Type 0
Rising = IsNonDecreasingBy (λ (e : RankedEntry). e.score)

-- ---- a list is known by those that tie

kept : (z x : RankedEntry) (xs : List RankedEntry) → tie z x ≡ true →
    filter (tie z) (x ∷ xs) ≡ x ∷ filter (tie z) xs
kept z x xs with_x = ap (λ b. cond b (x ∷ filter (tie z) xs) (filter (tie z) xs)) with_x

first-least : (x : RankedEntry) (xs : List RankedEntry) → Rising (x ∷ xs) →
    All (λ (y : RankedEntry). x.score ≤ y.score) (x ∷ xs)
first-least x xs up = λ k d h. up 0 k d (omega arith) h

rising-tail : (x : RankedEntry) (xs : List RankedEntry) → Rising (x ∷ xs) → Rising xs
rising-tail x xs up = λ i j d h k. up (suc i) (suc j) d (omega (arith, h)) (omega (arith, k))

head-least : (x y : RankedEntry) (xs ys : List RankedEntry) → Rising (y ∷ ys) →
    filter (tie x) (x ∷ xs) ≡ filter (tie x) (y ∷ ys) → y.score ≤ x.score
head-least x y xs ys up same =
    let P : RankedEntry → Type 0 = λ z. y.score ≤ z.score in
    let all : All P (filter (tie x) (y ∷ ys)) = All-filter (tie x) P (y ∷ ys) (first-least y ys up) in
    All-head P x (filter (tie x) xs) (subst (All P) (sym same ∙ kept x x xs (tie-is x x refl)) all)

same-tails : (x y z : RankedEntry) (ys zs : List RankedEntry) → y ≡ z →
    filter (tie x) (y ∷ ys) ≡ filter (tie x) (z ∷ zs) → filter (tie x) ys ≡ filter (tie x) zs
same-tails x y z ys zs first same =
    let F : List RankedEntry → List RankedEntry = filter (tie x) in
    let by_first : F (y ∷ ys) ≡ F (y ∷ zs) = same ∙ ap (λ w. F (w ∷ zs)) (sym first) in
    elim (tie x y) as (λ b. cond b (y ∷ F ys) (F ys) ≡ cond b (y ∷ F zs) (F zs) → F ys ≡ F zs) [
      | true ↦ λ e. cc
      | false ↦ λ e. e
    ] by_first

one_stable : (ys zs : List RankedEntry) → Rising ys → Rising zs →
    ((x : RankedEntry) → filter (tie x) ys ≡ filter (tie x) zs) → ys ≡ zs
one_stable [] [] up up' same = refl
one_stable [] (z ∷ zs) up up' same =
    let e : ◌≡◌ {A = List RankedEntry} [] (z ∷ filter (tie z) zs) = same z ∙ kept z z zs (tie-is z z refl) in
    cc
one_stable (y ∷ ys) [] up up' same =
    let e : ◌≡◌ {A = List RankedEntry} [] (y ∷ filter (tie y) ys) = sym (same y) ∙ kept y y ys (tie-is y y refl) in
    cc
one_stable (y ∷ ys) (z ∷ zs) up up' same =
    let low : z.score ≤ y.score = head-least y z ys zs up' (same y) in
    let high : y.score ≤ z.score = head-least z y zs ys up (sym (same z)) in
    let both : y ∷ filter (tie y) ys ≡ z ∷ filter (tie y) zs =
    sym (kept y y ys (tie-is y y refl)) ∙ same y ∙ kept y z zs (tie-is y z (omega (arith, low, high))) in
    let first : y ≡ z = cc in
    let rest : ys ≡ zs =
    one_stable ys zs (rising-tail y ys up) (rising-tail z zs up') (λ x. same-tails x y z ys zs first (same x)) in
    cc

-- ---- a ranking keeps the order of those that tie

abbrev entry_of : ℕ × RankedEntry → RankedEntry
entry_of p = p.1

swap : (bx by : Bool) (x y : RankedEntry) (F G : List RankedEntry) → (bx ≡ true → by ≡ false) →
    F ≡ cond bx (x ∷ G) G → cond by (y ∷ F) F ≡ cond bx (x ∷ cond by (y ∷ G) G) (cond by (y ∷ G) G)
swap true true x y F G not_both e = absurd (let no : true ≡ false = not_both refl in cc)
swap true false x y F G not_both e = e
swap false true x y F G not_both e = ap (λ H. y ∷ H) e
swap false false x y F G not_both e = e

lower_score : (n : ℕ) (x : RankedEntry) (q : ℕ × RankedEntry) → n < q.0 → placed_before (n, x) q ≡ false →
    q.1.score < x.score
lower_score n x q after behind = grind arith

filter-put : (z : RankedEntry) (n : ℕ) (x : RankedEntry) (qs : List (ℕ × RankedEntry)) → All (λ q. n < q.0) qs →
    filter (tie z) (map entry_of (put_in_order placed_before (n, x) qs)) ≡ filter (tie z) (x ∷ map entry_of qs)
filter-put z n x [] all = refl
filter-put z n x (q ∷ qs) all =
    let After : ℕ × RankedEntry → Type 0 = λ p. n < p.0 in
    let G : List RankedEntry = filter (tie z) (map entry_of qs) in
    let rest = filter-put z n x qs (All-tail After q qs all) in
    let Goal : Bool → Type 0 = λ b. placed_before (n, x) q ≡ b →
    filter (tie z) (map entry_of (cond b ((n, x) ∷ q ∷ qs) (q ∷ put_in_order placed_before (n, x) qs)))
    ≡ filter (tie z) (x ∷ q.1 ∷ map entry_of qs) in
    (elim (placed_before (n, x) q) as Goal [
      | true ↦ λ e. refl
      | false ↦ λ e.
          swap (tie z x) (tie z q.1) x q.1
          (filter (tie z) (map entry_of (put_in_order placed_before (n, x) qs))) G
          (tie-one z x q.1 (lower_score n x q (All-head After q qs all) e)) rest
    ]) refl

places-from : (m n : ℕ) (xs : List RankedEntry) → m < n → All (λ (q : ℕ × RankedEntry). m < q.0) (enumerate_from n xs)
places-from m n [] less = All-nil (λ (q : ℕ × RankedEntry). m < q.0)
places-from m n (x ∷ xs) less =
    All-cons (λ (q : ℕ × RankedEntry). m < q.0) (n, x) (enumerate_from (n + 1) xs) less
    (places-from m (n + 1) xs (omega (arith, less)))

filter-ranking : (z : RankedEntry) (n : ℕ) (xs : List RankedEntry) →
    filter (tie z) (map entry_of (sorted_by placed_before (enumerate_from n xs))) ≡ filter (tie z) xs
filter-ranking z n [] = refl
filter-ranking z n (x ∷ xs) =
    let ps : List (ℕ × RankedEntry) = enumerate_from (n + 1) xs in
    filter-put z n x (sorted_by placed_before ps)
    (All-permutation (λ (q : ℕ × RankedEntry). n < q.0) ps (sorted_by placed_before ps)
    (IsPermutation-sorted_by placed_before ps) (places-from n (n + 1) xs (omega arith)))
    ∙ ap (λ G. cond (tie z x) (x ∷ G) G) (filter-ranking z (n + 1) xs)

-- ---- its scores rise

behind-lower : (a b : ℕ × RankedEntry) → placed_before a b ≡ false → lower a.1 b.1 ≡ false
behind-lower a b behind = lower-is a.1 b.1 ∙ grind arith

rising-by_score : (found : List RankedEntry) → Rising (by_score found)
unfolding by_score ranking
rising-by_score found =
    let placed : List (ℕ × RankedEntry) = sorted_by placed_before (enumerate_from 0 found) in
    let keys : map key_of placed ≡ sorted_by stands_before (map key_of (enumerate_from 0 found)) =
    map-sorted_by key_of stands_before (enumerate_from 0 found) in
    let sorted : IsSortedBy stands_before (map key_of placed) =
    subst (IsSortedBy stands_before) (sym keys)
    (IsSortedBy-sorted_by stands_before-IsStrictOrder (map key_of (enumerate_from 0 found))) in
    IsNonDecreasingBy-from_sort (λ (e : RankedEntry). e.score) (map entry_of placed)
    (λ k d z h.
    let none : ℕ × RankedEntry = (0, d) in
    let inside : k + 1 < length placed = omega (arith, h, length-map placed entry_of) in
    let first = get_or placed k none in
    let second = get_or placed (k + 1) none in
    let first_key = get_or-map key_of placed k none (key_of none) (omega (arith, inside)) in
    let second_key = get_or-map key_of placed (k + 1) none (key_of none) inside in
    let behind : placed_before second first ≡ false =
    rw (first_key, second_key) at (sorted k (key_of none) z (omega (arith, inside, length-map placed key_of))) in
    rw (get_or-map entry_of placed k none d (omega (arith, inside)), get_or-map entry_of placed (k + 1) none d inside)
    (behind-lower second first behind))

pub stable-by_score : (found sorted : List RankedEntry) → IsSortedByKey (λ (e : RankedEntry). e.score) nat_cmp sorted →
    IsStableByKey (λ (e : RankedEntry). e.score) nat_cmp found sorted → sorted ≡ by_score found
unfolding by_score ranking
stable-by_score found sorted up stable =
    one_stable sorted (by_score found) (IsNonDecreasingBy-from_sort (λ (e : RankedEntry). e.score) sorted up)
    (rising-by_score found) (λ x. stable x ∙ sym (filter-ranking x 0 found))
