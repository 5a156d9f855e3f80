-- Sums over lists, and over the places of one.
use Rattle.std.proofs.Common.{◌≡◌, ℕ, zero, suc, ◌+◌, ◌*◌, ◌<◌, ◌≤◌, List, [], ◌∷◌, eqb, cond, refl, arith, map, length, get_or, sum, sym, ap, ◌∙◌, All}
use Rattle.std.specs.Prelude.{flat_map}
use Rattle.std.specs.List.{sum_by, range_with_len}
use Rattle.std.proofs.Math.Nat.{add-zero}
use Rattle.std.proofs.lemmas.List.Elements.{All-head, All-tail}
use Rattle.std.proofs.lemmas.List.Sums.{sum_by-cons, sum_by-append, sum-map}
use Rattle.std.proofs.lemmas.List.FromFn.{fill_by_all}
use Rattle.std.proofs.lemmas.Bool.{eq-eqb, ne_eqb, cases_lt}
use Rattle.std.proofs.Common.{⊎_elim}

pub sum_by_same : {X : Type 0} (f g : X → ℕ) → (xs : List X) → ((x : X) → f x ≡ g x) → sum_by f xs ≡ sum_by g xs
sum_by_same f g [] same = refl
sum_by_same f g (x ∷ xs) same =
    rw (sum_by-cons f x xs, sum_by-cons g x xs, same x, sum_by_same f g xs same)

pub sum_by_zero : {X : Type 0} (f : X → ℕ) → (xs : List X) → ((x : X) → f x ≡ 0) → sum_by f xs ≡ 0
sum_by_zero f [] none = refl
sum_by_zero f (x ∷ xs) none = rw (sum_by-cons f x xs, none x, sum_by_zero f xs none)

pub sum_by-add : {X : Type 0} (f g : X → ℕ) → (xs : List X) → sum_by (λ x. f x + g x) xs ≡ sum_by f xs + sum_by g xs
sum_by-add f g [] = refl
sum_by-add f g (x ∷ xs) =
    omega (arith, sum_by-cons (λ y. f y + g y) x xs, sum_by-cons f x xs, sum_by-cons g x xs, sum_by-add f g xs)

pub sum_by-scale : {X : Type 0} (c : ℕ) (f : X → ℕ) → (xs : List X) → sum_by (λ x. c * f x) xs ≡ c * sum_by f xs
sum_by-scale c f [] = omega arith
sum_by-scale c f (x ∷ xs) =
    rw (sum_by-cons (λ y. c * f y) x xs, sum_by-cons f x xs, sum_by-scale c f xs) (omega arith)

-- only one place counts, and it is not among these
pub sum_by_none : (i c a n : ℕ) → i < a → sum_by (λ k. cond (eqb k i) c 0) (range_with_len a n) ≡ 0
sum_by_none i c a zero below = refl
sum_by_none i c a (suc n) below =
    rw (
      sum_by-cons (λ k. cond (eqb k i) c 0) a (range_with_len (a + 1) n),
      ne_eqb a i (λ e. omega arith),
      sum_by_none i c (a + 1) n (omega arith),
    )

-- only one place counts, and it is among these
pub sum_by_one : (i c a n : ℕ) → a ≤ i → i < a + n → sum_by (λ k. cond (eqb k i) c 0) (range_with_len a n) ≡ c
sum_by_one i c a zero from to = absurd (omega arith)
sum_by_one i c a (suc n) from to =
    rw (sum_by-cons (λ k. cond (eqb k i) c 0) a (range_with_len (a + 1) n))
    (⊎_elim
    (λ (far : a < i). rw (ne_eqb a i (λ e. omega arith), sum_by_one i c (a + 1) n (omega arith) (omega arith)) (omega arith))
    (λ (near : i ≤ a). let e : a ≡ i = omega arith in
    rw (eq-eqb a i e, sum_by_none i c (a + 1) n (omega arith)) (omega arith))
    (cases_lt a i))

-- two functions that agree but at one place
pub sum_by_past : (f g : ℕ → ℕ) (i a n : ℕ) → i < a → ((k : ℕ) → (k ≡ i → ⊥) → f k ≡ g k) →
    sum_by f (range_with_len a n) ≡ sum_by g (range_with_len a n)
sum_by_past f g i a zero past same = refl
sum_by_past f g i a (suc n) past same =
    rw (
      sum_by-cons f a (range_with_len (a + 1) n),
      sum_by-cons g a (range_with_len (a + 1) n),
      same a (λ e. omega arith),
      sum_by_past f g i (a + 1) n (omega arith) same,
    )

pub sum_by_change : (f g : ℕ → ℕ) (i a n : ℕ) → a ≤ i → i < a + n → ((k : ℕ) → (k ≡ i → ⊥) → f k ≡ g k) →
    sum_by f (range_with_len a n) + g i ≡ sum_by g (range_with_len a n) + f i
sum_by_change f g i a zero from to same = absurd (omega arith)
sum_by_change f g i a (suc n) from to same =
    rw (sum_by-cons f a (range_with_len (a + 1) n), sum_by-cons g a (range_with_len (a + 1) n))
    (⊎_elim
    (λ (far : a < i).
    rw (same a (λ e. omega arith)) (omega (arith, sum_by_change f g i (a + 1) n (omega arith) (omega arith) same)))
    (λ (near : i ≤ a). let e : a ≡ i = omega arith in
    rw (e, sum_by_past f g i (i + 1) n (omega arith) same) (omega arith))
    (cases_lt a i))

pub sum_by_le : {X : Type 0} (f g : X → ℕ) → (xs : List X) → ((x : X) → f x ≤ g x) → sum_by f xs ≤ sum_by g xs
sum_by_le f g [] below = omega arith
sum_by_le f g (x ∷ xs) below =
    omega (arith, sum_by-cons f x xs, sum_by-cons g x xs, below x, sum_by_le f g xs below)

-- a list is summed by its places
pub sum_by-places : (ws : List ℕ) → sum_by (λ i. get_or ws i 0) (range_with_len 0 (length ws)) ≡ sum ws
sum_by-places ws =
    let whole : ws ≡ map (λ i. get_or ws i 0) (range_with_len 0 (length ws)) =
    fill_by_all (λ i. get_or ws i 0) ws (length ws) 0 refl (λ k h. refl) in
    sym (sum-map (λ i. get_or ws i 0) (range_with_len 0 (length ws))) ∙ ap sum (sym whole)

pub sum_by_same_each : {X : Type 0} (f g : X → ℕ) → (xs : List X) → All (λ x. f x ≡ g x) xs → sum_by f xs ≡ sum_by g xs
sum_by_same_each f g [] same = refl
sum_by_same_each f g (x ∷ xs) same =
    rw (
      sum_by-cons f x xs,
      sum_by-cons g x xs,
      All-head (λ y. f y ≡ g y) x xs same,
      sum_by_same_each f g xs (All-tail (λ y. f y ≡ g y) x xs same),
    )

-- sums over lists that are made from others
pub sum_by-map : {X Y : Type 0} (f : Y → ℕ) (g : X → Y) → (xs : List X) → sum_by f (map g xs) ≡ sum_by (λ x. f (g x)) xs
sum_by-map f g [] = refl
sum_by-map f g (x ∷ xs) = rw (sum_by-cons f (g x) (map g xs), sum_by-cons (λ y. f (g y)) x xs, sum_by-map f g xs)

pub sum_by-flat_map : {X Y : Type 0} (f : Y → ℕ) (g : X → List Y) → (xs : List X) →
    sum_by f (flat_map g xs) ≡ sum_by (λ x. sum_by f (g x)) xs
sum_by-flat_map f g [] = refl
sum_by-flat_map f g (x ∷ xs) =
    sum_by-append f (g x) (flat_map g xs)
    ∙ ap (λ (n : ℕ). sum_by f (g x) + n) (sum_by-flat_map f g xs)
    ∙ sym (sum_by-cons (λ y. sum_by f (g y)) x xs)

-- a sum of sums in either order
pub sum_by-exchange : {X Y : Type 0} (f : X → Y → ℕ) → (xs : List X) (ys : List Y) →
    sum_by (λ x. sum_by (f x) ys) xs ≡ sum_by (λ y. sum_by (λ x. f x y) xs) ys
sum_by-exchange f [] ys = sym (sum_by_zero (λ y. 0) ys (λ y. refl))
sum_by-exchange f (x ∷ xs) ys =
    sum_by-cons (λ z. sum_by (f z) ys) x xs
    ∙ ap (λ (n : ℕ). sum_by (f x) ys + n) (sum_by-exchange f xs ys)
    ∙ sym (sum_by-add (f x) (λ y. sum_by (λ z. f z y) xs) ys)
    ∙ sum_by_same (λ y. f x y + sum_by (λ z. f z y) xs) (λ y. sum_by (λ z. f z y) (x ∷ xs)) ys
    (λ y. sym (sum_by-cons (λ z. f z y) x xs))

-- sums over numbers in a row
pub sum_by-range_more : (f : ℕ → ℕ) (a n : ℕ) →
    sum_by f (range_with_len a (n + 1)) ≡ sum_by f (range_with_len a n) + f (a + n)
sum_by-range_more f a zero = rw add-zero (omega (arith, sum_by-cons f a []))
sum_by-range_more f a (suc n) =
    let e : suc n + 1 ≡ suc (n + 1) = omega arith in
    let next : a + 1 + n ≡ a + suc n = omega arith in
    let rest : sum_by f (range_with_len (a + 1) (n + 1)) ≡ sum_by f (range_with_len (a + 1) n) + f (a + suc n) =
    rw next at (sum_by-range_more f (a + 1) n) in
    rw (e, sum_by-cons f a (range_with_len (a + 1) (n + 1)), sum_by-cons f a (range_with_len (a + 1) n), rest)
    (omega arith)

pub sum_by-range_from_next : (f : ℕ → ℕ) (a n : ℕ) →
    sum_by f (range_with_len (a + 1) n) ≡ sum_by (λ k. f (k + 1)) (range_with_len a n)
sum_by-range_from_next f a zero = refl
sum_by-range_from_next f a (suc n) =
    rw (
      sum_by-cons f (a + 1) (range_with_len (a + 1 + 1) n),
      sum_by-cons (λ k. f (k + 1)) a (range_with_len (a + 1) n),
      sum_by-range_from_next f (a + 1) n,
    )

pub sum_by-range_same : (f g : ℕ → ℕ) (a n : ℕ) → ((k : ℕ) → k < a + n → f k ≡ g k) →
    sum_by f (range_with_len a n) ≡ sum_by g (range_with_len a n)
sum_by-range_same f g a zero same = refl
sum_by-range_same f g a (suc n) same =
    rw (
      sum_by-cons f a (range_with_len (a + 1) n),
      sum_by-cons g a (range_with_len (a + 1) n),
      same a (omega arith),
      sum_by-range_same f g (a + 1) n (λ k below. same k (omega arith)),
    )
