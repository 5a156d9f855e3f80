-- The first members of a list that falls by a number have the greatest sums of that number: no other members,
-- each once, of the list or below all of it, have a greater sum.
use Rattle.std.proofs.Common.{◌≡◌, ℕ, suc, ◌+◌, ◌-◌, ◌*◌, ◌<◌, ◌≤◌, List, [], ◌∷◌, length, take, get_or, sym, ◌∙◌, ap, arith, All, ⊎_elim, inl, inr}
use Rattle.std.specs.Prelude.{◌≢◌, ◌⊎◌, AllPairs, Contains}
use Rattle.std.specs.List.{sum_by, remove}
use Rattle.std.specs.List.Sorted.{IsPermutation}
use Rattle.std.proofs.lemmas.Bool.{cases_lt}
use Rattle.std.proofs.lemmas.List.{get_or_default, get_or-take, length-take-le}
use Rattle.std.proofs.lemmas.List.Elements.{All-head, All-tail}
use Rattle.std.proofs.lemmas.List.Sums.{sum_by-cons}
use Rattle.std.proofs.lemmas.Map.Made.{Contains-tail}
use Rattle.std.proofs.lemmas.List.Sorted.{IsPermutation-remove, Contains-permutation, sum_by-IsPermutation}

-- the number falls along the list
abbrev pub Falls : {X : Type 0} → (X → ℕ) → List X → Type 0
Falls {X} f xs = (i j : ℕ) (d : X) → i ≤ j → j < length xs → f (get_or xs j d) ≤ f (get_or xs i d)

-- the members but one at a place where it stands
record Rest {X : Type 0} (xs : List X) (x : X) : Type 0 where
  others : List X
  moved : IsPermutation xs (x ∷ others)

rest_of : {X : Type 0} (xs : List X) (x : X) → Contains xs x → Rest xs x
rest_of xs x c = record { others = remove xs c.0; moved = IsPermutation-remove xs c.0 x c.1 (sym c.2) }

distinct_tail : {X : Type 0} (y : X) (ys : List X) → AllPairs (λ a b. a ≢ b) (y ∷ ys) → AllPairs (λ a b. a ≢ b) ys
distinct_tail y ys apart i j d before within = apart (suc i) (suc j) d (omega arith) (omega arith)

distinct_head : {X : Type 0} (y : X) (ys : List X) → AllPairs (λ a b. a ≢ b) (y ∷ ys) → All (λ b. y ≢ b) ys
distinct_head y ys apart k d within = apart 0 (suc k) d (omega arith) (omega arith)

-- Distinct members of a list, and others of which the number is 0, have no greater sum than the list.
pub sum_by-of_distinct : {X : Type 0} (g : X → ℕ) (ys xs : List X) → AllPairs (λ a b. a ≢ b) ys →
    All (λ y. Contains xs y ⊎ (g y ≡ 0)) ys → sum_by g ys ≤ sum_by g xs
sum_by-of_distinct g [] xs apart each = omega arith
sum_by-of_distinct {X} g (y ∷ ys) xs apart each =
    ⊎_elim
    (λ (c : Contains xs y).
    let rest : Rest xs y = rest_of xs y c in
    let smaller : All (λ z. Contains rest.others z ⊎ (g z ≡ 0)) ys =
    λ k d within.
    ⊎_elim
    (λ (e : Contains xs (get_or ys k d)).
    inl (Contains-tail y rest.others (get_or ys k d) (distinct_head y ys apart k d within)
    (Contains-permutation xs (y ∷ rest.others) (get_or ys k d) rest.moved e)))
    (λ (none : g (get_or ys k d) ≡ 0). inr none)
    (All-tail (λ z. Contains xs z ⊎ (g z ≡ 0)) y ys each k d within) in
    omega (
      arith,
      sum_by-of_distinct g ys rest.others (distinct_tail y ys apart) smaller,
      sum_by-cons g y ys,
      sum_by-cons g y rest.others,
      sum_by-IsPermutation g xs (y ∷ rest.others) rest.moved,
    ))
    (λ (none : g y ≡ 0).
    omega (
      arith,
      sum_by-cons g y ys,
      sum_by-of_distinct g ys xs (distinct_tail y ys apart) (All-tail (λ z. Contains xs z ⊎ (g z ≡ 0)) y ys each),
    ))
    (All-head (λ z. Contains xs z ⊎ (g z ≡ 0)) y ys each)

-- sums of what is above a number
sum_by-le_above : {X : Type 0} (f : X → ℕ) (v : ℕ) (xs : List X) →
    sum_by f xs ≤ sum_by (λ x. f x - v) xs + length xs * v
sum_by-le_above f v [] = omega arith
sum_by-le_above f v (x ∷ xs) =
    omega (arith, sum_by-cons f x xs, sum_by-cons (λ x. f x - v) x xs, sum_by-le_above f v xs)

above-le-sum_by : {X : Type 0} (f : X → ℕ) (v : ℕ) (xs : List X) → All (λ x. v ≤ f x) xs →
    sum_by (λ x. f x - v) xs + length xs * v ≤ sum_by f xs
above-le-sum_by f v [] all = omega arith
above-le-sum_by f v (x ∷ xs) all =
    omega (
      arith,
      sum_by-cons f x xs,
      sum_by-cons (λ x. f x - v) x xs,
      All-head (λ x. v ≤ f x) x xs all,
      above-le-sum_by f v xs (All-tail (λ x. v ≤ f x) x xs all),
    )

-- a member of a falling list is among the first ones, or is at most the one at a place
among_first : {X : Type 0} (f : X → ℕ) (xs : List X) (n : ℕ) (d y : X) → Falls f xs → n < length xs →
    Contains xs y ⊎ All (λ x. f y ≤ f x) xs → Contains (take (suc n) xs) y ⊎ (f y ≤ f (get_or xs n d))
among_first f xs n d y falls within (inl c) =
    ⊎_elim
    (λ (before : c.0 < suc n).
    let inside : c.0 < length (take (suc n) xs) = rw (length-take-le (suc n) xs (omega arith)) before in
    inl (c.0, inside, get_or-take (suc n) xs c.0 y before ∙ c.2))
    (λ (behind : suc n ≤ c.0).
    let lower : f (get_or xs c.0 y) ≤ f (get_or xs n y) = falls n c.0 y (omega arith) c.1 in
    inr (rw (c.2, get_or_default xs n y d within) at lower))
    (cases_lt c.0 (suc n))
among_first f xs n d y falls within (inr below) = inr (below n d within)

first_at_least : {X : Type 0} (f : X → ℕ) (xs : List X) (n : ℕ) (d : X) → Falls f xs → n < length xs →
    All (λ x. f (get_or xs n d) ≤ f x) (take (suc n) xs)
first_at_least f xs n d falls within k e inside =
    let long : length (take (suc n) xs) ≡ suc n = length-take-le (suc n) xs (omega arith) in
    let before : k < suc n = rw long at inside in
    let higher : f (get_or xs n e) ≤ f (get_or xs k e) = falls k n e (omega arith) within in
    rw (get_or-take (suc n) xs k e before, get_or_default xs n d e within) higher

-- As many of the first members of a falling list have at least the sum of distinct members of it and of others
-- that are at most each of its members.
pub sum_by-le-first : {X : Type 0} (f : X → ℕ) (xs ys : List X) → Falls f xs → AllPairs (λ a b. a ≢ b) ys →
    length ys ≤ length xs → All (λ y. Contains xs y ⊎ All (λ x. f y ≤ f x) xs) ys →
    sum_by f ys ≤ sum_by f (take (length ys) xs)
sum_by-le-first f xs [] falls apart few each = omega arith
sum_by-le-first {X} f xs (y ∷ ys) falls apart few each =
    let n : ℕ = length ys in
    let v : ℕ = f (get_or xs n y) in
    let within : n < length xs = omega arith in
    let first : List X = take (suc n) xs in
    let long : length first ≡ suc n = length-take-le (suc n) xs (omega arith) in
    let split : All (λ z. Contains first z ⊎ (f z - v ≡ 0)) (y ∷ ys) =
    λ k d inside.
    ⊎_elim
    (λ (c : Contains first (get_or (y ∷ ys) k d)). inl c)
    (λ (low : f (get_or (y ∷ ys) k d) ≤ v). inr (omega arith))
    (among_first f xs n y (get_or (y ∷ ys) k d) falls within (each k d inside)) in
    let whole : length first * v ≡ length (y ∷ ys) * v = ap (λ (m : ℕ). m * v) long in
    omega (
      arith,
      sum_by-le_above f v (y ∷ ys),
      sum_by-of_distinct (λ z. f z - v) (y ∷ ys) first apart split,
      above-le-sum_by f v first (first_at_least f xs n y falls within),
    )
