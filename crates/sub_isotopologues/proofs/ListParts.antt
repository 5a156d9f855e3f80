-- Lists none of whose items stands twice, and what a filter keeps.
use Rattle.std.proofs.Common.{◌≡◌, ◌≢◌, ℕ, zero, suc, ◌+◌, ◌-◌, ◌<◌, ◌≤◌, Bool, true, false, cond, List, [], ◌∷◌, ◌++◌}
use Rattle.std.proofs.Common.{length, refl, sym, ◌∙◌, ap, subst, arith, All, ⊎_elim, length-append}
use Rattle.std.specs.Prelude.{AllPairs, Contains, filter, remove}
use Rattle.std.specs.List.{range_with_len}
use Rattle.std.specs.List.Sorted.{IsPermutation}
use Rattle.std.proofs.lemmas.List.{append-nil}
use Rattle.std.proofs.lemmas.List.Elements.{All-head, All-tail, All-append, All-contains, Contains-append_left}
use Rattle.std.proofs.lemmas.List.Elements.{Contains-append_right, Contains-append_cases, filter-append}
use Rattle.std.proofs.lemmas.List.FromFn.{length-range_with_len, get_or-range_with_len}
use Rattle.std.proofs.lemmas.List.Kept.{AllPairs-cons}
use Rattle.std.proofs.lemmas.List.Sorted.{IsPermutation-refl, IsPermutation-trans, IsPermutation-append_right}
use Rattle.std.proofs.lemmas.List.Sorted.{IsPermutation-middle, IsPermutation-remove, Contains-permutation}
use Rattle.std.proofs.lemmas.List.Sorted.{length_permutation}
use Rattle.isotopologue_list.proofs.FlatLemmas.{range_push}

-- what passes a filter stays
pub contains_filter : {X : Type 0} (p : X → Bool) (xs : List X) (x : X) → p x ≡ true → Contains xs x →
    Contains (filter p xs) x
contains_filter p [] x passes c = absurd (omega (arith, c.1))
contains_filter p (y ∷ xs) x passes (zero, within, is) =
    let here : p y ≡ true = ap p is ∙ passes in
    rw here (0, omega arith, is)
contains_filter p (y ∷ xs) x passes (suc k, within, is) =
    let rest : Contains (filter p xs) x = contains_filter p xs x passes (k, omega arith, is) in
    elim (p y) as (λ b. Contains (cond b (y ∷ filter p xs) (filter p xs)) x) [
      | true ↦ Contains-append_right (y ∷ []) (filter p xs) x rest
      | false ↦ rest
    ]

-- what stays was there
pub contains_before_filter : {X : Type 0} (p : X → Bool) (xs : List X) (x : X) → Contains (filter p xs) x →
    Contains xs x
contains_before_filter p [] x c = c
contains_before_filter {X} p (y ∷ xs) x c =
    let rest : Contains (filter p xs) x → Contains (y ∷ xs) x =
    λ (h : Contains (filter p xs) x). Contains-append_right (y ∷ []) xs x (contains_before_filter p xs x h) in
    let Goal : Bool → Type 0 = λ b. Contains (cond b (y ∷ filter p xs) (filter p xs)) x → Contains (y ∷ xs) x in
    (elim (p y) as Goal [
      | true ↦ λ h.
          ⊎_elim
          (λ (here : Contains (y ∷ []) x). Contains-append_left (y ∷ []) xs x here)
          (λ (there : Contains (filter p xs) x). rest there)
          (Contains-append_cases (y ∷ []) (filter p xs) x h)
      | false ↦ rest
    ]) c

-- two tests that agree at each item keep the same items
pub filter_agree_on : {X : Type 0} (p q : X → Bool) (xs : List X) → All (λ x. p x ≡ q x) xs → filter p xs ≡ filter q xs
filter_agree_on p q [] same = refl
filter_agree_on p q (x ∷ xs) same =
    let here : p x ≡ q x = All-head (λ x. p x ≡ q x) x xs same in
    let rest : filter p xs ≡ filter q xs = filter_agree_on p q xs (All-tail (λ x. p x ≡ q x) x xs same) in
    rw (here, rest) refl

-- each number below another is among those from 0 on
pub contains_range : (n k : ℕ) → k < n → Contains (range_with_len 0 n) k
contains_range n k within =
    let inside : k < length (range_with_len 0 n) = rw length-range_with_len within in
    (k, inside, get_or-range_with_len 0 n k k within ∙ omega arith)

-- a filter of one place more
pub filter_range_more : (p : ℕ → Bool) (n : ℕ) →
    filter p (range_with_len 0 (n + 1)) ≡ filter p (range_with_len 0 n) ++ cond (p n) (n ∷ []) []
filter_range_more p n =
    let e : range_with_len 0 (n + 1) ≡ range_with_len 0 n ++ n ∷ [] =
    range_push 0 n ∙ ap (λ (k : ℕ). range_with_len 0 n ++ k ∷ []) (omega arith) in
    ap (filter p) e ∙ filter-append p (range_with_len 0 n) (n ∷ [])

module _ {X : Type 0} (R : X → X → Type 0) where
  pub AllPairs-none : AllPairs R []
  AllPairs-none i j d before within = absurd (omega arith)

  pub AllPairs-one : (x : X) → AllPairs R (x ∷ [])
  AllPairs-one x i j d before within = absurd (omega arith)

  pub AllPairs-heads : (x : X) (xs : List X) → AllPairs R (x ∷ xs) → All (R x) xs
  AllPairs-heads x xs p k d within = p 0 (suc k) d (omega arith) (omega arith)

  pub AllPairs-tails : (x : X) (xs : List X) → AllPairs R (x ∷ xs) → AllPairs R xs
  AllPairs-tails x xs p i j d before within = p (suc i) (suc j) d (omega arith) (omega arith)

  pub AllPairs-append : (xs ys : List X) → AllPairs R xs → AllPairs R ys → All (λ x. All (R x) ys) xs →
      AllPairs R (xs ++ ys)
  AllPairs-append [] ys p q cross = q
  AllPairs-append (x ∷ xs) ys p q cross =
      AllPairs-cons R x (xs ++ ys)
      (All-append (R x) xs ys (AllPairs-heads x xs p) (All-head (λ x. All (R x) ys) x xs cross))
      (AllPairs-append xs ys (AllPairs-tails x xs p) q (All-tail (λ x. All (R x) ys) x xs cross))

-- Items of another list, none of which stands twice, are a part of that list.
pub within_list : {X : Type 0} (xs whole : List X) → AllPairs (λ a b. a ≢ b) xs → All (Contains whole) xs →
    (rest : List X) × IsPermutation whole (xs ++ rest)
within_list [] whole apart among = (whole, IsPermutation-refl whole)
within_list {X} (x ∷ xs) whole apart among =
    let tail = within_list xs whole (AllPairs-tails (λ a b. a ≢ b) x xs apart) (All-tail (Contains whole) x xs among) in
    let member : Contains (xs ++ tail.0) x =
    Contains-permutation whole (xs ++ tail.0) x tail.1 (All-head (Contains whole) x xs among) in
    let others : All (λ y. x ≢ y) xs = AllPairs-heads (λ a b. a ≢ b) x xs apart in
    let there : Contains tail.0 x =
    ⊎_elim
    (λ (h : Contains xs x). absurd (All-contains (λ y. x ≢ y) xs x others h refl))
    (λ (h : Contains tail.0 x). h)
    (Contains-append_cases xs tail.0 x member) in
    let taken : IsPermutation tail.0 (x ∷ remove tail.0 there.0) =
    IsPermutation-remove tail.0 there.0 x there.1 (sym there.2) in (
      remove tail.0 there.0,
      IsPermutation-trans whole (xs ++ tail.0) (x ∷ xs ++ remove tail.0 there.0) tail.1
          (IsPermutation-trans (xs ++ tail.0) (xs ++ x ∷ remove tail.0 there.0) (x ∷ xs ++ remove tail.0 there.0)
          (IsPermutation-append_right xs tail.0 (x ∷ remove tail.0 there.0) taken)
          (IsPermutation-middle xs x (remove tail.0 there.0))),
    )

-- So they are no more than all of it.
pub at_most_all : {X : Type 0} (xs whole : List X) → AllPairs (λ a b. a ≢ b) xs → All (Contains whole) xs →
    length xs ≤ length whole
at_most_all xs whole apart among =
    let part = within_list xs whole apart among in
    omega (arith, length_permutation whole (xs ++ part.0) part.1, length-append xs part.0)

-- Two lists of the same items, none of which stands twice, differ only in the order.
pub same_items : {X : Type 0} (xs whole : List X) → AllPairs (λ a b. a ≢ b) xs → All (Contains whole) xs →
    AllPairs (λ a b. a ≢ b) whole → All (Contains xs) whole → IsPermutation whole xs
same_items {X} xs whole apart among apart' among' =
    let part = within_list xs whole apart among in
    let back : length whole ≤ length xs = at_most_all whole xs apart' among' in
    let none : part.0 ≡ [] =
    nothing part.0 (omega (arith, length_permutation whole (xs ++ part.0) part.1, length-append xs part.0)) in
    let P : List X → Type 0 = λ zs. IsPermutation whole zs in
    subst P (ap (λ zs. xs ++ zs) none ∙ append-nil xs) part.1
  where
    nothing : {X : Type 0} (zs : List X) → length zs ≤ 0 → zs ≡ []
    nothing [] h = refl
    nothing (z ∷ zs) h = absurd (omega arith)

-- what rises by each step rises
pub rises : (f : ℕ → ℕ) → ((k : ℕ) → f k ≤ f (k + 1)) → (n k : ℕ) → f n ≤ f (n + k)
rises f step n zero = let e : n + 0 ≡ n = omega arith in rw e (omega arith)
rises f step n (suc k) =
    let e : n + suc k ≡ (n + k) + 1 = omega arith in
    rw e (omega (arith, rises f step n k, step (n + k)))

pub rises_to : (f : ℕ → ℕ) → ((k : ℕ) → f k ≤ f (k + 1)) → (n m : ℕ) → n ≤ m → f n ≤ f m
rises_to f step n m le =
    let e : n + (m - n) ≡ m = omega arith in
    let P : ℕ → Type 0 = λ k. f n ≤ f k in
    subst P e (rises f step n (m - n))
