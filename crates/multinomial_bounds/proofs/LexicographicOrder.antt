-- Compositions, and all isotopologues, stand in lexicographic order, each once.
use Rattle.std.proofs.Common.{◌≡◌, ℕ, zero, suc, ◌+◌, ◌-◌, ◌<◌, List, [], ◌∷◌, ◌++◌, map, length, get_or, refl, sym}
use Rattle.std.proofs.Common.{◌∙◌, ap, arith, All, eqb, cond, true, false}
use Rattle.std.specs.Prelude.{flat_map, AllPairs}
use Rattle.std.specs.List.{range_with_len}
use Rattle.std.specs.Ordering.{nat_cmp, ordering_then}
use Rattle.std.specs.declared.cmp.Ordering.{Ordering}
use Rattle.std.specs.declared.cmp.Ordering.TheVariants.{Less, Equal}
use Rattle.std.specs.Cmp.Lexicographic.{slice_cmp}
use Rattle.std.proofs.lemmas.List.Elements.{All-head, All-tail, All-append, All-map, All-weaker}
use Rattle.std.proofs.lemmas.List.FromFn.{length-range_with_len, get_or-range_with_len}
use Rattle.std.proofs.lemmas.List.Kept.{AllPairs-cons}
use Rattle.std.proofs.lemmas.Cmp.{nat_list_cmp_total, tied_itself}
use Rattle.std.specs.Cmp.{nat_cmp_is}
use Rattle.multinomial_bounds.specs.Isotopologue.{Element}
use Rattle.multinomial_bounds.specs.Compositions.{compositions, choices, counts_of, isotopologues_of}
use Rattle.multinomial_bounds.proofs.CompositionLemmas.{All-flat_map}

module _ {X : Type 0} (R : X → X → Type 0) where
  none : AllPairs R []
  none i j d before within = absurd (omega arith)

  one : (x : X) → AllPairs R (x ∷ [])
  one x i j d before within = absurd (omega arith)

  heads : (x : X) (xs : List X) → AllPairs R (x ∷ xs) → All (R x) xs
  heads x xs p k d within = p 0 (suc k) d (omega arith) (omega arith)

  tails : (x : X) (xs : List X) → AllPairs R (x ∷ xs) → AllPairs R xs
  tails x xs p i j d before within = p (suc i) (suc j) d (omega arith) (omega arith)

  AllPairs_append : (xs ys : List X) → AllPairs R xs → AllPairs R ys → All (λ x. All (R x) ys) xs →
      AllPairs R (xs ++ ys)
  AllPairs_append [] ys p q cross = q
  AllPairs_append (x ∷ xs) ys p q cross =
      AllPairs-cons R x (xs ++ ys)
      (All-append (R x) xs ys (heads x xs p) (All-head (λ x. All (R x) ys) x xs cross))
      (AllPairs_append xs ys (tails x xs p) q (All-tail (λ x. All (R x) ys) x xs cross))

AllPairs_map : {X Y : Type 0} (R : Y → Y → Type 0) (f : X → Y) (xs : List X) → AllPairs (λ x y. R (f x) (f y)) xs →
    AllPairs R (map f xs)
AllPairs_map R f [] p = none R
AllPairs_map R f (x ∷ xs) p =
    AllPairs-cons R (f x) (map f xs)
    (All-map (R (f x)) f xs (heads (λ x y. R (f x) (f y)) x xs p))
    (AllPairs_map R f xs (tails (λ x y. R (f x) (f y)) x xs p))

AllPairs_flat_map : {X Y : Type 0} (R : X → X → Type 0) (S : Y → Y → Type 0) (f : X → List Y) →
    ((x y : X) → R x y → All (λ a. All (S a) (f y)) (f x)) → (xs : List X) → AllPairs R xs →
    All (λ x. AllPairs S (f x)) xs → AllPairs S (flat_map f xs)
AllPairs_flat_map R S f cross [] p each = none S
AllPairs_flat_map R S f cross (x ∷ xs) p each =
    AllPairs_append S (f x) (flat_map f xs) (All-head (λ x. AllPairs S (f x)) x xs each)
    (AllPairs_flat_map R S f cross xs (tails R x xs p) (All-tail (λ x. AllPairs S (f x)) x xs each))
    (λ k d within.
    All-flat_map (S (get_or (f x) k d)) f xs
    (All-weaker (R x) (λ y. All (S (get_or (f x) k d)) (f y)) (λ y r. cross x y r k d within) xs (heads R x xs p)))

-- lexicographic order
module _ {X : Type 0} (R : X → X → Ordering) where
  lex_less : (x y : X) (xs ys : List X) → R x y ≡ Less → slice_cmp R (x ∷ xs) (y ∷ ys) ≡ Less
  lex_less x y xs ys h = ap (λ o. ordering_then o (slice_cmp R xs ys)) h

  lex_same : (x : X) (xs ys : List X) → R x x ≡ Equal → slice_cmp R xs ys ≡ Less → slice_cmp R (x ∷ xs) (x ∷ ys) ≡ Less
  lex_same x xs ys e h = ap (λ o. ordering_then o (slice_cmp R xs ys)) e ∙ h

  -- choices of one item each, of items that stand in order
  choices_in_order : ((x : X) → R x x ≡ Equal) → (lists : List (List X)) →
      All (λ xs. AllPairs (λ x y. R x y ≡ Less) xs) lists →
      AllPairs (λ a b. slice_cmp R a b ≡ Less) (choices lists)
  unfolding choices
  choices_in_order same [] each = one (λ a b. slice_cmp R a b ≡ Less) []
  choices_in_order same (items ∷ others) each =
      AllPairs_flat_map (λ x y. R x y ≡ Less) (λ a b. slice_cmp R a b ≡ Less)
      (λ item. map (λ more. item ∷ more) (choices others))
      (λ x y h.
      All-map (λ a. All (λ b. slice_cmp R a b ≡ Less) (map (λ more. y ∷ more) (choices others))) (λ more. x ∷ more)
      (choices others)
      (λ k d within.
      All-map (λ b. slice_cmp R (x ∷ get_or (choices others) k d) b ≡ Less) (λ more. y ∷ more) (choices others)
      (λ k' d' within'. lex_less x y (get_or (choices others) k d) (get_or (choices others) k' d') h)))
      items (All-head (λ xs. AllPairs (λ x y. R x y ≡ Less) xs) items others each)
      (λ k d within.
      AllPairs_map (λ a b. slice_cmp R a b ≡ Less) (λ more. get_or items k d ∷ more) (choices others)
      (λ i j e before inside.
      lex_same (get_or items k d) (get_or (choices others) i e) (get_or (choices others) j e) (same (get_or items k d))
      (choices_in_order same others (All-tail (λ xs. AllPairs (λ x y. R x y ≡ Less) xs) items others each) i j e
      before inside)))

nat_less : (x y : ℕ) → x < y → nat_cmp x y ≡ Less
nat_less x y h = sym (nat_cmp_is x y Less h)

nat_same : (x : ℕ) → nat_cmp x x ≡ Equal
nat_same x = sym (nat_cmp_is x x Equal refl)

range_in_order : (n : ℕ) → AllPairs (λ x y. x < y) (range_with_len 0 n)
range_in_order n i j d before within =
    let inside : j < n = rw length-range_with_len at within in
    let first : get_or (range_with_len 0 n) i d ≡ 0 + i = get_or-range_with_len 0 n i d (omega arith) in
    let second : get_or (range_with_len 0 n) j d ≡ 0 + j = get_or-range_with_len 0 n j d inside in
    rw (first, second) (omega arith)

-- Compositions stand in lexicographic order, each once.
pub compositions_in_order : (q n : ℕ) → AllPairs (λ a b. slice_cmp nat_cmp a b ≡ Less) (compositions q n)
unfolding compositions
compositions_in_order zero n =
    elim (eqb n 0) as (λ b. AllPairs (λ x y. slice_cmp nat_cmp x y ≡ Less) (cond b ([] ∷ []) [])) [
      | true ↦ one (λ a b. slice_cmp nat_cmp a b ≡ Less) []
      | false ↦ none (λ a b. slice_cmp nat_cmp a b ≡ Less)
    ]
compositions_in_order (suc q) n =
    AllPairs_flat_map (λ x y. x < y) (λ a b. slice_cmp nat_cmp a b ≡ Less)
    (λ first. map (λ rest. first ∷ rest) (compositions q (n - first)))
    (λ x y h.
    All-map (λ a. All (λ b. slice_cmp nat_cmp a b ≡ Less) (map (λ rest. y ∷ rest) (compositions q (n - y))))
    (λ rest. x ∷ rest) (compositions q (n - x))
    (λ k d within.
    All-map (λ b. slice_cmp nat_cmp (x ∷ get_or (compositions q (n - x)) k d) b ≡ Less) (λ rest. y ∷ rest)
    (compositions q (n - y))
    (λ k' d' within'.
    lex_less nat_cmp x y (get_or (compositions q (n - x)) k d) (get_or (compositions q (n - y)) k' d')
    (nat_less x y h))))
    (range_with_len 0 (n + 1)) (range_in_order (n + 1))
    (λ k d within.
    AllPairs_map (λ a b. slice_cmp nat_cmp a b ≡ Less) (λ rest. get_or (range_with_len 0 (n + 1)) k d ∷ rest)
    (compositions q (n - get_or (range_with_len 0 (n + 1)) k d))
    (λ i j e before inside.
    lex_same nat_cmp (get_or (range_with_len 0 (n + 1)) k d)
    (get_or (compositions q (n - get_or (range_with_len 0 (n + 1)) k d)) i e)
    (get_or (compositions q (n - get_or (range_with_len 0 (n + 1)) k d)) j e)
    (nat_same (get_or (range_with_len 0 (n + 1)) k d))
    (compositions_in_order q (n - get_or (range_with_len 0 (n + 1)) k d) i j e before inside)))

-- All isotopologues stand in lexicographic order, each once.
pub isotopologues_in_order : (es : List Element) →
    AllPairs (λ i j. slice_cmp (slice_cmp nat_cmp) i j ≡ Less) (isotopologues_of es)
unfolding isotopologues_of counts_of
isotopologues_in_order es =
    choices_in_order (slice_cmp nat_cmp) (tied_itself nat_list_cmp_total) (map counts_of es)
    (All-map (λ xs. AllPairs (λ x y. slice_cmp nat_cmp x y ≡ Less) xs) counts_of es
    (λ k d within. compositions_in_order (length (get_or es k d).weights) (get_or es k d).atoms))
