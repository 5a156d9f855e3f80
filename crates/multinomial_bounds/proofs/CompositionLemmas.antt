-- Each composition has so many counts and so many atoms, and each list of counts is a composition of its sum.
use Rattle.std.proofs.Common.{◌≡◌, ℕ, zero, suc, ◌+◌, ◌-◌, ◌<◌, List, [], ◌∷◌, map, length, sum, get_or, refl, sym, ◌∙◌, ap, subst, arith, All, eqb, false}
use Rattle.std.specs.Prelude.{flat_map, Contains}
use Rattle.std.specs.List.{range_with_len}
use Rattle.std.proofs.lemmas.List.{length-map, get_or-map}
use Rattle.std.proofs.lemmas.List.Elements.{All-nil, All-cons, All-head, All-tail, All-append, All-map, All-weaker, Contains-append_left, Contains-append_right}
use Rattle.std.proofs.lemmas.List.FromFn.{length-range_with_len, get_or-range_with_len}
use Rattle.std.proofs.lemmas.List.Sums.{sum_by-cons}
use Rattle.multinomial_bounds.specs.Weight.{IsCounts}
use Rattle.multinomial_bounds.specs.Compositions.{compositions}

pub All-flat_map : {X Y : Type 0} (P : Y → Type 0) (f : X → List Y) (xs : List X) →
    All (λ x. All P (f x)) xs → All P (flat_map f xs)
All-flat_map P f [] all = All-nil P
All-flat_map P f (x ∷ xs) all =
    All-append P (f x) (flat_map f xs) (All-head (λ y. All P (f y)) x xs all)
    (All-flat_map P f xs (All-tail (λ y. All P (f y)) x xs all))

pub All-range : (P : ℕ → Type 0) (n : ℕ) → ((k : ℕ) → k < n → P k) → All P (range_with_len 0 n)
All-range P n each k d within =
    let inside : k < n = rw length-range_with_len at within in
    let e : get_or (range_with_len 0 n) k d ≡ k = get_or-range_with_len 0 n k d inside ∙ omega arith in
    subst P (sym e) (each k inside)

-- these counts
pub record IsComposition (q n : ℕ) (counts : List ℕ) : Type 0 where
  pub places : length counts ≡ q
  pub atoms : sum counts ≡ n

pub sum-cons : (x : ℕ) (xs : List ℕ) → sum (x ∷ xs) ≡ x + sum xs
sum-cons x xs = sum_by-cons (λ y. y) x xs

pub compositions-IsComposition : (q n : ℕ) → All (IsComposition q n) (compositions q n)
unfolding compositions
compositions-IsComposition zero zero =
    All-cons (IsComposition 0 0) [] [] (record { places = refl; atoms = refl }) (All-nil (IsComposition 0 0))
compositions-IsComposition zero (suc n) =
    let some : eqb (suc n) 0 ≡ false = grind arith in
    rw some (All-nil (IsComposition 0 (suc n)))
compositions-IsComposition (suc q) n =
    All-flat_map (IsComposition (suc q) n) (λ first. map (λ rest. first ∷ rest) (compositions q (n - first)))
    (range_with_len 0 (n + 1))
    (All-range
    (λ first. All (IsComposition (suc q) n) (map (λ rest. first ∷ rest) (compositions q (n - first)))) (n + 1)
    (λ first within.
    All-map (IsComposition (suc q) n) (λ rest. first ∷ rest) (compositions q (n - first))
    (All-weaker (IsComposition q (n - first)) (λ rest. IsComposition (suc q) n (first ∷ rest))
    (λ rest is. record {
      places = ap suc is.places;
      atoms = sum-cons first rest ∙ omega (arith, is.atoms);
    })
    (compositions q (n - first)) (compositions-IsComposition q (n - first)))))

pub compositions-IsCounts : (ws : List ℕ) (n : ℕ) → All (IsCounts ws n) (compositions (length ws) n)
compositions-IsCounts ws n =
    All-weaker (IsComposition (length ws) n) (IsCounts ws n)
    (λ c is. record { places_agree = is.places; atoms_agree = is.atoms })
    (compositions (length ws) n) (compositions-IsComposition (length ws) n)

pub Contains-map : {X Y : Type 0} (f : X → Y) (xs : List X) (x : X) → Contains xs x → Contains (map f xs) (f x)
Contains-map f xs x c =
    let within : c.0 < length (map f xs) = rw length-map c.1 in
    (c.0, within, get_or-map f xs c.0 x (f x) c.1 ∙ ap f c.2)

pub Contains-flat_map : {X Y : Type 0} (f : X → List Y) (xs : List X) (x : X) (y : Y) (k : ℕ) → k < length xs →
    get_or xs k x ≡ x → Contains (f x) y → Contains (flat_map f xs) y
Contains-flat_map f [] x y k within is c = absurd (omega arith)
Contains-flat_map f (z ∷ xs) x y zero within is c =
    Contains-append_left (f z) (flat_map f xs) y (subst (λ w. Contains (f w) y) (sym is) c)
Contains-flat_map f (z ∷ xs) x y (suc k) within is c =
    Contains-append_right (f z) (flat_map f xs) y (Contains-flat_map f xs x y k (omega arith) is c)

contains_range : (n k : ℕ) → k < n → Contains (range_with_len 0 n) k
contains_range n k within =
    let inside : k < length (range_with_len 0 n) = rw length-range_with_len within in
    (k, inside, get_or-range_with_len 0 n k k within ∙ omega arith)

-- Each list of counts is among the compositions of its sum.
pub compositions_complete : (counts : List ℕ) (n : ℕ) → sum counts ≡ n →
    Contains (compositions (length counts) n) counts
unfolding compositions
compositions_complete [] n all =
    subst (λ m. Contains (compositions 0 m) []) all (0, omega arith, refl)
compositions_complete (c ∷ rest) n all =
    let split : c + sum rest ≡ n = sym (sum-cons c rest) ∙ all in
    let first = contains_range (n + 1) c (omega arith) in
    Contains-flat_map (λ first. map (λ rest. first ∷ rest) (compositions (length rest) (n - first)))
    (range_with_len 0 (n + 1)) c (c ∷ rest) first.0 first.1 first.2
    (Contains-map (λ rest. c ∷ rest) (compositions (length rest) (n - c)) rest
    (compositions_complete rest (n - c) (omega arith)))
