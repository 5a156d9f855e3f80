-- The mode: the next isotope exists and is the first of those with the greatest quotient, each step
-- keeps that no move makes the counts likelier, and no factor on the way is above 1.
use Rattle.std.proofs.Common.{below_more, add-one, ◌≡◌, ℕ, zero, suc, ◌+◌, ◌-◌, ◌*◌, ◌^◌, ◌<◌, ◌≤◌, List, [], ◌∷◌, Bool}
use Rattle.std.proofs.Common.{true, false, refl, ap, ◌∙◌, arith, length, get_or, ⊎_elim, sum, replicate}
use Rattle.std.proofs.Common.{get_or-set_other}
use Rattle.std.proofs.Math.Nat.{le_of_mul-le-mul_right, lt_of_mul-lt-mul_right, mul-le-mul_right, mul-lt-mul_of_pos_right, mul-pos, le_trans, pow-zero, pow-suc}
use Rattle.std.specs.List.{list_all, position_or_len, range_with_len}
use Rattle.std.proofs.lemmas.Bool.{cases_eq, cases_lt, le-leb, lt-leb}
use Rattle.std.proofs.lemmas.List.{length-set, length-replicate, get_or-replicate}
use Rattle.std.proofs.lemmas.List.Sums.{sum_by-set, sum_by-cons, sum_by-le, get_or-le-sum_by}
use Rattle.std.proofs.lemmas.List.Elements.{All-get_or}
use Rattle.std.proofs.lemmas.List.Folds.{sum_by-replicate}
use Rattle.multinomial_bounds.specs.Weight.{places, one_more, weight_of, total_of, IsWeights}
use Rattle.multinomial_bounds.specs.Bounds.{floor_of, ceiling_of, IsEnclosure}
use Rattle.multinomial_bounds.specs.Mode.{quotient_le, next_isotope, mode_of_atoms, mode_bound, IsMode}
use Rattle.multinomial_bounds.proofs.WeightLemmas.{get_or-one_more, growth_rule, weight_of-no_atoms}
use Rattle.multinomial_bounds.proofs.BoundLemmas.{IsEnclosure-step}
use Rattle.multinomial_bounds.proofs.PlaceLemmas.{all_places, not_all_places, first_place_is}

-- a / p ≤ b / q and b / q ≤ c / r, by cross products
pub quotient_le_trans : (a p b q c r : ℕ) → 0 < q → a * q ≤ b * p → b * r ≤ c * q → a * r ≤ c * p
quotient_le_trans a p b q c r pos ab bc =
    let h : a * r * q ≤ c * p * q = omega (arith, mul-le-mul_right r ab, mul-le-mul_right p bc) in
    le_of_mul-le-mul_right h pos

pub quotient_lt_trans : (a p b q c r : ℕ) → 0 < p → a * q ≤ b * p → b * r < c * q → a * r < c * p
quotient_lt_trans a p b q c r pos ab bc =
    let h : a * r * q < c * p * q = omega (arith, mul-le-mul_right r ab, mul-lt-mul_of_pos_right bc pos) in
    lt_of_mul-lt-mul_right q h

-- the isotope at k does not exceed that at i in weight over count plus one
abbrev pub NotAbove : List ℕ → List ℕ → ℕ → ℕ → Type 0
NotAbove ws m k i = get_or ws k 0 * (get_or m i 0 + 1) ≤ get_or ws i 0 * (get_or m k 0 + 1)

pub NotAbove-trans : (ws m : List ℕ) (k i j : ℕ) → NotAbove ws m k i → NotAbove ws m i j → NotAbove ws m k j
NotAbove-trans ws m k i j ki ij =
    quotient_le_trans (get_or ws k 0) (get_or m k 0 + 1) (get_or ws i 0) (get_or m i 0 + 1) (get_or ws j 0) (get_or m j 0 + 1)
    (omega arith) ki ij

-- b is the first of the isotopes below n that no other of them exceeds
pub record BestBelow (ws m : List ℕ) (n b : ℕ) : Type 0 where
  pub within : b < n
  pub greatest : (k : ℕ) → k < n → NotAbove ws m k b
  pub first : (k : ℕ) → k < b → get_or ws k 0 * (get_or m b 0 + 1) < get_or ws b 0 * (get_or m k 0 + 1)

pub BestBelow-one : (ws m : List ℕ) → BestBelow ws m 1 0
BestBelow-one ws m =
    record {
      within = omega arith;
      greatest = λ k h. let e : k ≡ 0 = omega arith in rw e (omega arith);
      first = λ k h. absurd (omega arith);
    }

-- the next isotope exceeds the best so far, or does not
pub BestBelow-better : (ws m : List ℕ) (n b : ℕ) → BestBelow ws m n b →
    get_or ws b 0 * (get_or m n 0 + 1) < get_or ws n 0 * (get_or m b 0 + 1) → BestBelow ws m (n + 1) n
BestBelow-better ws m n b best more =
    record {
      within = omega arith;
      greatest = below_more (λ k. NotAbove ws m k n) n
          (λ k h. NotAbove-trans ws m k b n (best.greatest k h) (omega arith)) (omega arith);
      first = λ k h.
          quotient_lt_trans (get_or ws k 0) (get_or m k 0 + 1) (get_or ws b 0) (get_or m b 0 + 1) (get_or ws n 0) (get_or m n 0 + 1)
          (omega arith) (best.greatest k h) more;
    }

pub BestBelow-same : (ws m : List ℕ) (n b : ℕ) → BestBelow ws m n b → NotAbove ws m n b → BestBelow ws m (n + 1) b
BestBelow-same ws m n b best less =
    let inside : b < n = best.within in
    record {
      within = omega arith;
      greatest = below_more (λ k. NotAbove ws m k b) n best.greatest less;
      first = best.first;
    }

-- one of the first n + 1 isotopes is the best
best_of : (ws m : List ℕ) (n : ℕ) → (b : ℕ) × BestBelow ws m (n + 1) b
best_of ws m zero = (0, BestBelow-one ws m)
best_of ws m (suc n) =
    let b : ℕ = (best_of ws m n).0 in
    let best : BestBelow ws m (n + 1) b = (best_of ws m n).1 in
    let e : suc n + 1 ≡ n + 1 + 1 = omega arith in
    rw e
    (⊎_elim
    (λ (more : get_or ws b 0 * (get_or m (n + 1) 0 + 1) < get_or ws (n + 1) 0 * (get_or m b 0 + 1)).
    (n + 1, BestBelow-better ws m (n + 1) b best more))
    (λ (less : NotAbove ws m (n + 1) b). (b, BestBelow-same ws m (n + 1) b best less))
    (cases_lt (get_or ws b 0 * (get_or m (n + 1) 0 + 1)) (get_or ws (n + 1) 0 * (get_or m b 0 + 1))))

-- the test of an isotope
is_greatest : List ℕ → List ℕ → ℕ → Bool
is_greatest ws m i =
    list_all (λ k. quotient_le ws m k i) (places ws)

next_isotope-first : (ws m : List ℕ) → next_isotope ws m ≡ position_or_len (is_greatest ws m) (range_with_len 0 (length ws))
unfolding next_isotope is_greatest
next_isotope-first ws m = refl

is_greatest-true : (ws m : List ℕ) (i : ℕ) → ((k : ℕ) → k < length ws → NotAbove ws m k i) → is_greatest ws m i ≡ true
unfolding is_greatest
is_greatest-true ws m i greatest =
    all_places (λ k. quotient_le ws m k i) (length ws)
    (λ k h. le-leb _ _ (greatest k h))

is_greatest-false : (ws m : List ℕ) (i k : ℕ) → k < length ws →
    get_or ws i 0 * (get_or m k 0 + 1) < get_or ws k 0 * (get_or m i 0 + 1) → is_greatest ws m i ≡ false
unfolding is_greatest
is_greatest-false ws m i k within less =
    not_all_places (λ k. quotient_le ws m k i) (length ws) k
    within (lt-leb _ _ less)

-- The next isotope is the first that no isotope of the element exceeds. There is one.
pub next_isotope_is : (ws m : List ℕ) (i : ℕ) → BestBelow ws m (length ws) i → next_isotope ws m ≡ i
next_isotope_is ws m i best =
    next_isotope-first ws m
    ∙ first_place_is (is_greatest ws m) (length ws) i best.within (is_greatest-true ws m i best.greatest)
    (λ k h. is_greatest-false ws m k i best.within (best.first k h))

next_isotope-best : (ws m : List ℕ) → 1 ≤ length ws → BestBelow ws m (length ws) (next_isotope ws m)
next_isotope-best ws m some =
    let e : length ws - 1 + 1 ≡ length ws = omega arith in
    let best : BestBelow ws m (length ws) (best_of ws m (length ws - 1)).0 = rw e at ((best_of ws m (length ws - 1)).1) in
    rw (next_isotope_is ws m (best_of ws m (length ws - 1)).0 best) best

pub next_isotope-within : (ws m : List ℕ) → 1 ≤ length ws → next_isotope ws m < length ws
next_isotope-within ws m some = (next_isotope-best ws m some).within

pub next_isotope-greatest : (ws m : List ℕ) → 1 ≤ length ws → (k : ℕ) → k < length ws → NotAbove ws m k (next_isotope ws m)
next_isotope-greatest ws m some = (next_isotope-best ws m some).greatest

-- a move to one more keeps the places, and adds an atom
pub length-one_more : (m : List ℕ) (i : ℕ) → length (one_more m i) ≡ length m
length-one_more m i = length-set m i (get_or m i 0 + 1)

pub sum-one_more : (m : List ℕ) (i : ℕ) → i < length m → sum (one_more m i) ≡ sum m + 1
sum-one_more m i within = omega (arith, sum_by-set (λ x. x) m i (get_or m i 0 + 1) 0 within)

pub mode_of_atoms-suc : (ws : List ℕ) (n : ℕ) →
    mode_of_atoms ws (suc n) ≡ one_more (mode_of_atoms ws n) (next_isotope ws (mode_of_atoms ws n))
unfolding mode_of_atoms
mode_of_atoms-suc ws n = refl

pub length-mode_of_atoms : (ws : List ℕ) (n : ℕ) → length (mode_of_atoms ws n) ≡ length ws
unfolding mode_of_atoms
length-mode_of_atoms ws zero = length-replicate (length ws) 0
length-mode_of_atoms ws (suc n) =
    length-one_more (mode_of_atoms ws n) (next_isotope ws (mode_of_atoms ws n)) ∙ length-mode_of_atoms ws n

pub sum-mode_of_atoms : (ws : List ℕ) → 1 ≤ length ws → (n : ℕ) → sum (mode_of_atoms ws n) ≡ n
unfolding mode_of_atoms
sum-mode_of_atoms ws some zero = omega (arith, sum_by-replicate (λ x. x) (length ws) 0)
sum-mode_of_atoms ws some (suc n) =
    let m : List ℕ = mode_of_atoms ws n in
    omega (
      arith,
      sum-mode_of_atoms ws some n,
      sum-one_more (mode_of_atoms ws n) (next_isotope ws (mode_of_atoms ws n))
          (rw length-mode_of_atoms (next_isotope-within ws (mode_of_atoms ws n) some)),
    )

pub one_more-le : (m : List ℕ) (p i : ℕ) → p < length m → get_or m i 0 ≤ get_or (one_more m p) i 0
one_more-le m p i within =
    ⊎_elim
    (λ (e : i ≡ p). rw e (omega (arith, get_or-one_more m p within)))
    (λ (ne : i ≡ p → ⊥). omega (arith, get_or-set_other m p i (get_or m p 0 + 1) 0 ne))
    (cases_eq i p)

-- one atom more of the next isotope keeps that no move makes the counts likelier
IsMode-next : (ws m : List ℕ) → 1 ≤ length ws → length m ≡ length ws → IsMode ws m → IsMode ws (one_more m (next_isotope ws m))
IsMode-next ws m some same mode i j within_i within_j =
    let next : ℕ = next_isotope ws m in
    let within : next_isotope ws m < length m = rw same (next_isotope-within ws m some) in
    let up : get_or m i 0 ≤ get_or (one_more m (next_isotope ws m)) i 0 = one_more-le m (next_isotope ws m) i within in
    let wider : (get_or m i 0 + 1) * get_or ws j 0 ≤ (get_or (one_more m (next_isotope ws m)) i 0 + 1) * get_or ws j 0 =
    mul-le-mul_right (get_or ws j 0) (omega arith) in
    ⊎_elim
    (λ (e : j ≡ next_isotope ws m).
    let there : get_or (one_more m (next_isotope ws m)) j 0 ≡ get_or m j 0 + 1 =
    rw e (get_or-one_more m (next_isotope ws m) within) in
    let best : get_or ws i 0 * (get_or m j 0 + 1) ≤ get_or ws j 0 * (get_or m i 0 + 1) =
    rw e (next_isotope-greatest ws m some i within_i) in
    rw there (omega arith))
    (λ (ne : j ≡ next_isotope ws m → ⊥).
    let there : get_or (one_more m (next_isotope ws m)) j 0 ≡ get_or m j 0 =
    get_or-set_other m (next_isotope ws m) j (get_or m (next_isotope ws m) 0 + 1) 0 ne in
    rw there (le_trans (mode i j within_i within_j) wider))
    (cases_eq j (next_isotope ws m))

IsMode-zero : (ws : List ℕ) → IsMode ws (replicate (length ws) 0)
IsMode-zero ws i j within_i within_j = rw (get_or-replicate {A = ℕ} (length ws) j 0 0 within_j) (omega arith)

pub IsMode-mode_of_atoms : (ws : List ℕ) → 1 ≤ length ws → (n : ℕ) → IsMode ws (mode_of_atoms ws n)
unfolding mode_of_atoms
IsMode-mode_of_atoms ws some zero = IsMode-zero ws
IsMode-mode_of_atoms ws some (suc n) =
    IsMode-next ws (mode_of_atoms ws n) some (length-mode_of_atoms ws n) (IsMode-mode_of_atoms ws some n)

pub sum-le-scaled : (c d : ℕ) (xs ys : List ℕ) → length xs ≡ length ys →
    ((k : ℕ) → k < length ys → get_or xs k 0 * c ≤ d * get_or ys k 0) → sum xs * c ≤ d * sum ys
sum-le-scaled c d [] [] same each = omega arith
sum-le-scaled c d [] (y ∷ ys) same each = absurd (omega arith)
sum-le-scaled c d (x ∷ xs) [] same each = absurd (omega arith)
sum-le-scaled c d (x ∷ xs) (y ∷ ys) same each =
    let rest : sum xs * c ≤ d * sum ys = sum-le-scaled c d xs ys (omega arith) (λ k h. each (suc k) (omega arith)) in
    let here : x * c ≤ d * y = each zero (omega arith) in
    rw (sum_by-cons (λ z. z) x xs, sum_by-cons (λ z. z) y ys) (omega arith)

-- no factor on the way to a mode is above 1
pub growth-at-most-one : (ws m : List ℕ) (i : ℕ) → length m ≡ length ws → IsMode ws m → i < length ws →
    (sum m + 1) * get_or ws i 0 ≤ (get_or m i 0 + 1) * sum ws
growth-at-most-one ws m i same mode within =
    let inside : i < length m = omega arith in
    rw (← sum-one_more m i inside)
    (sum-le-scaled (get_or ws i 0) (get_or m i 0 + 1) (one_more m i) ws (length-one_more m i ∙ same)
    (λ k h. ⊎_elim
    (λ (e : k ≡ i). rw (e, get_or-one_more m i inside) (omega arith))
    (λ (ne : k ≡ i → ⊥). rw (get_or-set_other m i k (get_or m i 0 + 1) 0 ne) (mode i k within h))
    (cases_eq k i)))

pub next_isotope-falls : (ws : List ℕ) (n : ℕ) → 1 ≤ length ws →
    (n + 1) * get_or ws (next_isotope ws (mode_of_atoms ws n)) 0
    ≤ (get_or (mode_of_atoms ws n) (next_isotope ws (mode_of_atoms ws n)) 0 + 1) * sum ws
next_isotope-falls ws n some =
    rw (sum-mode_of_atoms ws some n) at
    (growth-at-most-one ws (mode_of_atoms ws n) (next_isotope ws (mode_of_atoms ws n)) (length-mode_of_atoms ws n)
    (IsMode-mode_of_atoms ws some n) (next_isotope-within ws (mode_of_atoms ws n) some))

-- the growth rule, where the weight of all counts grows too
growth_exact : (f f' d w c t : ℕ) → c * f' ≡ d * (w * f) → f * (d * w) * t ≡ f' * (c * t)
growth_exact f f' d w c t rule =
    let e : f * (d * w) * t ≡ d * (w * f) * t = omega arith in
    rw (e, ← rule) (omega arith)

-- The mode's bounds enclose its probability.
pub IsEnclosure-mode : (ws : List ℕ) → 1 ≤ length ws → ((k : ℕ) → k < length ws → 1 ≤ get_or ws k 0) → (n : ℕ) →
    IsEnclosure (mode_bound floor_of ws n) (mode_bound ceiling_of ws n) (weight_of ws n (mode_of_atoms ws n)) (total_of ws n)
unfolding mode_bound mode_of_atoms
IsEnclosure-mode ws some positive zero =
    rw (weight_of-no_atoms ws (length ws), pow-zero (sum ws))
    (record { ordered = omega arith; positive = omega arith; at_most_one = omega arith; from_below = omega arith; from_above = omega arith })
IsEnclosure-mode ws some positive (suc n) =
    let within : next_isotope ws (mode_of_atoms ws n) < length ws = next_isotope-within ws (mode_of_atoms ws n) some in
    let inside : next_isotope ws (mode_of_atoms ws n) < length (mode_of_atoms ws n) = rw length-mode_of_atoms within in
    rw (pow-suc (sum ws) n)
    (IsEnclosure-step _ _ (weight_of ws n (mode_of_atoms ws n)) _ _ _ (sum ws) (total_of ws n)
    (mul-pos (omega arith) (positive (next_isotope ws (mode_of_atoms ws n)) within))
    (next_isotope-falls ws n some)
    (IsEnclosure-mode ws some positive n)
    (growth_exact _ _ _ _ _ _
    (growth_rule ws n (mode_of_atoms ws n) (next_isotope ws (mode_of_atoms ws n)) inside)))

-- the sum of an element's weights is at most 16 times 10^12
pub sum-IsWeights : (ws : List ℕ) → IsWeights ws → sum ws ≤ 16 * 10 ^ 12
sum-IsWeights ws ok = omega (arith, sum_by-le (λ w. w) (10 ^ 12) ws ok.bounded, mul-le-mul_right (10 ^ 12) ok.few)

pub IsWeights-positive : (ws : List ℕ) → IsWeights ws → (k : ℕ) → k < length ws → 1 ≤ get_or ws k 0
IsWeights-positive ws ok k within = All-get_or (λ w. 1 ≤ w) ws k 0 within ok.positive

-- each count is at most all atoms
pub get_or-mode_of_atoms-le : (ws : List ℕ) → 1 ≤ length ws → (n k : ℕ) → k < length ws → get_or (mode_of_atoms ws n) k 0 ≤ n
get_or-mode_of_atoms-le ws some n k within =
    omega (
      arith,
      sum-mode_of_atoms ws some n,
      get_or-le-sum_by (λ x. x) (mode_of_atoms ws n) k 0 (rw length-mode_of_atoms within),
    )

pub mode_of_atoms-next : (ws : List ℕ) (n : ℕ) →
    mode_of_atoms ws (n + 1) ≡ one_more (mode_of_atoms ws n) (next_isotope ws (mode_of_atoms ws n))
mode_of_atoms-next ws n = ap (mode_of_atoms ws) (add-one n) ∙ mode_of_atoms-suc ws n

mode_bound-suc : (round : ℕ → ℕ → ℕ) (ws : List ℕ) (n : ℕ) →
    mode_bound round ws (suc n)
    ≡ round (mode_bound round ws n * ((n + 1) * get_or ws (next_isotope ws (mode_of_atoms ws n)) 0))
    ((get_or (mode_of_atoms ws n) (next_isotope ws (mode_of_atoms ws n)) 0 + 1) * sum ws)
unfolding mode_bound
mode_bound-suc round ws n = refl

pub mode_bound-next : (round : ℕ → ℕ → ℕ) (ws : List ℕ) (n : ℕ) →
    mode_bound round ws (n + 1)
    ≡ round (mode_bound round ws n * ((n + 1) * get_or ws (next_isotope ws (mode_of_atoms ws n)) 0))
    ((get_or (mode_of_atoms ws n) (next_isotope ws (mode_of_atoms ws n)) 0 + 1) * sum ws)
mode_bound-next round ws n = ap (mode_bound round ws) (add-one n) ∙ mode_bound-suc round ws n
