-- Tests of the places 0 to n - 1: whether all pass, and the first that does.
use Rattle.std.proofs.Common.{◌≡◌, ℕ, ◌<◌, ◌≤◌, Bool, true, false, sym, ◌∙◌, ap, arith, get_or, ⊎_elim}
use Rattle.std.specs.List.{list_all, position_or_len, range_with_len}
use Rattle.std.proofs.lemmas.Bool.{both_ways, cases_lt}
use Rattle.std.proofs.lemmas.List.FromFn.{length-range_with_len, get_or-range_with_len}
use Rattle.std.proofs.lemmas.List.Elements.{All-get_or, All-from_get_or}
use Rattle.std.proofs.lemmas.List.Folds.{list_all_at}
use Rattle.std.proofs.lemmas.List.Sums.{position_or_len_is, fails_before_first, passes_at_first, AllPass-from_list_all, list_all-from_AllPass}

-- the place at a place is itself
at_place : (p : ℕ → Bool) (n k : ℕ) (b : Bool) → k < n → p k ≡ b → p (get_or (range_with_len 0 n) k 0) ≡ b
at_place p n k b within is = ap p (get_or-range_with_len 0 n k 0 within ∙ omega arith) ∙ is

of_place : (p : ℕ → Bool) (n k : ℕ) (b : Bool) → k < n → p (get_or (range_with_len 0 n) k 0) ≡ b → p k ≡ b
of_place p n k b within is = ap p (sym (get_or-range_with_len 0 n k 0 within ∙ omega arith)) ∙ is

pub all_places : (p : ℕ → Bool) (n : ℕ) → ((k : ℕ) → k < n → p k ≡ true) → list_all p (range_with_len 0 n) ≡ true
all_places p n each =
    list_all-from_AllPass p (range_with_len 0 n)
    (All-from_get_or (λ x. p x ≡ true) (range_with_len 0 n) 0
    (λ k h. let within : k < n = rw length-range_with_len at h in at_place p n k true within (each k within)))

pub not_all_places : (p : ℕ → Bool) (n k : ℕ) → k < n → p k ≡ false → list_all p (range_with_len 0 n) ≡ false
not_all_places p n k within fails =
    list_all_at p (range_with_len 0 n) k 0 (rw length-range_with_len within) (at_place p n k false within fails)

pub each_place : (p : ℕ → Bool) (n : ℕ) → list_all p (range_with_len 0 n) ≡ true → (k : ℕ) → k < n → p k ≡ true
each_place p n all k within =
    of_place p n k true within
    (All-get_or (λ x. p x ≡ true) (range_with_len 0 n) k 0 (rw length-range_with_len within)
    (AllPass-from_list_all p (range_with_len 0 n) all))

pub first_place_is : (p : ℕ → Bool) (n i : ℕ) → i < n → p i ≡ true → ((k : ℕ) → k < i → p k ≡ false) →
    position_or_len p (range_with_len 0 n) ≡ i
first_place_is p n i within passes fails =
    position_or_len_is p (range_with_len 0 n) i 0 (rw length-range_with_len (omega arith))
    (λ k h. at_place p n k false (omega arith) (fails k h))
    (λ h. at_place p n i true within passes)

pub first_place_passes : (p : ℕ → Bool) (n : ℕ) → position_or_len p (range_with_len 0 n) < n →
    p (position_or_len p (range_with_len 0 n)) ≡ true
first_place_passes p n within =
    of_place p n (position_or_len p (range_with_len 0 n)) true within
    (passes_at_first p (range_with_len 0 n) 0 (rw length-range_with_len within))

pub first_place_fails : (p : ℕ → Bool) (n k : ℕ) → k < n → k < position_or_len p (range_with_len 0 n) → p k ≡ false
first_place_fails p n k within before = of_place p n k false within (fails_before_first p (range_with_len 0 n) k 0 before)

pub first_place_found : (p : ℕ → Bool) (n i : ℕ) → i < n → p i ≡ true → position_or_len p (range_with_len 0 n) ≤ i
first_place_found p n i within passes =
    ⊎_elim
    (λ (h : i < position_or_len p (range_with_len 0 n)). absurd (both_ways (p i) (first_place_fails p n i within h) passes))
    (λ (h : position_or_len p (range_with_len 0 n) ≤ i). h)
    (cases_lt i (position_or_len p (range_with_len 0 n)))
