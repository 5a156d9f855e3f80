-- The lanes of one vector: which is the first that is reached, and how many are in a range.
use Rattle.std.proofs.Common.{◌≡◌, ℕ, zero, suc, ◌+◌, ◌%◌, ◌^◌, ◌<◌, ◌≤◌, Bool, true, false, not, ◌&&◌, nat_le}
use Rattle.std.proofs.Common.{nat_lt, List, [], ◌∷◌, length, get_or, map, take, drop, cond, arith, ◌∙◌, sym, subst}
use Rattle.std.specs.Prelude.{count_by}
use Rattle.std.specs.List.{prefix_len}
use lib.Count.{count_trailing_zeros}
use Rattle.std.specs.Simd.Lanes.{zip2, mask_l}
use Rattle.std.proofs.lemmas.Bool.Decides.{nat_tests}
use Rattle.std.proofs.lemmas.List.{map-id}
use Rattle.std.proofs.lemmas.List.Sums.{prefix_len-le-length, prefix_len_passes, prefix_len_stops, sum_by-cons}
use Rattle.std.proofs.lemmas.Simd.{length-chunk, get_or-chunk, length-zip2, get_or-zip2, mask_l-mod, trailing_mask_l}
use Rattle.lane_scan.specs.Rows.{FirstWithin}

-- numbers that rise by one from lane to lane
pub rising : (x k : ℕ) → x + 8 ≤ 2 ^ 64 → k < 8 →
    get_or
    ((x + 0) % 2 ^ 64 ∷ (x + 1) % 2 ^ 64 ∷ (x + 2) % 2 ^ 64 ∷ (x + 3) % 2 ^ 64 ∷ (x + 4) % 2 ^ 64 ∷ (x + 5) % 2 ^ 64
    ∷ (x + 6) % 2 ^ 64 ∷ (x + 7) % 2 ^ 64 ∷ []) k 0 ≡ x + k
rising x zero fits h = omega arith
rising x (suc zero) fits h = omega arith
rising x (suc (suc zero)) fits h = omega arith
rising x (suc (suc (suc zero))) fits h = omega arith
rising x (suc (suc (suc (suc zero)))) fits h = omega arith
rising x (suc (suc (suc (suc (suc zero))))) fits h = omega arith
rising x (suc (suc (suc (suc (suc (suc zero)))))) fits h = omega arith
rising x (suc (suc (suc (suc (suc (suc (suc zero))))))) fits h = omega arith
rising x (suc (suc (suc (suc (suc (suc (suc (suc k)))))))) fits h = absurd (omega arith)

not_true : (a b : ℕ) → not (nat_le a b) ≡ true → b < a
not_true a b h = grind (arith, nat_tests)

not_false : (a b : ℕ) → not (nat_le a b) ≡ false → a ≤ b
not_false a b h = grind (arith, nat_tests)

-- the lowest bit that is set is the first lane that is reached
pub first_lane : (row limits : List ℕ) (from at mask : ℕ) (reached : List Bool) → at + 8 ≤ length row →
    length limits ≡ 8 → ((k : ℕ) → k < 8 → get_or limits k 0 ≡ from + at + k) →
    reached ≡ zip2 nat_le (take 8 (drop at row)) limits → mask ≡ mask_l reached % 2 ^ 64 → 0 < mask →
    FirstWithin row from at 8 (count_trailing_zeros 64 mask)
first_lane row limits from at mask reached room same rise is is_mask some =
    let lanes : List ℕ = take 8 (drop at row) in
    let lanes_length : length lanes ≡ 8 = length-chunk at 8 row room in
    let reached_length : length reached ≡ 8 =
    rw is (length-zip2 nat_le lanes limits (omega (arith, lanes_length, same)) ∙ lanes_length) in
    let itself : map (λ (b : Bool). b) reached ≡ reached = map-id reached in
    let mask_itself : mask_l (map (λ (b : Bool). b) reached) ≡ mask =
    rw itself (sym (is_mask ∙ mask_l-mod reached 64 (omega (arith, reached_length)))) in
    let before : count_trailing_zeros 64 (mask_l (map (λ (b : Bool). b) reached)) ≡ prefix_len (λ b. not b) reached =
    trailing_mask_l (λ b. b) 64 reached (omega (arith, reached_length)) (rw mask_itself some) in
    let lane : (k : ℕ) → k < 8 → get_or reached k false ≡ nat_le (get_or row (at + k) 0) (from + at + k) =
    λ k h. rw is
    (get_or-zip2 nat_le lanes limits k 0 0 false (omega (arith, lanes_length)) (omega (arith, same))
    ∙ rw (get_or-chunk at 8 row k 0 h, rise k h)) in
    let number : ℕ = prefix_len (λ b. not b) reached in
    let few : number ≤ 8 = omega (arith, prefix_len-le-length (λ b. not b) reached, reached_length) in
    let found : FirstWithin row from at 8 number =
    record {
      within = few;
      none_before = λ j h.
          let below : j < 8 = omega (arith, few) in
          omega (
            arith,
            not_true (get_or row (at + j) 0) (from + at + j)
                (rw (lane j below) at (prefix_len_passes (λ b. not b) reached j false h)),
          );
      reached = λ h.
          omega (
            arith,
            not_false (get_or row (at + number) 0) (from + at + number)
                (rw (lane number h) at (prefix_len_stops (λ b. not b) reached false (omega (arith, reached_length)))),
          );
    } in
    subst (λ (n : ℕ). FirstWithin row from at 8 n) (sym (rw mask_itself at before)) found

-- 1 for a number in the range
abbrev between : ℕ → ℕ → ℕ → ℕ
between lo hi x = cond (nat_le lo x && nat_le x hi) 1 0

in_range : (x lo hi : ℕ) → lo ≤ hi →
    between lo hi x + cond (nat_lt x lo) 1 0 ≡ cond (nat_le x hi) 1 0
in_range x lo hi ordered = grind (arith, nat_tests)

-- those in a range are those up to its end but those below it
pub counted : (xs : List ℕ) (lo hi : ℕ) → lo ≤ hi →
    count_by (λ m. nat_le lo m && nat_le m hi) xs + count_by (λ m. nat_lt m lo) xs ≡ count_by (λ m. nat_le m hi) xs
counted [] lo hi ordered = omega arith
counted (x ∷ xs) lo hi ordered =
    omega (
      arith,
      counted xs lo hi ordered,
      in_range x lo hi ordered,
      sum_by-cons (between lo hi) x xs,
      sum_by-cons (λ m. cond (nat_lt m lo) 1 0) x xs,
      sum_by-cons (λ m. cond (nat_le m hi) 1 0) x xs,
    )

out_of_range : (x lo hi : ℕ) → hi < lo → between lo hi x ≡ 0
out_of_range x lo hi empty = grind (arith, nat_tests)

-- an empty range has none
pub none_counted : (xs : List ℕ) (lo hi : ℕ) → hi < lo → count_by (λ m. nat_le lo m && nat_le m hi) xs ≡ 0
none_counted [] lo hi empty = omega arith
none_counted (x ∷ xs) lo hi empty =
    omega (arith, none_counted xs lo hi empty, out_of_range x lo hi empty, sum_by-cons (between lo hi) x xs)
