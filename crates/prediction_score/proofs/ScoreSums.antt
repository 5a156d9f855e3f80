-- The sums of a score, over the totals that are kept and over the places of the definition.
use Rattle.std.proofs.Common.{◌≡◌, ℕ, zero, suc, ◌+◌, ◌*◌, ◌/◌, ◌^◌, ◌<◌, ◌≤◌, ◌↔◌, true, false, Bool, List, [], ◌∷◌}
use Rattle.std.proofs.Common.{◌++◌, length, get_or}
use Rattle.std.proofs.Common.{map, cond, take, arith, ap, ap₂, sym, subst, refl, ◌∙◌, inl, inr}
use Rattle.std.specs.Prelude.{ℤ, sum_by, filter, Option, Some, None, IfSome}
use Rattle.std.proofs.lemmas.List.{take_more, map-append}
use Rattle.std.specs.List.{range_with_len}
use Rattle.std.specs.Int.{abs_diff}
use Rattle.std.proofs.lemmas.Bool.{cases_eq, cases_lt, cond-false, ne_eqb}
use Rattle.std.proofs.lemmas.List.{get_or-map}
use Rattle.std.proofs.lemmas.List.Sums.{sum_by-cons, sum_by-le}
use Rattle.std.proofs.Math.Nat.{le-div_iff_mul-le, mul-le-mul_right}
use Rattle.prediction_score.specs.declared.predicted.Predicted.{Predicted}
use Rattle.mass_scaling.specs.declared.tolerances.Tolerance.{Tolerance}
use Rattle.prediction_score.specs.declared.shares.Total.{Total}
use Rattle.prediction_score.specs.declared.shares.Shares.{Shares}
use Rattle.prediction_score.specs.Scores.{Match, lo_at, has_member, intensity_at, observed_share, match_score}
use Rattle.prediction_score.specs.Scores.{matched_places}
use Rattle.prediction_score.specs.Scores.{matches_of, misfit_with}
use Rattle.prediction_score.specs.Matches.{peak_of, IsPeakOf}
use Rattle.prediction_score.specs.PeakOrders.{IsRisingBy, HasKey, Each, AreShares}
use Rattle.prediction_score.specs.Misfits.{intensity_of, total_intensity, gap_of, misfit_of_totals}

-- the totals of all members
pub sum-matches : (peaks : List (ℕ × ℕ)) (d : ℕ) (tolerance : Tolerance) (members : List Predicted)
    → sum_by (λ (m : Match). m.1) (matches_of peaks d tolerance members) ≡ sum_by (λ (m : Predicted). m.lo) members
sum-matches peaks d tolerance [] = refl
sum-matches peaks d tolerance (m ∷ ms) =
    sum_by-cons (λ (n : Match). n.1) (peak_of peaks d tolerance m.mass, m.lo) (matches_of peaks d tolerance ms)
    ∙ ap (λ n. m.lo + n) (sum-matches peaks d tolerance ms)
    ∙ sym (sum_by-cons (λ (n : Predicted). n.lo) m ms)

-- ---- the places that got a member

-- elements whose keys rise, are in a range, pass a test, and are all numbers of the range that pass it
record FillsRange (p : ℕ → Bool) (a n : ℕ) (xs : List Total) : Type 0 where
  rising : IsRisingBy (λ (t : Total). t.place) xs
  low : (i : ℕ) (d : Total) → i < length xs → a ≤ (get_or xs i d).place
  high : (i : ℕ) (d : Total) → i < length xs → (get_or xs i d).place < a + n
  pass : (i : ℕ) (d : Total) → i < length xs → p (get_or xs i d).place ≡ true
  has : (j : ℕ) → a ≤ j → j < a + n → p j ≡ true → HasKey (λ (t : Total). t.place) xs j

first-key : (p : ℕ → Bool) (a n : ℕ) (y : Total) (ys : List Total) → FillsRange p a (suc n) (y ∷ ys) → p a ≡ true
    → y.place ≡ a
first-key p a n y ys fills e = at (fills.has a (omega arith) (omega arith) e)
  where
    at : HasKey (λ (t : Total). t.place) (y ∷ ys) a → y.place ≡ a
    at (zero, inside, is) = is y
    at (suc i, inside, is) =
        let least = fills.low 0 y (omega arith) in
        let more = fills.rising 0 (suc i) y (omega arith) inside in
        let there = is y in absurd (omega arith)

tail-fills : (p : ℕ → Bool) (a n : ℕ) (y : Total) (ys : List Total) → FillsRange p a (suc n) (y ∷ ys) → p a ≡ true
    → FillsRange p (a + 1) n ys
tail-fills p a n y ys fills e = record {
  rising = λ i j d less inside. fills.rising (suc i) (suc j) d (omega arith) (omega arith);
  low = λ i d inside.
      let more = fills.rising 0 (suc i) d (omega arith) (omega arith) in omega (arith, first-key p a n y ys fills e);
  high = λ i d inside. let most = fills.high (suc i) d (omega arith) in omega arith;
  pass = λ i d inside. fills.pass (suc i) d (omega arith);
  has = λ j from to passes. behind j from (fills.has j (omega arith) (omega arith) passes);
}
  where
    behind : (j : ℕ) → a + 1 ≤ j → HasKey (λ (t : Total). t.place) (y ∷ ys) j → HasKey (λ (t : Total). t.place) ys j
    behind j from (zero, inside, is) =
        let there = is y in absurd (omega (arith, first-key p a n y ys fills e))
    behind j from (suc i, inside, is) = (i, omega arith, λ d. is d)

skip-fills : (p : ℕ → Bool) (a n : ℕ) (xs : List Total) → FillsRange p a (suc n) xs → p a ≡ false
    → FillsRange p (a + 1) n xs
skip-fills p a n xs fills e = record {
  rising = fills.rising;
  low = λ i d inside.
      let least = fills.low i d inside in
      elim (cases_eq (get_or xs i d).place a) [
        | inl same ↦ let passes = ap p (sym same) ∙ fills.pass i d inside in absurd (cc)
        | inr other ↦ omega arith
      ];
  high = λ i d inside. let most = fills.high i d inside in omega arith;
  pass = fills.pass;
  has = λ j from to passes. fills.has j (omega arith) (omega arith) passes;
}

some-fills : (p : ℕ → Bool) (a n : ℕ) → FillsRange p a (suc n) [] → p a ≡ true → ⊥
some-fills p a n fills e = by (fills.has a (omega arith) (omega arith) e)
  where
    by : HasKey (λ (t : Total). t.place) [] a → ⊥
    by (i, inside, is) = omega arith

-- their keys are the numbers of the range that pass it
filter-fills : (p : ℕ → Bool) (n a : ℕ) (xs : List Total) → FillsRange p a n xs
    → map (λ (t : Total). t.place) xs ≡ filter p (range_with_len a n)
filter-fills p zero a [] fills = refl
filter-fills p zero a (x ∷ xs) fills =
    let least = fills.low 0 x (omega arith) in let most = fills.high 0 x (omega arith) in absurd (omega arith)
filter-fills p (suc n) a [] fills =
    elim (p a) as (λ b. p a ≡ b → [] ≡ cond b (a ∷ filter p (range_with_len (a + 1) n))
    (filter p (range_with_len (a + 1) n))) [
      | true ↦ λ e. absurd (some-fills p a n fills e)
      | false ↦ λ e. filter-fills p n (a + 1) [] (skip-fills p a n [] fills e)
    ] refl
filter-fills p (suc n) a (x ∷ xs) fills =
    elim (p a) as (λ b. p a ≡ b → map (λ (t : Total). t.place) (x ∷ xs)
    ≡ cond b (a ∷ filter p (range_with_len (a + 1) n)) (filter p (range_with_len (a + 1) n))) [
      | true ↦ λ e. ap₂ (λ k l. k ∷ l) (first-key p a n x xs fills e)
          (filter-fills p n (a + 1) xs (tail-fills p a n x xs fills e))
      | false ↦ λ e. filter-fills p n (a + 1) (x ∷ xs) (skip-fills p a n (x ∷ xs) fills e)
    ] refl

pub places-matched : (n : ℕ) (ms : List Match) (shares : Shares) → AreShares n ms shares
    → map (λ (t : Total). t.place) shares.totals.items ≡ matched_places ms n
places-matched n ms shares are =
    filter-fills (has_member ms) n 0 shares.totals.items (record {
      rising = are.rising;
      low = λ i d inside. omega arith;
      high = λ i d inside. let total = are.totals i d inside in omega (arith, total.inside);
      pass = λ i d inside. (are.totals i d inside).matched;
      has = λ j from to passes. are.each j passes;
    })

-- ---- sums over totals and over their places

sum_by-keys : (f : Total → ℕ) (g : ℕ → ℕ) (xs : List Total) → Each (λ (t : Total). f t ≡ g t.place) xs
    → sum_by f xs ≡ sum_by g (map (λ (t : Total). t.place) xs)
sum_by-keys f g [] same = refl
sum_by-keys f g (x ∷ xs) same =
    sum_by-cons f x xs ∙ ap₂ (λ a b. a + b) (same 0 x (omega arith))
    (sum_by-keys f g xs (λ i d inside. same (suc i) d (omega arith)))
    ∙ sym (sum_by-cons g x.place (map (λ (t : Total). t.place) xs))

intensity-place : (peaks : List (ℕ × ℕ)) (t : Total) → t.place < length peaks
    → intensity_of (map (λ (p : ℕ × ℕ). p.1) peaks) t ≡ intensity_at peaks t.place
intensity-place peaks t inside = get_or-map (λ (p : ℕ × ℕ). p.1) peaks t.place (0, 0) 0 inside

-- what is kept makes the score of the definition
pub score-shares : (peaks : List (ℕ × ℕ)) (column : List ℕ) (ms : List Match) (shares : Shares)
    → AreShares (length peaks) ms shares → column ≡ map (λ (p : ℕ × ℕ). p.1) peaks
    → shares.unmatched + misfit_of_totals column shares.totals.items shares.matched ≡ match_score peaks ms
score-shares peaks column ms shares are is =
    let totals : List Total = shares.totals.items in
    let places : List ℕ = map (λ (t : Total). t.place) totals in
    let lo_sum : shares.matched ≡ sum_by (lo_at ms) places =
    are.matched ∙ sum_by-keys (λ (t : Total). t.lo) (lo_at ms) totals (λ i d inside. (are.totals i d inside).lo) in
    let intensities : (i : ℕ) (d : Total) → i < length totals
    → intensity_of column (get_or totals i d) ≡ intensity_at peaks (get_or totals i d).place =
    λ i d inside. ap (λ l. intensity_of l (get_or totals i d)) is
    ∙ intensity-place peaks (get_or totals i d) (are.totals i d inside).inside in
    let whole : total_intensity column totals ≡ sum_by (intensity_at peaks) places =
    sum_by-keys (intensity_of column) (intensity_at peaks) totals intensities in
    let gaps : misfit_of_totals column totals shares.matched
    ≡ misfit_with peaks ms places shares.matched (total_intensity column totals) =
    sum_by-keys (gap_of column shares.matched (total_intensity column totals))
    (λ j. abs_diff (lo_at ms j) (observed_share (intensity_at peaks j) shares.matched (total_intensity column totals)))
    totals (λ i d inside. ap₂ (λ a b. abs_diff a (observed_share b shares.matched (total_intensity column totals)))
    (are.totals i d inside).lo (intensities i d inside)) in
    ap₂ (λ a b. a + b) are.unmatched (gaps ∙ ap₂ (λ s w. misfit_with peaks ms places s w) lo_sum whole
    ∙ ap (λ l. misfit_with peaks ms l (sum_by (lo_at ms) l) (sum_by (intensity_at peaks) l))
    (places-matched (length peaks) ms shares are))

-- ---- bounds

mul-le-cancel : (a b c : ℕ) → 0 < c → a * c ≤ b * c → a ≤ b
mul-le-cancel a b c some less =
    elim (cases_lt b a) [
      | inl above ↦ let more : (b + 1) * c ≤ a * c = mul-le-mul_right c (omega arith) in absurd (omega arith)
      | inr at_most ↦ at_most
    ]

share-le : (f s whole : ℕ) → 0 < whole → observed_share f s whole * whole ≤ f * s
share-le f s whole some =
    let quotient : (f * s / whole ≤ f * s / whole) ↔ (f * s / whole * whole ≤ f * s) = le-div_iff_mul-le some in
    let is : observed_share f s whole ≡ f * s / whole = cond-false _ _ _ (ne_eqb whole 0 (λ zero. omega arith)) in
    subst (λ q. q * whole ≤ f * s) (sym is) (quotient.0 (omega arith))

shares-times : (f : Total → ℕ) (s whole : ℕ) (xs : List Total) → 0 < whole
    → sum_by (λ t. observed_share (f t) s whole) xs * whole ≤ sum_by f xs * s
shares-times f s whole [] some = omega arith
shares-times f s whole (x ∷ xs) some =
    let head = share-le (f x) s whole some in
    let rest = shares-times f s whole xs some in
    let left : sum_by (λ t. observed_share (f t) s whole) (x ∷ xs) * whole
    ≡ (observed_share (f x) s whole + sum_by (λ t. observed_share (f t) s whole) xs) * whole =
    ap (λ n. n * whole) (sum_by-cons (λ t. observed_share (f t) s whole) x xs) in
    let right : sum_by f (x ∷ xs) * s ≡ (f x + sum_by f xs) * s = ap (λ n. n * s) (sum_by-cons f x xs) in
    omega (arith, left, right)

-- ---- one member after another

pub matches_of-more : (peaks : List (ℕ × ℕ)) (d : ℕ) (tolerance : Tolerance) (members : List Predicted) (i : ℕ)
    (e : Predicted) → i < length members
    → matches_of peaks d tolerance (take (i + 1) members)
    ≡ matches_of peaks d tolerance (take i members)
    ++ (peak_of peaks d tolerance (get_or members i e).mass, (get_or members i e).lo) ∷ []
matches_of-more peaks d tolerance members i e inside =
    ap (matches_of peaks d tolerance) (take_more members i e inside)
    ∙ map-append (λ (m : Predicted). (peak_of peaks d tolerance m.mass, m.lo)) (take i members)
    (get_or members i e ∷ [])

pub inside-peaks : (peaks : List (ℕ × ℕ)) (d : ℕ) (tolerance : Tolerance) (mass : ℤ) (o : Option ℕ)
    → IfSome o (IsPeakOf peaks d tolerance mass) → IfSome o (λ p. p < length peaks)
inside-peaks peaks d tolerance mass None is = tt
inside-peaks peaks d tolerance mass (Some place) is = is.inside

-- the observed shares are at most S together
pub shares-bound : (column : List ℕ) (s : ℕ) (xs : List Total)
    → sum_by (λ (t : Total). observed_share (intensity_of column t) s (total_intensity column xs)) xs ≤ s
shares-bound column s xs = by (total_intensity column xs) refl
  where
    none : (ys : List Total) → sum_by (λ (t : Total). 0) ys ≡ 0
    none [] = refl
    none (y ∷ ys) = omega (arith, sum_by-cons (λ (t : Total). 0) y ys, none ys)

    by : (whole : ℕ) → whole ≡ total_intensity column xs
        → sum_by (λ (t : Total). observed_share (intensity_of column t) s whole) xs ≤ s
    by zero is = omega (arith, none xs)
    by (suc w) is =
        let times = shares-times (intensity_of column) s (suc w) xs (omega arith) in
        let turned : total_intensity column xs * s ≡ s * suc w = ap (λ n. n * s) (sym is) ∙ omega arith in
        mul-le-cancel _ s (suc w) (omega arith) (omega (arith, times, turned))

-- a gap is at most the total and its share
gaps-bound : (column : List ℕ) (s whole : ℕ) (xs : List Total)
    → sum_by (gap_of column s whole) xs
    ≤ sum_by (λ (t : Total). t.lo) xs + sum_by (λ (t : Total). observed_share (intensity_of column t) s whole) xs
gaps-bound column s whole [] = omega arith
gaps-bound column s whole (x ∷ xs) =
    omega (
      arith,
      gaps-bound column s whole xs,
      sum_by-cons (gap_of column s whole) x xs,
      sum_by-cons (λ (t : Total). t.lo) x xs,
      sum_by-cons (λ (t : Total). observed_share (intensity_of column t) s whole) x xs,
    )

pub misfit-bound : (column : List ℕ) (s : ℕ) (xs : List Total) → s ≡ sum_by (λ (t : Total). t.lo) xs
    → misfit_of_totals column xs s ≤ 2 * s
misfit-bound column s xs is =
    omega (arith, gaps-bound column s (total_intensity column xs) xs, shares-bound column s xs, is)

-- intensities of 64 bits add up to less than their number times 2^64
pub total_intensity-le : (column : List ℕ) (xs : List Total) → ((k : ℕ) → get_or column k 0 < 2 ^ 64)
    → total_intensity column xs ≤ length xs * 18446744073709551615
total_intensity-le column xs small =
    sum_by-le (intensity_of column) 18446744073709551615 xs (λ k d inside. omega (arith, small (get_or xs k d).place))
