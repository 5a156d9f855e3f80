-- The least number whose total is at least the coverage.
use Rattle.std.proofs.Common.{◌≡◌, ℕ, ◌<◌, ◌≤◌, not, leb, subst, arith, ⊎_elim}
use Rattle.std.specs.List.{range_with_len}
use Rattle.std.proofs.lemmas.Bool.{cases_lt, leb-true, leb-false}
use Rattle.std.proofs.lemmas.List.FromFn.{length-range_with_len}
use Rattle.std.proofs.lemmas.List.Sums.{prefix_len-le-length}
use Rattle.multinomial_bounds.proofs.PlaceLemmas.{first_place_passes, first_place_fails}
use Rattle.isotopologue_sets.specs.Covers.{fewest}

module _ (total : ℕ → ℕ) (coverage all : ℕ) where
  pub fewest-within : fewest total coverage all ≤ all
  fewest-within =
      rw length-range_with_len at (prefix_len-le-length (λ n. not (leb coverage (total n))) (range_with_len 0 all))

  -- no smaller number has the coverage
  pub fewest-below : (n : ℕ) → n < fewest total coverage all → total n < coverage
  fewest-below n below =
      let within : n < all = omega (arith, fewest-within) in
      leb-false coverage (total n) (first_place_fails (λ m. leb coverage (total m)) all n within below)

  pub fewest-at_most : (n : ℕ) → coverage ≤ total n → fewest total coverage all ≤ n
  fewest-at_most n enough =
      ⊎_elim
      (λ (h : n < fewest total coverage all). absurd (let low : total n < coverage = fewest-below n h in omega arith))
      (λ (h : fewest total coverage all ≤ n). h)
      (cases_lt n (fewest total coverage all))

  -- it has the coverage where all have it
  pub fewest-reaches : coverage ≤ total all → coverage ≤ total (fewest total coverage all)
  fewest-reaches enough =
      ⊎_elim
      (λ (h : fewest total coverage all < all).
      leb-true coverage (total (fewest total coverage all)) (first_place_passes (λ m. leb coverage (total m)) all h))
      (λ (h : all ≤ fewest total coverage all).
      let same : all ≡ fewest total coverage all = omega (arith, fewest-within) in
      subst (λ m. coverage ≤ total m) same enough)
      (cases_lt (fewest total coverage all) all)
