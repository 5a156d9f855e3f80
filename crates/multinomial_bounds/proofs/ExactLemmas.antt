-- The weight of counts, added up by the isotope of the last atom.
use Rattle.std.proofs.Common.{◌≡◌, ℕ, suc, ◌+◌, ◌*◌, ◌^◌, ◌<◌, ◌≤◌, List, length, get_or, take, sum, refl, eqb, true, false, ap, sym, ◌∙◌, arith}
use Rattle.std.proofs.Math.Nat.{pow-suc, mul-le-mul_left}
use Rattle.std.specs.List.{sum_by, list_all}
use Rattle.std.proofs.lemmas.List.{take_all}
use Rattle.std.proofs.lemmas.List.FromFn.{length-range_with_len, get_or-range_with_len}
use Rattle.std.proofs.lemmas.List.Sums.{sum_by_more, sum_by_more_le}
use Rattle.multinomial_bounds.specs.Weight.{places, one_less, weight_of, total_of}
use Rattle.multinomial_bounds.proofs.WeightLemmas.{last_drawn, last_drawn-some, last_drawn-none, weight_of-suc, weight_of-le-total_of}

module _ (ws : List ℕ) (n : ℕ) (x : List ℕ) (i : ℕ) where
  -- the weight of the ways whose last atom is of one of the first i isotopes
  pub weight_so_far : ℕ
  weight_so_far = sum_by (last_drawn ws n x) (take i (places ws))

  place_is : i < length ws → get_or (places ws) i 0 ≡ i
  place_is within = get_or-range_with_len 0 (length ws) i 0 within ∙ omega arith

  pub weight_so_far-more : i < length ws →
      sum_by (last_drawn ws n x) (take (i + 1) (places ws)) ≡ weight_so_far + last_drawn ws n x i
  unfolding weight_so_far
  weight_so_far-more within =
      sum_by_more (last_drawn ws n x) (places ws) i 0 (rw length-range_with_len within)
      ∙ ap (λ k. weight_so_far + last_drawn ws n x k) (place_is within)

  weight_so_far-part : i < length ws → weight_so_far + last_drawn ws n x i ≤ total_of ws (suc n)
  unfolding weight_so_far
  weight_so_far-part within =
      let part : weight_so_far + last_drawn ws n x (get_or (places ws) i 0) ≤ sum_by (last_drawn ws n x) (places ws) =
      sum_by_more_le (last_drawn ws n x) (places ws) i 0 (rw length-range_with_len within) in
      let here : weight_so_far + last_drawn ws n x i ≤ sum_by (last_drawn ws n x) (places ws) = rw (place_is within) at part in
      omega (arith, weight_of-suc ws n x, weight_of-le-total_of ws (suc n) x)

  pub weight_so_far-some : i < length ws → 1 ≤ get_or x i 0 →
      weight_so_far + get_or ws i 0 * weight_of ws n (one_less x i) ≡ sum_by (last_drawn ws n x) (take (i + 1) (places ws))
  weight_so_far-some within some =
      ap (λ w. weight_so_far + w) (sym (last_drawn-some ws n x i some)) ∙ sym (weight_so_far-more within)

  pub weight_so_far-skip : i < length ws → get_or x i 0 ≡ 0 →
      weight_so_far ≡ sum_by (last_drawn ws n x) (take (i + 1) (places ws))
  weight_so_far-skip within none = omega (arith, weight_so_far-more within, last_drawn-none ws n x i none)

  pub weight_so_far-le : i < length ws → 1 ≤ get_or x i 0 →
      weight_so_far + get_or ws i 0 * weight_of ws n (one_less x i) ≤ total_of ws (suc n)
  weight_so_far-le within some =
      rw (← last_drawn-some ws n x i some) (weight_so_far-part within)

  pub weight_so_far-all : length ws ≤ i → weight_so_far ≡ weight_of ws (suc n) x
  unfolding weight_so_far
  weight_so_far-all all =
      ap (λ k. sum_by (last_drawn ws n x) k) (take_all i (places ws) (rw length-range_with_len all)) ∙ sym (weight_of-suc ws n x)

pub total_of-le : (ws : List ℕ) (n : ℕ) → 1 ≤ sum ws → total_of ws n ≤ total_of ws (suc n)
total_of-le ws n some = rw (pow-suc (sum ws) n) (omega (arith, mul-le-mul_left (sum ws ^ n) some))

pub weight_so_far-none : (ws : List ℕ) (n : ℕ) (x : List ℕ) → weight_so_far ws n x 0 ≡ 0
unfolding weight_so_far
weight_so_far-none ws n x = refl

-- the sums of one more isotope, as the loop has them
pub weight_so_far-next : (ws : List ℕ) (n : ℕ) (x : List ℕ) (i : ℕ) →
    sum_by (last_drawn ws n x) (take (i + 1) (places ws)) ≡ weight_so_far ws n x (i + 1)
unfolding weight_so_far
weight_so_far-next ws n x i = refl

-- counts that are not all 0 are not those of no atoms
pub weight_of-no_atom : (ws x : List ℕ) → list_all (λ c. eqb c 0) x ≡ true → weight_of ws 0 x ≡ 1
unfolding weight_of
weight_of-no_atom ws x none = rw none

pub weight_of-some_atom : (ws x : List ℕ) → list_all (λ c. eqb c 0) x ≡ false → weight_of ws 0 x ≡ 0
unfolding weight_of
weight_of-some_atom ws x some = rw some
