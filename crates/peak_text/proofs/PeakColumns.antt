-- Pairs of m/z and intensity, their two columns, and the test whether they are peaks.
use Rattle.std.proofs.Common.{◌≡◌, ℕ, suc, true, List, [], ◌∷◌, length, map, refl, sym, ap, subst, arith}
use Rattle.std.proofs.lemmas.List.Elements.{All-weaker}
use Rattle.std.proofs.lemmas.List.Sums.{list_all-from_AllPass}
use Rattle.std.specs.List.{zip}
use Rattle.peak_text.specs.PeakLists.{IsPeak, ArePeaks, AreColumns, is_peak, are_peaks}

-- the two columns of pairs, side by side, are the pairs
pub zip-columns : (pairs : List (ℕ × ℕ)) → zip (map (λ p. p.0) pairs) (map (λ p. p.1) pairs) ≡ pairs
zip-columns [] = refl
zip-columns (p ∷ pairs) = ap (λ rest. p ∷ rest) (zip-columns pairs)

-- and as long
length-columns : (pairs : List (ℕ × ℕ)) → length (map (λ p. p.1) pairs) ≡ length (map (λ p. p.0) pairs)
length-columns [] = refl
length-columns (p ∷ pairs) = ap (λ n. suc n) (length-columns pairs)

-- the columns of peaks
pub AreColumns-pairs : (pairs : List (ℕ × ℕ)) → ArePeaks pairs
    → AreColumns (map (λ p. p.0) pairs) (map (λ p. p.1) pairs)
AreColumns-pairs pairs peaks = record {
  as_long = length-columns pairs;
  sound = subst ArePeaks (sym (zip-columns pairs)) peaks;
}

IsPeak-is_peak : (peak : ℕ × ℕ) → IsPeak peak → is_peak peak ≡ true
IsPeak-is_peak peak is = grind (arith, is.mz_from, is.mz_to, is.intensity_to)

-- peaks pass the test of all pairs
pub ArePeaks-are_peaks : (pairs : List (ℕ × ℕ)) → ArePeaks pairs → are_peaks pairs ≡ true
ArePeaks-are_peaks pairs peaks =
    grind (arith, peaks.few, list_all-from_AllPass is_peak pairs (All-weaker _ _ IsPeak-is_peak pairs peaks.each))
