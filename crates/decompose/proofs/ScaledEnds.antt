-- The scaled window of a window of mass, as the walk takes it.
use Rattle.std.proofs.Common.{◌≡◌, ℕ, ◌*◌, ◌/◌, ◌^◌, ◌<◌, ◌≤◌, true, leb, length, Option, Some, None, MatchOption}
use Rattle.std.proofs.Common.{List, get_or, refl, inl, inr, arith}
use Rattle.std.specs.Prelude.{IfSome, IsSomeAnd, IsNone}
use Rattle.std.proofs.lemmas.Bool.{cases_Bool, cases_lt, and_parts, leb-true, le-leb}
use Rattle.std.proofs.lemmas.List.{length-map}
use Rattle.std.proofs.Math.Nat.{mul-le-mul_right}
use Rattle.mass_scaling.specs.Masses.{base_of, mass_of}
use Rattle.mass_scaling.specs.Scales.{IsInScaledWindow, scaled_of, grain_for}
use Rattle.mass_scaling.specs.Windows.{Holds, HoldsExactly}
use Rattle.mass_scaling.specs.declared.windows.Window.{Window}
use Rattle.mass_scaling.proofs.RatioLemmas.{sums_in_ratio}
use Rattle.decompose.specs.Enumeration.{is_within}
use Rattle.decompose.specs.Levels.{masses_of, scaled_masses_of}
use Rattle.decompose.specs.Probes.{HasNoList, IsScaledWindow}
use Rattle.decompose.specs.StepBounds.{HasNoScaledWindow, IsScaledWindowOf}
use Rattle.decompose.specs.declared.levels.Symbol.{Symbol}

pub holds : (window : Window) (mass : ℕ) → is_within window mass ≡ true → Holds window mass
holds window mass t =
    let parts = and_parts (leb window.lo mass) (leb mass window.hi) t in
    (leb-true _ _ parts.0, leb-true _ _ parts.1)

pub within_of : (window : Window) (mass : ℕ) → Holds window mass → is_within window mass ≡ true
within_of window mass h = rw (le-leb window.lo mass h.0, le-leb mass window.hi h.1) refl

-- a count list that is not above the window is not above the scaled one
below_scaled : (masses : List ℕ) (window scaled : Window) → IsScaledWindowOf masses window scaled → (counts : List ℕ) →
    mass_of masses counts ≤ window.hi → mass_of (scaled_of masses) counts ≤ scaled.hi
below_scaled masses window scaled w counts h =
    let a = scaled_of masses in
    let top : IsInScaledWindow masses window scaled.hi = (w.exact scaled.hi).1 (w.not_empty, omega arith) in
    elim (cases_lt scaled.hi (mass_of a counts)) [
      | inl lt ↦
          let u = top.not_above.0 in
          let v = top.not_below.0 in
          let as_many : length a ≡ length masses = length-map masses (λ m. m / grain_for (base_of masses)) in
          let ratio : get_or masses u 0 * mass_of a counts ≤ mass_of masses counts * get_or a u 0 =
          sums_in_ratio masses a counts (get_or masses u 0) (get_or a u 0) as_many top.not_above.1.least in
          let to_hi : mass_of masses counts * get_or a u 0 ≤ window.hi * get_or a u 0 =
          mul-le-mul_right (get_or a u 0) h in
          let more : scaled.hi * get_or masses v 0 ≤ mass_of a counts * get_or masses v 0 =
          mul-le-mul_right (get_or masses v 0) (omega arith) in
          let one : IsInScaledWindow masses window (mass_of a counts) =
          record {
            not_below = (v, top.not_below.1, omega (arith, top.not_below.2, more));
            not_above = (u, top.not_above.1, omega (arith, ratio, to_hi));
          } in
          ((w.exact (mass_of a counts)).0 one).1
      | inr ge ↦ ge
    ]

module _ (masses scaled : List ℕ) (window : Window) (are : scaled ≡ scaled_of masses)
    (in_range : window.hi < 2 ^ 64) where
  pub scaled_exact : (found : Option Window) → IfSome found (λ f. HoldsExactly f (IsInScaledWindow masses window)) →
      (IsNone found → HasNoScaledWindow masses window) → IfSome found (λ f. f.lo ≤ f.hi) →
      MatchOption found (HasNoScaledWindow masses window) (IsScaledWindowOf masses window)
  scaled_exact None exact none not_empty = none refl
  scaled_exact (Some f) exact none not_empty = record { exact = exact; not_empty = not_empty }

  pub scaled_keeps : (found : Option Window) →
      MatchOption found (HasNoScaledWindow masses window) (IsScaledWindowOf masses window) →
      ((counts : List ℕ) → Holds window (mass_of masses counts) →
      IsSomeAnd found (λ f. Holds f (mass_of scaled counts))) →
      IfSome found (λ f. f.hi * 10 ^ 7 ≤ window.hi) → (symbols : List Symbol) → masses_of symbols ≡ masses →
      scaled_masses_of symbols ≡ scaled_of masses →
      MatchOption found (HasNoList symbols window) (IsScaledWindow symbols window)
  scaled_keeps None exact loses grains symbols e s = rw e
      (λ counts. elim (cases_Bool (is_within window (mass_of masses counts))) [
        | inl t ↦ absurd (loses counts (holds window (mass_of masses counts) t))
        | inr f ↦ f
      ])
  scaled_keeps (Some f) exact loses grains symbols e s = record {
    keeps = rw (e, s)
        (λ counts t. within_of f (mass_of (scaled_of masses) counts)
        (rw are at (loses counts (holds window (mass_of masses counts) t))));
    keeps_below = rw (e, s) (below_scaled masses window f exact);
    not_empty = exact.not_empty;
    in_range = omega (arith, grains, in_range);
  }
