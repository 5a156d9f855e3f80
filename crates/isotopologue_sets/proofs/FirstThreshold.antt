-- The search for a cover ends at the mode's upper bound halved so many times, and at no greater one of these.
use Rattle.std.proofs.Common.{◌≡◌, ℕ, zero, suc, ◌+◌, ◌*◌, ◌/◌, ◌^◌, ◌<◌, ◌≤◌, Bool, true, false, cond, Some, List, []}
use Rattle.std.proofs.Common.{◌∷◌, map, sym, ◌∙◌, ap, arith, All, ⊎_elim, lit<}
use Rattle.std.specs.List.{find, range_with_len}
use Rattle.std.specs.Option.{unwrap_or}
use Rattle.std.proofs.Math.Nat.{div-eq_of_lt, div-mul-le_self, pow-le-pow_right, mul-le-mul_left, one-le-pow}
use Rattle.std.proofs.lemmas.Nat.{le-div}
use Rattle.std.proofs.lemmas.Bool.{cases_Bool, cases_lt}
use Rattle.std.proofs.lemmas.List.Elements.{All-head, All-tail}
use Rattle.multinomial_bounds.specs.Bounds.{certainty}
use Rattle.multinomial_bounds.specs.Weight.{IsWeights, IsCounts}
use Rattle.multinomial_bounds.specs.Mode.{mode_of_atoms}
use Rattle.multinomial_bounds.specs.Isotopologue.{Element, IsIsotopologue}
use Rattle.multinomial_bounds.proofs.EnclosureLemmas.{IsEnclosure-isotopologue}
use Rattle.multinomial_bounds.proofs.ModeLemmas.{length-mode_of_atoms, sum-mode_of_atoms}
use Rattle.isotopologue_sets.specs.Coverage.{max_coverage}
use Rattle.isotopologue_sets.specs.Layers.{AreElements, mode_of_each, mode_hi, threshold_at, ends_search, last_threshold_for}
use Rattle.isotopologue_sets.proofs.AllReach.{ends_search-zero}

-- what is found among numbers of which one passes: the first that does
record Found (p : ℕ → Bool) (f : ℕ → ℕ) (from : ℕ) (found : ℕ) : Type 0 where
  step : ℕ
  there : found ≡ f (from + step)
  before : (j : ℕ) → j < step → p (f (from + j)) ≡ false

module _ (p : ℕ → Bool) (f : ℕ → ℕ) where
  found_here : (from count : ℕ) → p (f from) ≡ true →
      Found p f from (unwrap_or (cond (p (f from)) (Some (f from)) (find p (map f (range_with_len (from + 1) count)))) 0)
  found_here from count here =
      let same : from + 0 ≡ from = omega arith in
      record {
        step = 0;
        there =
            ap (λ b. unwrap_or (cond b (Some (f from)) (find p (map f (range_with_len (from + 1) count)))) 0) here
            ∙ ap f (sym same);
        before = λ j h. absurd (omega arith);
      }

  found_later : (from count : ℕ) → p (f from) ≡ false →
      Found p f (from + 1) (unwrap_or (find p (map f (range_with_len (from + 1) count))) 0) →
      Found p f from (unwrap_or (cond (p (f from)) (Some (f from)) (find p (map f (range_with_len (from + 1) count)))) 0)
  found_later from count fails later =
      let moved : (j : ℕ) → from + 1 + j ≡ from + suc j = λ j. omega arith in
      record {
        step = suc later.step;
        there =
            ap (λ b. unwrap_or (cond b (Some (f from)) (find p (map f (range_with_len (from + 1) count)))) 0) fails
            ∙ later.there ∙ ap f (moved later.step);
        before = λ j h. earlier later j h;
      }
    where
      earlier : (later : Found p f (from + 1) (unwrap_or (find p (map f (range_with_len (from + 1) count))) 0)) →
          (j : ℕ) → j < suc later.step → p (f (from + j)) ≡ false
      earlier later zero h =
          let same : from + 0 ≡ from = omega arith in
          rw same fails
      earlier later (suc j) h =
          let moved : from + 1 + j ≡ from + suc j = omega arith in
          ap (λ (n : ℕ). p (f n)) (sym moved) ∙ later.before j (omega arith)

  found_first : (from count last : ℕ) → last < count → p (f (from + last)) ≡ true →
      Found p f from (unwrap_or (find p (map f (range_with_len from count))) 0)
  found_first from zero last within passes = absurd (omega arith)
  found_first from (suc count) zero within passes =
      let same : from + 0 ≡ from = omega arith in
      found_here from count (ap (λ (n : ℕ). p (f n)) (sym same) ∙ passes)
  found_first from (suc count) (suc last) within passes =
      let moved : from + 1 + last ≡ from + suc last = omega arith in
      ⊎_elim
      (λ (here : p (f from) ≡ true). found_here from count here)
      (λ (fails : p (f from) ≡ false).
      found_later from count fails
      (found_first (from + 1) count last (omega arith) (ap (λ (n : ℕ). p (f n)) moved ∙ passes)))
      (cases_Bool (p (f from)))

-- The modes of the elements are an isotopologue.
mode_of_each-IsIsotopologue : (es : List Element) → All (λ e. IsWeights e.weights) es →
    IsIsotopologue es (mode_of_each es)
mode_of_each-IsIsotopologue [] ok = tt
mode_of_each-IsIsotopologue (e ∷ es) ok =
    let here : IsWeights e.weights = All-head (λ e. IsWeights e.weights) e es ok in
    let counts : IsCounts e.weights e.atoms (mode_of_atoms e.weights e.atoms) =
    record {
      places_agree = length-mode_of_atoms e.weights e.atoms;
      atoms_agree = sum-mode_of_atoms e.weights here.some e.atoms;
    } in
    (counts, mode_of_each-IsIsotopologue es (All-tail (λ e. IsWeights e.weights) e es ok))

pub threshold_at-falls : (es : List Element) (i j : ℕ) → i ≤ j → threshold_at es j ≤ threshold_at es i
threshold_at-falls es i j after =
    let hi : ℕ = mode_hi es in
    let powers : 2 ^ (i + 1) ≤ 2 ^ (j + 1) = pow-le-pow_right {n = 2} (omega arith) (omega arith) in
    let part : hi / 2 ^ (j + 1) * 2 ^ (j + 1) ≤ hi = div-mul-le_self hi (2 ^ (j + 1)) in
    le-div (hi / 2 ^ (j + 1)) hi (2 ^ (i + 1)) (one-le-pow (i + 1) 2 (omega arith))
    (omega (arith, mul-le-mul_left (hi / 2 ^ (j + 1)) powers))

module _ (es : List Element) (ok : AreElements es) where
  mode_hi-le : mode_hi es ≤ certainty
  mode_hi-le =
      (IsEnclosure-isotopologue es (mode_of_each es) ok.weights (mode_of_each-IsIsotopologue es ok.weights)).at_most_one

  pub threshold_at-last : threshold_at es 59 ≡ 0
  threshold_at-last = div-eq_of_lt (omega (arith, mode_hi-le))

  module _ (coverage : ℕ) (most : coverage ≤ max_coverage) where
    found : Found (ends_search es coverage) (threshold_at es) 0 (last_threshold_for es coverage)
    unfolding last_threshold_for
    found =
        found_first (ends_search es coverage) (threshold_at es) 0 60 59 (lit< tt)
        (ap (ends_search es coverage) threshold_at-last ∙ ends_search-zero es ok coverage most)

    -- The search ends at the mode's upper bound halved so many times.
    pub last_threshold_for-halved : (step : ℕ) × (last_threshold_for es coverage ≡ threshold_at es step)
    last_threshold_for-halved =
        let same : 0 + found.step ≡ found.step = omega arith in
        (found.step, found.there ∙ ap (threshold_at es) same)

    -- It ends at no greater one of these.
    pub last_threshold_for-first : (step : ℕ) → last_threshold_for es coverage < threshold_at es step →
        ends_search es coverage (threshold_at es step) ≡ false
    last_threshold_for-first step above =
        let same : 0 + found.step ≡ found.step = omega arith in
        let none : 0 + step ≡ step = omega arith in
        let is : last_threshold_for es coverage ≡ threshold_at es found.step = found.there ∙ ap (threshold_at es) same in
        ⊎_elim
        (λ (before : step < found.step). rw none at (found.before step before))
        (λ (after : found.step ≤ step).
        absurd (omega (arith, threshold_at-falls es found.step step after, is)))
        (cases_lt step found.step)
