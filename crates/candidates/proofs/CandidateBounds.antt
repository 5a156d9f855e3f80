-- The bound on the steps to the next candidate, in the words of the peak.
use Rattle.std.proofs.Common.{◌≡◌, ℕ, ◌+◌, ◌*◌, ◌≤◌, ◌<◌, Bool, true, ◌&&◌, List, [], ◌∷◌, length, filter, refl, sym, subst, inl, inr, arith}
use Rattle.std.specs.Prelude.{Option, None, slice_index}
use Rattle.std.proofs.lemmas.Bool.{and_parts, and_from, cases_Bool, cases_lt}
use Rattle.std.proofs.Math.Nat.{mul-le-mul_left, mul-le-mul_right}
use Rattle.mass_scaling.specs.declared.windows.Window.{Window}
use Rattle.mass_scaling.specs.Masses.{AreMasses, mass_of}
use Rattle.mass_scaling.specs.Scales.{scaled_of, IsGreatestRatio, IsLeastRatio}
use Rattle.mass_scaling.proofs.ScaledMasses.{in_grains, ratios}
use Rattle.decompose.specs.CountLists.{follows, is_up_to}
use Rattle.decompose.specs.Enumeration.{is_within}
use Rattle.decompose.specs.StepBounds.{HasNoScaledWindow, IsScaledWindowOf, lists_up_to, most_atoms, number_between}
use Rattle.decompose.proofs.WalkSteps.{window_same}
use Rattle.candidates.specs.declared.search.Search.{Search}
use Rattle.candidates.specs.Enumeration.{CandidateEnumeration}
use Rattle.candidates.specs.Grounds.{GroundValue}
use Rattle.candidates.specs.PeakFormulas.{masses_of}
use Rattle.candidates.specs.Searches.{IsBounded}
use Rattle.candidates.specs.Standings.{IsStanding}
use Rattle.candidates.specs.StepBounds.{HasNoPeakWindow, HasNoScaledPeakWindow, IsPeakWindow, IsScaledPeakWindow, most_candidate_steps}
use Rattle.candidates.proofs.AlphabetMasses.{are_masses}

-- ---- windows

-- a peak has one window
same-window : (premises : GroundValue) (mz : ℕ) (v w : Window) → IsPeakWindow premises mz v → IsPeakWindow premises mz w
    → v ≡ w
same-window premises mz v w p q =
    window_same v w
    (elim (cases_lt v.lo w.lo) [
      | inl lt ↦ absurd (q.of_peak.none_below v.lo p.is_window.above_zero lt p.of_peak.lo_within)
      | inr ge ↦ elim (cases_lt w.lo v.lo) [
        | inl lt ↦ absurd (p.of_peak.none_below w.lo q.is_window.above_zero lt q.of_peak.lo_within)
        | inr le ↦ omega (arith, ge, le)
      ]
    ])
    (elim (cases_lt v.hi w.hi) [
      | inl lt ↦ absurd (p.of_peak.none_above w.hi lt q.of_peak.hi_within)
      | inr ge ↦ elim (cases_lt w.hi v.hi) [
        | inl lt ↦ absurd (q.of_peak.none_above v.hi lt p.of_peak.hi_within)
        | inr le ↦ omega (arith, ge, le)
      ]
    ])

-- a peak that has a window isn't without one
one-window : (premises : GroundValue) (mz : ℕ) (window : Window) → IsPeakWindow premises mz window
    → HasNoPeakWindow premises mz → ⊥
one-window premises mz window of none = none window.lo of.is_window.above_zero of.of_peak.lo_within

-- the window that stands for none has no scaled window: one mass is less than a grain
none-scaled : (masses : List ℕ) → AreMasses masses → HasNoScaledWindow masses (record { lo = 1; hi = 1 })
none-scaled masses are number is = cases is.not_below is.not_above
  where
    cases : (below : (v : ℕ) × IsGreatestRatio masses (scaled_of masses) v
        × (1 * slice_index (scaled_of masses) v ≤ number * slice_index masses v))
        → ((u : ℕ) × IsLeastRatio masses (scaled_of masses) u
        × (number * slice_index masses u ≤ 1 * slice_index (scaled_of masses) u)) → ⊥
    cases (v, greatest, low) (u, least, high) =
        let ratio = ratios masses are in
        let v_within : v < length masses = omega (arith, greatest.within, ratio.same_length) in
        let above : 1 ≤ slice_index (scaled_of masses) v = ratio.ys_above_zero v v_within in
        let mass : 1 ≤ slice_index masses u = ratio.above_zero u least.within in
        let grains : slice_index (scaled_of masses) u * 10000000 ≤ slice_index masses u =
        in_grains masses are u least.within in
        elim (cases_lt number 1) [
          | inl none ↦
              let times : number * slice_index masses v ≤ 0 * slice_index masses v =
              mul-le-mul_right (slice_index masses v) (omega (arith, none)) in
              absurd (omega (arith, times, low, above))
          | inr some ↦
              let times : 1 * slice_index masses u ≤ number * slice_index masses u =
              mul-le-mul_right (slice_index masses u) some in
              absurd (omega (arith, times, high, mass, grains))
        ]

-- ---- lists

filter-less : (p q : List ℕ → Bool) (xs : List (List ℕ)) → ((x : List ℕ) → p x ≡ true → q x ≡ true)
    → length (filter p xs) ≤ length (filter q xs)
filter-less p q [] h = omega arith
filter-less p q (x ∷ xs) h =
    elim (cases_Bool (p x)) [
      | inl t ↦ rw (t, h x t) (omega (arith, filter-less p q xs h))
      | inr f ↦ elim (cases_Bool (q x)) [
        | inl t ↦ rw (f, t) (omega (arith, filter-less p q xs h))
        | inr g ↦ rw (f, g) (filter-less p q xs h)
      ]
    ]

-- fewer lists come after a later one and up to an earlier one
number-less : (masses : List ℕ) (scaled : Window) (early late first last : Option (List ℕ))
    → ((counts : List ℕ) → follows late counts ≡ true → follows early counts ≡ true)
    → ((counts : List ℕ) → is_up_to first counts ≡ true → is_up_to last counts ≡ true)
    → number_between masses scaled late first ≤ number_between masses scaled early last
number-less masses scaled early late first last later sooner =
    filter-less
    (λ cs. is_within scaled (mass_of (scaled_of masses) cs) && (follows late cs && is_up_to first cs))
    (λ cs. is_within scaled (mass_of (scaled_of masses) cs) && (follows early cs && is_up_to last cs))
    (lists_up_to (length masses) (most_atoms masses scaled))
    (λ cs h.
    let parts = and_parts (is_within scaled (mass_of (scaled_of masses) cs)) (follows late cs && is_up_to first cs) h in
    let ends = and_parts (follows late cs) (is_up_to first cs) parts.1 in
    and_from (is_within scaled (mass_of (scaled_of masses) cs)) (follows early cs && is_up_to last cs) parts.0
    (and_from (follows early cs) (is_up_to last cs) (later cs ends.0) (sooner cs ends.1)))

-- the bound up to a list holds up to the end
pub bounded-end : (old : Search) (upto : Option (List ℕ)) (before after : ℕ) → IsBounded old upto before after
    → IsBounded old None before after
bounded-end old upto before after bounded =
    record {
      most = λ scaled is.
          let masses = old.decomps.masses in
          let k = length masses * (most_atoms masses scaled + 1) in
          let few : number_between masses scaled old.decomps.given upto
          ≤ number_between masses scaled old.decomps.given None =
          number-less masses scaled old.decomps.given old.decomps.given upto None (λ _ h. h) (λ _ _. refl) in
          let less : k * (2 * number_between masses scaled old.decomps.given upto + 1)
          ≤ k * (2 * number_between masses scaled old.decomps.given None + 1) =
          mul-le-mul_left k (omega (arith, few)) in
          omega (arith, less, bounded.most scaled is);
      none = bounded.none;
    }

-- ---- the bound

module _ (premises : GroundValue) (mz : ℕ) (old : Search) (given upto : Option (List ℕ)) (before after : ℕ)
    (is : IsStanding premises mz old given) (found : Option (List ℕ)) (is_found : upto ≡ found)
    (is_bounded : IsBounded old found before after) (now : CandidateEnumeration) (is_now : now ≡ record { premises = premises; mz = mz; given = given }) where
  bounded : IsBounded old upto before after
  bounded = subst (λ o. IsBounded old o before after) (sym is_found) is_bounded

  bound-window : (scaled : Window) → IsScaledWindowOf (masses_of premises.alphabet) old.decomps.window scaled
      → after ≤ before + most_candidate_steps (masses_of premises.alphabet) scaled given upto
  bound-window scaled of =
      let masses = masses_of premises.alphabet in
      let k = length masses * (most_atoms masses scaled + 1) in
      let few : number_between masses scaled old.decomps.given upto ≤ number_between masses scaled given upto =
      number-less masses scaled given old.decomps.given upto upto is.later (λ _ h. h) in
      let less : k * (2 * number_between masses scaled old.decomps.given upto + 1)
      ≤ k * (2 * number_between masses scaled given upto + 1) =
      mul-le-mul_left k (omega (arith, few)) in
      let most : after ≤ before + most_candidate_steps masses scaled old.decomps.given upto =
      subst (λ m. after ≤ before + most_candidate_steps m scaled old.decomps.given upto) is.is_search.masses
      (bounded.most scaled (subst (λ m. IsScaledWindowOf m old.decomps.window scaled) (sym is.is_search.masses) of)) in
      omega (arith, less, most)

  bound-peak : (scaled : Window) → IsScaledPeakWindow (record { premises = premises; mz = mz; given = given }) scaled
      → after ≤ before + most_candidate_steps (masses_of premises.alphabet) scaled given upto
  bound-peak scaled of = elim is.searched [
    | inl peak ↦ bound-window scaled
        (subst (λ w. IsScaledWindowOf (masses_of premises.alphabet) w scaled)
        (same-window premises mz of.window old.decomps.window of.of_peak peak) of.of_window)
    | inr none ↦ absurd (one-window premises mz of.window of.of_peak none.0)
  ]

  pub candidate-steps : (scaled : Window) → IsScaledPeakWindow now scaled
      → after ≤ before + most_candidate_steps (masses_of now.premises.alphabet) scaled now.given upto
  candidate-steps =
      subst (λ (e : CandidateEnumeration). (scaled : Window) → IsScaledPeakWindow e scaled
      → after ≤ before + most_candidate_steps (masses_of e.premises.alphabet) scaled e.given upto) (sym is_now) bound-peak

  none-window : HasNoScaledWindow (masses_of premises.alphabet) old.decomps.window → after ≡ before
  none-window none =
      bounded.none (subst (λ m. HasNoScaledWindow m old.decomps.window) (sym is.is_search.masses) none)

  none-peak : HasNoScaledPeakWindow (record { premises = premises; mz = mz; given = given }) → after ≡ before
  none-peak (inl none) = elim is.searched [
    | inl peak ↦ absurd (one-window premises mz old.decomps.window peak none)
    | inr other ↦ none-window (subst (HasNoScaledWindow (masses_of premises.alphabet)) (sym other.1)
        (none-scaled (masses_of premises.alphabet) (are_masses premises.alphabet is.is_ground.is_alphabet)))
  ]
  none-peak (inr (window, of, none)) = elim is.searched [
    | inl peak ↦ none-window (subst (HasNoScaledWindow (masses_of premises.alphabet))
        (same-window premises mz window old.decomps.window of peak) none)
    | inr other ↦ absurd (one-window premises mz window of other.0)
  ]

  pub candidate-no_steps : HasNoScaledPeakWindow now → after ≡ before
  candidate-no_steps =
      subst (λ (e : CandidateEnumeration). HasNoScaledPeakWindow e → after ≡ before) (sym is_now) none-peak
