-- All isotopologues together reach each coverage up to 0.999999 by their lower bounds, where they are not too many; so
-- the search for a cover always ends, and where it ends without too many members, the reaching layer reaches it.
use Rattle.std.proofs.Common.{◌≡◌, ℕ, ◌*◌, ◌≤◌, Bool, true, false, cond, ltb, Option, Some, List, [], ◌∷◌, length, refl, sym, ◌∙◌, ap, arith, All, ⊎_elim}
use Rattle.std.specs.Prelude.{◌||◌, sum_by, filter, find, unwrap_or}
use Rattle.std.proofs.Math.Nat.{le_of_mul-le-mul_right, mul-le-mul}
use Rattle.std.proofs.lemmas.Bool.{cases_Bool, false≢true, ltb-false, lt-ltb, leb-true, le-leb}
use Rattle.std.proofs.lemmas.List.Elements.{All-head, All-tail, All-weaker}
use Rattle.multinomial_bounds.specs.Bounds.{certainty}
use Rattle.multinomial_bounds.specs.Isotopologue.{Element, IsIsotopologue, all_weight}
use Rattle.multinomial_bounds.specs.Compositions.{isotopologues_of}
use Rattle.multinomial_bounds.proofs.IsotopologueList.{isotopologues_of-IsIsotopologue}
use Rattle.multinomial_bounds.proofs.SumOfWeights.{weights-sum}
use Rattle.isotopologue_sets.specs.Layers.{AreElements, hi_of, lo_total, layer, layer_reaches, thresholds}
use Rattle.isotopologue_sets.specs.Layers.{reaching_threshold, max_members, has_too_many, ends_search}
use Rattle.isotopologue_sets.specs.Layers.{last_threshold_for}
use Rattle.isotopologue_sets.specs.Coverage.{max_coverage}
use Rattle.isotopologue_sets.proofs.SetBounds.{all_weight-positive, width_of, hi_of-positive, weight-le-hi_total, hi_total-le}

-- a filter that all pass, and what is found or else given
filter_all : {X : Type 0} (p : X → Bool) (xs : List X) → All (λ x. p x ≡ true) xs → filter p xs ≡ xs
filter_all p [] all = refl
filter_all p (x ∷ xs) all =
    let here : p x ≡ true = All-head (λ x. p x ≡ true) x xs all in
    rw here (ap (λ ys. x ∷ ys) (filter_all p xs (All-tail (λ x. p x ≡ true) x xs all)))

found_passes : {X : Type 0} (p : X → Bool) (xs : List X) (d : X) → p d ≡ true → p (unwrap_or (find p xs) d) ≡ true
found_passes p [] d passes = passes
found_passes {X} p (x ∷ xs) d passes =
    let Goal : Bool → Type 0 = λ b. p x ≡ b → p (unwrap_or (cond b (Some x) (find p xs)) d) ≡ true in
    (elim (p x) as Goal [ true ↦ λ e. e | false ↦ λ e. found_passes p xs d passes ]) refl

or-true : (b : Bool) → (b || true) ≡ true
or-true true = refl
or-true false = refl

only_left : (a b : Bool) → b ≡ false → (a || b) ≡ true → a ≡ true
only_left true b none some = refl
only_left false b none some = absurd (false≢true (sym none ∙ some))

-- what is found by either test, and doesn't pass the second, is found by the first
found_same : {X : Type 0} (p q : X → Bool) (xs : List X) (d : X) →
    q (unwrap_or (find (λ x. p x || q x) xs) d) ≡ false →
    unwrap_or (find p xs) d ≡ unwrap_or (find (λ x. p x || q x) xs) d
found_same p q [] d fails = refl
found_same {X} p q (x ∷ xs) d fails =
    let rest : Option X = find (λ y. p y || q y) xs in
    let Goal : Bool → Bool → Type 0 = λ a b.
    q x ≡ b → q (unwrap_or (cond (a || b) (Some x) rest) d) ≡ false →
    unwrap_or (cond a (Some x) (find p xs)) d ≡ unwrap_or (cond (a || b) (Some x) rest) d in
    (elim (p x) as (λ a. Goal a (q x)) [
      | true ↦ λ e f. refl
      | false ↦ elim (q x) as (Goal false) [
        | true ↦ λ e f. absurd (false≢true (sym f ∙ e))
        | false ↦ λ e f. found_same p q xs d f
      ]
    ]) refl fails

module _ (es : List Element) (ok : AreElements es) where
  width_of-le : width_of es ≤ 40020
  width_of-le = omega (arith, ok.few, ok.few_atoms)

  hi_total-all : certainty ≤ sum_by (hi_of es) (isotopologues_of es)
  hi_total-all =
      let all : All (IsIsotopologue es) (isotopologues_of es) = isotopologues_of-IsIsotopologue es in
      let most : certainty * all_weight es ≤ sum_by (hi_of es) (isotopologues_of es) * all_weight es =
      rw (weights-sum es) at (weight-le-hi_total es ok (isotopologues_of es) all) in
      le_of_mul-le-mul_right most (all_weight-positive es ok.weights)

  -- the layer of threshold 0 is all isotopologues
  pub layer-zero : layer es 0 ≡ isotopologues_of es
  unfolding layer
  layer-zero =
      filter_all (λ i. ltb 0 (hi_of es i)) (isotopologues_of es)
      (All-weaker (IsIsotopologue es) (λ i. ltb 0 (hi_of es i) ≡ true)
      (λ i is. lt-ltb 0 (hi_of es i) (hi_of-positive es ok i is)) (isotopologues_of es)
      (isotopologues_of-IsIsotopologue es))

  length-isotopologues_of : has_too_many es 0 ≡ false → length (isotopologues_of es) ≤ max_members
  length-isotopologues_of few =
      rw layer-zero at (ltb-false max_members (length (layer es 0)) few)

  -- No coverage up to 0.999999 is out of reach.
  all-reach : has_too_many es 0 ≡ false → (coverage : ℕ) → coverage ≤ max_coverage →
      coverage ≤ lo_total es (isotopologues_of es)
  all-reach few coverage most =
      omega (
        arith,
        hi_total-all,
        hi_total-le es ok (isotopologues_of es) (isotopologues_of-IsIsotopologue es),
        mul-le-mul (length-isotopologues_of few) width_of-le,
      )

  pub layer_zero-reaches : has_too_many es 0 ≡ false → (coverage : ℕ) → coverage ≤ max_coverage →
      coverage ≤ lo_total es (layer es 0)
  layer_zero-reaches few coverage most = rw layer-zero (all-reach few coverage most)

  -- The search ends at threshold 0 at the latest.
  pub ends_search-zero : (coverage : ℕ) → coverage ≤ max_coverage → ends_search es coverage 0 ≡ true
  ends_search-zero coverage most =
      ⊎_elim
      (λ (many : has_too_many es 0 ≡ true).
      rw many (or-true (layer_reaches es coverage 0)))
      (λ (few : has_too_many es 0 ≡ false).
      ap (λ b. b || has_too_many es 0)
      (le-leb coverage (lo_total es (layer es 0)) (layer_zero-reaches few coverage most)))
      (cases_Bool (has_too_many es 0))

  module _ (coverage : ℕ) (most : coverage ≤ max_coverage) where
    pub last_threshold_for-ends : ends_search es coverage (last_threshold_for es coverage) ≡ true
    unfolding last_threshold_for
    last_threshold_for-ends = found_passes (ends_search es coverage) (thresholds es) 0 (ends_search-zero coverage most)

    -- Where the search ends with a layer that has not too many members, this is the reaching layer.
    module _ (few : has_too_many es (last_threshold_for es coverage) ≡ false) where
      pub reaching_threshold-last : reaching_threshold es coverage ≡ last_threshold_for es coverage
      unfolding reaching_threshold last_threshold_for
      reaching_threshold-last = found_same (layer_reaches es coverage) (has_too_many es) (thresholds es) 0 few

      pub reaching_threshold-reaches : coverage ≤ lo_total es (layer es (reaching_threshold es coverage))
      reaching_threshold-reaches =
          rw reaching_threshold-last
          (leb-true coverage (lo_total es (layer es (last_threshold_for es coverage)))
          (only_left (layer_reaches es coverage (last_threshold_for es coverage))
          (has_too_many es (last_threshold_for es coverage)) few last_threshold_for-ends))

      pub both-reaching : (reaching_threshold es coverage ≡ last_threshold_for es coverage)
          × (coverage ≤ lo_total es (layer es (reaching_threshold es coverage)))
      both-reaching = (reaching_threshold-last, reaching_threshold-reaches)
