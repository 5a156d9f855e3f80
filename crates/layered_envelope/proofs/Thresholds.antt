-- The thresholds of layers: each is below the upper bound of the modes, and the next one is at most it.
use Rattle.std.proofs.Common.{◌≡◌, ◌≢◌, ℕ, suc, ◌+◌, ◌-◌, ◌*◌, ◌/◌, ◌^◌, ◌<◌, ◌≤◌, List, [], ◌∷◌, length, get_or, fold, refl, sym, ◌∙◌, ap, arith, ⊎_elim, All}
use Rattle.std.proofs.Math.Nat.{div-eq_of_lt, div-lt_self, div-mul-le_self, pow-le-pow_right, mul-le-mul_left, one-le-pow, le_trans, pow-suc}
use Rattle.std.proofs.lemmas.Nat.{le-div}
use Rattle.std.proofs.lemmas.Bool.{cases_lt}
use Rattle.std.proofs.lemmas.List.Elements.{All-head, All-tail, All-weaker}
use Rattle.multinomial_bounds.specs.Bounds.{certainty, ceiling_of, product_of}
use Rattle.multinomial_bounds.specs.Weight.{IsWeights}
use Rattle.multinomial_bounds.specs.Mode.{mode_bound}
use Rattle.multinomial_bounds.specs.Isotopologue.{Element, bounds_of}
use Rattle.multinomial_bounds.proofs.EnclosureLemmas.{bound_of-mode}
use Rattle.isotopologue_sets.specs.Layers.{mode_of_each, mode_hi, threshold_at}
use Rattle.sub_isotopologues.specs.Listings.{Listing}
use Rattle.layered_envelope.specs.Walks.{upper}
use Rattle.layered_envelope.specs.LayerLists.{elements_of, modes_of, kinds_of, AreLists, AreLayers}
use Rattle.layered_envelope.proofs.RoundedProducts.{fold-upper-some, fold-upper-most}
use Rattle.layered_envelope.proofs.StartedLists.{modes-some, modes-most}
use Rattle.layered_envelope.proofs.LoweredLists.{kinds-length, kinds-elements, AreLists-kinds}

pub halving_falls : (n k later : ℕ) → k ≤ later → n / 2 ^ later ≤ n / 2 ^ k
halving_falls n k later after =
    let powers : 2 ^ k ≤ 2 ^ later = pow-le-pow_right {n = 2} (omega arith) after in
    let part : n / 2 ^ later * 2 ^ later ≤ n = div-mul-le_self n (2 ^ later) in
    le-div (n / 2 ^ later) n (2 ^ k) (one-le-pow k 2 (omega arith))
    (omega (arith, mul-le-mul_left (n / 2 ^ later) powers))

bounds_of-modes : (es : List Element) → All (λ e. IsWeights e.weights) es →
    bounds_of ceiling_of es (mode_of_each es) ≡ modes_of es
unfolding bounds_of
bounds_of-modes [] ok = refl
bounds_of-modes (e ∷ es) ok =
    let here : IsWeights e.weights = All-head (λ x. IsWeights x.weights) e es ok in
    ap (λ (b : ℕ). b ∷ bounds_of ceiling_of es (mode_of_each es)) (bound_of-mode ceiling_of e.weights here.some e.atoms)
    ∙ ap (λ bs. mode_bound ceiling_of e.weights e.atoms ∷ bs)
    (bounds_of-modes es (All-tail (λ x. IsWeights x.weights) e es ok))

pub mode_hi-modes : (es : List Element) → All (λ e. IsWeights e.weights) es →
    mode_hi es ≡ fold upper certainty (modes_of es)
unfolding product_of upper
mode_hi-modes es ok =
    ap (fold (λ product bound. ceiling_of (product * bound) certainty) certainty) (bounds_of-modes es ok)

module _ (es : List Element) (ok : All (λ e. IsWeights e.weights) es) where
  pub mode_hi-some : 1 ≤ mode_hi es
  mode_hi-some =
      rw (mode_hi-modes es ok) (fold-upper-some (modes_of es) certainty (omega arith) (modes-some es ok))

  pub mode_hi-most : mode_hi es ≤ certainty
  mode_hi-most =
      rw (mode_hi-modes es ok) (fold-upper-most (modes_of es) certainty (omega arith) (modes-most es ok))

  pub threshold_at-below : (step : ℕ) → threshold_at es step < mode_hi es
  threshold_at-below step =
      let e : step + 1 ≡ suc step = omega arith in
      let some : 1 ≤ 2 ^ step = one-le-pow step 2 (omega arith) in
      let two : 1 < 2 ^ (step + 1) = rw (e, pow-suc) (omega arith) in
      div-lt_self mode_hi-some two

  pub threshold_at-falls : (step later : ℕ) → step ≤ later → threshold_at es later ≤ threshold_at es step
  threshold_at-falls step later after = halving_falls (mode_hi es) (step + 1) (later + 1) (omega arith)

  pub threshold_at-last : threshold_at es 59 ≡ 0
  threshold_at-last = div-eq_of_lt (omega (arith, mode_hi-most))

  -- a layer but the last is one of the first 60
  pub few-unless_last : (given : ℕ) → given ≤ 60 → (0 < given → threshold_at es (given - 1) ≢ 0) → given + 1 ≤ 60
  few-unless_last given few more =
      ⊎_elim
      (λ (h : given < 60). omega arith)
      (λ (h : 60 ≤ given).
      let last : 59 ≡ given - 1 = omega arith in
      absurd (more (omega arith) (ap (threshold_at es) (sym last) ∙ threshold_at-last)))
      (cases_lt given 60)

-- what layers keep, and their thresholds
module _ (lists : List Listing) (modes : List ℕ) (hi given : ℕ) (layers : AreLayers lists modes hi given) where
  weights : All (λ e. IsWeights e.weights) (elements_of lists)
  weights = layers.lists_are.elements.weights

  pub hi_is : hi ≡ mode_hi (elements_of lists)
  hi_is =
      layers.mode_is ∙ ap (fold upper certainty) layers.lists_are.modes_are
      ∙ sym (mode_hi-modes (elements_of lists) weights)

  pub number_is : (number : ℕ) → 0 < number → hi / 2 ^ number ≡ threshold_at (elements_of lists) (number - 1)
  number_is number some =
      ap (λ (n : ℕ). n / 2 ^ number) hi_is
      ∙ ap (λ (k : ℕ). mode_hi (elements_of lists) / 2 ^ k) (let e : number ≡ number - 1 + 1 = omega arith in e)

  pub last_is : 0 < given → hi / 2 ^ given ≡ threshold_at (elements_of lists) (given - 1)
  last_is some = number_is given some

  pub next_is : hi / 2 ^ (given + 1) ≡ threshold_at (elements_of lists) given
  next_is =
      number_is (given + 1) (omega arith)
      ∙ ap (threshold_at (elements_of lists)) (let e : given + 1 - 1 ≡ given = omega arith in e)

  -- after the lists were lowered at most to the next threshold, and no layer was given
  pub layers-lowered : (new : List Listing) → kinds_of new ≡ kinds_of lists →
      All (λ l. hi / 2 ^ (given + 1) ≤ l.threshold) new →
      ((k : ℕ) (d : Listing) → k < length lists → (get_or new k d).threshold ≤ (get_or lists k d).threshold) →
      AreLayers new modes hi given
  layers-lowered new kinds at_least at_most = record {
    lists_are = AreLists-kinds new lists kinds modes layers.lists_are;
    mode_is = layers.mode_is;
    few = layers.few;
    at_most = rw (kinds-elements new lists kinds, ← next_is) at_least;
    at_least = λ some.
        rw (kinds-elements new lists kinds)
        (λ k d within.
        le_trans (at_most k d (omega (arith, kinds-length new lists kinds)))
        (layers.at_least some k d (omega (arith, kinds-length new lists kinds))));
  }

  -- a layer that comes later
  module _ (number : ℕ) (later : given < number) where
    pub later-lower : All (λ l. hi / 2 ^ number ≤ l.threshold) lists
    later-lower =
        rw (number_is number (omega arith))
        (All-weaker (λ l. threshold_at (elements_of lists) given ≤ l.threshold)
        (λ l. threshold_at (elements_of lists) (number - 1) ≤ l.threshold)
        (λ l le. le_trans (threshold_at-falls (elements_of lists) weights given (number - 1) (omega arith)) le) lists
        layers.at_most)

    pub later-below : hi / 2 ^ number < fold upper certainty modes
    later-below =
        rw (number_is number (omega arith), ← layers.mode_is, hi_is)
        (threshold_at-below (elements_of lists) weights (number - 1))

    -- after it was given
    pub layers-given : (new : List Listing) → kinds_of new ≡ kinds_of lists →
        All (λ l. hi / 2 ^ number ≤ l.threshold) new → All (λ l. l.threshold ≤ hi / 2 ^ number) new → number ≤ 60 →
        AreLayers new modes hi number
    layers-given new kinds at_least reached few = record {
      lists_are = AreLists-kinds new lists kinds modes layers.lists_are;
      mode_is = layers.mode_is;
      few = few;
      at_most =
          rw (kinds-elements new lists kinds)
          (All-weaker (λ l. hi / 2 ^ number ≤ l.threshold)
          (λ l. threshold_at (elements_of lists) number ≤ l.threshold)
          (λ l le.
          le_trans (threshold_at-falls (elements_of lists) weights (number - 1) number (omega arith))
          (rw (number_is number (omega arith)) at le)) new at_least);
      at_least = λ some.
          rw (kinds-elements new lists kinds, ← number_is number some) reached;
    }

-- before the first layer
pub layers-started : (lists : List Listing) (modes : List ℕ) (hi : ℕ) → AreLists lists modes →
    hi ≡ fold upper certainty modes →
    All (λ l. l.threshold ≡ certainty) lists → AreLayers lists modes hi 0
layers-started lists modes hi are is whole =
    let es : List Element = elements_of lists in
    let first : threshold_at es 0 ≤ certainty =
    omega (arith, threshold_at-below es are.elements.weights 0, mode_hi-most es are.elements.weights) in
    record {
      lists_are = are;
      mode_is = is;
      few = omega arith;
      at_most = λ k d within. rw (whole k d within) first;
      at_least = λ some. absurd (omega arith);
    }

-- the threshold of the layer given last
module _ (lists : List Listing) (modes : List ℕ) (hi given : ℕ) (layers : AreLayers lists modes hi given)
    (some : 0 < given) where
  pub last-low : All (λ l. l.threshold ≤ hi / 2 ^ given) lists
  last-low = rw (last_is lists modes hi given layers some) (layers.at_least some)

  pub last-below : hi / 2 ^ given < fold upper certainty modes
  last-below =
      rw (last_is lists modes hi given layers some, ← layers.mode_is, hi_is lists modes hi given layers)
      (threshold_at-below (elements_of lists) layers.lists_are.elements.weights (given - 1))
