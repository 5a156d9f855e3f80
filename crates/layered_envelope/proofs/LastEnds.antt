-- What layers keep of the layer given last is what its walk counts, over the lists as they are lowered for the next one.
use Rattle.std.proofs.Common.{◌≡◌, ℕ, ◌+◌, ◌-◌, ◌/◌, ◌^◌, ◌<◌, ◌≤◌, List, [], length, fold, Ok, refl, sym, ◌∙◌, ap, subst, arith, ⊎_elim, All}
use Rattle.std.specs.Prelude.{sum_by}
use Rattle.std.proofs.Math.Nat.{div-one, le_trans}
use Rattle.std.proofs.lemmas.Bool.{cases_lt}
use Rattle.std.proofs.lemmas.List.Elements.{All-weaker}
use Rattle.multinomial_bounds.specs.Bounds.{certainty}
use Rattle.multinomial_bounds.specs.Isotopologue.{Element}
use Rattle.isotopologue_sets.specs.Layers.{threshold_at}
use Rattle.sub_isotopologues.specs.Listings.{Listing}
use Rattle.layered_envelope.specs.declared.layer_end.LayerEnd.{LayerEnd}
use Rattle.layered_envelope.specs.Walks.{upper, his_of}
use Rattle.layered_envelope.specs.CountedWalks.{lo_at, hi_at, places_above, Fits, IsCounted}
use Rattle.layered_envelope.specs.Layerings.{end_within_limit}
use Rattle.layered_envelope.specs.LayerLists.{elements_of, kinds_of, AreLists, AreLayers, IsLast}
use Rattle.layered_envelope.proofs.RoundedProducts.{upper-rises}
use Rattle.layered_envelope.proofs.NextChoice.{none_above}
use Rattle.layered_envelope.proofs.ListedLayers.{walk-falls, walk-modes}
use Rattle.layered_envelope.proofs.LoweredLists.{AreLists-kinds, kinds-elements, counted-layer}
use Rattle.layered_envelope.proofs.CountedLayers.{is_counted}
use Rattle.layered_envelope.proofs.Thresholds.{halving_falls, number_is, last_is, later-below, last-below}

-- nothing is above the product of all modes
none_above_modes : (lists : List Listing) (modes : List ℕ) → AreLists lists modes → (t s : ℕ) →
    All (λ l. l.threshold ≤ t) lists → t < fold upper certainty modes → fold upper certainty modes ≤ s →
    places_above s lists ≡ []
unfolding places_above
none_above_modes lists modes are t s low over most =
    none_above upper upper-rises s (his_of lists) certainty (walk-falls lists modes are t low over)
    (subst (λ ms. fold upper certainty ms ≤ s) (walk-modes lists modes are t low over) most)

none_counted : (lists : List Listing) (last : LayerEnd) → places_above last.threshold lists ≡ [] →
    last ≡ record { threshold = last.threshold; members = 0; lo_total = 0; hi_total = 0 } → IsCounted lists last
none_counted lists last none is = record {
  members = ap (λ e. e.members) is ∙ sym (ap length none);
  lo = ap (λ e. e.lo_total) is ∙ sym (ap (sum_by (lo_at lists)) none);
  hi = ap (λ e. e.hi_total) is ∙ sym (ap (sum_by (hi_at lists)) none);
}

-- before the first layer
pub last-started : (elements : List Element) (hi : ℕ) (last : LayerEnd) →
    last ≡ record { threshold = hi; members = 0; lo_total = 0; hi_total = 0 } → IsLast elements hi 0 last
last-started elements hi last is =
    rw is
    (record {
      fits = record { members = omega arith; lo = omega arith; hi = omega arith };
      threshold_is = sym (div-one hi);
      none = λ first. refl;
      some = λ later. absurd (omega arith);
    })

module _ (lists : List Listing) (modes : List ℕ) (hi given : ℕ) (layers : AreLayers lists modes hi given)
    (last : LayerEnd) (is : IsLast (elements_of lists) hi given last) where
  module _ (new : List Listing) (kinds : kinds_of new ≡ kinds_of lists) where
    pub last-same : IsLast (elements_of new) hi given last
    last-same = subst (λ es. IsLast es hi given last) (sym (kinds-elements new lists kinds)) is

  -- a layer that comes later
  module _ (number : ℕ) (later : given < number) where
    pub last-above : hi / 2 ^ number ≤ last.threshold
    last-above = omega (arith, is.threshold_is, halving_falls hi given number (omega arith))

    module _ (new : List Listing) (kinds : kinds_of new ≡ kinds_of lists) where
      pub last-counted : All (λ l. l.threshold ≤ hi / 2 ^ number) new → IsCounted new last
      last-counted low =
          let are : AreLists new modes = AreLists-kinds new lists kinds modes layers.lists_are in
          ⊎_elim
          (λ (some : 0 < given).
          let lower : All (λ l. l.threshold ≤ hi / 2 ^ given) new =
          All-weaker (λ l. l.threshold ≤ hi / 2 ^ number) (λ l. l.threshold ≤ hi / 2 ^ given)
          (λ l le. le_trans le (halving_falls hi given number (omega arith))) new low in
          let counted = counted-layer new modes are (hi / 2 ^ given) lower
          (last-below lists modes hi given layers some) in
          is_counted new (hi / 2 ^ given) last is.threshold_is
          (is.some some
          ∙ ap (end_within_limit (elements_of lists)) (sym (last_is lists modes hi given layers some))
          ∙ ap (λ es. end_within_limit es (hi / 2 ^ given)) (sym (kinds-elements new lists kinds))
          ∙ sym counted))
          (λ (first : given ≤ 0).
          let zero_is : given ≡ 0 = omega arith in
          let whole : last.threshold ≡ hi = is.threshold_is ∙ ap (λ (k : ℕ). hi / 2 ^ k) zero_is ∙ div-one hi in
          none_counted new last
          (none_above_modes new modes are (hi / 2 ^ number) last.threshold low
          (later-below lists modes hi given layers number later) (omega (arith, whole, layers.mode_is)))
          (is.none zero_is))
          (cases_lt 0 given)

      -- after it was given
      pub last-given : (end : LayerEnd) → Fits end → end.threshold ≡ hi / 2 ^ number →
          end_within_limit (elements_of lists) (hi / 2 ^ number) ≡ Ok end →
          IsLast (elements_of new) hi number end
      last-given end fits threshold gives = record {
        fits = fits;
        threshold_is = threshold;
        none = λ first. absurd (omega arith);
        some = λ some.
            sym gives
            ∙ ap (end_within_limit (elements_of lists)) (number_is lists modes hi given layers number some)
            ∙ ap (λ es. end_within_limit es (threshold_at es (number - 1))) (sym (kinds-elements new lists kinds));
      }
