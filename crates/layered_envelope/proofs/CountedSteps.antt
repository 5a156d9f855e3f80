-- The first choice of a walk, and the product of all its items.
use Rattle.std.proofs.Common.{◌≡◌, ℕ, ◌<◌, List, ◌∷◌, map, length, replicate, fold, sym, ◌∙◌, ap, arith}
use Rattle.std.proofs.lemmas.List.{length-map}
use Rattle.multinomial_bounds.specs.Bounds.{certainty}
use Rattle.sub_isotopologues.specs.Listings.{Listing, items_of}
use Rattle.layered_envelope.specs.declared.walk.Choice.{Choice}
use Rattle.layered_envelope.specs.ChosenPlaces.{AllFall, firsts}
use Rattle.layered_envelope.specs.Walks.{lower, upper, los_of, his_of, reached, places_of, IsWalk, left_after}
use Rattle.layered_envelope.specs.CountedWalks.{lo_at, hi_at, places_above}
use Rattle.layered_envelope.proofs.RoundedProducts.{upper-rises}
use Rattle.layered_envelope.proofs.NextChoice.{first_above}
use Rattle.layered_envelope.proofs.WalkSteps.{reached_all}

-- the product of all items of a walk
module _ (lists : List Listing) (choices : List Choice) (walk : IsWalk lists choices) (n : ℕ)
    (all : n ≡ length choices) where
  pub lo_whole : reached lower (los_of lists) (places_of choices) n ≡ lo_at lists (places_of choices)
  unfolding lo_at
  lo_whole =
      reached_all lower (los_of lists) (places_of choices) n
      (omega (arith, length-map lists (λ (l : Listing). map (λ i. i.lo) (items_of l)), walk.as_many))
      (omega (arith, length-map choices (λ (c : Choice). c.place)))

  pub hi_whole : reached upper (his_of lists) (places_of choices) n ≡ hi_at lists (places_of choices)
  unfolding hi_at
  hi_whole =
      reached_all upper (his_of lists) (places_of choices) n
      (omega (arith, length-map lists (λ (l : Listing). map (λ i. i.hi) (items_of l)), walk.as_many))
      (omega (arith, length-map choices (λ (c : Choice). c.place)))

-- the first choice of all
pub first_place : (t : ℕ) (lists : List Listing) (places modes : List ℕ) → AllFall (his_of lists) →
    modes ≡ firsts (his_of lists) → t < fold upper certainty modes → places ≡ replicate (length lists) 0 →
    places_above t lists ≡ places ∷ left_after t lists places
unfolding places_above
first_place t lists places modes fall modes_are over is =
    let n : length (his_of lists) ≡ length lists = length-map lists (λ (l : Listing). map (λ i. i.hi) (items_of l)) in
    let zeros : replicate (length (his_of lists)) 0 ≡ places = ap (λ (k : ℕ). replicate {A = ℕ} k 0) n ∙ sym is in
    first_above upper upper-rises t (his_of lists) certainty fall (rw (← modes_are) over)
    ∙ ap (λ ps. ps ∷ left_after t lists ps) zeros
