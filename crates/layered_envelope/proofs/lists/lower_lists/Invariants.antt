use Rattle.std.proofs.Common.{◌≡◌, ℕ, ◌<◌, ◌≤◌, length, get_or, All}
use Rattle.sub_isotopologues.specs.Listings.{Listing}
use Rattle.layered_envelope.specs.LayerLists.{kinds_of}
use Rattle.layered_envelope.proofs.lists.lower_lists.Given as goal

abbrev pub invariant-loop-place : goal.invariant-loop-place
invariant-loop-place l = record {
  kinds : kinds_of l.lists ≡ kinds_of l.initial.lists;
  at_least : All (λ x. l.threshold ≤ x.threshold) l.lists;
  at_most : (k : ℕ) (d : Listing) → k < length l.initial.lists →
      (get_or l.lists k d).threshold ≤ (get_or l.initial.lists k d).threshold;
  lower : (k : ℕ) (d : Listing) → k < l.place → (get_or l.lists k d).threshold ≤ l.threshold;
}
