-- The parts of a cover's numbers, from the members of its layer.
use Rattle.std.proofs.Common.{◌≡◌, ◌≤◌, ℕ, List, length, map, sum, take, refl, ◌∙◌, ap, arith}
use Rattle.std.specs.List.Sorted.{IsPermutation}
use Rattle.std.proofs.lemmas.List.Sorted.{length_permutation}
use Rattle.sorted_lists.proofs.SortedListLaws.{IsPermutation-sorted_by}
use Rattle.isotopologue_sets.proofs.FewestLaws.{fewest-within}
use Rattle.std.proofs.Math.Path.{fun_ext}
use Rattle.std.proofs.lemmas.List.{length-map, take-map}
use Rattle.std.proofs.lemmas.List.Sums.{sum-map}
use Rattle.isotopologue_list.proofs.FlatLemmas.{map_map}
use Rattle.multinomial_bounds.specs.Isotopologue.{Element}
use Rattle.sorted_lists.specs.SortedLists.{sorted_by}
use Rattle.std.specs.Prelude.{nat_lt}
use Rattle.isotopologue_sets.specs.Layers.{lo_of, hi_of, lo_total, reaching_threshold}
use Rattle.isotopologue_sets.specs.Covers.{Member, member_of, fewest, ordered_layer, size_for, bound_for, CoverNumbers, cover_numbers}

module _ (es : List Element) (coverage : ℕ) (members : List (List (List ℕ))) where
  size_is : (bounds : List ℕ) → bounds ≡ map (λ m. m.lo) (map (member_of es) members) →
      fewest (λ n. sum (take n bounds)) coverage (length bounds) ≡ size_for es coverage members
  unfolding size_for
  size_is bounds is =
      let lows : bounds ≡ map (lo_of es) members = is ∙ map_map (λ (m : Member). m.lo) (member_of es) members in
      let same : (λ (n : ℕ). sum (take n (map (lo_of es) members))) ≡ (λ n. lo_total es (take n members)) =
      fun_ext (λ n. ap sum (take-map (lo_of es) n members) ∙ sum-map (lo_of es) (take n members)) in
      ap (λ (bs : List ℕ). fewest (λ n. sum (take n bs)) coverage (length bs)) lows
      ∙ ap (fewest (λ n. sum (take n (map (lo_of es) members))) coverage) (length-map members (lo_of es))
      ∙ ap (λ (total : ℕ → ℕ). fewest total coverage (length members)) same

  bound_is : (bounds : List ℕ) → bounds ≡ sorted_by (λ a b. nat_lt b a) (map (λ m. m.hi) (map (member_of es) members)) →
      length bounds ≡ length members →
      fewest (λ n. sum (take n bounds)) coverage (length bounds) ≡ bound_for es coverage members
  unfolding bound_for
  bound_is bounds is long =
      let highs : bounds ≡ sorted_by (λ a b. nat_lt b a) (map (hi_of es) members) =
      is ∙ ap (sorted_by (λ (a b : ℕ). nat_lt b a)) (map_map (λ (m : Member). m.hi) (member_of es) members) in
      ap (fewest (λ n. sum (take n bounds)) coverage) long
      ∙ ap (λ (bs : List ℕ). fewest (λ n. sum (take n bs)) coverage (length members)) highs

module _ (es : List Element) (coverage threshold size bound : ℕ) (members : List Member) (lows highs : List ℕ)
    (first : threshold ≡ reaching_threshold es coverage)
    (all : members ≡ map (member_of es) (ordered_layer es threshold))
    (lows_are : lows ≡ map (λ m. m.lo) members)
    (highs_are : highs ≡ sorted_by (λ a b. nat_lt b a) (map (λ m. m.hi) members))
    (size_of : size ≡ fewest (λ n. sum (take n lows)) coverage (length lows))
    (bound_of : bound ≡ fewest (λ n. sum (take n highs)) coverage (length highs)) where
  pub cover_numbers_are : (let layer : CoverNumbers = record { threshold = threshold; size = size; bound = bound; members = members } in layer) ≡ cover_numbers es coverage
  unfolding cover_numbers
  cover_numbers_are =
      let ordered : List (List (List ℕ)) = ordered_layer es threshold in
      let final : List (List (List ℕ)) = ordered_layer es (reaching_threshold es coverage) in
      let same : ordered ≡ final = ap (ordered_layer es) first in
      let sorted : IsPermutation (map (λ (m : Member). m.hi) members) (sorted_by (λ a b. nat_lt b a) (map (λ m. m.hi) members)) =
      IsPermutation-sorted_by (λ a b. nat_lt b a) (map (λ (m : Member). m.hi) members) in
      let many : length highs ≡ length ordered =
      ap length highs_are ∙ length_permutation _ _ sorted ∙ length-map members (λ (m : Member). m.hi)
      ∙ ap length all ∙ length-map ordered (member_of es) in
      let size_final : size ≡ size_for es coverage final =
      size_of ∙ size_is es coverage ordered lows (lows_are ∙ ap (map (λ (m : Member). m.lo)) all) ∙ ap (size_for es coverage) same in
      let bound_final : bound ≡ bound_for es coverage final =
      bound_of
      ∙ bound_is es coverage ordered highs
      (highs_are ∙ ap (λ (ms : List Member). sorted_by (λ a b. nat_lt b a) (map (λ m. m.hi) ms)) all) many
      ∙ ap (bound_for es coverage) same in
      let members_final : members ≡ map (member_of es) final = all ∙ ap (map (member_of es)) same in
      rw (size_final, bound_final, members_final, first) refl

  pub size-within : size ≤ length members
  size-within =
      let long : length lows ≡ length members = ap length lows_are ∙ length-map members (λ (m : Member). m.lo) in
      rw size_of (omega (arith, fewest-within (λ n. sum (take n lows)) coverage (length lows), long))
