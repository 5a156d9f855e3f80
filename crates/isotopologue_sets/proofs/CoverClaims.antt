-- A cover keeps its claims: its first members reach the coverage, no smaller set than its bound does, and its first
-- members up to the bound reach the coverage but for the widths of as many enclosures.
use Rattle.std.proofs.Common.{◌≡◌, ℕ, ◌+◌, ◌*◌, ◌<◌, ◌≤◌, false, ltb, List, map, length, take, get_or, sum, refl, sym, ◌∙◌, ap, arith, All, ⊎_elim, inl, inr}
use Rattle.std.specs.Prelude.{◌≢◌, ◌⊎◌, AllPairs, Contains, sum_by}
use Rattle.std.specs.List.Sorted.{IsPermutation}
use Rattle.std.proofs.Math.Nat.{mul-le-mul_right, le_of_mul-le-mul_right}
use Rattle.std.proofs.lemmas.Bool.{cases_lt}
use Rattle.std.proofs.lemmas.List.{length-map, length-take-le, get_or-take, take-map, take_all}
use Rattle.std.proofs.lemmas.List.Elements.{All-take, All-weaker, All-contains_itself}
use Rattle.std.proofs.lemmas.List.Sums.{sum-map}
use Rattle.std.proofs.lemmas.List.Sorted.{All-permutation, Contains-permutation, length_permutation, sum_by-IsPermutation}
use Rattle.sorted_lists.proofs.SortedListLaws.{IsPermutation-sorted_by, AllPairs-sorted_by}
use Rattle.sorted_lists.specs.SortedLists.{sorted_by}
use Rattle.multinomial_bounds.specs.Isotopologue.{Element, IsIsotopologue, all_weight}
use Rattle.isotopologue_sets.specs.Layers.{AreElements, lo_of, hi_of, lo_total, layer, reaching_threshold, has_too_many, last_threshold_for}
use Rattle.isotopologue_sets.specs.Coverage.{max_coverage, IsSet, Reaches, Bound, ReachesButFor}
use Rattle.isotopologue_sets.specs.Covers.{ordered_layer, size_for, bound_for, cover_numbers, IsCover}
use Rattle.isotopologue_sets.proofs.GreatestSums.{Falls, sum_by-le-first}
use Rattle.isotopologue_sets.proofs.FallingOrder.{greatest_first, map-greatest_first, greatest_first-falls}
use Rattle.isotopologue_sets.proofs.FewestLaws.{fewest-within, fewest-below, fewest-at_most, fewest-reaches}
use Rattle.isotopologue_sets.proofs.CoverOrder.{ordered_layer-IsTheOrder}
use Rattle.isotopologue_sets.proofs.LayerLaws.{ordered_layer-IsIsotopologue, ordered_layer-above}
use Rattle.isotopologue_sets.proofs.LayerLaws.{ordered_layer-distinct, ordered_layer-cases, ordered_layer-falls}
use Rattle.isotopologue_sets.proofs.LayerLaws.{lo_total-ordered_layer}
use Rattle.isotopologue_sets.proofs.SetBounds.{width_of, all_weight-positive, lo_total-le-weight, weight-le-hi_total, lo_total-le-hi_total, hi_total-le}
use Rattle.isotopologue_sets.proofs.CoverMembers.{counts_are, bounds_are, first_counts-map}
use Rattle.isotopologue_sets.proofs.AllReach.{reaching_threshold-reaches}

-- the first members of a list of distinct ones
distinct_first : {X : Type 0} (n : ℕ) (xs : List X) → n ≤ length xs → AllPairs (λ a b. a ≢ b) xs →
    AllPairs (λ a b. a ≢ b) (take n xs)
distinct_first n xs few apart i j d before within =
    let inside : j < n = rw (length-take-le n xs few) at within in
    rw (get_or-take n xs i d (omega arith), get_or-take n xs j d inside) (apart i j d before (omega arith))

-- a layer in the cover's order that has the coverage by its lower bounds
module _ (es : List Element) (ok : AreElements es) (coverage threshold : ℕ)
    (reaches : coverage ≤ lo_total es (layer es threshold)) where
  -- the members of the layer in the cover's order, and the greatest upper bounds first
  abbrev members : List (List (List ℕ))
  members = ordered_layer es threshold

  by_hi : List (List (List ℕ))
  by_hi = greatest_first (hi_of es) members

  by_hi-IsPermutation : IsPermutation members by_hi
  unfolding by_hi
  by_hi-IsPermutation = IsPermutation-sorted_by (λ a b. ltb (hi_of es b) (hi_of es a)) members

  length-by_hi : length by_hi ≡ length members
  length-by_hi = length_permutation members by_hi by_hi-IsPermutation

  by_hi-falls : Falls (hi_of es) by_hi
  unfolding by_hi
  by_hi-falls = greatest_first-falls (hi_of es) members

  -- the greatest upper bounds are those of its first members
  hi_sum : ℕ → ℕ
  hi_sum n = sum (take n (sorted_by (λ a b. ltb b a) (map (hi_of es) members)))

  hi_sum-is : (n : ℕ) → hi_sum n ≡ sum_by (hi_of es) (take n by_hi)
  unfolding by_hi hi_sum
  hi_sum-is n =
      ap (λ xs. sum (take n xs)) (sym (map-greatest_first (hi_of es) members))
      ∙ ap sum (take-map (hi_of es) n (greatest_first (hi_of es) members))
      ∙ sum-map (hi_of es) (take n (greatest_first (hi_of es) members))

  by_hi-above : All (λ i. threshold < hi_of es i) by_hi
  by_hi-above =
      All-permutation (λ i. threshold < hi_of es i) members by_hi by_hi-IsPermutation (ordered_layer-above es threshold)

  -- an isotopologue is a member, or its upper bound is at most that of each member
  by_hi-cases : (i : List (List ℕ)) → IsIsotopologue es i → Contains by_hi i ⊎ All (λ j. hi_of es i ≤ hi_of es j) by_hi
  by_hi-cases i is =
      ⊎_elim
      (λ (member : Contains members i).
      inl (Contains-permutation members by_hi i by_hi-IsPermutation member))
      (λ (low : hi_of es i ≤ threshold).
      inr (λ k d within. let high : threshold < hi_of es (get_or by_hi k d) = by_hi-above k d within in omega arith))
      (ordered_layer-cases es threshold i is)

  -- no set has greater upper bounds together than as many of the greatest
  hi_total-le-hi_sum : (set : List (List (List ℕ))) → IsSet es set → length set ≤ length members →
      sum_by (hi_of es) set ≤ hi_sum (length set)
  hi_total-le-hi_sum set is few =
      rw (hi_sum-is (length set))
      (sum_by-le-first (hi_of es) by_hi set by_hi-falls is.distinct (rw length-by_hi few)
      (All-weaker (IsIsotopologue es) (λ i. Contains by_hi i ⊎ All (λ j. hi_of es i ≤ hi_of es j) by_hi) by_hi-cases
      set is.isotopologues))

  -- the first members in the cover's order
  first-IsSet : (n : ℕ) → n ≤ length members → IsSet es (take n members)
  first-IsSet n few = record {
    isotopologues = All-take (IsIsotopologue es) n members (ordered_layer-IsIsotopologue es threshold);
    distinct = distinct_first n members few (ordered_layer-distinct es threshold);
  }

  by_hi-distinct : AllPairs (λ i j. i ≢ j) by_hi
  unfolding by_hi
  by_hi-distinct =
      AllPairs-sorted_by (λ i j. i ≢ j) (λ i j apart same. apart (sym same)) (λ a b. ltb (hi_of es b) (hi_of es a))
      members (ordered_layer-distinct es threshold)

  by_hi-members : All (Contains members) by_hi
  by_hi-members =
      All-permutation (Contains members) members by_hi by_hi-IsPermutation (All-contains_itself members)

  -- no distinct members have greater lower bounds together than as many of the first
  lo_total-le-first : (set : List (List (List ℕ))) → length set ≤ length members →
      AllPairs (λ i j. i ≢ j) set → All (Contains members) set →
      lo_total es set ≤ lo_total es (take (length set) members)
  lo_total-le-first set few apart each =
      sum_by-le-first (lo_of es) members set (ordered_layer-falls es threshold) apart few
      (All-weaker (Contains members) (λ i. Contains members i ⊎ All (λ j. lo_of es i ≤ lo_of es j) members)
      (λ i member. inl member) set each)

  all-enough : coverage ≤ lo_total es members
  all-enough = rw (lo_total-ordered_layer es threshold) reaches

  -- the size
  size : ℕ
  size = size_for es coverage members

  size-within : size ≤ length members
  unfolding size size_for
  size-within = fewest-within (λ n. lo_total es (take n members)) coverage (length members)

  size-below : (n : ℕ) → n < size → lo_total es (take n members) < coverage
  unfolding size size_for
  size-below = fewest-below (λ n. lo_total es (take n members)) coverage (length members)

  size-enough : coverage ≤ lo_total es (take size members)
  unfolding size size_for
  size-enough =
      let whole : take (length members) members ≡ members =
      take_all (length members) members (omega arith) in
      fewest-reaches (λ n. lo_total es (take n members)) coverage (length members) (rw whole all-enough)

  -- the bound
  bound : ℕ
  bound = bound_for es coverage members

  bound-within : bound ≤ length members
  unfolding bound bound_for hi_sum
  bound-within = fewest-within hi_sum coverage (length members)

  bound-below : (n : ℕ) → n < bound → hi_sum n < coverage
  unfolding bound bound_for hi_sum
  bound-below = fewest-below hi_sum coverage (length members)

  bound-at_most : (n : ℕ) → coverage ≤ hi_sum n → bound ≤ n
  unfolding bound bound_for hi_sum
  bound-at_most = fewest-at_most hi_sum coverage (length members)

  hi_sum-all : coverage ≤ hi_sum (length members)
  hi_sum-all =
      let whole : take (length members) by_hi ≡ by_hi =
      take_all (length members) by_hi (rw length-by_hi (omega arith)) in
      rw (hi_sum-is (length members), whole)
      (omega (
        arith,
        all-enough,
        sum_by-IsPermutation (hi_of es) members by_hi by_hi-IsPermutation,
        lo_total-le-hi_total es ok members (ordered_layer-IsIsotopologue es threshold),
      ))

  bound-enough : coverage ≤ hi_sum bound
  unfolding bound bound_for hi_sum
  bound-enough = fewest-reaches hi_sum coverage (length members) hi_sum-all

  -- The first `size` members reach the coverage.
  size-Reaches : Reaches es (take size members) coverage
  size-Reaches = record {
    set_is = first-IsSet size size-within;
    enough =
        omega (
          arith,
          mul-le-mul_right (all_weight es) size-enough,
          lo_total-le-weight es ok (take size members) (first-IsSet size size-within).isotopologues,
        );
  }

  -- No set with fewer members than the bound reaches it.
  bound-Bound : Bound es bound coverage
  bound-Bound set few reached =
      let all : sum_by (hi_of es) set ≤ hi_sum (length set) =
      hi_total-le-hi_sum set reached.set_is (omega (arith, bound-within)) in
      let low : hi_sum (length set) < coverage = bound-below (length set) few in
      let parts : coverage * all_weight es ≤ sum_by (hi_of es) set * all_weight es =
      omega (arith, reached.enough, weight-le-hi_total es ok set reached.set_is.isotopologues) in
      let high : coverage ≤ sum_by (hi_of es) set = le_of_mul-le-mul_right parts (all_weight-positive es ok.weights) in
      omega arith

  bound-le-size : bound ≤ size
  bound-le-size =
      let first : List (List (List ℕ)) = take size members in
      let is : IsSet es first = first-IsSet size size-within in
      let long : length first ≡ size = length-take-le size members size-within in
      let most : sum_by (hi_of es) first ≤ hi_sum size =
      rw long at (hi_total-le-hi_sum first is (omega (arith, size-within))) in
      bound-at_most size (omega (arith, size-enough, lo_total-le-hi_total es ok first is.isotopologues))

  hi_sum-zero : hi_sum 0 ≡ 0
  unfolding hi_sum
  hi_sum-zero = refl

  bound-positive : 1 ≤ coverage → 1 ≤ bound
  bound-positive some =
      ⊎_elim
      (λ (none : bound < 1).
      let zero_is : bound ≡ 0 = omega arith in
      let enough : coverage ≤ hi_sum 0 = rw zero_is at bound-enough in
      absurd (omega (arith, hi_sum-zero)))
      (λ (h : 1 ≤ bound). h)
      (cases_lt bound 1)

  -- The first members up to the bound reach the coverage but for a width each.
  bound-ReachesButFor : ReachesButFor es (take bound members) coverage (bound * width_of es)
  bound-ReachesButFor =
      let few : bound ≤ length by_hi = rw length-by_hi bound-within in
      let greatest : List (List (List ℕ)) = take bound by_hi in
      let long : length greatest ≡ bound = length-take-le bound by_hi few in
      let are : All (IsIsotopologue es) by_hi =
      All-permutation (IsIsotopologue es) members by_hi by_hi-IsPermutation
      (ordered_layer-IsIsotopologue es threshold) in
      let high : coverage ≤ sum_by (hi_of es) greatest = rw hi_sum-is at bound-enough in
      let near_all : sum_by (hi_of es) greatest ≤ lo_total es greatest + length greatest * width_of es =
      hi_total-le es ok greatest (All-take (IsIsotopologue es) bound by_hi are) in
      let widths : length greatest * width_of es ≡ bound * width_of es = ap (λ (n : ℕ). n * width_of es) long in
      let first : lo_total es greatest ≤ lo_total es (take (length greatest) members) =
      lo_total-le-first greatest (omega (arith, bound-within))
      (distinct_first bound by_hi few by_hi-distinct) (All-take (Contains members) bound by_hi by_hi-members) in
      let same : lo_total es (take (length greatest) members) ≡ lo_total es (take bound members) =
      ap (λ (n : ℕ). lo_total es (take n members)) long in
      let enough : coverage ≤ lo_total es (take bound members) + bound * width_of es = omega arith in
      let is : IsSet es (take bound members) = first-IsSet bound bound-within in
      record {
        set_is = is;
        enough =
            omega (
              arith,
              mul-le-mul_right (all_weight es) enough,
              lo_total-le-weight es ok (take bound members) is.isotopologues,
            );
      }

-- What a cover claims of the isotopologues of its elements.
pub cover-claims : (es : List Element) → AreElements es → (coverage : ℕ) → 1 ≤ coverage → coverage ≤ max_coverage →
    has_too_many es (last_threshold_for es coverage) ≡ false →
    let cover = cover_numbers es coverage in
    IsCover es coverage cover.size cover.bound cover.members
unfolding cover_numbers size bound
cover-claims es ok coverage some most few =
    let t : ℕ = reaching_threshold es coverage in
    let reaches : coverage ≤ lo_total es (layer es t) = reaching_threshold-reaches es ok coverage most few in
    let members : List (List (List ℕ)) = ordered_layer es t in
    record {
      bounds_are = bounds_are es members;
      in_order = rw (counts_are es members) (ordered_layer-IsTheOrder es t).sorted;
      within = rw length-map (size-within es ok coverage t reaches);
      reached =
          rw (first_counts-map es (size_for es coverage members) members) (size-Reaches es ok coverage t reaches);
      no_shorter = λ n below.
          rw (first_counts-map es n members) (size-below es ok coverage t reaches n below);
      least = bound-Bound es ok coverage t reaches;
      bound_from = bound-positive es ok coverage t reaches some;
      bound_to = bound-le-size es ok coverage t reaches;
      gap =
          rw (first_counts-map es (bound_for es coverage members) members)
          (bound-ReachesButFor es ok coverage t reaches);
    }
