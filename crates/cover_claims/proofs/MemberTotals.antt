-- What the members so far have together.
use Rattle.std.proofs.Common.{◌≡◌, ℕ, ◌+◌, ◌<◌, ◌≤◌, true, false, ltb, List, [], ◌∷◌, ◌++◌, map, length, take, get_or, sym, ◌∙◌, ap, arith, append-nil}
use Rattle.std.specs.Prelude.{filter}
use Rattle.std.specs.List.Sorted.{IsPermutation, IsSortedBy}
use Rattle.std.specs.Ordering.{is_lt, nat_cmp}
use Rattle.std.proofs.lemmas.Bool.{lt-ltb, le-ltb}
use Rattle.std.proofs.lemmas.Bool.Decides.{nat_tests}
use Rattle.std.proofs.lemmas.List.{map-append, get_or-map, take_all}
use Rattle.std.proofs.lemmas.List.Elements.{filter_more}
use Rattle.std.proofs.lemmas.List.Sums.{sum_by-append}
use Rattle.sorted_lists.specs.SortedLists.{sorted_by}
use Rattle.sorted_lists.proofs.SortedListLaws.{sorted_by-only}
use Rattle.isotopologue_sets.proofs.FallingOrder.{falling-IsStrictOrder}
use Rattle.multinomial_bounds.specs.Isotopologue.{Element}
use Rattle.isotopologue_sets.specs.Layers.{lo_of, hi_of, lo_total}
use Rattle.cover_claims.specs.Claims.{ClaimedMember, isotopologues_in, marked_in, member_at}

module _ (members : List ClaimedMember) (k : ℕ) (within : k < length members) (d : ClaimedMember) where
  member-is : (get_or members k d).counts ≡ member_at (isotopologues_in members) k
  member-is = sym (get_or-map (λ m. m.counts) members k d [] within)

  pub marked-yes : (get_or members k d).marked ≡ true →
      marked_in (take (k + 1) members) ≡ marked_in (take k members) ++ member_at (isotopologues_in members) k ∷ []
  marked-yes marked =
      rw (filter_more (λ m. m.marked) members k d within, marked)
      (map-append (λ m. m.counts) (filter (λ m. m.marked) (take k members)) (get_or members k d ∷ [])
      ∙ ap (λ (i : List (List ℕ)). marked_in (take k members) ++ i ∷ []) member-is)

  pub marked-no : (get_or members k d).marked ≡ false → marked_in (take (k + 1) members) ≡ marked_in (take k members)
  marked-no unmarked =
      rw (filter_more (λ m. m.marked) members k d within, unmarked)
      (ap (map (λ m. m.counts)) (append-nil (filter (λ m. m.marked) (take k members))))

pub marked-all : (members : List ClaimedMember) (k : ℕ) → length members ≤ k → marked_in (take k members) ≡ marked_in members
marked-all members k past = ap marked_in (take_all k members past)

pub lo_total-push : (es : List Element) (set : List (List (List ℕ))) (i : List (List ℕ)) →
    lo_total es (set ++ i ∷ []) ≡ lo_total es set + lo_of es i
lo_total-push es set i = sum_by-append (lo_of es) set (i ∷ []) ∙ omega arith

-- the upper bounds above a threshold
module _ (es : List Element) (t : ℕ) (members : List (List (List ℕ))) (k : ℕ) (within : k < length members) where
  abbrev above : List (List (List ℕ)) → List ℕ
  above ms = map (hi_of es) (filter (λ m. ltb t (hi_of es m)) ms)

  pub above-yes : t < hi_of es (member_at members k) → above (take (k + 1) members) ≡ above (take k members) ++ hi_of es (member_at members k) ∷ []
  above-yes over =
      let passes : ltb t (hi_of es (member_at members k)) ≡ true = lt-ltb t (hi_of es (member_at members k)) over in
      rw (filter_more (λ m. ltb t (hi_of es m)) members k [] within, passes)
      (map-append (hi_of es) (filter (λ m. ltb t (hi_of es m)) (take k members)) (member_at members k ∷ []))

  pub above-no : hi_of es (member_at members k) ≤ t → above (take (k + 1) members) ≡ above (take k members)
  above-no low =
      let fails : ltb t (hi_of es (member_at members k)) ≡ false = le-ltb t (hi_of es (member_at members k)) low in
      rw (filter_more (λ m. ltb t (hi_of es m)) members k [] within, fails)
      (ap (map (hi_of es)) (append-nil (filter (λ m. ltb t (hi_of es m)) (take k members))))

less_is : (a b : ℕ) → is_lt (nat_cmp a b) ≡ ltb a b
less_is a b = grind (arith, nat_tests)

-- the greatest first
pub falling-is : (bounds order : List ℕ) → IsPermutation bounds order → IsSortedBy (λ a b. is_lt (nat_cmp b a)) order →
    order ≡ sorted_by (λ a b. ltb b a) bounds
falling-is bounds order same sorted =
    sorted_by-only falling-IsStrictOrder bounds order same (λ k d low h. sym (less_is _ _) ∙ sorted k d low h)
