-- Members none of which is misplaced stand in the cover's order, each before all later ones, so none stands twice.
use Rattle.std.proofs.Common.{◌≡◌, ◌≢◌, ℕ, zero, suc, ◌+◌, ◌-◌, ◌<◌, Bool, true, false, not, List, [], length, get_or, None, refl, sym, ◌∙◌, arith}
use Rattle.std.specs.Prelude.{AllPairs, filter}
use Rattle.std.specs.List.{range_with_len}
use Rattle.std.proofs.lemmas.Bool.{false≢true, both_ways}
use Rattle.std.proofs.lemmas.List.{length-map, get_or-map}
use Rattle.std.proofs.lemmas.List.FromFn.{length-range_with_len, get_or-range_with_len}
use Rattle.std.proofs.lemmas.List.Kept.{AllPairs-filter}
use Rattle.multinomial_bounds.specs.Isotopologue.{Element}
use Rattle.isotopologue_sets.specs.Covers.{stands_before}
use Rattle.isotopologue_sets.proofs.CoverOrder.{stands_before-IsStrictOrder}
use Rattle.cover_claims.specs.Claims.{ClaimedMember, isotopologues_in, marked_in, member_at, first_misplaced}
use Rattle.cover_claims.proofs.FindLemmas.{find-none}

-- what stands before another stands before what that stands before
pub before-chain : (es : List Element) (a b c : List (List ℕ)) → stands_before es a b ≡ true →
    stands_before es b c ≡ true → stands_before es a c ≡ true
before-chain es a b c first second = cases (stands_before es a c) refl
  where
    cases : (r : Bool) → stands_before es a c ≡ r → stands_before es a c ≡ true
    cases true is = is
    cases false is =
        let order = (stands_before-IsStrictOrder es).weak in
        absurd (both_ways (stands_before es a b) (order.chain a c b is (order.one_way b c second)) first)

pub before-apart : (es : List Element) (a b : List (List ℕ)) → stands_before es a b ≡ true → a ≢ b
before-apart es a b before same =
    let itself : stands_before es b b ≡ true = rw same at before in
    both_ways (stands_before es b b) ((stands_before-IsStrictOrder es).weak.one_way b b itself) itself

pub not-false : (b : Bool) → not b ≡ false → b ≡ true
not-false true e = refl
not-false false e = absurd (false≢true (sym e))

module _ (es : List Element) (members : List (List (List ℕ))) (none : first_misplaced es members ≡ None) where
  next_after : (k : ℕ) → suc k < length members →
      stands_before es (member_at members k) (member_at members (suc k)) ≡ true
  unfolding first_misplaced
  next_after k within =
      let places : List ℕ = range_with_len 1 (length members - 1) in
      let inside : k < length (range_with_len 1 (length members - 1)) = rw length-range_with_len (omega arith) in
      let is : get_or places k 0 ≡ suc k = get_or-range_with_len 1 (length members - 1) k 0 (omega arith) ∙ omega arith in
      let back : suc k - 1 ≡ k = omega arith in
      let fails : not (stands_before es (member_at members (suc k - 1)) (member_at members (suc k))) ≡ false =
      rw is at
      (find-none (λ place. not (stands_before es (member_at members (place - 1)) (member_at members place))) places none
      k 0 inside) in
      not-false (stands_before es (member_at members k) (member_at members (suc k))) (rw back at fails)

  far_after : (d k : ℕ) → k + suc d < length members →
      stands_before es (member_at members k) (member_at members (k + suc d)) ≡ true
  far_after zero k within =
      let e : k + 1 ≡ suc k = omega arith in
      rw e (next_after k (omega arith))
  far_after (suc d) k within =
      let e : k + suc (suc d) ≡ suc (k + suc d) = omega arith in
      rw e
      (before-chain es (member_at members k) (member_at members (k + suc d)) (member_at members (suc (k + suc d)))
      (far_after d k (omega arith)) (next_after (k + suc d) (omega arith)))

  -- Each member stands before all later ones.
  pub in_order : (i j : ℕ) → i < j → j < length members →
      stands_before es (member_at members i) (member_at members j) ≡ true
  in_order i j before within =
      let e : i + suc (j - suc i) ≡ j = omega arith in
      rw e at (far_after (j - suc i) i (omega arith))

-- the members of a claim, and the marked ones, are distinct
module _ (es : List Element) (members : List ClaimedMember)
    (none : first_misplaced es (isotopologues_in members) ≡ None) where
  members-apart : AllPairs (λ a b. a.counts ≢ b.counts) members
  members-apart i j d before within =
      let far : j < length (isotopologues_in members) = rw (length-map members (λ m. m.counts)) within in
      let first : member_at (isotopologues_in members) i ≡ (get_or members i d).counts =
      get_or-map (λ m. m.counts) members i d [] (omega arith) in
      let second : member_at (isotopologues_in members) j ≡ (get_or members j d).counts =
      get_or-map (λ m. m.counts) members j d [] within in
      let apart : member_at (isotopologues_in members) i ≢ member_at (isotopologues_in members) j =
      before-apart es (member_at (isotopologues_in members) i) (member_at (isotopologues_in members) j)
      (in_order es (isotopologues_in members) none i j before far) in
      λ same. apart (first ∙ same ∙ sym second)

  -- The marked members are distinct.
  pub marked-distinct : AllPairs (λ a b. a ≢ b) (marked_in members)
  marked-distinct i j d before within =
      let kept : List ClaimedMember = filter (λ m. m.marked) members in
      let e : ClaimedMember = record { marked = false; counts = d } in
      let near : j < length (filter (λ m. m.marked) members) =
      rw (length-map (filter (λ m. m.marked) members) (λ m. m.counts)) at within in
      let first : get_or (marked_in members) i d ≡ (get_or kept i e).counts =
      get_or-map (λ m. m.counts) kept i e d (omega arith) in
      let second : get_or (marked_in members) j d ≡ (get_or kept j e).counts =
      get_or-map (λ m. m.counts) kept j e d near in
      λ same.
      AllPairs-filter (λ a b. a.counts ≢ b.counts) (λ m. m.marked) members members-apart i j e before near
      (sym first ∙ same ∙ second)
