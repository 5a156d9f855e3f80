-- The least number of bounds that total a coverage, and the greatest ones first.
use Rattle.std.proofs.Common.{◌≡◌, ℕ, ◌+◌, ◌-◌, ◌<◌, ◌≤◌, Bool, false, List, length, get_or, sym, ◌∙◌, ap, arith, ltb, leb, zero-add, ⊎_elim}
use Rattle.std.specs.List.{range_with_len}
use Rattle.std.specs.List.Sorted.{IsPermutation, IsSortedBy, IsSortedWithin}
use Rattle.std.specs.Ordering.{is_lt, nat_cmp}
use Rattle.std.proofs.lemmas.Bool.{cases_lt, le-leb, lt-leb, le-ltb}
use Rattle.std.proofs.lemmas.Bool.Decides.{nat_tests}
use Rattle.std.proofs.lemmas.List.{get_or_default}
use Rattle.std.proofs.lemmas.List.FromFn.{length-range_with_len, get_or-range_with_len}
use Rattle.std.proofs.lemmas.List.Sums.{position_or_len_is}
use Rattle.sorted_lists.specs.SortedLists.{sorted_by}
use Rattle.sorted_lists.proofs.SortedListLaws.{sorted_by-only}
use Rattle.isotopologue_sets.specs.Covers.{fewest}
use Rattle.isotopologue_sets.proofs.FallingOrder.{falling-IsStrictOrder}

pub fewest_is : (total : ℕ → ℕ) (coverage all n : ℕ) → n ≤ all → ((k : ℕ) → k < n → total k < coverage) →
    (n < all → coverage ≤ total n) → n ≡ fewest total coverage all
fewest_is total coverage all n within short enough =
    let p : ℕ → Bool = λ k. leb coverage (total k) in
    let ks : List ℕ = range_with_len 0 all in
    let long : length ks ≡ all = length-range_with_len 0 all in
    sym (position_or_len_is p ks n 0 (omega arith)
    (λ k h. let at : get_or ks k 0 ≡ 0 + k = get_or-range_with_len 0 all k 0 (omega arith) in
    ap p (at ∙ zero-add k) ∙ lt-leb coverage (total k) (short k h))
    (λ h. let at : get_or ks n 0 ≡ 0 + n = get_or-range_with_len 0 all n 0 (omega arith) in
    ap p (at ∙ zero-add n) ∙ le-leb coverage (total n) (enough (omega arith))))

less_is : (a b : ℕ) → is_lt (nat_cmp b a) ≡ ltb b a
less_is a b = grind (arith, nat_tests)

pub falling-sorted_by : (bounds order : List ℕ) → IsPermutation bounds order → IsSortedBy (λ a b. is_lt (nat_cmp b a)) order →
    order ≡ sorted_by (λ a b. ltb b a) bounds
falling-sorted_by bounds order moved sorted =
    sorted_by-only falling-IsStrictOrder bounds order moved (λ k d low h. sym (less_is _ _) ∙ sorted k d low h)

-- one bound more that is at most the one before it
pub falls_more : (bounds : List ℕ) (p : ℕ) → 0 < p → p < length bounds →
    IsSortedWithin (λ a b. is_lt (nat_cmp b a)) bounds 0 p → get_or bounds p 0 ≤ get_or bounds (p - 1) 0 →
    IsSortedWithin (λ a b. is_lt (nat_cmp b a)) bounds 0 (p + 1)
falls_more bounds p some within so_far le k d low h =
    ⊎_elim {C = is_lt (nat_cmp (get_or bounds k d) (get_or bounds (k + 1) d)) ≡ false}
    (λ (below : k + 1 < p). so_far k d low below)
    (λ (from : p ≤ k + 1).
    let here : p ≡ k + 1 = omega arith in
    let back : k + 1 - 1 ≡ k = omega arith in
    let first : get_or bounds k d ≡ get_or bounds k 0 = get_or_default bounds k d 0 (omega arith) in
    let second : get_or bounds (k + 1) d ≡ get_or bounds (k + 1) 0 = get_or_default bounds (k + 1) d 0 (omega arith) in
    let falls : get_or bounds (k + 1) 0 ≤ get_or bounds k 0 = rw (here, back) at le in
    rw (first, second)
    (less_is (get_or bounds (k + 1) 0) (get_or bounds k 0) ∙ le-ltb (get_or bounds k 0) (get_or bounds (k + 1) 0) falls))
    (cases_lt (k + 1) p)
