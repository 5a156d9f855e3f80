-- Scores with their places stand in a strict order, and the entries of a ranking in the order of theirs.
use Rattle.std.proofs.Common.{◌≡◌, ℕ, Bool, true, false, cond, List, [], ◌∷◌, ◌+◌, map, get_or, ltb, refl, sym, ◌∙◌, ap, arith}
use Rattle.std.specs.Prelude.{◌&&◌, ◌||◌, ◌==◌}
use Rattle.std.specs.List.{enumerate_from}
use Rattle.std.specs.List.Sorted.{IsPermutation, IsSortedBy}
use Rattle.std.specs.Cmp.{IsStrictWeakOrder}
use Rattle.std.specs.Ordering.{is_lt, nat_cmp, ordering_then}
use Rattle.std.specs.declared.cmp.Ordering.TheVariants.{Less, Equal, Greater}
use Rattle.std.proofs.lemmas.Cmp.{nat_cmp_total, on_total, then_total}
use Rattle.std.proofs.lemmas.List.Sorted.{ranks_by}
use Rattle.sorted_lists.specs.SortedLists.{IsStrictOrder}
use Rattle.sorted_lists.proofs.SortedListLaws.{sorted_by-only, map-sorted_by}
use Rattle.ranking.specs.Places.{RankedEntry, stands_before, key_of, keys_of, ranking, places_of}

-- the order of pairs of numbers that std has
abbrev pair_before : ℕ × ℕ → ℕ × ℕ → Bool
pair_before a b = is_lt (ordering_then (nat_cmp a.0 b.0) (nat_cmp a.1 b.1))

by_cases : (less same less' same' : Bool) →
    (less || (same && less'))
    ≡ is_lt (ordering_then (cond less Less (cond same Equal Greater)) (cond less' Less (cond same' Equal Greater)))
by_cases true same less' same' = refl
by_cases false true true same' = refl
by_cases false true false true = refl
by_cases false true false false = refl
by_cases false false less' same' = refl

before_is : (a b : ℕ × ℕ) → stands_before a b ≡ pair_before a b
before_is a b = by_cases (ltb a.0 b.0) (a.0 == b.0) (ltb a.1 b.1) (a.1 == b.1)

pairs_weak : IsStrictWeakOrder pair_before
pairs_weak =
    ranks_by (then_total (on_total (λ (p : ℕ × ℕ). p.0) nat_cmp_total) (on_total (λ (p : ℕ × ℕ). p.1) nat_cmp_total))
    (λ (p : ℕ × ℕ). p)

same_numbers : (a b c d : ℕ) → (ltb a b || ((a == b) && ltb c d)) ≡ false →
    (ltb b a || ((b == a) && ltb d c)) ≡ false → (a ≡ b) × (c ≡ d)
same_numbers a b c d first second = grind arith

pub stands_before-IsStrictOrder : IsStrictOrder stands_before
stands_before-IsStrictOrder = record {
  weak = record {
    one_way = λ a b before. before_is b a ∙ pairs_weak.one_way a b (sym (before_is a b) ∙ before);
    chain = λ a b c first second.
        before_is a c ∙ pairs_weak.chain a b c (sym (before_is a b) ∙ first) (sym (before_is b c) ∙ second);
  };
  one = λ a b first second.
      let same = same_numbers a.0 b.0 a.1 b.1 first second in
      ap (λ (n : ℕ). (n, a.1)) same.0 ∙ ap (λ (n : ℕ). (b.0, n)) same.1;
}

-- the sorted keys of entries are those of the ranking
pub keys-ranking : (found : List RankedEntry) (keys : List (ℕ × ℕ)) → IsPermutation (keys_of found) keys →
    IsSortedBy pair_before keys → keys ≡ map key_of (ranking found)
unfolding ranking
keys-ranking found keys moved sorted =
    sorted_by-only stands_before-IsStrictOrder (keys_of found) keys moved
    (λ k d z h. before_is (get_or keys (k + 1) d) (get_or keys k d) ∙ sorted k d z h)
    ∙ sym (map-sorted_by key_of stands_before (enumerate_from 0 found))

-- so their second numbers are its places
pub keys-places : (found : List RankedEntry) (keys : List (ℕ × ℕ)) → IsPermutation (keys_of found) keys →
    IsSortedBy pair_before keys → map (λ (key : ℕ × ℕ). key.1) keys ≡ places_of found
unfolding places_of
keys-places found keys moved sorted =
    ap (map (λ (key : ℕ × ℕ). key.1)) (keys-ranking found keys moved sorted)
    ∙ second_of (ranking found)
  where
    second_of : (placed : List (ℕ × RankedEntry)) →
        map (λ (key : ℕ × ℕ). key.1) (map key_of placed) ≡ map (λ (p : ℕ × RankedEntry). p.0) placed
    second_of [] = refl
    second_of (p ∷ placed) = ap (λ ns. p.0 ∷ ns) (second_of placed)
