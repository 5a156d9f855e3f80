-- A move of one atom has a move back, and keeps an isotopologue one of its formula.
use Rattle.std.proofs.Common.{◌≡◌, ◌≢◌, ℕ, zero, suc, ◌<◌, ◌≤◌, Bool, true, false, cond, not, eqb, ltb, List, [], ◌∷◌}
use Rattle.std.proofs.Common.{map, length, get_or, sym, ◌∙◌, ap, arith, All}
use Rattle.std.specs.Prelude.{Contains, filter}
use Rattle.std.specs.List.{range_with_len}
use Rattle.std.proofs.lemmas.Bool.{ltb-true, lt-ltb, ne_eqb}
use Rattle.std.proofs.lemmas.List.{length-set}
use Rattle.std.proofs.lemmas.List.FromFn.{length-range_with_len, get_or-range_with_len}
use Rattle.std.proofs.lemmas.List.Elements.{All-append, All-map, All-nil, All-weaker, All-filter, filter_passes, Contains-append_right}
use Rattle.multinomial_bounds.specs.Weight.{places, one_less, one_more, IsCounts}
use Rattle.multinomial_bounds.specs.Isotopologue.{Element, IsIsotopologue}
use Rattle.multinomial_bounds.proofs.WeightLemmas.{in_list, one_less-one_more}
use Rattle.multinomial_bounds.proofs.PathLemmas.{length-moved, sum-moved, one_more-one_less}
use Rattle.multinomial_bounds.proofs.CompositionLemmas.{All-flat_map, All-range, Contains-map, Contains-flat_map}
use Rattle.isotopologue_neighbours.specs.Moves.{moved, givers, takers, counts_moved, neighbours_of}

-- what passes a filter stays
pub Contains-filter : {X : Type 0} (p : X → Bool) (xs : List X) (x : X) → p x ≡ true → Contains xs x →
    Contains (filter p xs) x
Contains-filter p [] x passes c = absurd (omega (arith, c.1))
Contains-filter p (y ∷ xs) x passes (zero, within, is) =
    let here : p y ≡ true = ap p is ∙ passes in
    rw here (0, omega arith, is)
Contains-filter p (y ∷ xs) x passes (suc k, within, is) =
    let rest : Contains (filter p xs) x = Contains-filter p xs x passes (k, omega arith, is) in
    elim (p y) as (λ b. Contains (cond b (y ∷ filter p xs) (filter p xs)) x) [
      | true ↦ Contains-append_right (y ∷ []) (filter p xs) x rest
      | false ↦ rest
    ]

contains_place : (counts : List ℕ) (k : ℕ) → k < length counts → Contains (places counts) k
contains_place counts k within =
    let inside : k < length (range_with_len 0 (length counts)) = rw length-range_with_len within in
    (k, inside, get_or-range_with_len 0 (length counts) k k within ∙ omega arith)

-- A move's counts are among those after a move.
pub Contains-counts_moved : (x : List ℕ) (i j : ℕ) → i ≢ j → 1 ≤ get_or x i 0 → j < length x →
    Contains (counts_moved x) (moved x i j)
unfolding counts_moved
Contains-counts_moved x i j apart has within =
    let gives : Contains (givers x) i =
    Contains-filter (λ k. ltb 0 (get_or x k 0)) (places x) i (lt-ltb 0 (get_or x i 0) has)
    (contains_place x i (in_list x i has)) in
    let other : not (eqb j i) ≡ true = ap not (ne_eqb j i (λ e. apart (sym e))) in
    let takes : Contains (takers x i) j =
    Contains-filter (λ k. not (eqb k i)) (places x) j other (contains_place x j within) in
    Contains-flat_map (λ from. map (moved x from) (takers x from)) (givers x) i (moved x i j) gives.0 gives.1 gives.2
    (Contains-map (moved x i) (takers x i) j takes)

-- The counts before a move are a move away from those after it.
moved_back : (x : List ℕ) (i j : ℕ) → 1 ≤ get_or x i 0 → j < length x → moved (moved x i j) j i ≡ x
moved_back x i j has within =
    let inside : j < length (one_less x i) = rw (length-set x i) within in
    let back : one_less (one_more (one_less x i) j) j ≡ one_less x i = one_less-one_more (one_less x i) j inside in
    ap (λ y. one_more y i) back ∙ one_more-one_less x i has

pub Contains-moved_back : (x : List ℕ) (i j : ℕ) → i ≢ j → 1 ≤ get_or x i 0 → j < length x →
    1 ≤ get_or (moved x i j) j 0 → Contains (counts_moved (moved x i j)) x
Contains-moved_back x i j apart has within there =
    let i_within : i < length (moved x i j) = rw (length-moved x i j) (in_list x i has) in
    let c : Contains (counts_moved (moved x i j)) (moved (moved x i j) j i) =
    Contains-counts_moved (moved x i j) j i (λ e. apart (sym e)) there i_within in
    rw (moved_back x i j has within) at c

-- Moves keep the places and the atoms.
moved-IsCounts : (ws : List ℕ) (n : ℕ) (x : List ℕ) (i j : ℕ) → IsCounts ws n x → 1 ≤ get_or x i 0 → j < length x →
    IsCounts ws n (moved x i j)
moved-IsCounts ws n x i j is has within = record {
  places_agree = length-moved x i j ∙ is.places_agree;
  atoms_agree = sum-moved x i j has within ∙ is.atoms_agree;
}

takers-within : (x : List ℕ) (i : ℕ) → All (λ j. j < length x) (takers x i)
takers-within x i =
    All-filter (λ k. not (eqb k i)) (λ j. j < length x) (places x)
    (All-range (λ j. j < length x) (length x) (λ k h. h))

pub counts_moved-IsCounts : (ws : List ℕ) (n : ℕ) (x : List ℕ) → IsCounts ws n x → All (IsCounts ws n) (counts_moved x)
unfolding counts_moved
counts_moved-IsCounts ws n x is =
    All-flat_map (IsCounts ws n) (λ from. map (moved x from) (takers x from)) (givers x)
    (All-weaker (λ k. ltb 0 (get_or x k 0) ≡ true) (λ i. All (IsCounts ws n) (map (moved x i) (takers x i)))
    (λ i has.
    All-map (IsCounts ws n) (moved x i) (takers x i)
    (All-weaker (λ j. j < length x) (λ j. IsCounts ws n (moved x i j))
    (λ j within. moved-IsCounts ws n x i j is (ltb-true 0 (get_or x i 0) has) within)
    (takers x i) (takers-within x i)))
    (givers x) (filter_passes (λ k. ltb 0 (get_or x k 0)) (places x)))

-- The neighbours of an isotopologue are isotopologues.
pub neighbours_of-IsIsotopologue : (es : List Element) (i : List (List ℕ)) → IsIsotopologue es i →
    All (IsIsotopologue es) (neighbours_of i)
unfolding neighbours_of
neighbours_of-IsIsotopologue [] [] is = All-nil (IsIsotopologue [])
neighbours_of-IsIsotopologue [] (c ∷ more) is = absurd is
neighbours_of-IsIsotopologue (e ∷ es) [] is = absurd is
neighbours_of-IsIsotopologue (e ∷ es) (c ∷ more) is =
    All-append (IsIsotopologue (e ∷ es)) (map (λ changed. changed ∷ more) (counts_moved c))
    (map (λ others. c ∷ others) (neighbours_of more))
    (All-map (IsIsotopologue (e ∷ es)) (λ changed. changed ∷ more) (counts_moved c)
    (All-weaker (IsCounts e.weights e.atoms) (λ changed. IsIsotopologue (e ∷ es) (changed ∷ more))
    (λ changed counts. (counts, is.1)) (counts_moved c) (counts_moved-IsCounts e.weights e.atoms c is.0)))
    (All-map (IsIsotopologue (e ∷ es)) (λ others. c ∷ others) (neighbours_of more)
    (All-weaker (IsIsotopologue es) (λ others. IsIsotopologue (e ∷ es) (c ∷ others))
    (λ others rest. (is.0, rest)) (neighbours_of more) (neighbours_of-IsIsotopologue es more is.1)))
