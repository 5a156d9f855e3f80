-- The candidate at the first place of ranked ones.
use Rattle.std.proofs.Common.{◌≡◌, ℕ, ◌+◌, ◌<◌, List, [], ◌∷◌, length, map, get_or, refl, sym, ap, ◌∙◌, arith, subst}
use Rattle.std.specs.Prelude.{All, false, None, Some, slice_get}
use Rattle.std.specs.List.{enumerate_from}
use Rattle.std.proofs.lemmas.List.Elements.{All-head}
use Rattle.std.proofs.lemmas.List.FromFn.{get_or-enumerate_from, length-enumerate_from}
use Rattle.std.proofs.lemmas.List.Sorted.{All-permutation}
use Rattle.std.proofs.lemmas.Option.{get_or_from_slice_get, slice_get-get_or, slice_get_within}
use Rattle.sorted_lists.specs.SortedLists.{sorted_by}
use Rattle.sorted_lists.proofs.SortedListLaws.{IsPermutation-sorted_by}
use Rattle.written_items.specs.declared.item.Item.{Item}
use Rattle.ranking.specs.Places.{RankedEntry, by_score, placed_before, places_of, ranking}
use Rattle.peak_ranking.specs.Tallies.{formula_eq, leads}

-- an entry stands at its place
abbrev StandsAt : List RankedEntry → ℕ × RankedEntry → Type 0
StandsAt found placed = slice_get found placed.0 ≡ Some placed.1

numbered-there : (found : List RankedEntry) → All (StandsAt found) (enumerate_from 0 found)
numbered-there found k d within =
    let count = length-enumerate_from 0 found in
    let inside : k < length found = omega (arith, within, count) in
    let here : 0 + k ≡ k = omega arith in
    subst (StandsAt found) (sym (get_or-enumerate_from 0 found k d inside))
    (ap (slice_get found) here ∙ slice_get-get_or found k d.1 inside)

ranking-there : (found : List RankedEntry) → All (StandsAt found) (ranking found)
unfolding ranking
ranking-there found =
    All-permutation (StandsAt found) (enumerate_from 0 found) (sorted_by placed_before (enumerate_from 0 found))
    (IsPermutation-sorted_by placed_before (enumerate_from 0 found)) (numbered-there found)

first-of : (found : List RankedEntry) (placed : List (ℕ × RankedEntry)) (place : ℕ) (formula : List (Item × ℕ)) →
    All (StandsAt found) placed → slice_get (map (λ p. p.0) placed) 0 ≡ Some place →
    (entry : RankedEntry) × (slice_get found place ≡ Some entry)
    × (leads formula (map (λ p. p.1) placed) ≡ formula_eq entry.formula formula)
first-of found [] place formula there is = absurd (cc)
first-of found (p ∷ ps) place formula there is =
    let same : p.0 ≡ place = cc in
    (p.1, ap (slice_get found) (sym same) ∙ All-head (StandsAt found) p ps there, refl)

-- ---- the first place is that of the candidate that leads

first-placed : (found : List RankedEntry) (place : ℕ) (formula : List (Item × ℕ)) →
    slice_get (places_of found) 0 ≡ Some place → (entry : RankedEntry) × (slice_get found place ≡ Some entry)
    × (leads formula (by_score found) ≡ formula_eq entry.formula formula)
unfolding places_of by_score
first-placed found place formula is = first-of found (ranking found) place formula (ranking-there found) is

pub first-leads : (found : List RankedEntry) (places : List ℕ) (place : ℕ) (entry : RankedEntry)
    (formula : List (Item × ℕ)) → places ≡ places_of found → Some place ≡ slice_get places 0 →
    entry ≡ get_or found place entry → formula_eq entry.formula formula ≡ leads formula (by_score found)
first-leads found places place entry formula all first there =
    let its = first-placed found place formula (ap (λ (ps : List ℕ). slice_get ps 0) (sym all) ∙ sym first) in
    let same : entry ≡ its.0 = there ∙ get_or_from_slice_get found place its.0 entry its.1 in
    ap (λ (e : RankedEntry). formula_eq e.formula formula) same ∙ sym its.2

pub first-within : (found : List RankedEntry) (places : List ℕ) (place : ℕ) → places ≡ places_of found →
    Some place ≡ slice_get places 0 → place < length found
first-within found places place all first =
    let its = first-placed found place [] (ap (λ (ps : List ℕ). slice_get ps 0) (sym all) ∙ sym first) in
    slice_get_within found place its.0 its.1

none-of : (placed : List (ℕ × RankedEntry)) (formula : List (Item × ℕ)) →
    slice_get (map (λ p. p.0) placed) 0 ≡ None → leads formula (map (λ p. p.1) placed) ≡ false
none-of [] formula is = refl
none-of (p ∷ ps) formula is = absurd (cc)

none-placed : (found : List RankedEntry) (formula : List (Item × ℕ)) → slice_get (places_of found) 0 ≡ None →
    leads formula (by_score found) ≡ false
unfolding places_of by_score
none-placed found formula is = none-of (ranking found) formula is

pub none-leads : (found : List RankedEntry) (places : List ℕ) (formula : List (Item × ℕ)) → places ≡ places_of found →
    None ≡ slice_get places 0 → false ≡ leads formula (by_score found)
none-leads found places formula all none =
    sym (none-placed found formula (ap (λ (ps : List ℕ). slice_get ps 0) (sym all) ∙ sym none))
