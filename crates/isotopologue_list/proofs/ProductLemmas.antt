-- Products of the enclosures of chosen counts.
use Rattle.std.proofs.Common.{◌≡◌, ℕ, suc, ◌+◌, ◌*◌, ◌<◌, ◌≤◌, List, [], ◌∷◌, ◌++◌, map, length, take, drop, get_or}
use Rattle.std.proofs.Common.{refl, sym, ◌∙◌, ap, arith, fold, append_assoc}
use Rattle.std.proofs.Math.Seq.{take-suc, drop-cons}
use Rattle.std.proofs.lemmas.List.{take_all, drop_all, length-map, get_or-map}
use Rattle.std.specs.Prelude.{flat_map}
use Rattle.multinomial_bounds.specs.Bounds.{certainty, floor_of, ceiling_of, product_of}
use Rattle.multinomial_bounds.specs.Compositions.{choices}
use Rattle.isotopologue_sets.specs.Covers.{Member}
use Rattle.isotopologue_list.specs.Listed.{BoundedCounts}
use Rattle.isotopologue_list.specs.ListedParts.{ends_from, isotopologue_from}
use Rattle.isotopologue_list.proofs.FlatLemmas.{map_flat_map, flat_map_same, flat_map_push, map_map}

-- the ends of all choices that go on with these counts
abbrev pub ends_with : List (List BoundedCounts) → ℕ → ℕ → BoundedCounts → List (ℕ × ℕ)
ends_with others lo hi item =
    map (ends_from (floor_of (lo * item.lo) certainty) (ceiling_of (hi * item.hi) certainty)) (choices others)

pub ends_of_choices : (lo hi : ℕ) (items : List BoundedCounts) (others : List (List BoundedCounts)) →
    map (ends_from lo hi) (choices (items ∷ others)) ≡ flat_map (ends_with others lo hi) items
unfolding choices ends_from
ends_of_choices lo hi items others =
    map_flat_map (ends_from lo hi) (λ item. map (λ more. item ∷ more) (choices others)) items
    ∙ flat_map_same (λ item. map (ends_from lo hi) (map (λ more. item ∷ more) (choices others))) (ends_with others lo hi)
    (λ item. map_map (ends_from lo hi) (λ more. item ∷ more) (choices others)) items

-- no element is left, and one with the others
pub ends_of_none : (lo hi : ℕ) (place : ℕ) (lists : List (List BoundedCounts)) → length lists ≤ place →
    map (ends_from lo hi) (choices (drop place lists)) ≡ (lo, hi) ∷ []
unfolding choices ends_from
ends_of_none lo hi place lists none = rw (drop_all place lists none) refl

pub ends_of_all : (lo hi place row : ℕ) (lists : List (List BoundedCounts)) (items : List BoundedCounts) →
    place < length lists → items ≡ get_or lists place items → length items ≤ row →
    map (ends_from lo hi) (choices (drop place lists))
    ≡ flat_map (ends_with (drop (place + 1) lists) lo hi) (take row items)
ends_of_all lo hi place row lists items within is all =
    let split : drop place lists ≡ items ∷ drop (place + 1) lists =
    drop-cons lists place items within
    ∙ ap (λ xs. xs ∷ drop (suc place) lists) (sym is)
    ∙ ap (λ (k : ℕ). items ∷ drop k lists) (let e : suc place ≡ place + 1 = omega arith in e) in
    rw (split, take_all row items all) (ends_of_choices lo hi items (drop (place + 1) lists))

-- one item more
pub next_item : (old now more : List (ℕ × ℕ)) (others : List (List BoundedCounts)) (lo hi x y : ℕ)
    (items : List BoundedCounts) (row : ℕ) (d : BoundedCounts) → row < length items →
    x ≡ floor_of (lo * (get_or items row d).lo) certainty → y ≡ ceiling_of (hi * (get_or items row d).hi) certainty →
    now ≡ old ++ flat_map (ends_with others lo hi) (take row items) →
    more ≡ now ++ map (ends_from x y) (choices others) →
    more ≡ old ++ flat_map (ends_with others lo hi) (take (row + 1) items)
next_item old now more others lo hi x y items row d within low high before appended =
    let longer : take (row + 1) items ≡ take row items ++ get_or items row d ∷ [] =
    ap (λ (k : ℕ). take k items) (let e : row + 1 ≡ suc row = omega arith in e) ∙ take-suc items row d within in
    let ends : map (ends_from x y) (choices others) ≡ ends_with others lo hi (get_or items row d) =
    ap (λ (k : ℕ). map (ends_from k y) (choices others)) low
    ∙ ap (λ (k : ℕ). map (ends_from (floor_of (lo * (get_or items row d).lo) certainty) k) (choices others)) high in
    appended
    ∙ ap (λ xs. xs ++ map (ends_from x y) (choices others)) before
    ∙ append_assoc old _ _
    ∙ ap (λ xs. old ++ (flat_map (ends_with others lo hi) (take row items) ++ xs)) ends
    ∙ ap (λ xs. old ++ xs) (sym (flat_map_push (ends_with others lo hi) (take row items) (get_or items row d)))
    ∙ ap (λ xs. old ++ flat_map (ends_with others lo hi) xs) (sym longer)

-- the ends of a product are its bounds
ends_are : (lo hi : ℕ) (chosen : List BoundedCounts) →
    ends_from lo hi chosen
    ≡ (
      fold (λ product bound. floor_of (product * bound) certainty) lo (map (λ c. c.lo) chosen),
      fold (λ product bound. ceiling_of (product * bound) certainty) hi (map (λ c. c.hi) chosen),
    )
unfolding ends_from
ends_are lo hi [] = refl
ends_are lo hi (c ∷ chosen) = ends_are (floor_of (lo * c.lo) certainty) (ceiling_of (hi * c.hi) certainty) chosen

pub ends_from-isotopologue_from : (chosen : List BoundedCounts) →
    ends_from certainty certainty chosen ≡ ((isotopologue_from chosen).lo, (isotopologue_from chosen).hi)
unfolding isotopologue_from product_of
ends_from-isotopologue_from chosen = ends_are certainty certainty chosen

-- what has the same ends as all isotopologues has the ends of each
pub same_at : {E : Type 0} (lo hi : E → ℕ) (es : List E) (is : List Member) (k : ℕ) (e : E)
    (d : Member) → map {B = ℕ × ℕ} (λ e. (lo e, hi e)) es ≡ map {B = ℕ × ℕ} (λ i. (i.lo, i.hi)) is →
    k < length is →
    let p : ℕ × ℕ = (lo (get_or es k e), hi (get_or es k e)) in
    let q : ℕ × ℕ = ((get_or is k d).lo, (get_or is k d).hi) in
    p ≡ q
same_at lo hi es is k e d same within =
    let lengths : length es ≡ length is =
    sym (length-map {B = ℕ × ℕ} es (λ e. (lo e, hi e))) ∙ ap length same ∙ length-map {B = ℕ × ℕ} is (λ i. (i.lo, i.hi)) in
    let inside : k < length es = rw lengths within in
    sym (get_or-map {Y = ℕ × ℕ} (λ e. (lo e, hi e)) es k e (0, 0) inside)
    ∙ ap (λ xs. get_or xs k (0, 0)) same
    ∙ get_or-map {Y = ℕ × ℕ} (λ i. (i.lo, i.hi)) is k d (0, 0) within
