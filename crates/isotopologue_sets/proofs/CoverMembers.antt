-- The members of a cover: the counts that they were made of, which are isotopologues, and their enclosures.
use Rattle.std.proofs.Common.{◌≡◌, ℕ, ◌+◌, ◌-◌, ◌*◌, ◌≤◌, length, List, [], ◌∷◌, map, take, refl, ◌∙◌, ap, All}
use Rattle.std.proofs.lemmas.List.{take-map}
use Rattle.std.proofs.lemmas.List.Elements.{All-nil, All-cons, All-map, All-weaker}
use Rattle.multinomial_bounds.specs.Bounds.{IsEnclosure}
use Rattle.multinomial_bounds.specs.Isotopologue.{Element, IsIsotopologue, all_atoms, isotopologue_weight, all_weight}
use Rattle.multinomial_bounds.proofs.EnclosureLemmas.{IsEnclosure-isotopologue}
use Rattle.multinomial_bounds.proofs.WidthLemmas.{isotopologue-width}
use Rattle.isotopologue_sets.specs.Layers.{AreElements, lo_of, hi_of, reaching_threshold}
use Rattle.isotopologue_sets.specs.Covers.{Member, member_of, ordered_layer, cover_numbers, first_counts}
use Rattle.isotopologue_sets.proofs.LayerLaws.{ordered_layer-IsIsotopologue}

-- The counts of members made of isotopologues are these.
pub counts_are : (es : List Element) (xs : List (List (List ℕ))) → map (λ m. m.counts) (map (member_of es) xs) ≡ xs
counts_are es [] = refl
counts_are es (x ∷ xs) = ap (λ ys. x ∷ ys) (counts_are es xs)

-- The counts of the first members made of isotopologues are the first isotopologues.
pub first_counts-map : (es : List Element) (n : ℕ) (xs : List (List (List ℕ))) →
    first_counts n (map (member_of es) xs) ≡ take n xs
first_counts-map es n xs =
    ap (map (λ m. m.counts)) (take-map (member_of es) n xs) ∙ counts_are es (take n xs)

-- Members made of isotopologues have their bounds.
pub bounds_are : (es : List Element) (xs : List (List (List ℕ))) →
    All (λ m. (m.lo ≡ lo_of es m.counts) × (m.hi ≡ hi_of es m.counts)) (map (member_of es) xs)
bounds_are es [] = All-nil (λ (m : Member). (m.lo ≡ lo_of es m.counts) × (m.hi ≡ hi_of es m.counts))
bounds_are es (x ∷ xs) =
    All-cons (λ (m : Member). (m.lo ≡ lo_of es m.counts) × (m.hi ≡ hi_of es m.counts)) (member_of es x)
    (map (member_of es) xs) (refl, refl) (bounds_are es xs)

-- The members of a cover are isotopologues, each with an enclosure of its probability.
module _ (es : List Element) (coverage : ℕ) where
  -- what holds of the member of each isotopologue of a layer
  each_member : (P : Member → Type 0) → ((i : List (List ℕ)) → IsIsotopologue es i → P (member_of es i)) →
      All P (cover_numbers es coverage).members
  unfolding cover_numbers
  each_member P each =
      let members : List (List (List ℕ)) = ordered_layer es (reaching_threshold es coverage) in
      All-map P (member_of es) members
      (All-weaker (IsIsotopologue es) (λ i. P (member_of es i)) each members
      (ordered_layer-IsIsotopologue es (reaching_threshold es coverage)))

  pub cover-isotopologues : All (λ m. IsIsotopologue es m.counts) (cover_numbers es coverage).members
  cover-isotopologues = each_member (λ m. IsIsotopologue es m.counts) (λ i is. is)

  pub cover-encloses : AreElements es →
      All (λ m. IsEnclosure m.lo m.hi (isotopologue_weight es m.counts) (all_weight es))
      (cover_numbers es coverage).members
  cover-encloses ok =
      each_member (λ m. IsEnclosure m.lo m.hi (isotopologue_weight es m.counts) (all_weight es))
      (λ i is. IsEnclosure-isotopologue es i ok.weights is)

  pub cover-width : AreElements es →
      All (λ m. m.hi ≤ m.lo + (2 * all_atoms es + length es - 1)) (cover_numbers es coverage).members
  cover-width ok =
      each_member (λ m. m.hi ≤ m.lo + (2 * all_atoms es + length es - 1)) (λ i is. isotopologue-width es ok.weights i is)
