-- Isotopologues of a list of elements, their exact probabilities, and the bounds of these.
use Rattle.std.specs.Prelude.{ℕ, ◌*◌, List, [], ◌∷◌}
use Rattle.std.specs.List.{sum_by}
use Rattle.multinomial_bounds.specs.Weight.{weight_of, total_of, IsCounts}
use Rattle.multinomial_bounds.specs.Bounds.{product_of}
use Rattle.multinomial_bounds.specs.Path.{bound_of}

-- the atoms of one element in a formula: the weights of its isotopes, and how many atoms
pub record Element : Type 0 where
  pub weights : List ℕ
  pub atoms : ℕ

-- the atoms of all elements together
abbrev pub all_atoms : List Element → ℕ
all_atoms elements = sum_by (λ e. e.atoms) elements

-- one list of counts for each element, in order: none for no elements
abbrev pub IsIsotopologue : List Element → List (List ℕ) → Type 0
IsIsotopologue [] [] = Unit {0}
IsIsotopologue [] (counts ∷ more) = ⊥
IsIsotopologue (e ∷ elements) [] = ⊥
IsIsotopologue (e ∷ elements) (counts ∷ more) = IsCounts e.weights e.atoms counts × IsIsotopologue elements more

-- The weight of an isotopologue is the product over its elements; its exact probability is this
-- over the weight of all isotopologues together.
unfoldable pub isotopologue_weight : List Element → List (List ℕ) → ℕ
isotopologue_weight [] isotopologue = 1
isotopologue_weight (e ∷ elements) [] = 1
isotopologue_weight (e ∷ elements) (counts ∷ more) =
    weight_of e.weights e.atoms counts * isotopologue_weight elements more

unfoldable pub all_weight : List Element → ℕ
all_weight [] = 1
all_weight (e ∷ elements) = total_of e.weights e.atoms * all_weight elements

-- the bounds of each element's counts, in order
unfoldable pub bounds_of : (ℕ → ℕ → ℕ) → List Element → List (List ℕ) → List ℕ
bounds_of round [] isotopologue = []
bounds_of round (e ∷ elements) [] = []
bounds_of round (e ∷ elements) (counts ∷ more) = bound_of round e.weights counts ∷ bounds_of round elements more

-- the bound of an isotopologue's probability: the product of its elements' bounds
abbrev pub isotopologue_bound : (ℕ → ℕ → ℕ) → List Element → List (List ℕ) → ℕ
isotopologue_bound round elements isotopologue = product_of round (bounds_of round elements isotopologue)
