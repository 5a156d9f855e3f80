-- Where no element is without weight, each has some.
use Rattle.std.proofs.Common.{◌≡◌, ℕ, zero, suc, ◌<◌, ◌≤◌, ◌==◌, Bool, true, false, List, [], ◌∷◌, length, get_or, find}
use Rattle.std.proofs.Common.{All, Some, None, refl, arith}
use Rattle.std.proofs.lemmas.Bool.{eqb-false}
use Rattle.element_table.specs.Limits.{min_electron_mass, max_electron_mass}
use Rattle.element_table.specs.Elements.{ElementEntry, IsTable, total_weight}
use Rattle.element_table.specs.TableRows.{weightless_element}
use Rattle.element_table.specs.Gathering.{AreElements}

-- where none is found, none passes
pub find-none : {X : Type 0} (p : X → Bool) (xs : List X) → find p xs ≡ None → All (λ x. p x ≡ false) xs
find-none p [] none k d below = absurd (omega arith)
find-none p (x ∷ xs) none k d below = by (p x) refl (λ rest j within. find-none p xs rest j d within) k below
  where
    by : (b : Bool) → p x ≡ b → (find p xs ≡ None → (j : ℕ) → j < length xs → p (get_or xs j d) ≡ false)
        → (k : ℕ) → k < length (x ∷ xs) → p (get_or (x ∷ xs) k d) ≡ false
    by true passes others k below = (let found : Some x ≡ None = rw passes at none in cc)
    by false fails others zero below = fails
    by false fails others (suc k) below = others (rw fails at none) k (omega arith)

-- where no element is without weight, each has some
weighted-from_none : (es : List ElementEntry) → weightless_element es ≡ None → All (λ e. 0 < total_weight e.isotopes) es
weighted-from_none es none k d below =
    let weight = eqb-false _ 0 (find-none (λ (e : ElementEntry). total_weight e.isotopes == 0) es none k d below) in
    omega (arith, weight)

-- a table of the electron and elements that have been gathered, where none is without weight
pub IsTable-from_weighted : (electron : ℕ) (elements : List ElementEntry)
    → (min_electron_mass ≤ electron) × (electron ≤ max_electron_mass)
    → AreElements elements → weightless_element elements ≡ None
    → IsTable (record { electron = electron; elements = elements })
IsTable-from_weighted electron elements within are none = record {
  electron_from = within.0;
  electron_to = within.1;
  few_elements = are.few;
  elements = are.each;
  weighted = weighted-from_none elements none;
  distinct = are.distinct;
}
