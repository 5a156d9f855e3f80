-- The counts of all modes, one element after another.
use Rattle.std.proofs.Common.{◌≡◌, ℕ, ◌+◌, ◌<◌, List, [], ◌∷◌, ◌++◌, length, take, get_or, sym, ◌∙◌, ap, All, append-nil}
use Rattle.std.specs.List.{concat}
use Rattle.std.proofs.lemmas.List.{take_more, map-append}
use Rattle.std.proofs.lemmas.List.Elements.{All-head, All-tail}
use Rattle.std.proofs.lemmas.List.Folds.{concat-append}
use Rattle.multinomial_bounds.specs.Weight.{IsWeights}
use Rattle.multinomial_bounds.specs.Mode.{mode_of_atoms}
use Rattle.multinomial_bounds.specs.Isotopologue.{Element, IsIsotopologue}
use Rattle.multinomial_bounds.proofs.ModeLemmas.{length-mode_of_atoms, sum-mode_of_atoms}
use Rattle.isotopologue_sets.specs.Layers.{mode_of_each}
use Rattle.cover_claims.specs.CountsInRow.{counts_by_element}
use Rattle.cover_claims.proofs.RowLemmas.{counts_by_element-concat}

pub modes-IsIsotopologue : (es : List Element) → All (λ e. IsWeights e.weights) es → IsIsotopologue es (mode_of_each es)
modes-IsIsotopologue [] ok = tt
modes-IsIsotopologue (e ∷ es) ok = (
  record {
    places_agree = length-mode_of_atoms e.weights e.atoms;
    atoms_agree = sum-mode_of_atoms e.weights (All-head (λ e. IsWeights e.weights) e es ok).some e.atoms;
  },
  modes-IsIsotopologue es (All-tail (λ e. IsWeights e.weights) e es ok),
)

pub modes-more : (es : List Element) (k : ℕ) (e : Element) → k < length es → e ≡ get_or es k e →
    concat (mode_of_each (take (k + 1) es)) ≡ concat (mode_of_each (take k es)) ++ mode_of_atoms e.weights e.atoms
modes-more es k e within is =
    ap (λ (ds : List Element). concat (mode_of_each ds)) (take_more es k e within)
    ∙ ap concat (map-append (λ (d : Element). mode_of_atoms d.weights d.atoms) (take k es) (get_or es k e ∷ []))
    ∙ concat-append (mode_of_each (take k es)) (mode_of_atoms (get_or es k e).weights (get_or es k e).atoms ∷ [])
    ∙ ap (λ (xs : List ℕ). concat (mode_of_each (take k es)) ++ xs)
    (append-nil (mode_of_atoms (get_or es k e).weights (get_or es k e).atoms)
    ∙ ap (λ (d : Element). mode_of_atoms d.weights d.atoms) (sym is))

pub modes-by_element : (es : List Element) → All (λ e. IsWeights e.weights) es →
    counts_by_element es (concat (mode_of_each es)) ≡ mode_of_each es
modes-by_element es ok =
    ap (counts_by_element es) (sym (append-nil (concat (mode_of_each es))))
    ∙ counts_by_element-concat es (mode_of_each es) [] (modes-IsIsotopologue es ok)
