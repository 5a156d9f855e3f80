-- The list of all isotopologues has nothing but isotopologues, and each of them.
use Rattle.std.proofs.Common.{ℕ, List, [], ◌∷◌, map, length, subst, refl, arith, All}
use Rattle.std.specs.Prelude.{Contains, ◌↔◌}
use Rattle.std.proofs.lemmas.List.Elements.{All-nil, All-cons, All-map, All-weaker, All-contains}
use Rattle.multinomial_bounds.specs.Weight.{IsCounts}
use Rattle.multinomial_bounds.specs.Isotopologue.{Element, IsIsotopologue}
use Rattle.multinomial_bounds.specs.Compositions.{compositions, choices, counts_of, isotopologues_of}
use Rattle.multinomial_bounds.proofs.CompositionLemmas.{All-flat_map, Contains-map, Contains-flat_map, compositions-IsCounts, compositions_complete}

-- Each member of the list is an isotopologue.
pub isotopologues_of-IsIsotopologue : (es : List Element) → All (IsIsotopologue es) (isotopologues_of es)
unfolding isotopologues_of choices counts_of
isotopologues_of-IsIsotopologue [] = All-cons (IsIsotopologue []) [] [] tt (All-nil (IsIsotopologue []))
isotopologues_of-IsIsotopologue (e ∷ es) =
    All-flat_map (IsIsotopologue (e ∷ es)) (λ c. map (λ more. c ∷ more) (isotopologues_of es)) (counts_of e)
    (All-weaker (IsCounts e.weights e.atoms)
    (λ c. All (IsIsotopologue (e ∷ es)) (map (λ more. c ∷ more) (isotopologues_of es)))
    (λ c is.
    All-map (IsIsotopologue (e ∷ es)) (λ more. c ∷ more) (isotopologues_of es)
    (All-weaker (IsIsotopologue es) (λ more. IsIsotopologue (e ∷ es) (c ∷ more)) (λ more others. (is, others))
    (isotopologues_of es) (isotopologues_of-IsIsotopologue es)))
    (counts_of e) (compositions-IsCounts e.weights e.atoms))

-- Each isotopologue is a member of the list.
pub isotopologues_complete : (es : List Element) (i : List (List ℕ)) → IsIsotopologue es i →
    Contains (isotopologues_of es) i
unfolding isotopologues_of choices counts_of
isotopologues_complete [] [] is = (0, omega arith, refl)
isotopologues_complete [] (c ∷ more) is = absurd is
isotopologues_complete (e ∷ es) [] is = absurd is
isotopologues_complete (e ∷ es) (c ∷ more) is =
    let counts : Contains (compositions (length e.weights) e.atoms) c =
    subst (λ q. Contains (compositions q e.atoms) c) is.0.places_agree
    (compositions_complete c e.atoms is.0.atoms_agree) in
    Contains-flat_map (λ item. map (λ more. item ∷ more) (isotopologues_of es)) (counts_of e) c (c ∷ more)
    counts.0 counts.1 counts.2
    (Contains-map (λ more. c ∷ more) (isotopologues_of es) more (isotopologues_complete es more is.1))

-- The list has exactly the isotopologues.
pub Contains-isotopologues_of : (es : List Element) (i : List (List ℕ)) →
    Contains (isotopologues_of es) i ↔ IsIsotopologue es i
Contains-isotopologues_of es i = (
  All-contains (IsIsotopologue es) (isotopologues_of es) i (isotopologues_of-IsIsotopologue es),
  isotopologues_complete es i,
)
