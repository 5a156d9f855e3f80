-- An isotopologue with other counts of one element.
use Rattle.std.proofs.Common.{◌≡◌, ℕ, zero, suc, ◌+◌, ◌<◌, ◌≤◌, List, [], ◌∷◌, ◌++◌, length, take, drop, get_or, set}
use Rattle.std.proofs.Common.{sum, refl, sym, ◌∙◌, ap, arith, All, append_assoc}
use Rattle.std.specs.List.{concat}
use Rattle.std.proofs.lemmas.List.Folds.{concat-append}
use Rattle.std.proofs.lemmas.List.Sums.{get_or-le-sum_by}
use Rattle.multinomial_bounds.specs.Weight.{IsCounts}
use Rattle.multinomial_bounds.specs.Path.{bound_of}
use Rattle.multinomial_bounds.specs.Isotopologue.{Element, IsIsotopologue, bounds_of}
use Rattle.cover_claims.specs.Surroundings.{with_counts}

no_element : Element
no_element = record { weights = []; atoms = 0 }

pub length-isotopologue : (es : List Element) (i : List (List ℕ)) → IsIsotopologue es i → length i ≡ length es
length-isotopologue [] [] is = refl
length-isotopologue [] (c ∷ more) is = absurd is
length-isotopologue (e ∷ es) [] is = absurd is
length-isotopologue (e ∷ es) (c ∷ more) is = ap suc (length-isotopologue es more is.1)

pub length-bounds_of : (round : ℕ → ℕ → ℕ) (es : List Element) (i : List (List ℕ)) → IsIsotopologue es i →
    length (bounds_of round es i) ≡ length es
unfolding bounds_of
length-bounds_of round [] [] is = refl
length-bounds_of round [] (c ∷ more) is = absurd is
length-bounds_of round (e ∷ es) [] is = absurd is
length-bounds_of round (e ∷ es) (c ∷ more) is = ap suc (length-bounds_of round es more is.1)

-- the counts of the element at a place
pub counts-at : (es : List Element) (i : List (List ℕ)) (k : ℕ) (d : Element) → IsIsotopologue es i → k < length es →
    IsCounts (get_or es k d).weights (get_or es k d).atoms (get_or i k [])
counts-at [] i k d is within = absurd (omega arith)
counts-at (e ∷ es) [] k d is within = absurd is
counts-at (e ∷ es) (c ∷ more) zero d is within = is.0
counts-at (e ∷ es) (c ∷ more) (suc k) d is within = counts-at es more k d is.1 (omega arith)

-- other counts of it, of as many isotopes and atoms
pub with-IsIsotopologue : (es : List Element) (i : List (List ℕ)) (k : ℕ) (x : List ℕ) → IsIsotopologue es i →
    k < length es → length x ≡ length (get_or i k []) → sum x ≡ sum (get_or i k []) →
    IsIsotopologue es (with_counts i k x)
with-IsIsotopologue [] i k x is within places atoms = absurd (omega arith)
with-IsIsotopologue (e ∷ es) [] k x is within places atoms = absurd is
with-IsIsotopologue (e ∷ es) (c ∷ more) zero x is within places atoms = (
  record { places_agree = places ∙ is.0.places_agree; atoms_agree = atoms ∙ is.0.atoms_agree },
  is.1,
)
with-IsIsotopologue (e ∷ es) (c ∷ more) (suc k) x is within places atoms =
    let s : suc k + 1 ≡ suc (k + 1) = omega arith in
    rw s (is.0, with-IsIsotopologue es more k x is.1 (omega arith) places atoms)

pub with-bounds : (round : ℕ → ℕ → ℕ) (es : List Element) (i : List (List ℕ)) (k : ℕ) (x : List ℕ) (d : Element) →
    IsIsotopologue es i → k < length es →
    bounds_of round es (with_counts i k x) ≡ set (bounds_of round es i) k (bound_of round (get_or es k d).weights x)
unfolding bounds_of
with-bounds round [] i k x d is within = absurd (omega arith)
with-bounds round (e ∷ es) [] k x d is within = absurd is
with-bounds round (e ∷ es) (c ∷ more) zero x d is within = refl
with-bounds round (e ∷ es) (c ∷ more) (suc k) x d is within =
    let s : suc k + 1 ≡ suc (k + 1) = omega arith in
    rw s (ap (λ bs. bound_of round e.weights c ∷ bs) (with-bounds round es more k x d is.1 (omega arith)))

pub concat-with : (i : List (List ℕ)) (k : ℕ) (x : List ℕ) →
    concat (with_counts i k x) ≡ concat (take k i) ++ x ++ concat (drop (k + 1) i)
concat-with i k x =
    concat-append (take k i) (x ∷ drop (k + 1) i)
    ∙ sym (append_assoc (concat (take k i)) x (concat (drop (k + 1) i)))

pub count-small : (xs : List ℕ) (n : ℕ) → sum xs ≤ n → All (λ c. c ≤ n) xs
count-small xs n few k d within = omega (arith, get_or-le-sum_by (λ c. c) xs k d within)
