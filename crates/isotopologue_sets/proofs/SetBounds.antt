-- What the bounds of a set's isotopologues say of its exact weight: all together the lower bounds are at most, and
-- the upper bounds at least, the weight's part of the weight of all.
use Rattle.std.proofs.Common.{ℕ, ◌+◌, ◌*◌, ◌≤◌, List, [], ◌∷◌, length, get_or, sum, arith, All}
use Rattle.std.specs.Prelude.{sum_by}
use Rattle.std.proofs.Math.Nat.{one-le-pow, mul-pos}
use Rattle.std.proofs.lemmas.List.Elements.{All-head, All-tail}
use Rattle.std.proofs.lemmas.List.Sums.{sum_by-cons, get_or-le-sum_by}
use Rattle.multinomial_bounds.specs.Weight.{IsWeights}
use Rattle.multinomial_bounds.specs.Bounds.{certainty, IsEnclosure}
use Rattle.multinomial_bounds.specs.Isotopologue.{Element, IsIsotopologue, isotopologue_weight, all_weight, all_atoms}
use Rattle.multinomial_bounds.proofs.EnclosureLemmas.{IsEnclosure-isotopologue}
use Rattle.multinomial_bounds.proofs.WidthLemmas.{isotopologue-width}
use Rattle.isotopologue_sets.specs.Layers.{AreElements, lo_of, hi_of, lo_total}
use Rattle.isotopologue_sets.specs.Coverage.{weight_of_set}

-- some weight is above 0
pub all_weight-positive : (es : List Element) → All (λ e. IsWeights e.weights) es → 1 ≤ all_weight es
unfolding all_weight
all_weight-positive [] ok = omega arith
all_weight-positive (e ∷ es) ok =
    let here : IsWeights e.weights = All-head (λ e. IsWeights e.weights) e es ok in
    let first : 1 ≤ get_or e.weights 0 0 = here.positive 0 0 here.some in
    let some : 1 ≤ sum e.weights = omega (arith, get_or-le-sum_by (λ w. w) e.weights 0 0 here.some) in
    mul-pos (one-le-pow e.atoms (sum e.weights) some)
    (all_weight-positive es (All-tail (λ e. IsWeights e.weights) e es ok))

-- how far an upper bound is at most above the lower one
abbrev pub width_of : List Element → ℕ
width_of es = 2 * all_atoms es + length es

module _ (es : List Element) (ok : AreElements es) where
  encloses : (i : List (List ℕ)) → IsIsotopologue es i →
      IsEnclosure (lo_of es i) (hi_of es i) (isotopologue_weight es i) (all_weight es)
  encloses i is = IsEnclosure-isotopologue es i ok.weights is

  pub hi_of-positive : (i : List (List ℕ)) → IsIsotopologue es i → 1 ≤ hi_of es i
  hi_of-positive i is = (encloses i is).positive

  pub lo_total-le-weight : (set : List (List (List ℕ))) → All (IsIsotopologue es) set →
      lo_total es set * all_weight es ≤ certainty * weight_of_set es set
  lo_total-le-weight [] all = omega arith
  lo_total-le-weight (i ∷ set) all =
      let e : IsEnclosure (lo_of es i) (hi_of es i) (isotopologue_weight es i) (all_weight es) =
      encloses i (All-head (IsIsotopologue es) i set all) in
      rw (sum_by-cons (lo_of es) i set, sum_by-cons (isotopologue_weight es) i set)
      (omega (arith, e.from_below, lo_total-le-weight set (All-tail (IsIsotopologue es) i set all)))

  pub weight-le-hi_total : (set : List (List (List ℕ))) → All (IsIsotopologue es) set →
      certainty * weight_of_set es set ≤ sum_by (hi_of es) set * all_weight es
  weight-le-hi_total [] all = omega arith
  weight-le-hi_total (i ∷ set) all =
      let e : IsEnclosure (lo_of es i) (hi_of es i) (isotopologue_weight es i) (all_weight es) =
      encloses i (All-head (IsIsotopologue es) i set all) in
      rw (sum_by-cons (hi_of es) i set, sum_by-cons (isotopologue_weight es) i set)
      (omega (arith, e.from_above, weight-le-hi_total set (All-tail (IsIsotopologue es) i set all)))

  pub lo_total-le-hi_total : (set : List (List (List ℕ))) → All (IsIsotopologue es) set →
      lo_total es set ≤ sum_by (hi_of es) set
  lo_total-le-hi_total [] all = omega arith
  lo_total-le-hi_total (i ∷ set) all =
      let e : IsEnclosure (lo_of es i) (hi_of es i) (isotopologue_weight es i) (all_weight es) =
      encloses i (All-head (IsIsotopologue es) i set all) in
      omega (
        arith,
        sum_by-cons (hi_of es) i set,
        sum_by-cons (lo_of es) i set,
        e.ordered,
        lo_total-le-hi_total set (All-tail (IsIsotopologue es) i set all),
      )

  -- the upper bounds are above the lower ones by at most the width for each
  pub hi_total-le : (set : List (List (List ℕ))) → All (IsIsotopologue es) set →
      sum_by (hi_of es) set ≤ lo_total es set + length set * width_of es
  hi_total-le [] all = omega arith
  hi_total-le (i ∷ set) all =
      omega (
        arith,
        sum_by-cons (hi_of es) i set,
        sum_by-cons (lo_of es) i set,
        isotopologue-width es ok.weights i (All-head (IsIsotopologue es) i set all),
        hi_total-le set (All-tail (IsIsotopologue es) i set all),
      )
