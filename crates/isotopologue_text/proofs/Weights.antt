-- The weights of an element's isotopes that occur are 1 to 16, each from 1 to 10^12.
use Rattle.std.proofs.Common.{◌≡◌, ℕ, ◌<◌, ◌≤◌, true, false, cond, List, [], ◌∷◌, length, map, arith, refl}
use Rattle.std.specs.Prelude.{nat_lt, All}
use Rattle.std.specs.List.{AllByRecursion}
use Rattle.std.proofs.lemmas.Bool.{ltb-true, ltb-false}
use Rattle.std.proofs.lemmas.List.{length-map}
use Rattle.std.proofs.lemmas.List.Sums.{sum_by-cons}
use Rattle.std.proofs.lemmas.List.Elements.{All-from_recursion, recursion_from_All}
use Rattle.multinomial_bounds.specs.Weight.{IsWeights}
use Rattle.element_table.specs.declared.element.Isotope.{Isotope}
use Rattle.element_table.specs.Elements.{IsIsotope, total_weight}
use Rattle.isotopologue_text.specs.Isotopologues.{isotopes_that_occur}

abbrev weights : List Isotope → List ℕ
weights is = map (λ (i : Isotope). i.weight) is

some-occur : (is : List Isotope) → 0 < total_weight is → 1 ≤ length (isotopes_that_occur is)
some-occur [] h = omega arith
some-occur (i ∷ is) h =
    let all = sum_by-cons (λ (j : Isotope). j.weight) i is in
    elim (nat_lt 0 i.weight) as (λ b. nat_lt 0 i.weight ≡ b → 1 ≤ length (cond b (i ∷ isotopes_that_occur is) (isotopes_that_occur is))) [
      | true ↦ λ e. omega arith
      | false ↦ λ e. let none = ltb-false 0 i.weight e in some-occur is (omega arith)
    ] refl

pub few-occur : (is : List Isotope) → length (isotopes_that_occur is) ≤ length is
few-occur [] = omega arith
few-occur (i ∷ is) =
    let fewer = few-occur is in
    elim (nat_lt 0 i.weight) as (λ b. length (cond b (i ∷ isotopes_that_occur is) (isotopes_that_occur is)) ≤ length (i ∷ is)) [
      | true ↦ omega arith
      | false ↦ omega arith
    ]

positive : (is : List Isotope) → AllByRecursion (λ w. 1 ≤ w) (weights (isotopes_that_occur is))
positive [] = tt
positive (i ∷ is) =
    elim (nat_lt 0 i.weight) as (λ b. nat_lt 0 i.weight ≡ b →
    AllByRecursion (λ w. 1 ≤ w) (weights (cond b (i ∷ isotopes_that_occur is) (isotopes_that_occur is)))) [
      | true ↦ λ e. let above = ltb-true 0 i.weight e in (omega arith, positive is)
      | false ↦ λ e. positive is
    ] refl

bounded : (is : List Isotope) → AllByRecursion IsIsotope is → AllByRecursion (λ w. w ≤ 1000000000000) (weights (isotopes_that_occur is))
bounded [] h = tt
bounded (i ∷ is) h =
    let within = h.0.weight_to in
    elim (nat_lt 0 i.weight) as (λ b. AllByRecursion (λ w. w ≤ 1000000000000) (weights (cond b (i ∷ isotopes_that_occur is) (isotopes_that_occur is)))) [
      | true ↦ (omega arith, bounded is h.1)
      | false ↦ bounded is h.1
    ]

pub weights-in-range : (is : List Isotope) → length is ≤ 16 → All IsIsotope is → 0 < total_weight is → IsWeights (weights (isotopes_that_occur is))
weights-in-range is few isotopes weighted =
    let same = length-map (isotopes_that_occur is) (λ (i : Isotope). i.weight) in
    let some = some-occur is weighted in
    let fewer = few-occur is in
    record {
      some = omega arith;
      few = omega arith;
      positive = All-from_recursion (λ w. 1 ≤ w) (weights (isotopes_that_occur is)) (positive is);
      bounded = All-from_recursion (λ w. w ≤ 1000000000000) (weights (isotopes_that_occur is)) (bounded is (recursion_from_All IsIsotope is isotopes));
    }
