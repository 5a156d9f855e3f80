-- No isotope of a table is heavier than 400 Da.
use Rattle.std.proofs.Common.{◌≡◌, ℕ, ◌≤◌, true, false, cond, List, [], ◌∷◌, subst}
use Rattle.std.specs.Prelude.{Some, All, ◌==◌}
use Rattle.std.specs.List.{AllByRecursion}
use Rattle.std.proofs.lemmas.List.Elements.{recursion_from_All}
use Rattle.element_table.specs.declared.element.Isotope.{Isotope}
use Rattle.element_table.specs.Elements.{IsIsotope, isotope_of}

found-light : (is : List Isotope) (number : ℕ) (i : Isotope) → AllByRecursion IsIsotope is
    → isotope_of is number ≡ Some i → i.mass ≤ 400000000000000
found-light [] number i h e = cc
found-light (j ∷ js) number i h e =
    elim (j.number == number) as (λ b. cond b (Some j) (isotope_of js number) ≡ Some i → i.mass ≤ 400000000000000) [
      | true ↦ λ e. let same : j ≡ i = cc in subst (λ (x : Isotope). x.mass ≤ 400000000000000) same h.0.mass_to
      | false ↦ λ e. found-light js number i h.1 e
    ] e

pub isotope_of-light : (is : List Isotope) (number : ℕ) (i : Isotope) → All IsIsotope is → isotope_of is number ≡ Some i
    → i.mass ≤ 400000000000000
isotope_of-light is number i h = found-light is number i (recursion_from_All IsIsotope is h)
