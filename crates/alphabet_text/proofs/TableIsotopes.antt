-- The isotopes of a table: their masses and their mass numbers.
use Rattle.std.proofs.Common.{◌≡◌, ℕ, ◌<◌, ◌⊎◌, Bool, true, false, cond, ◌==◌, List, [], ◌∷◌, refl, sym, ap, subst, ◌∙◌}
use Rattle.std.proofs.Common.{arith, inl, inr}
use Rattle.std.specs.Prelude.{Option, Some, None, All, IfSome, find}
use Rattle.std.specs.Option.{option_copied}
use Rattle.std.specs.List.{AllByRecursion}
use Rattle.std.proofs.lemmas.List.Elements.{recursion_from_All}
use Rattle.std.proofs.lemmas.Bool.{ne_eqb}
use Rattle.element_table.specs.declared.element.Isotope.{Isotope}
use Rattle.element_table.specs.Elements.{IsIsotope, IsElement, IsTable, ElementEntry, TableEntries, isotope_of}
use Rattle.element_table.specs.Elements.{element_of}
use Rattle.alphabet_text.specs.Alphabets.{IsMassOfIsotope}
use denote.Ref.{Bor}

-- what is found among elements that have a property has it
found : {X : Type 0} (P : X → Type 0) (p : X → Bool) (xs : List X) (x : X) → AllByRecursion P xs → find p xs ≡ Some x
    → P x
found P p [] x h e = cc
found {X} P p (y ∷ ys) x h e =
    elim (p y) as (λ b. cond b (Some y) (find p ys) ≡ Some x → P x) [
      | true ↦ λ e. let same : y ≡ x = cc in subst P same h.0
      | false ↦ λ e. found P p ys x h.1 e
    ] e

pub found_isotope : (is : List Isotope) (number : ℕ) (i : Isotope) → All IsIsotope is → isotope_of is number ≡ Some i
    → IsIsotope i
found_isotope is number i h e = found IsIsotope (λ j. j.number == number) is i (recursion_from_All IsIsotope is h) e

pub mass-found : (is : List Isotope) (number : ℕ) (o : Option (Bor Isotope)) → All IsIsotope is
    → option_copied o ≡ isotope_of is number
    → IfSome o (λ i. IsMassOfIsotope i.now.mass)
mass-found is number None h e = tt
mass-found is number (Some i) h e =
    let isotope = found_isotope is number i.now h (sym e) in record { from = isotope.mass_from; to = isotope.mass_to }

-- the element that a table has of a symbol is one
pub found_element : (table : TableEntries) (symbol : List ℕ) (e : ElementEntry) → IsTable table
    → element_of table symbol ≡ Some e → IsElement e
found_element table symbol e h is =
    found IsElement _ table.elements e (recursion_from_All IsElement table.elements h.elements) is

-- a mass number that no isotope may have
abbrev pub IsNoNumber : ℕ → Type 0
IsNoNumber number = (number ≡ 0) ⊎ (400 < number)

none_of_number : (is : List Isotope) (number : ℕ) → IsNoNumber number → AllByRecursion IsIsotope is
    → isotope_of is number ≡ None
none_of_number [] number far h = refl
none_of_number (i ∷ is) number far h =
    let from = h.0.number_from in
    let to = h.0.number_to in
    let other : i.number ≡ number → ⊥ =
    λ same. elim far [ inl z ↦ omega (arith, same, z, from) | inr f ↦ omega (arith, same, f, to) ] in
    ap (λ b. cond b (Some i) (isotope_of is number)) (ne_eqb i.number number other) ∙ none_of_number is number far h.1

pub isotope_of-none : (is : List Isotope) (number : ℕ) → IsNoNumber number → All IsIsotope is
    → isotope_of is number ≡ None
isotope_of-none is number far h = none_of_number is number far (recursion_from_All IsIsotope is h)
