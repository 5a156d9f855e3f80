-- What is wrong with one more isotope of an element, case by case.
use Rattle.std.proofs.Common.{◌≡◌, ℕ, ◌==◌, true, false, length, Some, None, refl}
use Rattle.std.specs.List.{list_any}
use Rattle.std.proofs.lemmas.Bool.{eq-eqb, ne_eqb}
use Rattle.element_table.specs.Elements.{ElementEntry}
use Rattle.element_table.specs.Gathering.{isotope_fault}
use Rattle.element_table.specs.declared.element.Isotope.{Isotope}
use Rattle.element_table.specs.declared.fault.TableFault.TheVariants as fault

module _ (record_number : ℕ) (e : ElementEntry) (valence : ℕ) (isotope : Isotope) where
  pub isotope_fault-valence : (e.valence ≡ valence → ⊥)
      → isotope_fault record_number e valence isotope ≡ Some (fault.Valence record_number)
  isotope_fault-valence differs = rw (ne_eqb e.valence valence differs) refl

  module _ (same : e.valence ≡ valence) where
    pub isotope_fault-repeated : list_any (λ other. other.number == isotope.number) e.isotopes ≡ true
        → isotope_fault record_number e valence isotope ≡ Some (fault.Repeated record_number)
    isotope_fault-repeated found = rw (eq-eqb e.valence valence same, found) refl

    module _ (new : list_any (λ other. other.number == isotope.number) e.isotopes ≡ false) where
      pub isotope_fault-full : length e.isotopes ≡ 16
          → isotope_fault record_number e valence isotope ≡ Some (fault.TooManyIsotopes record_number)
      isotope_fault-full full = rw (eq-eqb e.valence valence same, new, eq-eqb (length e.isotopes) 16 full) refl

      pub isotope_fault-none : (length e.isotopes ≡ 16 → ⊥) → isotope_fault record_number e valence isotope ≡ None
      isotope_fault-none room = rw (eq-eqb e.valence valence same, new, ne_eqb (length e.isotopes) 16 room) refl
