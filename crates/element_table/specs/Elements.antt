-- Elements and their isotopes, and the table that has them.
use Rattle.std.specs.Prelude.{ℕ, Bool, ◌==◌, ◌≡◌, ◌≤◌, ◌<◌, List, length, map, sum_by, find, position, nat_le}
use Rattle.std.specs.Prelude.{slice_index_or, unwrap_or, Option, IsTrue, All, AllPairs}
use Rattle.std.specs.List.{list_all}
use Rattle.std.specs.List.Sorted.{IsStrictlyIncreasing}
use Rattle.std.specs.Str.{bytes_eq}
use Rattle.element_table.specs.Limits.{full_abundance, max_elements, max_isotopes, max_mass_number, max_valence}
use Rattle.element_table.specs.Limits.{min_isotope_mass, max_isotope_mass, min_electron_mass, max_electron_mass}
use Rattle.element_table.specs.SymbolText.{is_symbol}
use Rattle.element_table.specs.declared.element.Isotope.{Isotope}

-- an element: the letters of its symbol, its valence, its isotopes by rising mass number, and the place of its
-- reference isotope among them
pub record ElementEntry : Type 0 where
  pub symbol : List ℕ
  pub valence : ℕ
  pub isotopes : List Isotope
  pub reference : ℕ

-- a table: the electron's mass in 10^-12 Da, and the elements in the order of their first records
pub record TableEntries : Type 0 where
  pub electron : ℕ
  pub elements : List ElementEntry

-- W, the sum of the weights of an element's isotopes, in units of 10^-12
abbrev pub total_weight : List Isotope → ℕ
total_weight isotopes = sum_by (λ i. i.weight) isotopes

-- the isotope at a place
abbrev pub isotope_at : List Isotope → ℕ → Isotope
isotope_at isotopes place = slice_index_or isotopes place (record { number = 0; mass = 0; weight = 0 })

-- the reference isotope, whose mass is that of an unlabelled atom of the element
abbrev pub reference_isotope : ElementEntry → Isotope
reference_isotope e = isotope_at e.isotopes e.reference

-- whether no isotope has a greater weight than this one
abbrev pub is_greatest : List Isotope → Isotope → Bool
is_greatest isotopes isotope = list_all (λ other. nat_le other.weight isotope.weight) isotopes

-- the place of the first isotope than which none has a greater weight
abbrev pub reference_place : List Isotope → ℕ
reference_place isotopes = unwrap_or (position (is_greatest isotopes) isotopes) 0

-- at the place stands an isotope, none has a greater weight, and none before it has the same
pub record IsReference (isotopes : List Isotope) (place : ℕ) : Type 0 where
  pub within : place < length isotopes
  pub greatest : (k : ℕ) → k < length isotopes → (isotope_at isotopes k).weight ≤ (isotope_at isotopes place).weight
  pub first : (k : ℕ) → k < place → (isotope_at isotopes k).weight < (isotope_at isotopes place).weight

-- the isotope of this mass number, if there is one
abbrev pub isotope_of : List Isotope → ℕ → Option Isotope
isotope_of isotopes number = find (λ i. i.number == number) isotopes

-- the element of this symbol, if the table has it
abbrev pub element_of : TableEntries → List ℕ → Option ElementEntry
element_of table symbol = find (λ e. bytes_eq e.symbol symbol) table.elements

-- an isotope within the limits: a mass of 0.5 to 400 Da, an abundance of at most 1
pub record IsIsotope (i : Isotope) : Type 0 where
  pub number_from : 1 ≤ i.number
  pub number_to : i.number ≤ max_mass_number
  pub mass_from : min_isotope_mass ≤ i.mass
  pub mass_to : i.mass ≤ max_isotope_mass
  pub weight_to : i.weight ≤ full_abundance

-- an element within the limits, its isotopes by rising mass number, one of them the reference isotope
pub record IsElement (e : ElementEntry) : Type 0 where
  pub symbol : IsTrue (is_symbol e.symbol)
  pub valence : e.valence ≤ max_valence
  pub few_isotopes : length e.isotopes ≤ max_isotopes
  pub isotopes : All IsIsotope e.isotopes
  pub rising : IsStrictlyIncreasing (map (λ i. i.number) e.isotopes)
  pub reference : e.reference < length e.isotopes

-- a table within the limits: an electron of 10^-12 to 0.001 Da, at most 120 elements, no symbol
-- twice, and in each element an isotope that occurs
pub record IsTable (t : TableEntries) : Type 0 where
  pub electron_from : min_electron_mass ≤ t.electron
  pub electron_to : t.electron ≤ max_electron_mass
  pub few_elements : length t.elements ≤ max_elements
  pub elements : All IsElement t.elements
  pub weighted : All (λ e. 0 < total_weight e.isotopes) t.elements
  pub distinct : AllPairs (λ a b. a.symbol ≡ b.symbol → ⊥) t.elements
