-- For private contracts and proofs: how the numbers of a record are held while it is read.
use Rattle.std.specs.Prelude.{ℕ, ◌≤◌, List, [], ◌∷◌, All}
use Rattle.element_table.specs.Limits.{full_abundance}
use Rattle.element_table.specs.TableRows.{Row}
use Rattle.element_table.specs.TableText as text
use Rattle.element_table.specs.declared.row.Version.{Version}
use Rattle.element_table.specs.declared.row.Version.TheVariants.{One, Two}
use Rattle.element_table.specs.declared.tracer.TracerRow.{TracerRow}
use Rattle.element_table.specs.declared.row.Numbers.{Numbers}
use Rattle.element_table.specs.declared.row.Ranges.{Ranges}
use Rattle.element_table.specs.declared.row.RowFields.{RowFields}

-- the ranges that they are read in
abbrev pub ranges_of : Ranges → text.Ranges
ranges_of r = record {
  number_from = r.number_from;
  number_to = r.number_to;
  mass_from = r.mass_from;
  mass_to = r.mass_to;
  weight_to = r.weight_to;
  valence_to = r.valence_to;
}

-- the row of a symbol and the numbers read
abbrev pub row_with : List ℕ → Numbers → Row
row_with symbol n = record { symbol = symbol; number = n.number; mass = n.mass; weight = n.weight; valence = n.valence }

-- the five fields of a record
abbrev pub fields_of : RowFields → List (List ℕ)
fields_of f = f.symbol.now ∷ f.number.now ∷ f.mass.now ∷ f.abundance.now ∷ f.valence.now ∷ []

-- the decimals of an abundance in a version
abbrev pub decimals_of : Version → ℕ
decimals_of One = 9
decimals_of Two = 12

-- no row has a weight above that of an abundance of 1
abbrev pub AreTracerRows : List TracerRow → Type 0
AreTracerRows rows = All (λ row. row.weight ≤ full_abundance) rows
