-- A table over which the alphabet of made peaks is read has its elements.
use Rattle.std.proofs.Common.{◌≡◌, ℕ, Bool, true, false, cond, List, [], ◌∷◌, ◌++◌, refl, sym, ap, ◌∙◌}
use Rattle.std.specs.Prelude.{None, Result, Ok, Err, codes, is_some, IsTrue}
use Rattle.std.specs.List.{AllByRecursion}
use Rattle.std.proofs.lemmas.List.Elements.{All-from_recursion}
use Rattle.element_table.specs.Elements.{TableEntries}
use Rattle.written_items.specs.declared.item.Item.{Item}
use Rattle.written_items.specs.LeadingItems.{leading_item}
use Rattle.written_items.specs.RowReading.{row_after, row_of}
use Rattle.written_items.specs.WrittenRows.{WrittenPart}
use Rattle.formula_text.specs.Masses.{HasItems, item_isotope}
use Rattle.alphabet_text.specs.AlphabetAnswers.{alphabet_of, range_tail, row_answer, unless_faults}
use Rattle.alphabet_text.specs.AlphabetReadings.{alphabet_in, row_faults}
use Rattle.alphabet_text.specs.declared.entries.AlphabetEntry.{AlphabetEntry}
use Rattle.alphabet_text.specs.declared.fault.AlphabetFault.{AlphabetFault}
use Rattle.alphabet_text.specs.declared.fault.AlphabetFault.TheVariants.{UnknownSymbol}
use Rattle.peak_generator.specs.MadeFormulas.{element, element_counts}
use Rattle.ranking_reports.specs.Answers.{made_alphabet}

abbrev made_row : List WrittenPart
made_row =
    record { item = record { symbol = codes "C"; digits = None }; tail = [] }
    ∷ record { item = record { symbol = codes "H"; digits = None }; tail = [] }
    ∷ record { item = record { symbol = codes "N"; digits = None }; tail = [] }
    ∷ record { item = record { symbol = codes "O"; digits = None }; tail = [] } ∷ []

row-made : row_of range_tail made_alphabet ≡ Ok made_row
unfolding row_after leading_item
row-made = refl

-- whether the table has an element
abbrev has : TableEntries → List ℕ → Bool
has table symbol = is_some (item_isotope table (element symbol))

-- the faults of the row, by whether the table has its elements
abbrev fault_if : Bool → ℕ → List AlphabetFault
fault_if known at = (cond known [] (UnknownSymbol at ∷ []) ++ []) ++ []

abbrev told : Bool → Bool → Bool → Bool → List AlphabetFault
told c h n o = (fault_if c 0 ++ (fault_if h 1 ++ (fault_if n 2 ++ (fault_if o 3 ++ [])))) ++ []

faults-made : (table : TableEntries) → row_faults table made_row ≡
    told (has table (codes "C")) (has table (codes "H")) (has table (codes "N")) (has table (codes "O"))
faults-made table = refl

all_known : (c h n o : Bool) (read alphabet : List AlphabetEntry) → unless_faults (told c h n o) read ≡ Ok alphabet →
    (c ≡ true) × (h ≡ true) × (n ≡ true) × (o ≡ true)
all_known true true true true read alphabet is = (refl, refl, refl, refl)
all_known true true true false read alphabet is = absurd (cc)
all_known true true false o read alphabet is = absurd (cc)
all_known true false n o read alphabet is = absurd (cc)
all_known false h n o read alphabet is = absurd (cc)

-- where the alphabet is read the table has carbon, hydrogen, nitrogen and oxygen
pub known-made : (table : TableEntries) (alphabet : List AlphabetEntry) → alphabet_of table made_alphabet ≡ Ok alphabet →
    HasItems table (element_counts 1 1 1 1)
known-made table alphabet is =
    let known = all_known (has table (codes "C")) (has table (codes "H")) (has table (codes "N")) (has table (codes "O"))
    (alphabet_in table made_row) alphabet
    (ap (λ fs. unless_faults fs (alphabet_in table made_row)) (sym (faults-made table))
    ∙ ap (row_answer table) (sym row-made) ∙ is) in
    let there : Item × ℕ → Type 0 = λ p. IsTrue (is_some (item_isotope table p.0)) in
    All-from_recursion there (element_counts 1 1 1 1) (known.0, (known.1, (known.2, (known.3, tt))))
