-- What an adduct's text is read as with a table: the adduct, or the first fault.
use Rattle.std.specs.Prelude.{ℕ, ℤ, pos, ◌-ℤ◌, ◌+◌, ◌*◌, ◌≡◌, ◌⊎◌, Bool, true, not, ◌==◌, ◌&&◌, ◌||◌, nat_le, List, []}
use Rattle.std.specs.Prelude.{◌∷◌, ◌++◌, length, map, filter, slice_get, is_some, if◌then◌else◌, Option, Some, None}
use Rattle.std.specs.Prelude.{Result, Ok, Err}
use Rattle.std.specs.List.{flat_map}
use Rattle.element_table.specs.Elements.{TableEntries, element_of}
use Rattle.reader_answers.specs.BadPlaces.{IsBadPlace}
use Rattle.written_items.specs.declared.item.Item.{Item}
use Rattle.written_items.specs.WrittenItems.{item_of}
use Rattle.written_items.specs.WrittenRows.{WrittenPart, part_text, count_of_tail}
use Rattle.formula_text.specs.Formulas.{AreSums, sum_of, has_many_atoms, has_many_items}
use Rattle.mass_scaling.specs.declared.limits.TheConstants.{MAX_COPIES, MAX_DIVISOR}
use Rattle.adducts.specs.declared.fault.AdductFault.{AdductFault}
use Rattle.adducts.specs.declared.fault.AdductFault.TheVariants as fault
use Rattle.adducts.specs.AdductTexts.{WrittenTerm, WrittenIon, minus, term_text, IsAdductOf, IsAdductText}
use Rattle.adducts.specs.Adducts.{AdductValue}

-- the number that digits spell, and 1 where there are none
abbrev pub number_or_one : List ℕ → ℕ
number_or_one digits = count_of_tail digits

-- the items of a term, each with its count as often as the coefficient says
abbrev pub term_counts : WrittenTerm → List (Item × ℕ)
term_counts term =
    map (λ part. (item_of part.item, number_or_one term.coefficient * count_of_tail part.tail)) term.row

-- whether an ion lacks the atoms of a term, whose sign is then `-`
abbrev pub is_lost : WrittenTerm → Bool
is_lost term = term.sign == minus

abbrev pub terms_of : Option WrittenIon → List WrittenTerm
terms_of None = []
terms_of (Some ion) = ion.terms

-- the items that are added, and those that are lost
abbrev pub added_counts : Option WrittenIon → List (Item × ℕ)
added_counts adduct = flat_map term_counts (filter (λ term. not (is_lost term)) (terms_of adduct))

abbrev pub lost_counts : Option WrittenIon → List (Item × ℕ)
lost_counts adduct = flat_map term_counts (filter is_lost (terms_of adduct))

abbrev pub copies_of : Option WrittenIon → ℕ
copies_of None = 1
copies_of (Some ion) = number_or_one ion.copies

-- the charge: so many of the sign, and none of the neutral adduct
abbrev pub charge_of : Option WrittenIon → ℤ
charge_of None = pos 0
charge_of (Some ion) =
    if ion.sign == minus then pos 0 -ℤ pos (number_or_one ion.charge) else pos (number_or_one ion.charge)

-- whether there are 1 to 30 charges, or the adduct is the neutral one
abbrev pub is_charge_right : Option WrittenIon → Bool
is_charge_right None = true
is_charge_right (Some ion) = nat_le 1 (number_or_one ion.charge) && nat_le (number_or_one ion.charge) MAX_DIVISOR

-- the parts of a row, of a term and of several terms that begin at a place, each with its own place
abbrev pub placed_row : ℕ → List WrittenPart → List (ℕ × WrittenPart)
placed_row at [] = []
placed_row at (part ∷ row) = (at, part) ∷ placed_row (at + length (part_text part)) row

abbrev pub placed_term : ℕ → WrittenTerm → List (ℕ × WrittenPart)
placed_term at term = placed_row (at + 1 + length term.coefficient) term.row

abbrev pub placed_terms : ℕ → List WrittenTerm → List (ℕ × WrittenPart)
placed_terms at [] = []
placed_terms at (term ∷ terms) = placed_term at term ++ placed_terms (at + length (term_text term)) terms

-- the symbols of an adduct's text, each with its place: the terms begin behind `[`, the copies and `M`
abbrev pub placed_parts : Option WrittenIon → List (ℕ × WrittenPart)
placed_parts None = []
placed_parts (Some ion) = placed_terms (1 + length ion.copies + 1) ion.terms

-- the places of the symbols that the table doesn't have
abbrev pub unknown_places : TableEntries → Option WrittenIon → List ℕ
unknown_places table adduct =
    map (λ p. p.0) (filter (λ p. not (is_some (element_of table p.1.item.symbol))) (placed_parts adduct))

-- whether the sums pass a limit, where atoms are added and where atoms are lost
abbrev pub passes : (List (Item × ℕ) → Bool) → Option WrittenIon → Bool
passes limit adduct = limit (sum_of (added_counts adduct)) || limit (sum_of (lost_counts adduct))

-- all faults of a text of the grammar, in their order: symbols that the table doesn't have; too many atoms, too many
-- elements, among those added or those lost; copies that aren't 1 to 4; a charge that isn't 1 to 30
abbrev pub faults_of : TableEntries → Option WrittenIon → List AdductFault
faults_of table adduct =
    map fault.UnknownSymbol (unknown_places table adduct)
    ++ ((if passes has_many_atoms adduct then fault.TooManyAtoms ∷ [] else [])
    ++ ((if passes has_many_items adduct then fault.TooManyElements ∷ [] else [])
    ++ ((if nat_le 1 (copies_of adduct) && nat_le (copies_of adduct) MAX_COPIES then [] else fault.Copies ∷ [])
    ++ (if is_charge_right adduct then [] else fault.Charge ∷ []))))

-- the adduct that is written: the added and the lost atoms are the sums of the counts of each symbol
pub record IsWritten (written : Option WrittenIon) (adduct : AdductValue) : Type 0 where
  pub copies : adduct.copies ≡ copies_of written
  pub added : AreSums (added_counts written) adduct.added
  pub lost : AreSums (lost_counts written) adduct.lost
  pub charge : adduct.charge ≡ charge_of written

-- the text is none of the grammar, and bad at the place that the fault tells
abbrev pub IsGrammarFault : List ℕ → AdductFault → Type 0
IsGrammarFault text (fault.BadText place) = IsBadPlace IsAdductText text place
IsGrammarFault text other = ⊥

-- What reading a text with a table answers: of an adduct of the grammar without fault its value; else the place where
-- the text stops being one of the grammar, or the first fault of the adduct.
abbrev pub AdductReading : TableEntries → List ℕ → Result AdductValue AdductFault → Type 0
AdductReading table text (Ok adduct) = (written : Option WrittenIon) × IsAdductOf written text
    × (faults_of table written ≡ []) × IsWritten written adduct
AdductReading table text (Err fault) = IsGrammarFault text fault
    ⊎ ((written : Option WrittenIon) × IsAdductOf written text
    × (slice_get (faults_of table written) 0 ≡ Some fault))
