-- For proofs: the one answer that AdductReading allows, computed from the text byte by byte, and what the code keeps
-- of it. The layers above compute with `adduct_of`.
use Rattle.std.specs.Prelude.{ℕ, ◌+◌, ◌-◌, ◌*◌, ◌^◌, ◌<◌, min, Bool, ◌==◌, ◌&&◌, nat_lt, not, List, [], ◌∷◌, ◌++◌}
use Rattle.std.specs.Prelude.{length, map, filter, is_some, if◌then◌else◌, Option, Some, None, Result, Ok, Err}
use Rattle.std.specs.List.{find}
use Rattle.std.specs.Char.{is_ascii_digit}
use Rattle.element_table.specs.Elements.{TableEntries, element_of}
use Rattle.element_table.specs.SymbolText.{is_capital, is_small}
use Rattle.written_items.specs.declared.item.Item.{Item}
use Rattle.written_items.specs.Items.{opening_bracket, closing_bracket}
use Rattle.written_items.specs.WrittenRows.{WrittenPart, count_of_tail}
use Rattle.formula_text.specs.Formulas.{sum_of}
use Rattle.adducts.specs.declared.fault.AdductFault.{AdductFault}
use Rattle.adducts.specs.declared.fault.AdductFault.TheVariants as fault
use Rattle.adducts.specs.declared.written.TermPart.{TermPart}
use Rattle.adducts.specs.declared.written.WrittenCharge.{WrittenCharge}
use Rattle.adducts.specs.AdductTexts.{WrittenTerm, WrittenIon, letter_m, minus, is_sign, term_text}
use Rattle.adducts.specs.Adducts.{AdductValue}
use Rattle.adducts.specs.AdductReadings.{number_or_one, is_lost, added_counts, lost_counts, copies_of, charge_of, placed_row, faults_of}

-- How far a text was read: nothing; `M`; the copies' first digits; complete terms; the sign of a term and the first
-- digits of its coefficient; complete parts of a term, none or more; the last part of a term, as far as it goes; the
-- charge's first digits; all of it.
pub data Reading : Type 0 where
  Nothing : Reading
  Neutral : Reading
  Copies : List ℕ → Reading
  Terms : List ℕ → List WrittenTerm → Reading
  Coefficient : List ℕ → List WrittenTerm → ℕ → List ℕ → Reading
  Row : List ℕ → List WrittenTerm → WrittenTerm → Reading
  Part : List ℕ → List WrittenTerm → WrittenTerm → List ℕ → List ℕ → Reading
  Charge : List ℕ → List WrittenTerm → List ℕ → Reading
  Whole : WrittenIon → Reading

-- the part of a symbol and the digits of its count
abbrev pub plain_part : List ℕ → List ℕ → WrittenPart
plain_part symbol tail = record { item = record { symbol = symbol; digits = None }; tail = tail }

-- a term with one more part
abbrev pub with_part : WrittenTerm → List ℕ → List ℕ → WrittenTerm
with_part term symbol tail =
    record { sign = term.sign; coefficient = term.coefficient; row = term.row ++ (plain_part symbol tail ∷ []) }

-- a term without parts
abbrev pub new_term : ℕ → List ℕ → WrittenTerm
new_term sign coefficient = record { sign = sign; coefficient = coefficient; row = [] }

-- behind complete terms
abbrev pub step_terms : List ℕ → List WrittenTerm → ℕ → Option Reading
step_terms copies terms byte =
    if is_sign byte then Some (Coefficient copies terms byte [])
    else (if byte == closing_bracket then Some (Charge copies terms []) else None)

-- behind complete parts of a term
abbrev pub step_row : List ℕ → List WrittenTerm → WrittenTerm → ℕ → Option Reading
step_row copies terms term byte =
    if is_capital byte then Some (Part copies terms term (byte ∷ []) [])
    else (if nat_lt 0 (length term.row) then step_terms copies (terms ++ (term ∷ [])) byte else None)

-- what is read with one more byte, if the text can go on with it
abbrev pub step : Reading → ℕ → Option Reading
step Nothing byte =
    if byte == letter_m then Some Neutral else (if byte == opening_bracket then Some (Copies []) else None)
step Neutral byte = None
step (Copies copies) byte =
    if is_ascii_digit byte then Some (Copies (copies ++ (byte ∷ [])))
    else (if byte == letter_m then Some (Terms copies []) else None)
step (Terms copies terms) byte = step_terms copies terms byte
step (Coefficient copies terms sign coefficient) byte =
    if is_ascii_digit byte then Some (Coefficient copies terms sign (coefficient ++ (byte ∷ [])))
    else step_row copies terms (new_term sign coefficient) byte
step (Row copies terms term) byte = step_row copies terms term byte
step (Part copies terms term symbol tail) byte =
    if is_ascii_digit byte then Some (Part copies terms term symbol (tail ++ (byte ∷ [])))
    else (if is_small byte && nat_lt (length symbol) 3 && (length tail == 0)
    then Some (Part copies terms term (symbol ++ (byte ∷ [])) tail)
    else step_row copies terms (with_part term symbol tail) byte)
step (Charge copies terms number) byte =
    if is_ascii_digit byte then Some (Charge copies terms (number ++ (byte ∷ [])))
    else (if is_sign byte
    then Some (Whole (record { copies = copies; terms = terms; charge = number; sign = byte })) else None)
step (Whole ion) byte = None

-- what was read where the text ends at a place
abbrev pub at_end : Reading → ℕ → Result (Option WrittenIon) ℕ
at_end Neutral at = Ok None
at_end (Whole ion) at = Ok (Some ion)
at_end other at = Err at

-- the rest of a text, which begins at a place, behind what was read: the adduct, or the place of bad text
abbrev pub read_on : Option Reading → ℕ → (Reading → Result (Option WrittenIon) ℕ) → Result (Option WrittenIon) ℕ
read_on None at next = Err at
read_on (Some reading) at next = next reading

unfoldable pub read_from : List ℕ → Reading → ℕ → Result (Option WrittenIon) ℕ
read_from [] reading at = at_end reading at
read_from (byte ∷ rest) reading at = read_on (step reading byte) at (λ next. read_from rest next (at + 1))

-- the adduct that is written
abbrev pub adduct_in : Option WrittenIon → AdductValue
adduct_in written =
    record {
      copies = copies_of written;
      added = sum_of (added_counts written);
      lost = sum_of (lost_counts written);
      charge = charge_of written;
    }

-- an answer unless there is a fault
abbrev pub unless_faults : List AdductFault → AdductValue → Result AdductValue AdductFault
unless_faults [] adduct = Ok adduct
unless_faults (first ∷ faults) adduct = Err first

abbrev pub answer_of : TableEntries → Result (Option WrittenIon) ℕ → Result AdductValue AdductFault
answer_of table (Ok written) = unless_faults (faults_of table written) (adduct_in written)
answer_of table (Err place) = Err (fault.BadText place)

-- the adduct of a text, or its first fault
unfoldable pub adduct_of : TableEntries → List ℕ → Result AdductValue AdductFault
adduct_of table text = answer_of table (read_from text Nothing 0)

-- ---- what the code keeps

-- a number as one of 32 bits, the largest for a greater one
abbrev pub capped : ℕ → ℕ
capped number = min number (2 ^ 32 - 1)

-- of the parts of a term, each with its place
abbrev pub kept_part : WrittenTerm → ℕ × WrittenPart → TermPart
kept_part term p =
    record {
      at = p.0;
      symbol = p.1.item.symbol;
      count = capped (number_or_one term.coefficient * count_of_tail p.1.tail);
      is_lost = is_lost term;
    }

-- of a term's row that begins at a place
abbrev pub kept_row : WrittenTerm → ℕ → List WrittenPart → List TermPart
kept_row term at row = map (kept_part term) (placed_row at row)

-- of terms that begin at a place
abbrev pub kept_terms : ℕ → List WrittenTerm → List TermPart
kept_terms at [] = []
kept_terms at (term ∷ terms) =
    kept_row term (at + 1 + length term.coefficient) term.row ++ kept_terms (at + length (term_text term)) terms

abbrev pub kept_parts : Option WrittenIon → List TermPart
kept_parts None = []
kept_parts (Some ion) = kept_terms (1 + length ion.copies + 1) ion.terms

abbrev pub kept_charge : Option WrittenIon → Option WrittenCharge
kept_charge None = None
kept_charge (Some ion) =
    Some (record { number = capped (number_or_one ion.charge); is_negative = ion.sign == minus })

-- the place of the first part whose symbol the table doesn't have
abbrev pub is_unknown : TableEntries → TermPart → Bool
is_unknown table part = not (is_some (element_of table part.symbol))

abbrev pub unknown_part : TableEntries → List TermPart → Option TermPart
unknown_part table parts = find (is_unknown table) parts

-- the items of the parts that are lost, or of those that are added, with their counts
abbrev pub part_count : TermPart → Item × ℕ
part_count part = (record { symbol = part.symbol; label = 0 }, part.count)
