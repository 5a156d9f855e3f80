-- For proofs alone: what the readers of the parts of an adduct's text give.
use Rattle.std.specs.Prelude.{ℕ, ◌+◌, ◌*◌, ◌≡◌, ◌<◌, ◌≤◌, false, ◌==◌, List, [], ◌∷◌, ◌++◌, length, drop, map, Option}
use Rattle.std.specs.Prelude.{Some, None, Result, Ok, Err, MatchBool, ⊤}
use Rattle.element_table.specs.SymbolText.{is_capital}
use Rattle.written_items.specs.WrittenItems.{begins}
use Rattle.written_items.specs.WrittenRows.{WrittenPart, row_text, count_of_tail}
use Rattle.std.specs.List.{flat_map}
use Rattle.adducts.specs.declared.fault.AdductFault.{AdductFault}
use Rattle.adducts.specs.declared.fault.AdductFault.TheVariants.{BadText}
use Rattle.adducts.specs.declared.written.TermPart.{TermPart}
use Rattle.adducts.specs.declared.written.WrittenCharge.{WrittenCharge}
use Rattle.adducts.specs.declared.written.WrittenAdduct.{WrittenAdduct}
use Rattle.adducts.specs.declared.written.Factor.{Factor}
use Rattle.adducts.specs.AdductFaults.{is_memory}
use Rattle.adducts.specs.AdductTexts.{WrittenTerm, WrittenIon, minus, is_sign, term_text}
use Rattle.adducts.specs.AdductReadings.{number_or_one, copies_of, placed_row}
use Rattle.adducts.specs.AdductReader.{Reading, Nothing, Terms, Row, Charge, new_term, read_from, capped, kept_terms, kept_parts, kept_charge}

-- the fault is bad text at a place of which P holds, or want of memory
abbrev pub BadAt : (ℕ → Type 0) → AdductFault → Type 0
BadAt P fault = MatchBool (is_memory fault) ⊤ ((place : ℕ) × (fault ≡ BadText place) × P place)

-- the text is read to its end, and this is kept of it
pub record IsKept (text : List ℕ) (kept : WrittenAdduct) : Type 0 where
  pub written : Option WrittenIon
  pub read : read_from text Nothing 0 ≡ Ok written
  pub copies : kept.copies ≡ capped (copies_of written)
  pub parts : kept.parts.items ≡ kept_parts written
  pub charge : kept.charge ≡ kept_charge written

abbrev pub WrittenOr : List ℕ → Result WrittenAdduct AdductFault → Type 0
WrittenOr text (Ok kept) = IsKept text kept
WrittenOr text (Err fault) = BadAt (λ place. read_from text Nothing 0 ≡ Err place) fault

-- a byte stands at the place, or another one or none does
abbrev pub Expects : List ℕ → ℕ → ℕ → Result Unit AdductFault → Type 0
Expects text at byte (Ok u) = (at < length text) × (drop at text ≡ byte ∷ drop (at + 1) text)
Expects text at byte (Err fault) = BadAt (λ place. (place ≡ at) × (begins (λ b. b == byte) (drop at text) ≡ false)) fault

-- the terms from a place on are read up to the next place, and kept behind the older parts
pub record AreTermsTo (text : List ℕ) (at : ℕ) (old new : List TermPart) (next : ℕ) : Type 0 where
  pub terms : List WrittenTerm
  pub within : next ≤ length text
  pub here : next ≡ at + length (flat_map term_text terms)
  pub kept : new ≡ old ++ kept_terms at terms
  pub read : (copies : List ℕ) (before : List WrittenTerm) → read_from (drop at text) (Terms copies before) at ≡ read_from (drop next text) (Terms copies (before ++ terms)) next
  pub all : begins is_sign (drop next text) ≡ false

abbrev pub ReadsTerms : List ℕ → ℕ → List TermPart → List TermPart → Result ℕ AdductFault → Type 0
ReadsTerms text at old new (Ok next) = AreTermsTo text at old new next
ReadsTerms text at old new (Err fault) =
    BadAt (λ place. (copies : List ℕ) (before : List WrittenTerm)
    → read_from (drop at text) (Terms copies before) at ≡ Err place) fault

-- what is kept of a part, where the term's factor is known
abbrev pub kept_by : Factor → ℕ × WrittenPart → TermPart
kept_by factor p =
    record {
      at = p.0;
      symbol = p.1.item.symbol;
      count = capped (factor.coefficient * capped (count_of_tail p.1.tail));
      is_lost = factor.is_lost;
    }

-- a term with these parts
abbrev pub term_with : ℕ → List ℕ → List WrittenPart → WrittenTerm
term_with sign coefficient row = record { sign = sign; coefficient = coefficient; row = row }

-- the parts of a term from a place on are read up to the next place, and kept behind the older parts
pub record IsRowTo (text : List ℕ) (start : ℕ) (factor : Factor) (old new : List TermPart) (next : ℕ) (row : List WrittenPart) : Type 0 where
  pub within : next ≤ length text
  pub here : next ≡ start + length (row_text row)
  pub kept : new ≡ old ++ map (kept_by factor) (placed_row start row)
  pub read : (copies : List ℕ) (before : List WrittenTerm) (sign : ℕ) (coefficient : List ℕ) → read_from (drop start text) (Row copies before (new_term sign coefficient)) start ≡ read_from (drop next text) (Row copies before (term_with sign coefficient row)) next

-- and they are all of them
pub record IsWholeRowTo (text : List ℕ) (start : ℕ) (factor : Factor) (old new : List TermPart) (next : ℕ) : Type 0 where
  pub row : List WrittenPart
  pub some : 0 < length row
  pub is : IsRowTo text start factor old new next row
  pub all : begins is_capital (drop next text) ≡ false

abbrev pub ReadsRow : List ℕ → ℕ → Factor → List TermPart → List TermPart → Result ℕ AdductFault → Type 0
ReadsRow text start factor old new (Ok next) = IsWholeRowTo text start factor old new next
ReadsRow text start factor old new (Err fault) =
    BadAt (λ place. (copies : List ℕ) (before : List WrittenTerm) (sign : ℕ) (coefficient : List ℕ)
    → read_from (drop start text) (Row copies before (new_term sign coefficient)) start ≡ Err place) fault

-- the charge from a place on is read up to the end of the text
pub record IsChargeTo (text : List ℕ) (at : ℕ) (kept : WrittenCharge) : Type 0 where
  pub number : List ℕ
  pub sign : ℕ
  pub count : kept.number ≡ capped (number_or_one number)
  pub negative : kept.is_negative ≡ (sign == minus)
  pub read : (copies : List ℕ) (terms : List WrittenTerm) → read_from (drop at text) (Charge copies terms []) at ≡ Ok (Some (record { copies = copies; terms = terms; charge = number; sign = sign }))

abbrev pub ReadsCharge : List ℕ → ℕ → Result WrittenCharge AdductFault → Type 0
ReadsCharge text at (Ok kept) = IsChargeTo text at kept
ReadsCharge text at (Err fault) =
    BadAt (λ place. (copies : List ℕ) (terms : List WrittenTerm)
    → read_from (drop at text) (Charge copies terms []) at ≡ Err place) fault
