-- Adduct texts. A text is the list of its bytes, and a place in it is the number of bytes before it.
--     adduct = "M" | "[" copies? "M" term term .. "]" charge     no term or more
--     term   = sign coefficient? part part ..                    one or more parts
--     part   = symbol count?
--     charge = number? sign
--     sign   = "+" | "-"
-- Copies, a coefficient, a count and a number are one or more digits each.
use Rattle.std.specs.Prelude.{ℕ, ◌≡◌, ◌<◌, Bool, ◌==◌, ◌||◌, List, [], ◌∷◌, ◌++◌, length, All, IsTrue, Option, Some, None, IfSome}
use Rattle.std.specs.List.{flat_map}
use Rattle.written_items.specs.Items.{opening_bracket, closing_bracket}
use Rattle.written_items.specs.WrittenItems.{are_digits}
use Rattle.written_items.specs.WrittenRows.{WrittenPart, row_text, IsPart, IsCountTail}

-- the bytes `M`, `+` and `-`
abbrev pub letter_m : ℕ
letter_m = 77

abbrev pub plus : ℕ
plus = 43

abbrev pub minus : ℕ
minus = 45

abbrev pub is_sign : ℕ → Bool
is_sign byte = (byte == plus) || (byte == minus)

-- a term: its sign, the digits of its coefficient, and symbols with the digits of their counts
pub record WrittenTerm : Type 0 where
  pub sign : ℕ
  pub coefficient : List ℕ
  pub row : List WrittenPart

-- a symbol without brackets, and the digits of its count, if it has any
pub record IsPlainPart (part : WrittenPart) : Type 0 where
  pub is : IsPart IsCountTail part
  pub plain : part.item.digits ≡ None

-- a term of the grammar; it may have no coefficient
pub record IsTerm (term : WrittenTerm) : Type 0 where
  pub sign : IsTrue (is_sign term.sign)
  pub coefficient : IsTrue (are_digits term.coefficient)
  pub some : 0 < length term.row
  pub row : All IsPlainPart term.row

-- an adduct in brackets: the digits of its copies, its terms, the digits of its charge and the sign of that
pub record WrittenIon : Type 0 where
  pub copies : List ℕ
  pub terms : List WrittenTerm
  pub charge : List ℕ
  pub sign : ℕ

-- an adduct in brackets of the grammar; its copies and its charge may have no digit
pub record IsWrittenIon (ion : WrittenIon) : Type 0 where
  pub copies : IsTrue (are_digits ion.copies)
  pub terms : All IsTerm ion.terms
  pub charge : IsTrue (are_digits ion.charge)
  pub sign : IsTrue (is_sign ion.sign)

abbrev pub term_text : WrittenTerm → List ℕ
term_text term = term.sign ∷ (term.coefficient ++ row_text term.row)

abbrev pub ion_text : WrittenIon → List ℕ
ion_text ion =
    opening_bracket ∷ (ion.copies ++ (letter_m ∷ (flat_map term_text ion.terms
    ++ (closing_bracket ∷ (ion.charge ++ (ion.sign ∷ []))))))

-- the text of an adduct as it is written: the neutral one, `M`, or one in brackets
abbrev pub adduct_text : Option WrittenIon → List ℕ
adduct_text None = letter_m ∷ []
adduct_text (Some ion) = ion_text ion

-- the text is this adduct
pub record IsAdductOf (adduct : Option WrittenIon) (text : List ℕ) : Type 0 where
  pub is : IfSome adduct IsWrittenIon
  pub spelled : text ≡ adduct_text adduct

-- the text is one of the grammar
abbrev pub IsAdductText : List ℕ → Type 0
IsAdductText text = (adduct : Option WrittenIon) × IsAdductOf adduct text
