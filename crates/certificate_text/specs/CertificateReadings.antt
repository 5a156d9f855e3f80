-- What the lines of a certificate's text are read as with a table: the certificate whose text they are, or the first
-- fault. Lines are numbered from 1; a line's place is the number of lines before it.
use Rattle.std.specs.Prelude.{ℕ, ◌+◌, ◌≡◌, ◌<◌, ◌⊎◌, Bool, true, false, ◌==◌, List, [], ◌∷◌, ◌++◌, length, take, drop}
use Rattle.std.specs.Prelude.{map, All, IsFalse, Option, Some, None, option_map, Result, Ok, Err, if◌then◌else◌}
use Rattle.std.specs.Prelude.{slice_index_or}
use Rattle.std.specs.List.{list_any}
use Rattle.std.specs.Option.{option_or}
use Rattle.std.specs.Str.{bytes_eq}
use Rattle.fixed_decimal.specs.Decimal.{whole_number}
use Rattle.reader_answers.specs.Answers.{or_fault, ◌>>=◌}
use Rattle.element_table.specs.Elements.{TableEntries}
use Rattle.written_items.specs.declared.item.Item.{Item}
use Rattle.formula_text.specs.FormulaReader.{read_of}
use Rattle.certificate_text.specs.Certificates.{CertLineEntry, CertificateEntries}
use Rattle.certificate_text.specs.CertificateLines.{title, formula_word, coverage_word, size_word, bound_word}
use Rattle.certificate_text.specs.CertificateLines.{threshold_word, cover_word, layer_word, end_line, most_number}
use Rattle.certificate_text.specs.CertificateLines.{listed_line, behind}
use Rattle.certificate_text.specs.declared.fault.CertificateFault.{CertificateFault}
use Rattle.certificate_text.specs.declared.fault.CertificateFault.TheVariants.{BadLine, FormulaLine, NumberLine}
use Rattle.certificate_text.specs.declared.fault.CertificateFault.TheVariants.{EndMissing}

-- the text says this number: one or more digits, which spell it, and it is at most 10^18
abbrev pub SaysNumber : List ℕ → ℕ → Type 0
SaysNumber text number = whole_number most_number text ≡ Some number

-- The lines are those of this certificate: six lines with the formula and the numbers, a line for each listed
-- isotopologue, the line `end`, and then empty lines, if any.
pub record IsCertificate (table : TableEntries) (file : List (List ℕ)) (value : CertificateEntries) : Type 0 where
  pub formula : List ℕ
  pub coverage : List ℕ
  pub size : List ℕ
  pub bound : List ℕ
  pub threshold : List ℕ
  pub empty : List (List ℕ)
  pub spelled : file ≡ title ∷ (formula_word ++ formula) ∷ (coverage_word ++ coverage) ∷ (size_word ++ size)
      ∷ (bound_word ++ bound) ∷ (threshold_word ++ threshold) ∷ (map listed_line value.lines ++ end_line ∷ empty)
  pub formula_is : read_of table formula ≡ Ok value.formula
  pub coverage_is : SaysNumber coverage value.coverage
  pub size_is : SaysNumber size value.size
  pub bound_is : SaysNumber bound value.bound
  pub threshold_is : SaysNumber threshold value.threshold
  pub are_empty : All (λ line. line ≡ []) empty

-- the text behind the word with which the line of this number begins
abbrev pub worded : ℕ → List ℕ → List ℕ → Result (List ℕ) CertificateFault
worded number word line = or_fault (BadLine number) (behind word line)

-- the formula that a reader gives; any fault of its text is one of the line
abbrev pub accepted : {A E : Type 0} → Result A E → Result A CertificateFault
accepted (Ok value) = Ok value
accepted (Err e) = Err FormulaLine

-- the formula of the second line
abbrev pub formula_line : TableEntries → List ℕ → Result (List (Item × ℕ)) CertificateFault
formula_line table line = worded 2 formula_word line >>= λ text. accepted (read_of table text)

-- the number of the line of this number that begins with a word
abbrev pub number_line : ℕ → List ℕ → List ℕ → Result ℕ CertificateFault
number_line number word line =
    worded number word line >>= λ text. or_fault (NumberLine number) (whole_number most_number text)

-- the isotopologue that a line lists, with its mark
abbrev pub entry_with : Bool → List ℕ → CertLineEntry
entry_with marked text = record { marked = marked; text = text }

abbrev pub listed_entry : List ℕ → Option CertLineEntry
listed_entry line =
    option_or (option_map (entry_with true) (behind cover_word line))
    (option_map (entry_with false) (behind layer_word line))

-- the same of the line of this number
abbrev pub entry_line : ℕ → List ℕ → Result CertLineEntry CertificateFault
entry_line number line = or_fault (BadLine number) (listed_entry line)

-- whether a line is `end`, and whether that stands among the first lines of a file, from the seventh on
abbrev pub is_end : List ℕ → Bool
is_end line = bytes_eq line end_line

abbrev pub has_ended : List (List ℕ) → Bool
has_ended first = list_any is_end (drop 6 first)

-- the fault that an answer is, if it is one
abbrev pub fault_in : {A : Type 0} → Result A CertificateFault → Option CertificateFault
fault_in (Ok value) = None
fault_in (Err told) = Some told

-- what is wrong with the line of this number, if anything is; `ended` tells whether `end` stands before it
abbrev pub line_fault : TableEntries → ℕ → Bool → List ℕ → Option CertificateFault
line_fault table number ended line =
    if number == 1 then (if bytes_eq line title then None else Some (BadLine 1))
    else (if number == 2 then fault_in (formula_line table line)
    else (if number == 3 then fault_in (number_line 3 coverage_word line)
    else (if number == 4 then fault_in (number_line 4 size_word line)
    else (if number == 5 then fault_in (number_line 5 bound_word line)
    else (if number == 6 then fault_in (number_line 6 threshold_word line)
    else (if ended then (if length line == 0 then None else Some (BadLine number))
    else (if is_end line then None else fault_in (entry_line number line))))))))

-- the same of the line at a place of a file
abbrev pub fault_at : TableEntries → List (List ℕ) → ℕ → Option CertificateFault
fault_at table file place =
    line_fault table (place + 1) (has_ended (take place file)) (slice_index_or file place [])

-- no line has a fault
abbrev pub IsRight : TableEntries → List (List ℕ) → Type 0
IsRight table file = (place : ℕ) → place < length file → fault_at table file place ≡ None

-- the line at some place has this fault, and none before it has one
pub record IsFirstFault (table : TableEntries) (file : List (List ℕ)) (told : CertificateFault) : Type 0 where
  pub place : ℕ
  pub within : place < length file
  pub here : fault_at table file place ≡ Some told
  pub before : (other : ℕ) → other < place → fault_at table file other ≡ None

-- no line has a fault, and the lines run out before `end`
pub record LacksEnd (table : TableEntries) (file : List (List ℕ)) (told : CertificateFault) : Type 0 where
  pub right : IsRight table file
  pub open_end : IsFalse (has_ended file)
  pub is : told ≡ EndMissing

-- what reading a certificate's text answers
abbrev pub Answer : Type 0
Answer = Result CertificateEntries CertificateFault

-- what the lines of a file are read as: the certificate whose lines they are, or the first fault
abbrev pub CertificateReading : TableEntries → List (List ℕ) → Answer → Type 0
CertificateReading table file (Ok value) = IsCertificate table file value
CertificateReading table file (Err told) = IsFirstFault table file told ⊎ LacksEnd table file told
