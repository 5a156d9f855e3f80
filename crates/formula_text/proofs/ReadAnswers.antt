-- What is kept of a text, the first unknown item and the sum of the items make the answer.
use Rattle.std.proofs.Common.{◌≡◌, ℕ, ◌+◌, ◌<◌, true, false, List, [], ◌∷◌, length, map, refl, sym, ap, subst, ◌∙◌}
use Rattle.std.proofs.Common.{arith}
use Rattle.std.specs.Prelude.{Some, None, Result, Ok, Err, IfOk, MatchBool, ⊤, Bool}
use Rattle.element_table.specs.Elements.{TableEntries, IsTable}
use Rattle.reader_answers.specs.Answers.{unless_fault, Gives}
use Rattle.written_items.specs.declared.item.Item.{Item}
use Rattle.written_items.specs.WrittenRows.{WrittenPart}
use Rattle.written_items.specs.RowReading.{row_of, count_tail}
use Rattle.formula_text.specs.declared.fault.PartsFault.{PartsFault}
use Rattle.formula_text.specs.declared.fault.PartsFault.TheVariants as limit
use Rattle.formula_text.specs.declared.fault.FormulaFault.{FormulaFault}
use Rattle.formula_text.specs.declared.fault.FormulaFault.TheVariants.{BadText, Empty}
use Rattle.formula_text.specs.declared.read.ReadPart.{ReadPart}
use Rattle.formula_text.specs.Formulas.{formula_in, parts_of}
use Rattle.formula_text.specs.Masses.{HasItems}
use Rattle.formula_text.specs.FormulaFaults.{is_memory, is_parts_memory, fault_of}
use Rattle.formula_text.specs.FormulaTexts.{Answer, FormulaReading, counts_of}
use Rattle.formula_text.specs.FormulaReader.{formula_or_fault, row_fault, row_answer, read_of, row_values}
use Rattle.formula_text.specs.FormulaReader.{values_or_fault, values_fault, value_part}
use Rattle.formula_text.proofs.CappedCounts.{parts_of-capped_part}
use Rattle.formula_text.proofs.KeptParts.{values_fault-row, value_parts-row}
use Rattle.formula_text.proofs.FormulaReadings.{row_fault-known, reading-meaning}
use Rattle.formula_text.proofs.KnownItems.{HasItems-read}

-- ---- bad text

same_fault : (a b : FormulaFault) (r : Result (List ReadPart) FormulaFault) → r ≡ Err a → r ≡ Err b → a ≡ b
same_fault a b r d e = cc

no_fault : (parts : List ReadPart) (fault : FormulaFault) (r : Result (List ReadPart) FormulaFault) → r ≡ Ok parts
    → r ≡ Err fault → ⊥
no_fault parts fault r d e = cc

same_parts : (a b : List ReadPart) (r : Result (List ReadPart) FormulaFault) → r ≡ Ok a → r ≡ Ok b → a ≡ b
same_parts a b r d e = cc

bad_row : (table : TableEntries) (r : Result (List WrittenPart) ℕ) (fault : FormulaFault)
    → values_or_fault 0 r ≡ Err fault → row_answer table r ≡ Err fault
bad_row table (Ok row) fault e = absurd (no_fault (row_values 0 row) fault (values_or_fault 0 (Ok row)) refl e)
bad_row table (Err place) fault e =
    let whole : place ≡ 0 + place = omega arith in
    ap (λ n. Err (BadText n)) whole
    ∙ ap Err (same_fault (BadText (0 + place)) fault (values_or_fault 0 (Err place)) refl e)

pub read_of-bad : (table : TableEntries) (text : List ℕ) (fault : FormulaFault)
    → values_or_fault 0 (row_of count_tail text) ≡ Err fault → read_of table text ≡ Err fault
unfolding read_of
read_of-bad table text fault e = bad_row table (row_of count_tail text) fault e

-- what is so where there is memory
pub unless-memory : (b : Bool) (P Q : Type 0) → (P → Q) → MatchBool b ⊤ P → MatchBool b ⊤ Q
unless-memory true P Q f h = tt
unless-memory false P Q f h = f h

pub unless-same : (b : Bool) (P : Type 0) → P → MatchBool b ⊤ P
unless-same true P h = tt
unless-same false P h = h

-- ---- a row

faults_agree : (table : TableEntries) (row : List WrittenPart) → (0 < length (row_values 0 row) → IsTable table)
    → values_fault table (row_values 0 row) ≡ row_fault table 0 row
faults_agree table [] is = refl
faults_agree table (part ∷ row) is = values_fault-row table 0 (part ∷ row) (is (omega arith))

unknown_row : (table : TableEntries) (r : Result (List WrittenPart) ℕ) (parts : List ReadPart) (fault : FormulaFault)
    → values_or_fault 0 r ≡ Ok parts → (0 < length parts → IsTable table) → values_fault table parts ≡ Some fault
    → row_answer table r ≡ Err fault
unknown_row table (Err place) parts fault e is unknown =
    absurd (no_fault parts (BadText (0 + place)) (values_or_fault 0 (Err place)) e refl)
unknown_row table (Ok row) parts fault e is unknown =
    let same : row_values 0 row ≡ parts = same_parts (row_values 0 row) parts (values_or_fault 0 (Ok row)) refl e in
    let agree = faults_agree table row (λ some. is (subst (λ (p : List ReadPart). 0 < length p) same some)) in
    ap (λ o. unless_fault o (formula_or_fault (parts_of (counts_of row)))) (sym agree ∙ ap (values_fault table) same
    ∙ unknown)

pub read_of-unknown : (table : TableEntries) (text : List ℕ) (parts : List ReadPart) (fault : FormulaFault)
    → values_or_fault 0 (row_of count_tail text) ≡ Ok parts → (0 < length parts → IsTable table)
    → values_fault table parts ≡ Some fault → read_of table text ≡ Err fault
unfolding read_of
read_of-unknown table text parts fault e is unknown =
    unknown_row table (row_of count_tail text) parts fault e is unknown

known_row : (table : TableEntries) (r : Result (List WrittenPart) ℕ) (parts : List ReadPart)
    → values_or_fault 0 r ≡ Ok parts → (0 < length parts → IsTable table) → values_fault table parts ≡ None
    → row_answer table r ≡ formula_or_fault (parts_of (map value_part parts))
known_row table (Err place) parts e is known =
    absurd (no_fault parts (BadText (0 + place)) (values_or_fault 0 (Err place)) e refl)
known_row table (Ok row) parts e is known =
    let same : row_values 0 row ≡ parts = same_parts (row_values 0 row) parts (values_or_fault 0 (Ok row)) refl e in
    let agree = faults_agree table row (λ some. is (subst (λ (p : List ReadPart). 0 < length p) same some)) in
    let none : row_fault table 0 row ≡ None = sym agree ∙ ap (values_fault table) same ∙ known in
    ap (λ o. unless_fault o (formula_or_fault (parts_of (counts_of row)))) none
    ∙ ap formula_or_fault (sym (parts_of-capped_part (counts_of row))
    ∙ ap parts_of (sym (value_parts-row table 0 row (row_fault-known table 0 row none)) ∙ ap (map value_part) same))

pub read_of-known : (table : TableEntries) (text : List ℕ) (parts : List ReadPart)
    → values_or_fault 0 (row_of count_tail text) ≡ Ok parts → (0 < length parts → IsTable table)
    → values_fault table parts ≡ None → read_of table text ≡ formula_or_fault (parts_of (map value_part parts))
unfolding read_of
read_of-known table text parts e is known = known_row table (row_of count_tail text) parts e is known

-- ---- the sum

-- a limit that the parts pass is the fault of the text
pub fault_of-parts : (e : PartsFault) (parts : Result (List (Item × ℕ)) PartsFault)
    → Gives is_parts_memory (Err e) parts → Gives is_memory (Err (fault_of e)) (formula_or_fault parts)
fault_of-parts limit.TooManyAtoms parts h = ap formula_or_fault h
fault_of-parts limit.TooManyElements parts h = ap formula_or_fault h
fault_of-parts (limit.Memory e) parts h = tt

pub some_from_parts : (parts f : List (Item × ℕ)) → Some f ≡ formula_in (Ok parts) → formula_or_fault (Ok parts) ≡ Ok f
some_from_parts [] f e = cc
some_from_parts (p ∷ ps) f e = let same : p ∷ ps ≡ f = cc in ap Ok same

pub none_from_parts : (parts : List (Item × ℕ)) → None ≡ formula_in (Ok parts) → formula_or_fault (Ok parts) ≡ Err Empty
none_from_parts [] e = refl
none_from_parts (p ∷ ps) e = cc

-- the table has the items of a formula that is the answer
pub HasItems-answer : (table : TableEntries) (text : List ℕ) (r : Answer) → Gives is_memory r (read_of table text)
    → IfOk r (HasItems table)
HasItems-answer table text (Err fault) h = tt
HasItems-answer table text (Ok f) h =
    let meaning = subst (FormulaReading table text) h (reading-meaning table text) in
    HasItems-read table text f meaning.0 meaning.1

-- the same of slices of what is kept
pub read_of-items : (table : TableEntries) (text : List ℕ) (parts asked counted : List ReadPart)
    (items : List (Item × ℕ)) → values_or_fault 0 (row_of count_tail text) ≡ Ok parts → asked ≡ parts → counted ≡ parts
    → (0 < length asked → IsTable table) → None ≡ values_fault table asked → items ≡ map value_part counted
    → read_of table text ≡ formula_or_fault (parts_of items)
read_of-items table text parts asked counted items e same_asked same_counted is known counts =
    read_of-known table text parts e (λ some. is (subst (λ (p : List ReadPart). 0 < length p) (sym same_asked) some))
    (ap (values_fault table) (sym same_asked) ∙ sym known)
    ∙ ap (λ l. formula_or_fault (parts_of l)) (ap (map value_part) (sym same_counted) ∙ sym counts)
