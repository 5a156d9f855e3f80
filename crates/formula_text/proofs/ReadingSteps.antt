-- One step of reading a formula text: the part that the rest begins with, and what is read behind it.
use Rattle.std.proofs.Common.{◌≡◌, ℕ, ◌+◌, ◌<◌, ◌≤◌, List, [], ◌∷◌, ◌++◌, length, drop, refl, sym, ap, subst, ◌∙◌}
use Rattle.std.proofs.Common.{arith, append_assoc, append-nil, length-append}
use Rattle.std.specs.Prelude.{Result, Ok, Err}
use Rattle.written_items.specs.declared.item.LeadingItem.{LeadingItem}
use Rattle.written_items.specs.declared.item.BadItem.{BadItem}
use Rattle.written_items.specs.WrittenItems.{item_value}
use Rattle.written_items.specs.WrittenRows.{WrittenPart, part_text, IsCountTail}
use Rattle.written_items.specs.RowReading.{leading_part, row_with, row_of, count_tail}
use Rattle.written_items.proofs.RowLaws.{row_or, row_of-next, row_of-empty, row_of-Err, part-leading, part-some}
use Rattle.written_items.proofs.CountTails.{counts-read}
use Rattle.formula_text.specs.declared.fault.FormulaFault.{FormulaFault}
use Rattle.formula_text.specs.declared.fault.FormulaFault.TheVariants.{BadText}
use Rattle.formula_text.specs.declared.read.ReadPart.{ReadPart}
use Rattle.formula_text.specs.FormulaReader.{count_value, part_answer, part_value, values_or_fault}

-- parts before what is kept behind them
abbrev pub values_before : List ReadPart → Result (List ReadPart) FormulaFault → Result (List ReadPart) FormulaFault
values_before parts (Ok more) = Ok (parts ++ more)
values_before parts (Err fault) = Err fault

pub values_before-append : (parts more : List ReadPart) (r : Result (List ReadPart) FormulaFault)
    → values_before parts (values_before more r) ≡ values_before (parts ++ more) r
values_before-append parts more (Ok rest) = ap Ok (sym (append_assoc parts more rest))
values_before-append parts more (Err fault) = refl

-- the next part, of which this is told, and what is kept from there on
pub record NextPart (at : ℕ) (text : List ℕ) (told : LeadingItem × ℕ × ℕ) : Type 0 where
  pub some : 0 < told.2
  pub within : told.2 ≤ length text
  pub next : values_or_fault at (row_of count_tail text)
      ≡ values_before (record { at = at; item = told.0; count = told.1 } ∷ [])
      (values_or_fault (at + told.2) (row_of count_tail (drop told.2 text)))

values-with : (at : ℕ) (part : WrittenPart) (r : Result (List WrittenPart) ℕ)
    → values_or_fault at (row_with part r)
    ≡ values_before (part_value at part ∷ []) (values_or_fault (at + length (part_text part)) r)
values-with at part (Ok row) = refl
values-with at part (Err place) =
    let same : at + (length (part_text part) + place)
    ≡ at + length (part_text part) + place = omega arith in ap (λ n. Err (BadText n)) same

read_next : (text : List ℕ) → 0 < length text
    → row_of count_tail text ≡ row_or count_tail text (leading_part count_tail text)
read_next = row_of-next IsCountTail count_tail counts-read

told-next : (at : ℕ) (text : List ℕ) (part : WrittenPart) → 0 < length text → leading_part count_tail text ≡ Ok part
    → NextPart at text (item_value part.item, count_value part.tail, length (part_text part))
told-next at text part some read =
    let leading = part-leading IsCountTail count_tail counts-read text part read in
    let size : length text ≡ length (part_text part) + length leading.rest =
    ap length leading.spelled ∙ length-append (part_text part) leading.rest in
    record {
      some = part-some IsCountTail part leading.is;
      within = omega arith;
      next =
          ap (values_or_fault at) (read_next text some ∙ ap (row_or count_tail text) read)
          ∙ values-with at part (row_of count_tail (drop (length (part_text part)) text));
    }

same_told : (a b : LeadingItem × ℕ × ℕ) (r : Result (LeadingItem × ℕ × ℕ) BadItem) → r ≡ Ok a → r ≡ Ok b → a ≡ b
same_told a b r d e = cc

same_bad : (a b : BadItem) (r : Result (LeadingItem × ℕ × ℕ) BadItem) → r ≡ Err a → r ≡ Err b → a ≡ b
same_bad a b r d e = cc

not_both : (told : LeadingItem × ℕ × ℕ) (bad : BadItem) (r : Result (LeadingItem × ℕ × ℕ) BadItem) → r ≡ Ok told
    → r ≡ Err bad → ⊥
not_both told bad r d e = cc

told-is : (at : ℕ) (text : List ℕ) (told : LeadingItem × ℕ × ℕ) (r : Result WrittenPart ℕ) → 0 < length text
    → leading_part count_tail text ≡ r → part_answer r ≡ Ok told → NextPart at text told
told-is at text told (Ok part) some read e =
    subst (NextPart at text) (same_told (item_value part.item, count_value part.tail, length (part_text part)) told
    (part_answer (Ok part)) refl e) (told-next at text part some read)
told-is at text told (Err place) some read e =
    absurd (not_both told (record { at = place }) (part_answer (Err place)) e refl)

pub next_part : (at : ℕ) (text : List ℕ) (told : LeadingItem × ℕ × ℕ) → 0 < length text
    → part_answer (leading_part count_tail text) ≡ Ok told → NextPart at text told
next_part at text told some e = told-is at text told (leading_part count_tail text) some refl e

-- or the place of bad text
pub record BadPart (at : ℕ) (text : List ℕ) (bad : BadItem) : Type 0 where
  pub within : bad.at ≤ length text
  pub fault : values_or_fault at (row_of count_tail text) ≡ Err (BadText (at + bad.at))

bad-is : (at : ℕ) (text : List ℕ) (bad : BadItem) (r : Result WrittenPart ℕ) → 0 < length text
    → leading_part count_tail text ≡ r → part_answer r ≡ Err bad → BadPart at text bad
bad-is at text bad (Ok part) some read e =
    absurd (not_both (item_value part.item, count_value part.tail, length (part_text part)) bad
    (part_answer (Ok part)) refl e)
bad-is at text bad (Err place) some read e =
    let same = same_bad (record { at = place }) bad (part_answer (Err place)) refl e in
    let row : row_of count_tail text ≡ Err place = read_next text some ∙ ap (row_or count_tail text) read in
    let here = row_of-Err IsCountTail count_tail counts-read text place row in
    subst (BadPart at text) same (record { within = here.within; fault = ap (values_or_fault at) row })

pub bad_part : (at : ℕ) (text : List ℕ) (bad : BadItem) → 0 < length text
    → part_answer (leading_part count_tail text) ≡ Err bad → BadPart at text bad
bad_part at text bad some e = bad-is at text bad (leading_part count_tail text) some refl e

-- no part is left at the end
pub values-end : (at : ℕ) (text : List ℕ) (parts : List ReadPart) → length text ≤ 0
    → values_before parts (values_or_fault at (row_of count_tail text)) ≡ Ok parts
values-end at [] parts h =
    ap (λ r. values_before parts (values_or_fault at r)) (row_of-empty count_tail) ∙ ap Ok (append-nil parts)
values-end at (b ∷ text) parts h = absurd (omega arith)
