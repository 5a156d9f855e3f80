-- Rows of items with tails: what is written is read, so that a text is one row at most; what is read is written;
-- and where no row can go on is the place of bad text. For any grammar of tails with a reader of its own.
use Rattle.std.proofs.Common.{◌≡◌, ℕ, zero, suc, ◌+◌, ◌-◌, ◌<◌, Bool, true, false, List, [], ◌∷◌, ◌++◌, length, take}
use Rattle.std.proofs.Common.{drop, refl, sym, ap, subst, ◌∙◌, arith, append_assoc, append-nil, length-append}
use Rattle.std.proofs.Common.{length-take, inl, inr}
use Rattle.std.specs.Prelude.{None, Result, Ok, Err, not}
use Rattle.std.specs.List.{AllByRecursion}
use Rattle.std.proofs.lemmas.Bool.{false≢true, cases_lt, not_from_true}
use Rattle.std.proofs.lemmas.List.{take-append-drop, take-append-le}
use Rattle.std.proofs.lemmas.List.Elements.{All-from_recursion, recursion_from_All}
use Rattle.std.proofs.Math.Seq.{drop-append_seam, take-append_seam}
use Rattle.element_table.specs.SymbolText.{is_small}
use Rattle.reader_answers.specs.BadPlaces.{Begins, IsBadPlace}
use Rattle.reader_answers.proofs.BadPlaceLaws.{bad-place-no-text}
use Rattle.written_items.specs.WrittenItems.{WrittenItem, IsWrittenItem, written_text, begins, is_item_start}
use Rattle.written_items.specs.WrittenItems.{EndsSymbol, IsLeadingItem, BeginsWithItem}
use Rattle.written_items.specs.WrittenRows.{WrittenPart, part_text, row_text, IsPart, IsRowOf, IsRow}
use Rattle.written_items.specs.LeadingItems.{leading_item}
use Rattle.written_items.specs.RowReading.{TailReader, part_with, part_behind, leading_part, row_with, row_behind}
use Rattle.written_items.specs.RowReading.{row_after, row_of}
use Rattle.written_items.proofs.BadPlaceSteps.{first_byte, bad-behind}
use Rattle.written_items.proofs.ByteKinds.{begins-first, start-small}
use Rattle.written_items.proofs.LeadingSymbols.{append-cancel}
use Rattle.written_items.proofs.LeadingItemLaws.{begins-written, leading_item-Err, leading_item-Ok}
use Rattle.written_items.proofs.LeadingItemLaws.{leading_item-written}

-- the text is empty, or begins as an item does
abbrev pub StartsItem : List ℕ → Type 0
StartsItem text = begins (λ byte. not (is_item_start byte)) text ≡ false

-- a tail and a row behind it
pub record TailRow (IsTail : List ℕ → Type 0) (text : List ℕ) : Type 0 where
  pub tail : List ℕ
  pub is : IsTail tail
  pub rest : List ℕ
  pub row : IsRow IsTail rest
  pub spelled : text ≡ tail ++ rest

-- A reader of a grammar of tails: none is a tail, and no tail begins with a small letter; the reader gives a tail
-- that the text begins with, the same where another text follows that begins as the rest does, and each tail
-- before an item or the end; or the place at which no tail with a row behind it can go on.
pub record ReadsTails (IsTail : List ℕ → Type 0) (tail_at : TailReader) : Type 0 where
  pub none : IsTail []
  pub no_small : (tail : List ℕ) → IsTail tail → begins is_small tail ≡ false
  pub is : (text tail : List ℕ) → tail_at text ≡ Ok tail → IsTail tail
  pub spelled : (text tail : List ℕ) → tail_at text ≡ Ok tail → text ≡ tail ++ drop (length tail) text
  pub stays : (tail rest other : List ℕ) → tail_at (tail ++ rest) ≡ Ok tail → first_byte other ≡ first_byte rest
      → tail_at (tail ++ other) ≡ Ok tail
  pub written : (tail rest : List ℕ) → IsTail tail → StartsItem rest → tail_at (tail ++ rest) ≡ Ok tail
  pub bad : (text : List ℕ) (place : ℕ) → tail_at text ≡ Err place → IsBadPlace (TailRow IsTail) text place

-- ---- texts that begin as an item does

starts-not-small : (text : List ℕ) → StartsItem text → begins is_small text ≡ false
starts-not-small [] h = refl
starts-not-small (b ∷ rest) h =
    elim (is_item_start b) as (λ t. is_item_start b ≡ t → not t ≡ false → is_small b ≡ false) [
      | true ↦ λ e h. start-small b e
      | false ↦ λ e h. absurd (false≢true (sym h))
    ] refl h

starts-written : (text : List ℕ) → begins is_item_start text ≡ true → StartsItem text
starts-written [] h = refl
starts-written (b ∷ rest) h = not_from_true (is_item_start b) h

tail-not-small : (tail rest : List ℕ) → begins is_small tail ≡ false → begins is_small rest ≡ false
    → begins is_small (tail ++ rest) ≡ false
tail-not-small [] rest h e = e
tail-not-small (b ∷ tail) rest h e = h

first_byte-behind : (front x y : List ℕ) → first_byte x ≡ first_byte y
    → first_byte (front ++ x) ≡ first_byte (front ++ y)
first_byte-behind [] x y e = e
first_byte-behind (b ∷ front) x y e = refl

begins-length : (p : ℕ → Bool) (text : List ℕ) → begins p text ≡ true → 0 < length text
begins-length p [] h = absurd (false≢true h)
begins-length p (b ∷ rest) h = omega arith

module _ (IsTail : List ℕ → Type 0) where
  abbrev AreParts : List WrittenPart → Type 0
  AreParts row = AllByRecursion (IsPart IsTail) row

  part-text-starts : (part : WrittenPart) (rest : List ℕ) → IsPart IsTail part
      → begins is_item_start (part_text part ++ rest) ≡ true
  part-text-starts part rest h =
      ap (begins is_item_start) (append_assoc (written_text part.item) part.tail rest)
      ∙ begins-written part.item (part.tail ++ rest) h.item

  pub part-some : (part : WrittenPart) → IsPart IsTail part → 0 < length (part_text part)
  part-some part h =
      begins-length is_item_start (part_text part) (ap (begins is_item_start) (sym (append-nil (part_text part)))
      ∙ part-text-starts part [] h)

  row-starts : (row : List WrittenPart) → AreParts row → StartsItem (row_text row)
  row-starts [] h = refl
  row-starts (part ∷ row) h = starts-written (row_text (part ∷ row)) (part-text-starts part (row_text row) h.0)

  -- a row before a row
  one-more : (part : WrittenPart) (text : List ℕ) → IsPart IsTail part → IsRow IsTail text
      → IsRow IsTail (part_text part ++ text)
  one-more part text h is =
      record {
        row = part ∷ is.row;
        is = record {
          parts =
              All-from_recursion (IsPart IsTail) (part ∷ is.row)
              (h, recursion_from_All (IsPart IsTail) is.row is.is.parts);
          spelled = ap (λ t. part_text part ++ t) is.is.spelled;
        };
      }

  pub no-parts : IsRow IsTail []
  no-parts = record { row = []; is = record { parts = All-from_recursion (IsPart IsTail) [] tt; spelled = refl } }

  -- a row that isn't empty begins with an item
  begins_with_item : (text : List ℕ) → IsRow IsTail text → 0 < length text → BeginsWithItem text
  begins_with_item text is some =
      first_item text is.row (recursion_from_All (IsPart IsTail) is.row is.is.parts) is.is.spelled some
    where
      first_item : (text : List ℕ) (row : List WrittenPart) → AreParts row → text ≡ row_text row → 0 < length text
          → BeginsWithItem text
      first_item text [] h e some = absurd (omega (arith, ap length e))
      first_item text (part ∷ row) h e some =
          record {
            item = part.item;
            is = h.0.item;
            rest = part.tail ++ row_text row;
            spelled = e
                ∙ append_assoc (written_text part.item) part.tail (row_text row);
          }

-- ---- one step of reading

-- what is read of a text whose first part, or whose place of bad text, is this
abbrev pub row_or : TailReader → List ℕ → Result WrittenPart ℕ → Result (List WrittenPart) ℕ
row_or tail_at text (Ok part) = row_with part (row_of tail_at (drop (length (part_text part)) text))
row_or tail_at text (Err place) = Err place

row_after-drop : (tail_at : TailReader) (n : ℕ) (text : List ℕ)
    → row_after tail_at n text ≡ row_of tail_at (drop n text)
unfolding row_after
row_after-drop tail_at zero [] = refl
row_after-drop tail_at (suc n) [] = refl
row_after-drop tail_at zero (b ∷ rest) = refl
row_after-drop tail_at (suc n) (b ∷ rest) = row_after-drop tail_at n rest

row_behind-step : (tail_at : TailReader) (b : ℕ) (rest : List ℕ) (r : Result WrittenPart ℕ)
    → ((part : WrittenPart) → r ≡ Ok part → 0 < length (part_text part))
    → row_behind r (λ n. row_after tail_at n rest) ≡ row_or tail_at (b ∷ rest) r
row_behind-step tail_at b rest (Err place) some = refl
row_behind-step tail_at b rest (Ok part) some =
    let enough = some part refl in
    let n : ℕ = length (part_text part) - 1 in
    let size : length (part_text part) ≡ suc n = omega arith in
    ap (row_with part) (row_after-drop tail_at n rest ∙ ap (λ k. row_of tail_at (drop k (b ∷ rest))) (sym size))

pub row_of-step : (tail_at : TailReader) (text : List ℕ) → 0 < length text
    → ((part : WrittenPart) → leading_part tail_at text ≡ Ok part → 0 < length (part_text part))
    → row_of tail_at text ≡ row_or tail_at text (leading_part tail_at text)
unfolding row_after
row_of-step tail_at [] h some = absurd (omega arith)
row_of-step tail_at (b ∷ rest) h some = row_behind-step tail_at b rest (leading_part tail_at (b ∷ rest)) some

pub row_of-empty : (tail_at : TailReader) → row_of tail_at [] ≡ Ok []
unfolding row_after
row_of-empty tail_at = refl

-- what holds of each text if it holds of shorter ones
by_length : (P : List ℕ → Type 0) → ((text : List ℕ) → ((rest : List ℕ) → length rest < length text → P rest) → P text)
    → (text : List ℕ) → P text
by_length P step text = within (length text + 1) text (omega arith)
  where
    within : (n : ℕ) (text : List ℕ) → length text < n → P text
    within zero text h = absurd (omega arith)
    within (suc n) text h = step text (λ rest shorter. within n rest (omega arith))

same_row : (row other : List WrittenPart) (r : Result (List WrittenPart) ℕ) → r ≡ Ok row → r ≡ Ok other → row ≡ other
same_row row other r a b = cc

same_item : (item other : WrittenItem) (r : Result WrittenItem ℕ) → r ≡ Ok item → r ≡ Ok other → item ≡ other
same_item item other r a b = cc

same_tail : (tail other : List ℕ) (r : Result (List ℕ) ℕ) → r ≡ Ok tail → r ≡ Ok other → tail ≡ other
same_tail tail other r a b = cc

same_place : {A : Type 0} (place other : ℕ) (r : Result A ℕ) → r ≡ Err place → r ≡ Err other → place ≡ other
same_place place other r a b = cc

no_fault : {A : Type 0} (x : A) (place : ℕ) → Ok x ≡ Err place → ⊥
no_fault x place e = cc

module _ (IsTail : List ℕ → Type 0) (tail_at : TailReader) (reads : ReadsTails IsTail tail_at) where
  -- the part that a text begins with, and what is behind it
  pub record IsLeadingPart (text : List ℕ) (part : WrittenPart) : Type 0 where
    pub is : IsPart IsTail part
    pub rest : List ℕ
    pub spelled : text ≡ part_text part ++ rest
    pub behind : text ≡ written_text part.item ++ (part.tail ++ rest)
    pub ends : part.item.digits ≡ None → EndsSymbol part.item.symbol (part.tail ++ rest)
    pub tail_read : tail_at (part.tail ++ rest) ≡ Ok part.tail

  part_with-Ok : (text : List ℕ) (item : WrittenItem) (r : Result (List ℕ) ℕ) (part : WrittenPart)
      → IsLeadingItem text item → tail_at (drop (length (written_text item)) text) ≡ r → part_with item r ≡ Ok part
      → IsLeadingPart text part
  part_with-Ok text item (Err place) part leading read e =
      absurd (no_fault part (length (written_text item) + place) (sym e))
  part_with-Ok text item (Ok tail) part leading read e =
      let same : record { item = item; tail = tail } ≡ part = cc in
      let behind : drop (length (written_text item)) text ≡ leading.rest =
      ap (drop (length (written_text item))) leading.spelled ∙ drop-append_seam (written_text item) leading.rest in
      let read_there : tail_at leading.rest ≡ Ok tail = ap tail_at (sym behind) ∙ read in
      let rest : List ℕ = drop (length tail) leading.rest in
      let split : leading.rest ≡ tail ++ rest = reads.spelled leading.rest tail read_there in
      subst (IsLeadingPart text) same (record {
        is = record { item = leading.is; tail = reads.is leading.rest tail read_there };
        rest = rest;
        spelled =
            leading.spelled ∙ ap (λ t. written_text item ++ t) split ∙ sym (append_assoc (written_text item) tail rest);
        behind = leading.spelled ∙ ap (λ t. written_text item ++ t) split;
        ends = λ none. subst (EndsSymbol item.symbol) split (leading.ends none);
        tail_read = ap tail_at (sym split) ∙ read_there;
      })

  leading_part-Ok : (text : List ℕ) (r : Result WrittenItem ℕ) (part : WrittenPart) → leading_item text ≡ r
      → part_behind tail_at text r ≡ Ok part → IsLeadingPart text part
  leading_part-Ok text (Err place) part read e = absurd (no_fault part place (sym e))
  leading_part-Ok text (Ok item) part read e =
      part_with-Ok text item (tail_at (drop (length (written_text item)) text)) part
      (leading_item-Ok text item read) refl e

  -- what is read is the part that the text begins with
  pub part-leading : (text : List ℕ) (part : WrittenPart) → leading_part tail_at text ≡ Ok part
      → IsLeadingPart text part
  part-leading text part e = leading_part-Ok text (leading_item text) part refl e

  pub row_of-next : (text : List ℕ) → 0 < length text
      → row_of tail_at text ≡ row_or tail_at text (leading_part tail_at text)
  row_of-next text some = row_of-step tail_at text some (λ part e. part-some IsTail part (part-leading text part e).is)

  -- ---- what is written is read

  leading_part-written : (part : WrittenPart) (rest : List ℕ) → IsPart IsTail part → StartsItem rest
      → leading_part tail_at (part_text part ++ rest) ≡ Ok part
  leading_part-written part rest h starts =
      let item = part.item in
      let tail = part.tail in
      let split = append_assoc (written_text item) tail rest in
      let item_read : leading_item (part_text part ++ rest) ≡ Ok item =
      ap leading_item split
      ∙ leading_item-written item (tail ++ rest) h.item
      (λ _ _. tail-not-small tail rest (reads.no_small tail h.tail) (starts-not-small rest starts)) in
      let behind : drop (length (written_text item)) (part_text part ++ rest) ≡ tail ++ rest =
      ap (drop (length (written_text item))) split ∙ drop-append_seam (written_text item) (tail ++ rest) in
      ap (part_behind tail_at (part_text part ++ rest)) item_read
      ∙ ap (part_with item) (ap tail_at behind ∙ reads.written tail rest h.tail starts)

  row_written : (row : List WrittenPart) → AllByRecursion (IsPart IsTail) row → row_of tail_at (row_text row) ≡ Ok row
  row_written [] h = row_of-empty tail_at
  row_written (part ∷ row) h =
      let text : List ℕ = row_text (part ∷ row) in
      let some : 0 < length text = begins-length is_item_start text (part-text-starts IsTail part (row_text row) h.0) in
      row_of-next text some
      ∙ ap (row_or tail_at text) (leading_part-written part (row_text row) h.0 (row-starts IsTail row h.1))
      ∙ ap (λ t. row_with part (row_of tail_at t)) (drop-append_seam (part_text part) (row_text row))
      ∙ ap (row_with part) (row_written row h.1)

  -- a row of a text is read
  pub row_of-written : (row : List WrittenPart) (text : List ℕ) → IsRowOf IsTail row text → row_of tail_at text ≡ Ok row
  row_of-written row text is =
      ap (row_of tail_at) is.spelled ∙ row_written row (recursion_from_All (IsPart IsTail) row is.parts)

  -- a text is one row at most
  pub one-row : (row other : List WrittenPart) (text : List ℕ) → IsRowOf IsTail row text → IsRowOf IsTail other text
      → row ≡ other
  one-row row other text a b =
      same_row row other (row_of tail_at text) (row_of-written row text a) (row_of-written other text b)

  -- ---- what is read is written

  row_with-Ok : (part : WrittenPart) (r : Result (List WrittenPart) ℕ) (row : List WrittenPart)
      → row_with part r ≡ Ok row → (rest : List WrittenPart) × (r ≡ Ok rest) × (part ∷ rest ≡ row)
  row_with-Ok part (Ok rest) row e = let same : part ∷ rest ≡ row = cc in (rest, refl, same)
  row_with-Ok part (Err place) row e = absurd (no_fault row (length (part_text part) + place) (sym e))

  abbrev ReadsRow : List ℕ → Type 0
  ReadsRow text = (row : List WrittenPart) → row_of tail_at text ≡ Ok row → IsRowOf IsTail row text

  row_or-Ok : (text : List ℕ) (r : Result WrittenPart ℕ) (row : List WrittenPart) → leading_part tail_at text ≡ r
      → row_or tail_at text r ≡ Ok row → ((rest : List ℕ) → length rest < length text → ReadsRow rest)
      → IsRowOf IsTail row text
  row_or-Ok text (Err place) row read e shorter = absurd (no_fault row place (sym e))
  row_or-Ok text (Ok part) row read e shorter =
      let leading = part-leading text part read in
      let some = part-some IsTail part leading.is in
      let behind : drop (length (part_text part)) text ≡ leading.rest =
      ap (drop (length (part_text part))) leading.spelled ∙ drop-append_seam (part_text part) leading.rest in
      let next = row_with-Ok part (row_of tail_at (drop (length (part_text part)) text)) row e in
      let size : length text ≡ length (part_text part) + length leading.rest =
      ap length leading.spelled ∙ length-append (part_text part) leading.rest in
      let rest = shorter leading.rest (omega arith) next.0 (ap (row_of tail_at) (sym behind) ∙ next.1) in
      subst (λ r. IsRowOf IsTail r text) next.2 (record {
        parts =
            All-from_recursion (IsPart IsTail) (part ∷ next.0)
            (leading.is, recursion_from_All (IsPart IsTail) next.0 rest.parts);
        spelled = leading.spelled ∙ ap (λ t. part_text part ++ t) rest.spelled;
      })

  empty_row : (row : List WrittenPart) → row_of tail_at [] ≡ Ok row → IsRowOf IsTail row []
  empty_row row e =
      let same = same_row [] row (row_of tail_at []) (row_of-empty tail_at) e in
      subst (λ r. IsRowOf IsTail r []) same
      (record { parts = All-from_recursion (IsPart IsTail) [] tt; spelled = refl })

  read_row : (text : List ℕ) → ((rest : List ℕ) → length rest < length text → ReadsRow rest) → ReadsRow text
  read_row [] shorter = empty_row
  read_row (b ∷ text) shorter = λ row e.
      row_or-Ok (b ∷ text) (leading_part tail_at (b ∷ text)) row refl (sym (row_of-next (b ∷ text) (omega arith))
      ∙ e) shorter

  pub row_of-Ok : (text : List ℕ) (row : List WrittenPart) → row_of tail_at text ≡ Ok row → IsRowOf IsTail row text
  row_of-Ok text = by_length ReadsRow read_row text

  -- ---- the place of bad text

  -- behind an item that a row begins with there are a tail and a row
  pub item-behind : (text : List ℕ) (item : WrittenItem) (rest other : List ℕ) → IsLeadingItem text item
      → text ≡ written_text item ++ rest → first_byte other ≡ first_byte rest
      → IsRow IsTail (written_text item ++ other) → TailRow IsTail other
  item-behind text item rest other leading spelled same is =
      of_row is.row (recursion_from_All (IsPart IsTail) is.row is.is.parts) is.is.spelled
    where
      its_rest : leading.rest ≡ rest
      its_rest =
          append-cancel (written_text item) (written_text item) leading.rest rest refl (sym leading.spelled ∙ spelled)

      mine : leading_item (written_text item ++ other) ≡ Ok item
      mine =
          leading_item-written item other leading.is (λ none short. begins-first is_small other rest same
          ∙ subst (λ t. begins is_small t ≡ false) its_rest (leading.ends none short))

      some : 0 < length (written_text item ++ other)
      some = begins-length is_item_start (written_text item ++ other) (begins-written item other leading.is)

      of_row : (row : List WrittenPart) → AllByRecursion (IsPart IsTail) row → written_text item ++ other ≡ row_text row
          → TailRow IsTail other
      of_row [] h e = absurd (omega (arith, some, ap length e))
      of_row (part ∷ row) h e =
          let behind = part.tail ++ row_text row in
          let split : written_text item ++ other ≡ written_text part.item ++ behind =
          e ∙ append_assoc (written_text part.item) part.tail (row_text row) in
          let its : leading_item (written_text part.item ++ behind) ≡ Ok part.item =
          leading_item-written part.item behind h.0.item
          (λ _ _. tail-not-small part.tail (row_text row) (reads.no_small part.tail h.0.tail)
          (starts-not-small (row_text row) (row-starts IsTail row h.1))) in
          let item_same =
          same_item item part.item (leading_item (written_text item ++ other)) mine (ap leading_item split ∙ its) in
          record {
            tail = part.tail;
            is = h.0.tail;
            rest = row_text row;
            row =
                record {
                  row = row;
                  is = record {
                    parts = All-from_recursion
                        (IsPart IsTail) row h.1;
                    spelled = refl;
                  };
                };
            spelled =
                append-cancel (written_text item) (written_text part.item) other behind
                (ap written_text item_same) split;
          }

  -- behind a part that a row begins with there is a row
  part-behind : (text : List ℕ) (part : WrittenPart) (leading : IsLeadingPart text part)
      (item : IsLeadingItem text part.item) (other : List ℕ) → first_byte other ≡ first_byte leading.rest
      → IsRow IsTail (part_text part ++ other) → IsRow IsTail other
  part-behind text part leading item other same is =
      let tail = part.tail in
      let behind =
      item-behind text part.item (tail ++ leading.rest) (tail ++ other) item leading.behind
      (first_byte-behind tail other leading.rest same)
      (subst (IsRow IsTail) (append_assoc (written_text part.item) tail other) is) in
      let mine : tail_at (tail ++ other) ≡ Ok tail = reads.stays tail leading.rest other leading.tail_read same in
      let its : tail_at (behind.tail ++ behind.rest) ≡ Ok behind.tail =
      reads.written behind.tail behind.rest behind.is (starts-row behind.rest behind.row) in
      let tail_same = same_tail tail behind.tail (tail_at (tail ++ other)) mine (ap tail_at behind.spelled ∙ its) in
      subst (IsRow IsTail) (sym (append-cancel tail behind.tail other behind.rest tail_same behind.spelled)) behind.row
    where
      starts-row : (text : List ℕ) → IsRow IsTail text → StartsItem text
      starts-row text row =
          ap (begins (λ byte. not (is_item_start byte))) row.is.spelled
          ∙ row-starts IsTail row.row (recursion_from_All (IsPart IsTail) row.row row.is.parts)

  -- an item alone is a row
  item_alone : (item : WrittenItem) → IsWrittenItem item → IsRow IsTail (written_text item)
  item_alone item is =
      subst (IsRow IsTail) (append-nil (written_text item ++ []) ∙ append-nil (written_text item))
      (one-more IsTail (record { item = item; tail = [] }) [] (record { item = is; tail = reads.none })
      (no-parts IsTail))

  -- where an item can't go on, a row can't
  item-bad : (text : List ℕ) (place : ℕ) → 0 < length text → IsBadPlace BeginsWithItem text place
      → IsBadPlace (IsRow IsTail) text place
  item-bad text place some bad =
      record {
        within = bad.within;
        before = begun bad.before.0 bad.before.1;
        at = λ within goes_on.
            let more : 0 < length (take (place + 1) text ++ goes_on.0) =
            simp (length-append, length-take) (omega (arith, within)) in
            bad.at within (goes_on.0, begins_with_item IsTail (take (place + 1) text ++ goes_on.0) goes_on.1 more);
        at_end = λ end is. bad.at_end end (begins_with_item IsTail text is some);
      }
    where
      begun : (more : List ℕ) → BeginsWithItem (take place text ++ more) → Begins (IsRow IsTail) (take place text)
      begun more b =
          let w = written_text b.item in
          let size : length (take place text) ≡ place = simp length-take (let h = bad.within in omega (arith, h)) in
          elim (cases_lt (length w) place) [
            | inl beyond ↦
                let front : take (length w) text ≡ w =
                sym (ap (λ t. take (length w) t) (take-append-drop place text))
                ∙ take-append-le (length w) (take place text) (drop place text) (omega (arith, beyond, size))
                ∙ sym (take-append-le (length w) (take place text) more (omega (arith, beyond, size)))
                ∙ ap (take (length w)) b.spelled ∙ take-append_seam w b.rest in
                absurd (bad-place-no-text BeginsWithItem text place bad
                (record {
                  item = b.item;
                  is = b.is;
                  rest = drop (length w) text;
                  spelled = sym
                      (take-append-drop (length w) text) ∙ ap (λ t. t ++ drop (length w) text) front;
                }))
            | inr inside ↦
                let front : take place text ≡ take place w =
                sym (ap (λ n. take n (take place text ++ more)) (sym size) ∙ take-append_seam (take place text) more)
                ∙ ap (take place) b.spelled ∙ take-append-le place w b.rest inside in (
                  drop place w,
                  subst (IsRow IsTail)
                      (sym (take-append-drop place w) ∙ ap (λ t. t ++ drop place w) (sym front))
                      (item_alone b.item b.is),
                )
          ]

  -- where a tail and a row behind an item can't go on, the row with the item can't
  tail-bad : (text : List ℕ) (item : WrittenItem) (leading : IsLeadingItem text item) (place : ℕ)
      → IsBadPlace (TailRow IsTail) leading.rest place
      → IsBadPlace (IsRow IsTail) text (length (written_text item) + place)
  tail-bad text item leading place bad =
      subst (λ t. IsBadPlace (IsRow IsTail) t (length (written_text item) + place)) (sym leading.spelled)
      (bad-behind (IsRow IsTail) (TailRow IsTail) (written_text item) leading.rest place
      (λ other is.
      subst (IsRow IsTail) (append_assoc (written_text item) is.tail is.rest
      ∙ ap (λ t. written_text item ++ t) (sym is.spelled))
      (one-more IsTail (record { item = item; tail = is.tail }) is.rest
      (record { item = leading.is; tail = is.is }) is.row))
      (λ other same is. item-behind text item leading.rest other leading leading.spelled same is)
      bad)

  row-bad : (text : List ℕ) (part : WrittenPart) (leading : IsLeadingPart text part) (place : ℕ)
      → IsBadPlace (IsRow IsTail) leading.rest place → IsBadPlace (IsRow IsTail) text (length (part_text part) + place)
  row-bad text part leading place bad =
      let item : IsLeadingItem text part.item =
      record { is = leading.is.item; rest = part.tail ++ leading.rest; spelled = leading.behind; ends = leading.ends }
      in
      subst (λ t. IsBadPlace (IsRow IsTail) t (length (part_text part) + place)) (sym leading.spelled)
      (bad-behind (IsRow IsTail) (IsRow IsTail) (part_text part) leading.rest place
      (λ other is. one-more IsTail part other leading.is is)
      (λ other same is. part-behind text part leading item other same is)
      bad)

  abbrev IsBadRow : List ℕ → Type 0
  IsBadRow text = (place : ℕ) → row_of tail_at text ≡ Err place → IsBadPlace (IsRow IsTail) text place

  with-Err : (text : List ℕ) (item : WrittenItem) (r : Result (List ℕ) ℕ) (place : ℕ) → IsLeadingItem text item
      → tail_at (drop (length (written_text item)) text) ≡ r → part_with item r ≡ Err place
      → IsBadPlace (IsRow IsTail) text place
  with-Err text item (Ok tail) place leading read e = absurd (no_fault _ place e)
  with-Err text item (Err behind) place leading read e =
      let same = same_place (length (written_text item) + behind) place (part_with item (Err behind)) refl e in
      let rest : drop (length (written_text item)) text ≡ leading.rest =
      ap (drop (length (written_text item))) leading.spelled ∙ drop-append_seam (written_text item) leading.rest in
      subst (IsBadPlace (IsRow IsTail) text) same
      (tail-bad text item leading behind (reads.bad leading.rest behind (ap tail_at (sym rest) ∙ read)))

  part-Err : (text : List ℕ) (r : Result WrittenItem ℕ) (place : ℕ) → 0 < length text → leading_item text ≡ r
      → part_behind tail_at text r ≡ Err place → IsBadPlace (IsRow IsTail) text place
  part-Err text (Ok item) place some read e =
      with-Err text item (tail_at (drop (length (written_text item)) text)) place
      (leading_item-Ok text item read) refl e
  part-Err text (Err at) place some read e =
      let same = same_place at place (part_behind tail_at text (Err at)) refl e in
      item-bad text place some (leading_item-Err text place (read ∙ ap Err same))

  row_with-Err : (part : WrittenPart) (r : Result (List WrittenPart) ℕ) (place : ℕ) → row_with part r ≡ Err place
      → (behind : ℕ) × (r ≡ Err behind) × (length (part_text part) + behind ≡ place)
  row_with-Err part (Ok rest) place e = absurd (no_fault (part ∷ rest) place e)
  row_with-Err part (Err behind) place e =
      (behind, refl, same_place (length (part_text part) + behind) place (row_with part (Err behind)) refl e)

  row_or-Err : (text : List ℕ) (r : Result WrittenPart ℕ) (place : ℕ) → 0 < length text → leading_part tail_at text ≡ r
      → row_or tail_at text r ≡ Err place → ((rest : List ℕ) → length rest < length text → IsBadRow rest)
      → IsBadPlace (IsRow IsTail) text place
  row_or-Err text (Err at) place some read e shorter =
      let same = same_place at place (row_or tail_at text (Err at)) refl e in
      part-Err text (leading_item text) place some refl (read ∙ ap Err same)
  row_or-Err text (Ok part) place some read e shorter =
      let leading = part-leading text part read in
      let more = part-some IsTail part leading.is in
      let rest : drop (length (part_text part)) text ≡ leading.rest =
      ap (drop (length (part_text part))) leading.spelled ∙ drop-append_seam (part_text part) leading.rest in
      let next = row_with-Err part (row_of tail_at (drop (length (part_text part)) text)) place e in
      let size : length text ≡ length (part_text part) + length leading.rest =
      ap length leading.spelled ∙ length-append (part_text part) leading.rest in
      subst (IsBadPlace (IsRow IsTail) text) next.2
      (row-bad text part leading next.0
      (shorter leading.rest (omega arith) next.0 (ap (row_of tail_at) (sym rest) ∙ next.1)))

  bad_row : (text : List ℕ) → ((rest : List ℕ) → length rest < length text → IsBadRow rest) → IsBadRow text
  bad_row [] shorter = λ place e. absurd (no_fault [] place (sym (row_of-empty tail_at) ∙ e))
  bad_row (b ∷ text) shorter = λ place e.
      row_or-Err (b ∷ text) (leading_part tail_at (b ∷ text)) place (omega arith) refl
      (sym (row_of-next (b ∷ text) (omega arith)) ∙ e) shorter

  -- where no row is read is the place of bad text
  pub row_of-Err : (text : List ℕ) (place : ℕ) → row_of tail_at text ≡ Err place → IsBadPlace (IsRow IsTail) text place
  row_of-Err text = by_length IsBadRow bad_row text
