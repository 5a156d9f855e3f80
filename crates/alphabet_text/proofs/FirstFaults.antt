-- The first fault of a row is found by reading its entries one after another.
use Rattle.std.proofs.Common.{◌≡◌, ℕ, ◌+◌, ◌<◌, ◌≤◌, Bool, true, false, cond, nat_lt, ◌||◌, List, [], ◌∷◌, ◌++◌}
use Rattle.std.proofs.Common.{length, map}
use Rattle.std.proofs.Common.{refl, sym, ap, subst, ◌∙◌, arith, append_assoc, append-nil}
use Rattle.std.specs.Prelude.{Some, None, All, Result, Ok, Err, slice_get, MatchBool, ⊤, ◌==◌, unwrap_or}
use Rattle.std.specs.List.{list_any, AllByRecursion}
use Rattle.std.proofs.lemmas.List.{length-map, map-append}
use Rattle.std.proofs.lemmas.Bool.{and_parts, eqb-true, eqb-false}
use Rattle.std.proofs.lemmas.Bool.Decides.{nat_tests}
use Rattle.std.proofs.lemmas.List.Elements.{All-nil, All-cons}
use Rattle.std.proofs.lemmas.List.Sorted.{All-permutation}
use Rattle.element_table.specs.Elements.{TableEntries, IsTable}
use Rattle.reader_answers.specs.Answers.{◌>>=◌, Gives}
use Rattle.sorted_lists.specs.SortedLists.{sorted_by}
use Rattle.sorted_lists.proofs.SortedListLaws.{IsPermutation-sorted_by}
use Rattle.written_items.specs.Items.{item_eq}
use Rattle.written_items.specs.WrittenItems.{item_of, item_value, names_item}
use Rattle.written_items.specs.WrittenRows.{WrittenPart, part_text}
use Rattle.written_items.specs.RowReading.{row_of}
use Rattle.written_items.proofs.RowLaws.{row_of-Ok, row_of-empty}
use Rattle.decompose.specs.declared.limits.TheConstants.{MAX_COUNT}
use Rattle.formula_text.specs.FormulaTexts.{has_written}
use Rattle.alphabet_text.specs.declared.entries.AlphabetEntry.{AlphabetEntry}
use Rattle.alphabet_text.specs.declared.fault.AlphabetFault.{AlphabetFault}
use Rattle.alphabet_text.specs.declared.fault.AlphabetFault.TheVariants.{BadText, UnknownSymbol, Repeated, EmptyRange}
use Rattle.alphabet_text.specs.declared.fault.AlphabetFault.TheVariants.{TooMany}
use Rattle.alphabet_text.specs.declared.written.WrittenEntry.{WrittenEntry}
use Rattle.alphabet_text.specs.AlphabetFaults.{is_memory}
use Rattle.alphabet_text.specs.AlphabetTexts.{IsRangeTail, limit_of_tail}
use Rattle.alphabet_text.specs.Alphabets.{stands_before, IsEntryOf}
use Rattle.alphabet_text.specs.AlphabetReadings.{AlphabetReading, entry_of, high_places, entry_faults}
use Rattle.alphabet_text.specs.AlphabetReadings.{faults_behind, row_faults, alphabet_in}
use Rattle.alphabet_text.specs.AlphabetAnswers.{range_tail, unless_faults, row_answer, alphabet_of}
use Rattle.alphabet_text.specs.WrittenEntries.{entry_value, entry_values, entries_at, first_high_place}
use Rattle.alphabet_text.specs.WrittenEntries.{table_entry, entry_with, leading_isotope, has_item, sound_entry}
use Rattle.alphabet_text.specs.WrittenEntries.{entries_behind}
use Rattle.alphabet_text.proofs.HighPlaces.{first_high_place-values, uncapped-row, AreUncapped, low-values}
use Rattle.alphabet_text.proofs.KnownItems.{leading_isotope-known}
use Rattle.alphabet_text.proofs.RangeTails.{ranges-read}
use Rattle.alphabet_text.proofs.OneReading.{meaning}
use Rattle.alphabet_text.specs.declared.entries.TheConstants.{MAX_ENTRIES}

abbrev Answer : Type 0
Answer = Result (List AlphabetEntry) AlphabetFault

has_item-map : (table : TableEntries) (earlier : List WrittenPart) (part : WrittenPart)
    → has_item (map (entry_of table) earlier) (entry_of table part).item
    ≡ list_any (λ other. item_eq (item_of other.item) (item_of part.item)) earlier
has_item-map table [] part = refl
has_item-map table (other ∷ earlier) part =
    ap (λ b. item_eq (item_of other.item) (item_of part.item) || b) (has_item-map table earlier part)

-- what is answered of one entry, and then of those behind it, by the first of its faults
one_entry : (known repeated empty : Bool) (at : ℕ) (e : AlphabetEntry) (next : AlphabetEntry → Answer)
    (rest : List AlphabetFault) (all : List AlphabetEntry)
    → next e ≡ unless_faults rest all
    → (cond known (cond repeated (Err (Repeated at)) (cond empty (Err (EmptyRange at)) (Ok e)))
    (Err (UnknownSymbol at)) >>= next)
    ≡ unless_faults (cond known [] (UnknownSymbol at ∷ []) ++ cond repeated (Repeated at ∷ []) [] ++ cond empty
    (EmptyRange at ∷ []) [] ++ rest) all
one_entry false repeated empty at e next rest all h = refl
one_entry true true empty at e next rest all h = refl
one_entry true false true at e next rest all h = refl
one_entry true false false at e next rest all h = h

sound-known : (known : Bool) (es : List AlphabetEntry) (at : ℕ) (e : AlphabetEntry)
    → sound_entry es at (cond known (Some e) None)
    ≡ cond known (cond (has_item es e.item) (Err (Repeated at))
    (cond (nat_lt e.limit.high e.limit.low) (Err (EmptyRange at)) (Ok e))) (Err (UnknownSymbol at))
sound-known true es at e = refl
sound-known false es at e = refl

-- the entries of a row, read one after another
entries_behind-row : (table : TableEntries) → IsTable table → (row : List WrittenPart) → AreUncapped row
    → (earlier : List WrittenPart) (at : ℕ)
    → entries_behind table (map (entry_of table) earlier) (entry_values at row)
    ≡ unless_faults (faults_behind table earlier at row) (map (entry_of table) (earlier ++ row))
entries_behind-row table is [] uncapped earlier at = ap (λ l. Ok (map (entry_of table) l)) (sym (append-nil earlier))
entries_behind-row table is (part ∷ row) uncapped earlier at =
    let es : List AlphabetEntry = map (entry_of table) earlier in
    let e : AlphabetEntry = entry_of table part in
    let next : AlphabetEntry → Answer =
    λ x. entries_behind table (es ++ x ∷ []) (entry_values (at + length (part_text part)) row) in
    let known : Bool = has_written table part.item in
    let told : table_entry table (entry_value at part) ≡ cond known (Some e) None =
    ap (λ l. entry_with (record { symbol = part.item.symbol; label = unwrap_or (item_value part.item).number 0 }) l
    (leading_isotope table (item_value part.item))) uncapped.0
    ∙ leading_isotope-known table part.item (limit_of_tail part.tail) is in
    let rest : next e ≡ unless_faults (faults_behind table (earlier ++ part ∷ []) (at + length (part_text part)) row)
    (map (entry_of table) (earlier ++ part ∷ row)) =
    ap (λ l. entries_behind table l (entry_values (at + length (part_text part)) row))
    (sym (map-append (entry_of table) earlier (part ∷ [])))
    ∙ entries_behind-row table is row uncapped.1 (earlier ++ part ∷ []) (at + length (part_text part))
    ∙ ap (λ l. unless_faults (faults_behind table (earlier ++ part ∷ []) (at + length (part_text part)) row)
    (map (entry_of table) l)) (append_assoc earlier (part ∷ []) row) in
    ap (λ o. sound_entry es at o >>= next) told
    ∙ ap (λ r. r >>= next) (sound-known known es at e)
    ∙ ap (λ b. cond known (cond b (Err (Repeated at))
    (cond (nat_lt e.limit.high e.limit.low) (Err (EmptyRange at)) (Ok e))) (Err (UnknownSymbol at)) >>= next)
    (has_item-map table earlier part)
    ∙ one_entry known _ (nat_lt e.limit.high e.limit.low) at e next
    (faults_behind table (earlier ++ part ∷ []) (at + length (part_text part)) row)
    (map (entry_of table) (earlier ++ part ∷ row)) rest

-- the alphabet of gathered entries, unless there are too many
abbrev pub unless_many : List AlphabetEntry → Answer
unless_many entries = cond (nat_lt MAX_ENTRIES (length entries)) (Err TooMany) (Ok (sorted_by stands_before entries))

-- the fault of a row of too many entries
abbrev many_faults : List WrittenPart → List AlphabetFault
many_faults row = cond (nat_lt MAX_ENTRIES (length row)) (TooMany ∷ []) []

-- the answer for a row without limits above 10,000
low-row : (table : TableEntries) → IsTable table → (row : List WrittenPart) → high_places 0 row ≡ []
    → first_high_place (entry_values 0 row) ≡ None
    → (entries_behind table [] (entry_values 0 row) >>= unless_many)
    ≡ unless_faults (row_faults table row) (alphabet_in table row)
low-row table is row none low =
    ap (λ r. r >>= unless_many) (entries_behind-row table is row (uncapped-row 0 row low) [] 0)
    ∙ by (faults_behind table [] 0 row)
    ∙ ap (λ places. unless_faults (map BadText places ++ faults_behind table [] 0 row ++ many_faults row)
    (alphabet_in table row)) (sym none)
  where
    end : (b : Bool)
        → cond b (Err TooMany) (Ok (alphabet_in table row))
        ≡ unless_faults (cond b (TooMany ∷ []) []) (alphabet_in table row)
    end true = refl
    end false = refl

    by : (faults : List AlphabetFault)
        → (unless_faults faults (map (entry_of table) row) >>= unless_many)
        ≡ unless_faults ([] ++ faults ++ many_faults row) (alphabet_in table row)
    by [] =
        ap (λ n. cond (nat_lt MAX_ENTRIES n) (Err TooMany) (Ok (alphabet_in table row)))
        (length-map row (entry_of table))
        ∙ end (nat_lt MAX_ENTRIES (length row))
    by (fault ∷ faults) = refl

-- ---- the answer for a text, step by step

same_entries : (ws vs : List WrittenEntry) (r : Result (List WrittenEntry) AlphabetFault) → r ≡ Ok ws → r ≡ Ok vs
    → ws ≡ vs
same_entries ws vs r a b = cc

same_fault : (f g : AlphabetFault) (r : Result (List WrittenEntry) AlphabetFault) → r ≡ Err f → r ≡ Err g → f ≡ g
same_fault f g r a b = cc

no_entries : (ws : List WrittenEntry) (f : AlphabetFault)
    → ◌≡◌ {A = Result (List WrittenEntry) AlphabetFault} (Ok ws) (Err f) → ⊥
no_entries ws f e = cc

-- a row that was read of a text with a byte
pub record ReadRow (text : List ℕ) (ws : List WrittenEntry) : Type 0 where
  pub first : WrittenPart
  pub others : List WrittenPart
  pub read : row_of range_tail text ≡ Ok (first ∷ others)
  pub values : ws ≡ entry_values 0 (first ∷ others)

pub read-row : (text : List ℕ) (ws : List WrittenEntry) → 0 < length text
    → entries_at 0 (row_of range_tail text) ≡ Ok ws → ReadRow text ws
read-row text ws some e = by (row_of range_tail text) refl e
  where
    by : (r : Result (List WrittenPart) ℕ) → row_of range_tail text ≡ r → entries_at 0 r ≡ Ok ws → ReadRow text ws
    by (Err place) is e = absurd (no_entries ws (BadText (0 + place)) (sym e))
    by (Ok []) is e =
        let row = row_of-Ok IsRangeTail range_tail ranges-read text [] is in
        absurd (omega (arith, ap length row.spelled, some))
    by (Ok (part ∷ row)) is e =
        record {
          first = part;
          others = row;
          read = is;
          values = same_entries ws (entry_values 0 (part ∷ row))
              (Ok ws) refl (sym e);
        }

pub bad-text : (table : TableEntries) (text : List ℕ) (fault : AlphabetFault)
    → entries_at 0 (row_of range_tail text) ≡ Err fault
    → alphabet_of table text ≡ Err fault
bad-text table text fault e = by (row_of range_tail text) e
  where
    by : (r : Result (List WrittenPart) ℕ) → entries_at 0 r ≡ Err fault → row_answer table r ≡ Err fault
    by (Ok row) e = absurd (no_entries (entry_values 0 row) fault e)
    by (Err place) e =
        let same = same_fault (BadText (0 + place)) fault (Err (BadText (0 + place))) refl e in
        ap Err (ap BadText (omega arith) ∙ same)

pub high-limit : (table : TableEntries) (text : List ℕ) (ws : List WrittenEntry) (place : ℕ) → ReadRow text ws
    → first_high_place ws ≡ Some place
    → alphabet_of table text ≡ Err (BadText place)
high-limit table text ws place is high =
    let row : List WrittenPart = is.first ∷ is.others in
    ap (row_answer table) is.read
    ∙ by (high_places 0 row) (sym (first_high_place-values 0 row) ∙ ap first_high_place (sym is.values) ∙ high)
  where
    by : (places : List ℕ) → slice_get places 0 ≡ Some place
        → unless_faults (map BadText places ++ faults_behind table [] 0 (is.first ∷ is.others)
        ++ cond (nat_lt MAX_ENTRIES (length (is.first ∷ is.others))) (TooMany ∷ []) []) (alphabet_in table
        (is.first ∷ is.others)) ≡ Err (BadText place)
    by [] e = cc
    by (p ∷ places) e = let same : p ≡ place = cc in ap (λ q. Err (BadText q)) same

no_first : (places : List ℕ) → slice_get places 0 ≡ None → places ≡ []
no_first [] e = refl
no_first (p ∷ places) e = cc

pub low-limits : (table : TableEntries) (text : List ℕ) (ws : List WrittenEntry) → IsTable table → ReadRow text ws
    → first_high_place ws ≡ None
    → alphabet_of table text ≡ (entries_behind table [] ws >>= unless_many)
low-limits table text ws is row low =
    let parts : List WrittenPart = row.first ∷ row.others in
    let none = ap first_high_place (sym row.values) ∙ low in
    ap (row_answer table) row.read
    ∙ sym (low-row table is parts (no_first (high_places 0 parts) (sym (first_high_place-values 0 parts) ∙ none)) none)
    ∙ ap (λ vs. entries_behind table [] vs >>= unless_many) (sym row.values)

pub low-numbers : (text : List ℕ) (ws : List WrittenEntry) → ReadRow text ws → first_high_place ws ≡ None
    → All (λ w. w.range.limit.high ≤ MAX_COUNT) ws
low-numbers text ws row low =
    let parts : List WrittenPart = row.first ∷ row.others in
    subst (All (λ (w : WrittenEntry). w.range.limit.high ≤ MAX_COUNT)) (sym row.values)
    (low-values 0 parts (ap first_high_place (sym row.values) ∙ low))

pub some-written : (text : List ℕ) (ws : List WrittenEntry) → ReadRow text ws → 0 < length ws
some-written text ws row = subst (λ (vs : List WrittenEntry). 0 < length vs) (sym row.values) (omega arith)

-- ---- each entry of an alphabet is one of the table

unknown_first : (known : Bool) (at : ℕ) (more rest : List AlphabetFault)
    → (cond known [] (UnknownSymbol at ∷ []) ++ more ++ rest) ≡ [] → known ≡ true
unknown_first true at more rest e = refl
unknown_first false at more rest e = cc

none_left : (xs ys : List AlphabetFault) → xs ++ ys ≡ [] → (xs ≡ []) × (ys ≡ [])
none_left [] ys e = (refl, e)
none_left (x ∷ xs) ys e = cc

known-row : (table : TableEntries) (earlier : List WrittenPart) (at : ℕ) (row : List WrittenPart)
    → faults_behind table earlier at row ≡ []
    → AllByRecursion (λ part. has_written table part.item ≡ true) row
known-row table earlier at [] e = tt
known-row table earlier at (part ∷ row) e =
    let both =
    none_left (entry_faults table earlier at part)
    (faults_behind table (earlier ++ part ∷ []) (at + length (part_text part)) row) e in (
      unknown_first (has_written table part.item) at _ _ both.0,
      known-row table (earlier ++ part ∷ [])
          (at + length (part_text part)) row both.1,
    )

entry-known : (table : TableEntries) (part : WrittenPart) → has_written table part.item ≡ true
    → IsEntryOf table (entry_of table part)
entry-known table part known = record { known = (and_parts (names_item part.item) _ known).1; mass = refl }

entries-known : (table : TableEntries) (row : List WrittenPart)
    → AllByRecursion (λ part. has_written table part.item ≡ true) row
    → All (IsEntryOf table) (map (entry_of table) row)
entries-known table [] known = All-nil (IsEntryOf table)
entries-known table (part ∷ row) known =
    All-cons (IsEntryOf table) (entry_of table part) (map (entry_of table) row) (entry-known table part known.0)
    (entries-known table row known.1)

pub of-table : (table : TableEntries) (text : List ℕ) (alphabet : List AlphabetEntry)
    → alphabet_of table text ≡ Ok alphabet → All (IsEntryOf table) alphabet
of-table table text alphabet e =
    let reading : AlphabetReading table text (Ok alphabet) =
    subst (AlphabetReading table text) e (meaning table text) in
    let row : List WrittenPart = reading.0 in
    let faults = none_left (map BadText (high_places 0 row) ++ faults_behind table [] 0 row) _ reading.2 in
    let behind = none_left (map BadText (high_places 0 row)) (faults_behind table [] 0 row) faults.0 in
    let entries : List AlphabetEntry = map (entry_of table) row in
    subst (All (IsEntryOf table)) (sym reading.3)
    (All-permutation (IsEntryOf table) entries (sorted_by stands_before entries)
    (IsPermutation-sorted_by stands_before entries)
    (entries-known table row (known-row table [] 0 row behind.1)))

-- ---- answers that are passed on

pub empty-text : (table : TableEntries) (text : List ℕ) → (length text == 0) ≡ true
    → alphabet_of table text ≡ Err (BadText 0)
empty-text table text none = by text (eqb-true (length text) 0 none)
  where
    by : (text : List ℕ) → length text ≡ 0 → alphabet_of table text ≡ Err (BadText 0)
    by [] e = ap (row_answer table) (row_of-empty range_tail)
    by (b ∷ more) e = absurd (omega (arith, e))

-- a fault that is passed on, unless it is want of memory
pub Gives-passed : {X Y : Type 0} (f : AlphabetFault) (x : Result X AlphabetFault) (y : Result Y AlphabetFault)
    → (x ≡ Err f → y ≡ Err f)
    → Gives is_memory (Err f) x → Gives is_memory (Err f) y
Gives-passed f x y step given =
    elim (is_memory f) as (λ b. MatchBool b ⊤ (x ≡ Err f) → MatchBool b ⊤
    (y ≡ Err f)) [ true ↦ λ _. tt | false ↦ λ e. step e ] given

pub some-byte : (text : List ℕ) → false ≡ (length text == 0) → 0 < length text
some-byte text h = let ne : length text ≡ 0 → ⊥ = eqb-false (length text) 0 (sym h) in grind arith

-- too many entries, and not too many

pub too-many : (es : List AlphabetEntry) → MAX_ENTRIES < length es → unless_many es ≡ Err TooMany
too-many es above = ap (λ b. cond b (Err TooMany) (Ok (sorted_by stands_before es))) (over (length es) above)
  where
    over : (n : ℕ) → MAX_ENTRIES < n → nat_lt MAX_ENTRIES n ≡ true
    over n above = grind (arith, nat_tests)

pub few-enough : (es : List AlphabetEntry) → length es ≤ MAX_ENTRIES → unless_many es ≡ Ok (sorted_by stands_before es)
few-enough es few = ap (λ b. cond b (Err TooMany) (Ok (sorted_by stands_before es))) (within (length es) few)
  where
    within : (n : ℕ) → n ≤ MAX_ENTRIES → nat_lt MAX_ENTRIES n ≡ false
    within n few = grind (arith, nat_tests)
