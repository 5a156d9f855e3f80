-- Ranges are the tails of rows with ranges: what is written is read, what is read is written, and where none can go
-- on is the place of bad text.
use Rattle.std.proofs.Common.{◌≡◌, ℕ, ◌+◌, ◌<◌, ◌==◌, ◌⊎◌, Bool, true, false, cond, List, [], ◌∷◌, ◌++◌, length, drop}
use Rattle.std.proofs.Common.{refl, sym, ap, subst, ◌∙◌, arith, append_assoc, inl, inr}
use Rattle.std.specs.Prelude.{Result, Ok, Err}
use Rattle.std.specs.List.{prefix_len, AllByRecursion}
use Rattle.std.specs.Char.{is_ascii_digit}
use Rattle.std.proofs.lemmas.Bool.{false≢true, and_parts, eqb-true, eqb-false, not-false}
use Rattle.std.proofs.lemmas.List.{take-append-drop}
use Rattle.std.proofs.lemmas.List.Elements.{recursion_from_All}
use Rattle.std.proofs.lemmas.List.Folds.{length-prefix_len}
use Rattle.std.proofs.Math.Seq.{drop-append_seam}
use Rattle.element_table.specs.SymbolText.{is_small}
use Rattle.reader_answers.specs.BadPlaces.{Begins, IsBadPlace}
use Rattle.fixed_decimal.specs.DecimalTexts.{IsDigits}
use Rattle.fixed_decimal.proofs.LeadingDigits.{leading_digits-AllDigits}
use Rattle.written_items.specs.WrittenItems.{are_digits, begins, is_item_start, written_text}
use Rattle.written_items.proofs.LeadingItemLaws.{begins-written}
use Rattle.written_items.specs.WrittenRows.{WrittenPart, row_text, IsPart, IsRow}
use Rattle.fixed_decimal.specs.Decimal.{leading_digits}
use Rattle.written_items.proofs.BadPlaceSteps.{first_byte, bad-here, bad-behind}
use Rattle.written_items.proofs.ByteKinds.{digit-small, start-digit, begins-first, take_while-run}
use Rattle.written_items.proofs.ByteKinds.{digits-numeral, numeral-digits}
use Rattle.written_items.proofs.ByteKinds.{take_while-stops}
use Rattle.written_items.proofs.LeadingSymbols.{append-cancel}
use Rattle.written_items.proofs.RowLaws.{StartsItem, TailRow, ReadsTails, no-parts}
use Rattle.alphabet_text.specs.AlphabetTexts.{hyphen, IsRange, IsRangeTail}
use Rattle.alphabet_text.specs.AlphabetAnswers.{range_up_to, range_behind, range_tail}

abbrev pub is_hyphen : ℕ → Bool
is_hyphen byte = byte == hyphen

-- the text behind the digits that a text begins with
abbrev pub behind_digits : List ℕ → List ℕ
behind_digits text = drop (length (leading_digits text)) text

-- ---- digits at the beginning of a text

number-no_small : (low more : List ℕ) → IsDigits low → begins is_small (low ++ more) ≡ false
number-no_small [] more n = let some = n.0 in absurd (omega (arith, some))
number-no_small (d ∷ ds) more n =
    digit-small d (and_parts (is_ascii_digit d) (are_digits ds) (numeral-digits (d ∷ ds) n.1)).0

begins-number : (low more : List ℕ) → IsDigits low → begins is_ascii_digit (low ++ more) ≡ true
begins-number [] more n = let some = n.0 in absurd (omega (arith, some))
begins-number (d ∷ ds) more n = (and_parts (is_ascii_digit d) (are_digits ds) (numeral-digits (d ∷ ds) n.1)).0

pub digits-before : (low more : List ℕ) → IsDigits low → begins is_ascii_digit more ≡ false
    → leading_digits (low ++ more) ≡ low
digits-before low more n stops = take_while-run is_ascii_digit low more (numeral-digits low n.1) stops

no_digits : (text : List ℕ) → begins is_ascii_digit text ≡ false → leading_digits text ≡ []
no_digits text stops = take_while-run is_ascii_digit [] text refl stops

pub leading-number : (text : List ℕ) → 0 < length (leading_digits text) → IsDigits (leading_digits text)
leading-number text some = (some, leading_digits-AllDigits text)

digits-stop : (text : List ℕ) → begins is_ascii_digit (behind_digits text) ≡ false
digits-stop text =
    ap (λ n. begins is_ascii_digit (drop n text)) (length-prefix_len is_ascii_digit text)
    ∙ take_while-stops is_ascii_digit text

digits-split : (text : List ℕ) → text ≡ leading_digits text ++ behind_digits text
digits-split text =
    sym (take-append-drop (prefix_len is_ascii_digit text) text)
    ∙ ap (λ n. leading_digits text ++ drop n text) (sym (length-prefix_len is_ascii_digit text))

none_leading : (text : List ℕ) → length (leading_digits text) ≡ 0 → begins is_ascii_digit text ≡ false
none_leading text none = ap (λ n. begins is_ascii_digit (drop n text)) (sym none) ∙ digits-stop text

hyphen_there : (text : List ℕ) → begins is_hyphen text ≡ true → text ≡ hyphen ∷ drop 1 text
hyphen_there [] h = absurd (false≢true h)
hyphen_there (b ∷ rest) h = ap (λ c. c ∷ rest) (eqb-true b hyphen h)

no_digit_first : (text : List ℕ) → StartsItem text → begins is_ascii_digit text ≡ false
no_digit_first [] h = refl
no_digit_first (b ∷ rest) h = start-digit b (not-false (is_item_start b) h)

-- ---- what is written is read

range-read : (low high rest : List ℕ) → IsDigits low → IsDigits high → begins is_ascii_digit rest ≡ false
    → range_tail ((low ++ hyphen ∷ high) ++ rest) ≡ Ok (low ++ hyphen ∷ high)
range-read low high rest l h stops =
    let text : List ℕ = low ++ (hyphen ∷ (high ++ rest)) in
    let digits : leading_digits text ≡ low = digits-before low (hyphen ∷ (high ++ rest)) l refl in
    let behind : behind_digits text ≡ hyphen ∷ (high ++ rest) =
    ap (λ d. drop (length d) text) digits ∙ drop-append_seam low (hyphen ∷ (high ++ rest)) in
    let some = l.0 in
    let more = h.0 in
    ap range_tail (append_assoc low (hyphen ∷ high) rest)
    ∙ ap (λ b. cond b (Ok []) (range_behind (leading_digits text) (behind_digits text)))
    (ap (λ d. length d == 0) digits ∙ some_length low some)
    ∙ ap (λ d. range_behind d (behind_digits text)) digits
    ∙ ap (range_behind low) behind
    ∙ ap (range_up_to low) (digits-before high rest h stops)
    ∙ ap (λ b. cond b (Err (length low + 1)) (Ok (low ++ hyphen ∷ high))) (some_length high more)
  where
    some_length : (digits : List ℕ) → 0 < length digits → (length digits == 0) ≡ false
    some_length digits some = grind arith

none-read : (rest : List ℕ) → begins is_ascii_digit rest ≡ false → range_tail rest ≡ Ok []
none-read rest stops =
    ap (λ d. cond (length d == 0) (Ok []) (range_behind d (drop (length d) rest))) (no_digits rest stops)

-- ---- what is read is written

-- a range at the beginning of a text
record HasRange (text tail : List ℕ) : Type 0 where
  low : List ℕ
  high : List ℕ
  low_number : IsDigits low
  high_number : IsDigits high
  tail_is : tail ≡ low ++ hyphen ∷ high
  rest : List ℕ
  spelled : text ≡ tail ++ rest
  stops : begins is_ascii_digit rest ≡ false

-- where no range goes on: the text behind the first digits has no hyphen, or behind that no digit
record EndsAtHyphen (text : List ℕ) (place : ℕ) : Type 0 where
  some_low : 0 < length (leading_digits text)
  no_hyphen : begins is_hyphen (behind_digits text) ≡ false
  place_is : length (leading_digits text) ≡ place

record EndsBehindHyphen (text : List ℕ) (place : ℕ) : Type 0 where
  some_low : 0 < length (leading_digits text)
  hyphen_is : begins is_hyphen (behind_digits text) ≡ true
  no_high : length (leading_digits (drop 1 (behind_digits text))) ≡ 0
  place_is : length (leading_digits text) + 1 ≡ place

same_place : (x y : ℕ) (r : Result (List ℕ) ℕ) → r ≡ Err x → r ≡ Err y → x ≡ y
same_place x y r a b = cc

no_fault : (x : List ℕ) (place : ℕ) → Ok x ≡ Err place → ⊥
no_fault x place e = cc

not_zero : (n : ℕ) → (n == 0) ≡ false → 0 < n
not_zero n h = let ne : n ≡ 0 → ⊥ = eqb-false n 0 h in grind arith

-- the three ways in which a range is read
abbrev Reads : List ℕ → Result (List ℕ) ℕ → Type 0
Reads text (Ok tail) = ((begins is_ascii_digit text ≡ false) × (tail ≡ [])) ⊎ HasRange text tail
Reads text (Err place) = EndsAtHyphen text place ⊎ EndsBehindHyphen text place

has_range : (text : List ℕ) → 0 < length (leading_digits text) → begins is_hyphen (behind_digits text) ≡ true
    → 0 < length (leading_digits (drop 1 (behind_digits text)))
    → HasRange text (leading_digits text ++ hyphen ∷ leading_digits (drop 1 (behind_digits text)))
has_range text some there more =
    let low : List ℕ = leading_digits text in
    let behind : List ℕ = drop 1 (behind_digits text) in
    let high : List ℕ = leading_digits behind in
    record {
      low = low;
      high = high;
      low_number = leading-number text some;
      high_number = leading-number behind more;
      tail_is = refl;
      rest = behind_digits behind;
      spelled = digits-split text ∙ ap (λ t. low ++ t) (hyphen_there (behind_digits text) there)
          ∙ ap (λ t. low ++ hyphen ∷ t) (digits-split behind)
          ∙ sym (append_assoc low (hyphen ∷ high) (behind_digits behind));
      stops = digits-stop behind;
    }

abbrev pub high_of : List ℕ → List ℕ
high_of text = leading_digits (drop 1 (behind_digits text))

reads : (text : List ℕ) → Reads text (range_tail text)
reads text = outer (length (leading_digits text) == 0) refl
  where
    inner : (b : Bool) → (length (high_of text) == 0) ≡ b → 0 < length (leading_digits text)
        → begins is_hyphen (behind_digits text) ≡ true
        → Reads text (cond b (Err (length (leading_digits text) + 1))
        (Ok (leading_digits text ++ hyphen ∷ high_of text)))
    inner true none some there =
        inr (record {
          some_low = some;
          hyphen_is = there;
          no_high = eqb-true
              (length (high_of text)) 0 none;
          place_is = refl;
        })
    inner false more some there = inr (has_range text some there (not_zero (length (high_of text)) more))

    middle : (b : Bool) → begins is_hyphen (behind_digits text) ≡ b → 0 < length (leading_digits text)
        → Reads text (cond b (range_up_to (leading_digits text) (high_of text)) (Err (length (leading_digits text))))
    middle true there some = inner (length (high_of text) == 0) refl some there
    middle false there some = inl (record { some_low = some; no_hyphen = there; place_is = refl })

    outer : (b : Bool) → (length (leading_digits text) == 0) ≡ b
        → Reads text (cond b (Ok []) (range_behind (leading_digits text) (behind_digits text)))
    outer true none = inl (none_leading text (eqb-true (length (leading_digits text)) 0 none), refl)
    outer false some =
        middle (begins is_hyphen (behind_digits text)) refl (not_zero (length (leading_digits text)) some)

-- the range of a text that has one
pub tail-of-range : (text : List ℕ) → (length (leading_digits text) == 0) ≡ false
    → begins is_hyphen (behind_digits text) ≡ true
    → (length (high_of text) == 0) ≡ false → range_tail text ≡ Ok (leading_digits text ++ hyphen ∷ high_of text)
tail-of-range text some there more =
    ap (λ b. cond b (Ok []) (range_behind (leading_digits text) (behind_digits text))) some
    ∙ ap (λ b. cond b (range_up_to (leading_digits text) (high_of text)) (Err (length (leading_digits text)))) there
    ∙ ap (λ b. cond b (Err (length (leading_digits text) + 1)) (Ok (leading_digits text ++ hyphen ∷ high_of text))) more

reads-as : (text : List ℕ) (r : Result (List ℕ) ℕ) → range_tail text ≡ r → Reads text r
reads-as text r e = subst (Reads text) e (reads text)

range_of : (text tail : List ℕ) → HasRange text tail → IsRange tail
range_of text tail h =
    record { low = h.low; high = h.high; low_number = h.low_number; high_number = h.high_number; spelled = h.tail_is }

tail_of : (tail : List ℕ) → IsRange tail → IsRangeTail tail
tail_of [] is = tt
tail_of (b ∷ more) is = is

tail-is : (text tail : List ℕ) → range_tail text ≡ Ok tail → IsRangeTail tail
tail-is text tail e = elim (reads-as text (Ok tail) e) [
  | inl none ↦ subst IsRangeTail (sym none.1) tt
  | inr range ↦ tail_of tail (range_of text tail range)
]

tail-spelled : (text tail : List ℕ) → range_tail text ≡ Ok tail → text ≡ tail ++ drop (length tail) text
tail-spelled text tail e = elim (reads-as text (Ok tail) e) [
  | inl none ↦ subst (λ t. text ≡ t ++ drop (length t) text) (sym none.1) (sym (take-append-drop 0 text))
  | inr range ↦ range.spelled
      ∙ ap (λ t. tail ++ t) (sym (drop-append_seam tail range.rest) ∙ ap (drop (length tail)) (sym range.spelled))
]

tail-stays : (tail rest other : List ℕ) → range_tail (tail ++ rest) ≡ Ok tail → first_byte other ≡ first_byte rest
    → range_tail (tail ++ other) ≡ Ok tail
tail-stays tail rest other e same = elim (reads-as (tail ++ rest) (Ok tail) e) [
  | inl none ↦
      let stops : begins is_ascii_digit rest ≡ false =
      ap (λ t. begins is_ascii_digit (t ++ rest)) (sym none.1) ∙ none.0 in
      subst (λ t. range_tail (t ++ other)
      ≡ Ok t) (sym none.1) (none-read other (begins-first is_ascii_digit other rest same ∙ stops))
  | inr range ↦
      let its_rest : rest ≡ range.rest = append-cancel tail tail rest range.rest refl range.spelled in
      let stops : begins is_ascii_digit other ≡ false =
      begins-first is_ascii_digit other rest same ∙ ap (begins is_ascii_digit) its_rest ∙ range.stops in
      subst (λ t. range_tail (t ++ other) ≡ Ok t) (sym range.tail_is)
      (range-read range.low range.high other range.low_number range.high_number stops)
]

tail-written : (tail rest : List ℕ) → IsRangeTail tail → StartsItem rest → range_tail (tail ++ rest) ≡ Ok tail
tail-written [] rest is starts = none-read rest (no_digit_first rest starts)
tail-written (b ∷ more) rest is starts =
    subst (λ t. range_tail (t ++ rest) ≡ Ok t) (sym is.spelled)
    (range-read is.low is.high rest is.low_number is.high_number (no_digit_first rest starts))

tail-no_small : (tail : List ℕ) → IsRangeTail tail → begins is_small tail ≡ false
tail-no_small [] is = refl
tail-no_small (b ∷ more) is = ap (begins is_small) is.spelled ∙ number-no_small is.low (hyphen ∷ is.high) is.low_number

-- ---- the place of bad text

-- what is behind the digits of a range's upper limit is a row
record BehindHyphen (text : List ℕ) : Type 0 where
  high : List ℕ
  high_number : IsDigits high
  rest : List ℕ
  row : IsRow IsRangeTail rest
  spelled : text ≡ high ++ rest

record BehindLow (text : List ℕ) : Type 0 where
  rest : List ℕ
  behind : BehindHyphen rest
  spelled : text ≡ hyphen ∷ rest

one_digit : List ℕ
one_digit = 48 ∷ []

is_one_digit : IsDigits one_digit
unfolding one_digit
is_one_digit = (omega arith, digits-numeral one_digit refl)

begun_behind_hyphen : Begins BehindHyphen []
begun_behind_hyphen =
    let row = no-parts IsRangeTail in
    (one_digit ++ [], record { high = one_digit; high_number = is_one_digit; rest = []; row = row; spelled = refl })

begun_behind_low : Begins BehindLow []
begun_behind_low =
    let begun = begun_behind_hyphen in
    (hyphen ∷ begun.0, record { rest = begun.0; behind = begun.1; spelled = refl })

range_row : (low other : List ℕ) → IsDigits low → BehindLow other → TailRow IsRangeTail (low ++ other)
range_row low other n is =
    let behind = is.behind in
    let tail : List ℕ = low ++ hyphen ∷ behind.high in
    record {
      tail = tail;
      is =
          tail_of tail (record {
            low = low;
            high = behind.high;
            low_number = n;
            high_number = behind.high_number;
            spelled = refl;
          });
      rest = behind.rest;
      row = behind.row;
      spelled = ap (λ t. low ++ t) is.spelled ∙ ap (λ t. low ++ hyphen ∷ t) behind.spelled
          ∙ sym (append_assoc low (hyphen ∷ behind.high) behind.rest);
    }

-- a row doesn't begin with a digit
no_digit : (text : List ℕ) → begins is_item_start text ≡ true → begins is_ascii_digit text ≡ false
no_digit [] h = refl
no_digit (b ∷ rest) h = start-digit b h

rows-no_digit : (row : List WrittenPart) → AllByRecursion (IsPart IsRangeTail) row
    → begins is_ascii_digit (row_text row) ≡ false
rows-no_digit [] h = refl
rows-no_digit (part ∷ row) h =
    let split = append_assoc (written_text part.item) part.tail (row_text row) in
    no_digit (row_text (part ∷ row)) (ap (begins is_item_start) split
    ∙ begins-written part.item (part.tail ++ row_text row) h.0.item)

no_row : (text : List ℕ) → IsRow IsRangeTail text → begins is_ascii_digit text ≡ true → ⊥
no_row text row digit =
    false≢true (sym (rows-no_digit row.row (recursion_from_All (IsPart IsRangeTail) row.row row.is.parts))
    ∙ ap (begins is_ascii_digit) (sym row.is.spelled) ∙ digit)

row_behind_low : (low other : List ℕ) → IsDigits low → begins is_ascii_digit other ≡ false
    → TailRow IsRangeTail (low ++ other)
    → BehindLow other
row_behind_low low other n stops is = by is.tail is.is is.spelled
  where
    by : (tail : List ℕ) → IsRangeTail tail → low ++ other ≡ tail ++ is.rest → BehindLow other
    by [] none e = absurd (no_row is.rest is.row (ap (begins is_ascii_digit) (sym e) ∙ begins-number low other n))
    by (b ∷ more) range e =
        let behind : List ℕ = range.high ++ is.rest in
        let split : low ++ other ≡ range.low ++ (hyphen ∷ behind) =
        e ∙ ap (λ t. t ++ is.rest) range.spelled ∙ append_assoc range.low (hyphen ∷ range.high) is.rest in
        let same : low ≡ range.low =
        sym (digits-before low other n stops) ∙ ap leading_digits split
        ∙ digits-before range.low (hyphen ∷ behind) range.low_number refl in
        record {
          rest = behind;
          behind =
              record {
                high = range.high;
                high_number = range.high_number;
                rest = is.rest;
                row = is.row;
                spelled = refl;
              };
          spelled = append-cancel low range.low other (hyphen ∷ behind) same split;
        }

bad_behind_low : (text : List ℕ) (place : ℕ) → 0 < length (leading_digits text)
    → IsBadPlace BehindLow (behind_digits text) place
    → IsBadPlace (TailRow IsRangeTail) text (length (leading_digits text) + place)
bad_behind_low text place some bad =
    let low : List ℕ = leading_digits text in
    let n = leading-number text some in
    subst (λ t. IsBadPlace (TailRow IsRangeTail) t (length low + place)) (sym (digits-split text))
    (bad-behind (TailRow IsRangeTail) BehindLow low (behind_digits text) place
    (λ other is. range_row low other n is)
    (λ other same is. row_behind_low low other n
    (begins-first is_ascii_digit other (behind_digits text) same ∙ digits-stop text) is)
    bad)

at_hyphen : (text : List ℕ) → begins is_hyphen text ≡ false → IsBadPlace BehindLow text 0
at_hyphen text none =
    bad-here BehindLow text begun_behind_low
    (λ other same is. false≢true (sym none ∙ sym (begins-first is_hyphen other text same) ∙ ap
    (begins is_hyphen) is.spelled))

behind_hyphen : (rest : List ℕ) → begins is_ascii_digit rest ≡ false → IsBadPlace BehindHyphen rest 0
behind_hyphen rest none =
    bad-here BehindHyphen rest begun_behind_hyphen
    (λ other same is. false≢true (sym none ∙ sym (begins-first is_ascii_digit other rest same)
    ∙ ap (begins is_ascii_digit) is.spelled ∙ begins-number is.high is.rest is.high_number))

behind_low : (rest : List ℕ) → begins is_ascii_digit rest ≡ false → IsBadPlace BehindLow (hyphen ∷ rest) 1
behind_low rest none =
    bad-behind BehindLow BehindHyphen (hyphen ∷ []) rest 0
    (λ other is. record { rest = other; behind = is; spelled = refl })
    (λ other same is. subst BehindHyphen
    (sym (append-cancel (hyphen ∷ []) (hyphen ∷ []) other is.rest refl is.spelled)) is.behind)
    (behind_hyphen rest none)

bad-tail : (text : List ℕ) (place : ℕ) → range_tail text ≡ Err place → IsBadPlace (TailRow IsRangeTail) text place
bad-tail text place e = elim (reads-as text (Err place) e) [
  | inl ends ↦
      subst (IsBadPlace (TailRow IsRangeTail) text) (omega (arith, ends.place_is))
      (bad_behind_low text 0 ends.some_low (at_hyphen (behind_digits text) ends.no_hyphen))
  | inr ends ↦
      let behind : List ℕ = drop 1 (behind_digits text) in
      subst (IsBadPlace (TailRow IsRangeTail) text) ends.place_is
      (bad_behind_low text 1 ends.some_low
      (subst (λ t. IsBadPlace BehindLow t 1) (sym (hyphen_there (behind_digits text) ends.hyphen_is))
      (behind_low behind (none_leading behind ends.no_high))))
]

pub ranges-read : ReadsTails IsRangeTail range_tail
ranges-read =
    record {
      none = tt;
      no_small = tail-no_small;
      is = tail-is;
      spelled = tail-spelled;
      stays = tail-stays;
      written = tail-written;
      bad = bad-tail;
    }
