-- What the reader keeps of a range is what the range tells.
use Rattle.std.proofs.Common.{◌≡◌, ℕ, ◌+◌, ◌<◌, ◌==◌, min, true, false, List, [], ◌∷◌, ◌++◌, length, drop}
use Rattle.std.proofs.Common.{refl, sym, ap, ap₂, ◌∙◌, arith, length-append}
use Rattle.std.specs.Prelude.{Option, Result, Ok}
use Rattle.std.specs.Str.Parse.{digits_value}
use Rattle.std.proofs.lemmas.Bool.{eqb-false}
use Rattle.std.proofs.Math.Seq.{drop-append-add}
use Rattle.decompose.specs.declared.limits.Limit.{Limit}
use Rattle.decompose.specs.declared.limits.TheConstants.{MAX_COUNT}
use Rattle.written_items.specs.WrittenItems.{begins}
use Rattle.fixed_decimal.specs.Decimal.{leading_digits}
use Rattle.fixed_decimal.specs.DecimalTexts.{IsDigits}
use Rattle.alphabet_text.specs.declared.written.WrittenRange.{WrittenRange}
use Rattle.alphabet_text.specs.declared.fault.AlphabetFault.{AlphabetFault}
use Rattle.alphabet_text.specs.AlphabetTexts.{hyphen, limit_of_tail, high_digits}
use Rattle.alphabet_text.specs.AlphabetAnswers.{range_tail}
use Rattle.alphabet_text.specs.WrittenEntries.{limit_value, high_place, range_at}
use Rattle.alphabet_text.proofs.RangeTails.{is_hyphen, behind_digits, high_of, digits-before, leading-number}
use Rattle.alphabet_text.proofs.RangeTails.{tail-of-range}

limit-written : (low high : List ℕ) → IsDigits low
    → limit_of_tail (low ++ hyphen ∷ high) ≡ record { low = digits_value 10 low; high = digits_value 10 high }
limit-written [] high n = let some = n.0 in absurd (omega (arith, some))
limit-written (d ∷ ds) high n =
    let low : List ℕ = d ∷ ds in
    let digits : leading_digits (low ++ hyphen ∷ high) ≡ low = digits-before low (hyphen ∷ high) n refl in
    let behind : high_digits (low ++ hyphen ∷ high) ≡ high =
    ap (λ l. drop (length l + 1) (low ++ hyphen ∷ high)) digits ∙ drop-append-add low (hyphen ∷ high) 1 in
    ap₂ (λ a b. record { low = digits_value 10 a; high = digits_value 10 b }) digits behind

-- the answer that keeps this of a range
abbrev kept : ℕ → Limit → Option ℕ → Result WrittenRange AlphabetFault
kept n limit place = Ok (record { limit = limit; high_place = place; byte_count = n })

-- the value of a range that is read
pub range-kept : (text : List ℕ) (at low high : ℕ) (place : Option ℕ) → (length (leading_digits text) == 0) ≡ false
    → begins is_hyphen (behind_digits text) ≡ true → (length (high_of text) == 0) ≡ false
    → low ≡ min (digits_value 10 (leading_digits text)) (MAX_COUNT + 1)
    → high ≡ min (digits_value 10 (high_of text)) (MAX_COUNT + 1)
    → place ≡ high_place (record { low = low; high = high }) at (at + length (leading_digits text) + 1)
    → Ok (record {
      limit = record { low = low; high = high };
      high_place = place;
      byte_count = length (leading_digits text) + 1 + length (high_of text);
    }) ≡ range_at at (range_tail text)
range-kept text at low high place some there more low_is high_is place_is =
    let first : List ℕ = leading_digits text in
    let second : List ℕ = high_of text in
    let tail : List ℕ = first ++ hyphen ∷ second in
    let n = leading-number text (above_zero (length first) some) in
    let limit : record { low = low; high = high } ≡ limit_value (limit_of_tail tail) =
    ap₂ (λ a b. record { low = a; high = b }) low_is high_is ∙ sym (ap limit_value (limit-written first second n)) in
    let digits : leading_digits tail ≡ first = digits-before first (hyphen ∷ second) n refl in
    let place_there : place ≡ high_place (limit_value (limit_of_tail tail)) at (at + length (leading_digits tail) + 1) =
    place_is ∙ ap₂ (λ l d. high_place l at (at + length d + 1)) limit (sym digits) in
    let count : length first + 1 + length second ≡ length tail = omega (arith, length-append first (hyphen ∷ second)) in
    let place_of : ℕ → Option ℕ = high_place (limit_value (limit_of_tail tail)) at in
    ap₂ (kept (length first + 1 + length second)) limit place_there
    ∙ ap (λ n. kept n (limit_value (limit_of_tail tail)) (place_of (at + length (leading_digits tail) + 1))) count
    ∙ sym (ap (range_at at) (tail-of-range text some there more))
  where
    above_zero : (n : ℕ) → (n == 0) ≡ false → 0 < n
    above_zero n h = let ne : n ≡ 0 → ⊥ = eqb-false n 0 h in grind arith
