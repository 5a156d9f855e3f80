-- The first limit above 10,000 of a row: what the readers keep of the entries tells it.
use Rattle.std.proofs.Common.{◌≡◌, ℕ, ◌+◌, ◌<◌, ◌≤◌, min, Bool, true, false, cond, nat_lt, List, [], ◌∷◌}
use Rattle.std.proofs.Common.{◌++◌, length, drop, get_or}
use Rattle.std.proofs.Common.{refl, sym, ap, ap₂, ◌∙◌, arith, add-one, drop-cons}
use Rattle.std.specs.Prelude.{Option, Some, None, All, slice_get}
use Rattle.std.proofs.lemmas.Bool.Decides.{nat_tests}
use Rattle.std.proofs.lemmas.List.Elements.{All-nil, All-cons}
use Rattle.decompose.specs.declared.limits.Limit.{Limit}
use Rattle.decompose.specs.declared.limits.TheConstants.{MAX_COUNT}
use Rattle.written_items.specs.WrittenItems.{written_text}
use Rattle.written_items.specs.WrittenRows.{WrittenPart, part_text}
use Rattle.std.specs.Option.{option_or}
use Rattle.fixed_decimal.specs.Decimal.{leading_digits}
use Rattle.alphabet_text.specs.declared.written.WrittenEntry.{WrittenEntry}
use Rattle.alphabet_text.specs.AlphabetTexts.{limit_of_tail}
use Rattle.alphabet_text.specs.AlphabetReadings.{high_places_of, high_places}
use Rattle.alphabet_text.specs.WrittenEntries.{limit_value, high_place, first_high_place, entry_values}

pub first_high_place-step : (es : List WrittenEntry) (i : ℕ) (d : WrittenEntry) → i < length es
    → first_high_place (drop i es) ≡ option_or (get_or es i d).range.high_place (first_high_place (drop (i + 1) es))
first_high_place-step es i d within =
    ap first_high_place (drop-cons es i d within)
    ∙ ap (λ n. option_or (get_or es i d).range.high_place (first_high_place (drop n es))) (sym (add-one i))

capped-above : (n : ℕ) → nat_lt MAX_COUNT (min n (MAX_COUNT + 1)) ≡ nat_lt MAX_COUNT n
capped-above n = grind (arith, nat_tests)

capped-below : (n : ℕ) → nat_lt MAX_COUNT (min n (MAX_COUNT + 1)) ≡ false → min n (MAX_COUNT + 1) ≡ n
capped-below n h = grind (arith, nat_tests)

option_or-append : (xs ys : List ℕ) → option_or (slice_get xs 0) (slice_get ys 0) ≡ slice_get (xs ++ ys) 0
option_or-append [] ys = refl
option_or-append (x ∷ xs) ys = refl

first_of_two : (a b : Bool) (x y : ℕ)
    → cond a (Some x) (cond b (Some y) None) ≡ slice_get (cond a (x ∷ []) [] ++ cond b (y ∷ []) []) 0
first_of_two true b x y = refl
first_of_two false true x y = refl
first_of_two false false x y = refl

high_place-tail : (at : ℕ) (tail : List ℕ)
    → high_place (limit_value (limit_of_tail tail)) at (at + length (leading_digits tail) + 1)
    ≡ slice_get (high_places_of at tail) 0
high_place-tail at tail =
    let limit : Limit = limit_of_tail tail in
    let high_at : ℕ = at + length (leading_digits tail) + 1 in
    ap₂ (λ a b. cond a (Some at) (cond b (Some high_at) None)) (capped-above limit.low) (capped-above limit.high)
    ∙ first_of_two (nat_lt MAX_COUNT limit.low) (nat_lt MAX_COUNT limit.high) at high_at

-- the first high place of a row
pub first_high_place-values : (at : ℕ) (row : List WrittenPart)
    → first_high_place (entry_values at row) ≡ slice_get (high_places at row) 0
first_high_place-values at [] = refl
first_high_place-values at (part ∷ row) =
    let tail_at : ℕ = at + length (written_text part.item) in
    ap₂ option_or (high_place-tail tail_at part.tail) (first_high_place-values (at + length (part_text part)) row)
    ∙ option_or-append (high_places_of tail_at part.tail) (high_places (at + length (part_text part)) row)

-- where there is none, no number was capped
abbrev pub AreUncapped : List WrittenPart → Type 0
AreUncapped [] = Unit {0}
AreUncapped (part ∷ row) = (limit_value (limit_of_tail part.tail) ≡ limit_of_tail part.tail) × AreUncapped row

option_or-None : (a b : Option ℕ) → option_or a b ≡ None → (a ≡ None) × (b ≡ None)
option_or-None None b e = (refl, e)
option_or-None (Some x) b e = cc

none_of_two : (a b : Bool) (x y : ℕ) → cond a (Some x) (cond b (Some y) None) ≡ None → (a ≡ false) × (b ≡ false)
none_of_two true b x y e = cc
none_of_two false true x y e = cc
none_of_two false false x y e = (refl, refl)

uncapped : (limit : Limit) → (min limit.low (MAX_COUNT + 1) ≡ limit.low) → (min limit.high (MAX_COUNT + 1) ≡ limit.high)
    → limit_value limit ≡ limit
uncapped limit low high = ap₂ (λ a b. record { low = a; high = b }) low high

pub uncapped-row : (at : ℕ) (row : List WrittenPart) → first_high_place (entry_values at row) ≡ None → AreUncapped row
uncapped-row at [] none = tt
uncapped-row at (part ∷ row) none =
    let limit : Limit = limit_of_tail part.tail in
    let both = option_or-None _ (first_high_place (entry_values (at + length (part_text part)) row)) none in
    let capped : Limit = limit_value limit in
    let tests = none_of_two (nat_lt MAX_COUNT capped.low) (nat_lt MAX_COUNT capped.high) _ _ both.0 in (
      uncapped limit (capped-below limit.low tests.0) (capped-below limit.high tests.1),
      uncapped-row
          (at + length (part_text part)) row both.1,
    )

at_most : (n : ℕ) → nat_lt MAX_COUNT n ≡ false → n ≤ MAX_COUNT
at_most n h = grind (arith, nat_tests)

pub low-values : (at : ℕ) (row : List WrittenPart) → first_high_place (entry_values at row) ≡ None
    → All (λ w. w.range.limit.high ≤ MAX_COUNT) (entry_values at row)
low-values at [] none = All-nil _
low-values at (part ∷ row) none =
    let limit : Limit = limit_of_tail part.tail in
    let both = option_or-None _ (first_high_place (entry_values (at + length (part_text part)) row)) none in
    let capped : Limit = limit_value limit in
    let tests = none_of_two (nat_lt MAX_COUNT capped.low) (nat_lt MAX_COUNT capped.high) _ _ both.0 in
    All-cons (λ (w : WrittenEntry). w.range.limit.high ≤ MAX_COUNT) _ _ (at_most (limit_value limit).high tests.1)
    (low-values (at + length (part_text part)) row both.1)
