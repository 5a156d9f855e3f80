-- No byte is of two of the kinds capital letter, small letter, digit and bracket; runs of bytes of one kind.
use Rattle.std.proofs.Common.{◌≡◌, ℕ, ◌+◌, Bool, true, false, cond, ◌&&◌, List, [], ◌∷◌, ◌++◌, length, take, drop, refl}
use Rattle.std.proofs.Common.{ap, ◌∙◌, arith}
use Rattle.std.specs.List.{prefix_len, take_while, list_all}
use Rattle.std.specs.Char.{is_ascii_digit}
use Rattle.std.specs.Str.Parse.{AllDigits}
use Rattle.std.proofs.lemmas.Bool.{and_parts, and_from}
use Rattle.std.proofs.lemmas.Bool.Decides.{nat_tests}
use Rattle.std.proofs.lemmas.List.{take_at}
use Rattle.std.proofs.Math.Numerals.{one-add}
use Rattle.element_table.specs.SymbolText.{is_capital, is_small}
use Rattle.fixed_decimal.proofs.PartsOfTexts.{is_digit-value, value-is_digit}
use Rattle.written_items.specs.WrittenItems.{are_digits, begins, is_item_start}
use Rattle.written_items.proofs.BadPlaceSteps.{first_byte}

-- a run of digits, told by a test of each byte or by the values of the digits
pub digits-numeral : (ds : List ℕ) → are_digits ds ≡ true → AllDigits 10 ds
digits-numeral [] h = tt
digits-numeral (d ∷ ds) h =
    let parts = and_parts (is_ascii_digit d) (are_digits ds) h in
    (value-is_digit d parts.0, digits-numeral ds parts.1)

pub numeral-digits : (ds : List ℕ) → AllDigits 10 ds → are_digits ds ≡ true
numeral-digits [] h = refl
numeral-digits (d ∷ ds) h = and_from _ _ (is_digit-value d h.0) (numeral-digits ds h.1)

pub capital-digit : (b : ℕ) → is_capital b ≡ true → is_ascii_digit b ≡ false
capital-digit b h = grind (arith, nat_tests)

pub digit-small : (b : ℕ) → is_ascii_digit b ≡ true → is_small b ≡ false
digit-small b h = grind (arith, nat_tests)

pub start-digit : (b : ℕ) → is_item_start b ≡ true → is_ascii_digit b ≡ false
start-digit b h = grind (arith, nat_tests)

pub start-small : (b : ℕ) → is_item_start b ≡ true → is_small b ≡ false
start-small b h = grind (arith, nat_tests)

-- whether a text begins so is told by its first byte
pub begins-first : (p : ℕ → Bool) (x y : List ℕ) → first_byte x ≡ first_byte y → begins p x ≡ begins p y
begins-first p [] [] e = refl
begins-first p [] (b ∷ y) e = cc
begins-first p (a ∷ x) [] e = cc
begins-first p (a ∷ x) (b ∷ y) e = let same : a ≡ b = cc in ap p same

-- a run ends where a byte doesn't pass
pub prefix_len-run : (p : ℕ → Bool) (xs ys : List ℕ) → list_all p xs ≡ true → begins p ys ≡ false
    → prefix_len p (xs ++ ys) ≡ length xs
prefix_len-run p [] [] h e = refl
prefix_len-run p [] (y ∷ ys) h e = ap (λ b. cond b (1 + prefix_len p ys) 0) e
prefix_len-run p (x ∷ xs) ys h e =
    let parts = and_parts (p x) (list_all p xs) h in
    ap (λ b. cond b (1 + prefix_len p (xs ++ ys)) 0) parts.0
    ∙ ap (λ n. 1 + n) (prefix_len-run p xs ys parts.1 e) ∙ one-add (length xs)

pub take_while-run : (p : ℕ → Bool) (xs ys : List ℕ) → list_all p xs ≡ true → begins p ys ≡ false
    → take_while p (xs ++ ys) ≡ xs
take_while-run p xs ys h e = ap (λ n. take n (xs ++ ys)) (prefix_len-run p xs ys h e) ∙ take_at xs ys (length xs) refl

-- each byte of a run passes, and the byte behind it doesn't
pub take_while-passes : (p : ℕ → Bool) (xs : List ℕ) → list_all p (take_while p xs) ≡ true
take_while-passes p [] = refl
take_while-passes p (x ∷ xs) =
    elim (p x) as (λ b. p x ≡ b → list_all p (take (cond b (1 + prefix_len p xs) 0) (x ∷ xs)) ≡ true) [
      | true ↦ λ e. ap (λ n. list_all p (take n (x ∷ xs))) (one-add (prefix_len p xs))
          ∙ ap (λ b. b && list_all p (take_while p xs)) e ∙ take_while-passes p xs
      | false ↦ λ e. refl
    ] refl

pub take_while-stops : (p : ℕ → Bool) (xs : List ℕ) → begins p (drop (prefix_len p xs) xs) ≡ false
take_while-stops p [] = refl
take_while-stops p (x ∷ xs) =
    elim (p x) as (λ b. p x ≡ b → begins p (drop (cond b (1 + prefix_len p xs) 0) (x ∷ xs)) ≡ false) [
      | true ↦ λ e. ap (λ n. begins p (drop n (x ∷ xs))) (one-add (prefix_len p xs)) ∙ take_while-stops p xs
      | false ↦ λ e. e
    ] refl
