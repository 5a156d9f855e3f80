-- That the digits in front of a text are all digits that it begins with.
use Rattle.std.proofs.Common.{◌≡◌, ℕ, Bool, true, false, cond, List, [], ◌∷◌, refl, ap, arith}
use Rattle.std.proofs.lemmas.List.Sums.{take_while-cons}
use Rattle.std.specs.Char.{is_ascii_digit}
use Rattle.std.specs.Str.Parse.{AllDigits}
use Rattle.fixed_decimal.specs.Decimal.{leading_digits}
use Rattle.fixed_decimal.specs.DecimalTexts.{IsLeadingDigits}
use Rattle.fixed_decimal.proofs.PartsOfTexts.{is_digit-value, value-is_digit}

pub leading : (text : List ℕ) → IsLeadingDigits (leading_digits text) text
leading [] = ([], tt, refl, (λ digits. absurd (omega (arith, digits.0))))
leading (c ∷ cs) = rw (take_while-cons is_ascii_digit c cs) (by (is_ascii_digit c) refl (leading cs))
  where
    by : (b : Bool) → is_ascii_digit c ≡ b → IsLeadingDigits (leading_digits cs) cs
        → IsLeadingDigits (cond b (c ∷ leading_digits cs) []) (c ∷ cs)
    by true is more = (more.0, (value-is_digit c is, more.1), ap (λ (t : List ℕ). c ∷ t) more.2, more.3)
    by false other more =
        (c ∷ cs, tt, refl, (λ digits. let digit : is_ascii_digit c ≡ true = is_digit-value c digits.1.0 in absurd (cc)))

-- leading digits spell a number
pub leading_digits-AllDigits : (text : List ℕ) → AllDigits 10 (leading_digits text)
leading_digits-AllDigits text = (leading text).1
