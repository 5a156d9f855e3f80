-- The letters of a symbol are a text.
use Rattle.std.proofs.Common.{◌≡◌, ℕ, ◌<◌, true, nat_le, List, [], ◌∷◌, IsTrue, true≢false, sym, arith}
use Rattle.std.specs.Str.{IsAscii, IsUtf8}
use Rattle.std.proofs.lemmas.Bool.{and_parts, leb-true}
use Rattle.std.proofs.lemmas.Str.{IsUtf8-from_ascii}
use Rattle.std.proofs.lemmas.Str.Ascii.{IsAscii-nil, IsAscii-cons}
use Rattle.element_table.specs.SymbolText.{is_capital, is_small, is_symbol}

capital-below : (letter : ℕ) → is_capital letter ≡ true → letter < 128
capital-below letter is =
    (let most = leb-true letter 90 (and_parts (nat_le 65 letter) (nat_le letter 90) is).1 in omega (arith, most))

small-below : (letter : ℕ) → is_small letter ≡ true → letter < 128
small-below letter is =
    (let most = leb-true letter 122 (and_parts (nat_le 97 letter) (nat_le letter 122) is).1 in omega (arith, most))

IsAscii-symbol : (s : List ℕ) → is_symbol s ≡ true → IsAscii s
IsAscii-symbol [] is = absurd (true≢false (sym is))
IsAscii-symbol (a ∷ []) is = IsAscii-cons a [] (capital-below a is) IsAscii-nil
IsAscii-symbol (a ∷ b ∷ []) is =
    let parts = and_parts (is_capital a) (is_small b) is in
    IsAscii-cons a (b ∷ []) (capital-below a parts.0) (IsAscii-cons b [] (small-below b parts.1) IsAscii-nil)
IsAscii-symbol (a ∷ b ∷ c ∷ []) is =
    let front = and_parts _ (is_small c) is in
    let parts = and_parts (is_capital a) (is_small b) front.0 in
    IsAscii-cons a (b ∷ c ∷ []) (capital-below a parts.0)
    (IsAscii-cons b (c ∷ []) (small-below b parts.1) (IsAscii-cons c [] (small-below c front.1) IsAscii-nil))
IsAscii-symbol (a ∷ b ∷ c ∷ d ∷ more) is = absurd (true≢false (sym is))

pub IsUtf8-symbol : (s : List ℕ) → IsTrue (is_symbol s) → IsUtf8 s
IsUtf8-symbol s is = IsUtf8-from_ascii s (IsAscii-symbol s is)
