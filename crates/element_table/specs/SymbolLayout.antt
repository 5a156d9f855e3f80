-- For the model of symbols and proofs: how a symbol's letters are laid out in three places, with 0 behind the letters.
use Rattle.std.specs.Prelude.{ℕ, ◌≡◌, ◌≤◌, List, [], ◌∷◌, length, slice_index_or, take, IsTrue}
use Rattle.std.proofs.Common.{arith, ap, sym, ◌∙◌, length-take}
use Rattle.element_table.specs.SymbolText.{is_symbol}
use Rattle.element_table.specs.declared.symbol.Symbol.TheInside.{Inside}

-- three places that begin with this text, and have 0 where it has no letter
abbrev pub letters_of : List ℕ → List ℕ
letters_of text = slice_index_or text 0 0 ∷ slice_index_or text 1 0 ∷ slice_index_or text 2 0 ∷ []

-- the places hold a symbol of so many letters, and 0 behind it
pub record HoldsSymbol (len : ℕ) (letters : List ℕ) : Type 0 where
  pub places : length letters ≡ 3
  pub short : len ≤ 3
  pub spelled : IsTrue (is_symbol (take len letters))
  pub padded : letters ≡ letters_of (take len letters)

-- the layout of the letters is the layout that they came from
pub laid_out_again : (s : Inside) → HoldsSymbol s.len s.letters
    → record s { letters = letters_of (take s.len s.letters); len = length (take s.len s.letters) } ≡ s
laid_out_again s h =
    let len : length (take s.len s.letters) ≡ s.len = simp length-take (omega (arith, h.places, h.short)) in
    let places : letters_of (take s.len s.letters) ≡ s.letters = sym h.padded in
    ap (λ (n : ℕ). record s { letters = letters_of (take s.len s.letters); len = n }) len
    ∙ ap (λ (l : List ℕ). record s { letters = l }) places
