-- Where a text stops being one of a grammar. A text is the list of its bytes, a place in it is the number of bytes
-- before it, and a grammar says of each text whether it is one.
use Rattle.std.specs.Prelude.{◌≡◌, ℕ, ◌+◌, ◌<◌, ◌≤◌, List, ◌++◌, length, take}

-- some text of the grammar begins with these bytes
abbrev pub Begins : (List ℕ → Type 0) → List ℕ → Type 0
Begins IsText bytes = (more : List ℕ) × IsText (bytes ++ more)

-- The place of bad text: a text of the grammar begins with the bytes before it, and none with these and the byte at
-- the place. It is the text's length where the text ends too early.
pub record IsBadPlace (IsText : List ℕ → Type 0) (text : List ℕ) (place : ℕ) : Type 0 where
  pub within : place ≤ length text
  pub before : Begins IsText (take place text)
  pub at : place < length text → ¬ (Begins IsText (take (place + 1) text))
  pub at_end : place ≡ length text → ¬ (IsText text)
