-- The place of bad text in the rest of a text, behind a front that all texts of the grammar share.
use Rattle.std.proofs.Common.{◌≡◌, ℕ, ◌+◌, ◌<◌, List, [], ◌∷◌, ◌++◌, length, take, refl, sym, ap, subst, ◌∙◌, arith}
use Rattle.std.proofs.Common.{add-one, append_assoc, length-append}
use Rattle.std.specs.Prelude.{Option, Some, None}
use Rattle.std.proofs.Math.Seq.{take-append-add}
use Rattle.reader_answers.specs.BadPlaces.{Begins, IsBadPlace}

-- the first byte of a text
abbrev pub first_byte : List ℕ → Option ℕ
first_byte [] = None
first_byte (byte ∷ rest) = Some byte

-- the first byte stands in each longer beginning of a text
first_byte-taken : (text more : List ℕ) (n : ℕ) → n < length text
    → first_byte (take (n + 1) text ++ more) ≡ first_byte text
first_byte-taken [] more n within = absurd (omega arith)
first_byte-taken (b ∷ rest) more n within = ap (λ k. first_byte (take k (b ∷ rest) ++ more)) (add-one n)

-- no text of the grammar begins as this one: bad text is at its first byte
pub bad-here : (IsText : List ℕ → Type 0) (text : List ℕ) → Begins IsText []
    → ((other : List ℕ) → first_byte other ≡ first_byte text → IsText other → ⊥) → IsBadPlace IsText text 0
bad-here IsText text some none =
    record {
      within = omega arith;
      before = some;
      at = λ within goes_on. none (take (0 + 1) text ++ goes_on.0) (first_byte-taken text goes_on.0 0 within) goes_on.1;
      at_end = λ _ is. none text refl is;
    }

-- Where all texts that begin with the front and then with the rest's first byte have a rest of another
-- grammar, the place of bad text in the rest is that of the whole behind the front.
pub bad-behind : (IsText IsRest : List ℕ → Type 0) (front rest : List ℕ) (place : ℕ)
    → ((other : List ℕ) → IsRest other → IsText (front ++ other))
    → ((other : List ℕ) → first_byte other ≡ first_byte rest → IsText (front ++ other) → IsRest other)
    → IsBadPlace IsRest rest place → IsBadPlace IsText (front ++ rest) (length front + place)
bad-behind IsText IsRest front rest place complete behind bad =
    let len = length-append front rest in
    record {
      within = let w = bad.within in omega (arith, w, len);
      before =
          let more = bad.before.0 in (
            more,
            subst IsText (sym (append_assoc front (take place rest) more) ∙ ap (λ t. t ++ more)
                (sym (take-append-add front rest place))) (complete (take place rest ++ more) bad.before.1),
          );
      at = λ within goes_on.
          let inside : place < length rest = omega (arith, len) in
          let more = goes_on.0 in
          let next : take (length front + place + 1) (front ++ rest) ≡ front ++ take (place + 1) rest =
          ap (λ n. take n (front ++ rest)) (omega arith) ∙ take-append-add front rest (place + 1) in
          bad.at inside (
            more,
            behind (take (place + 1) rest ++ more) (first_byte-taken rest more place inside)
                (subst IsText (ap (λ t. t ++ more) next ∙ append_assoc front (take (place + 1) rest) more) goes_on.1),
          );
      at_end = λ end is.
          let same : place ≡ length rest = omega (arith, len) in
          bad.at_end same (behind rest refl is);
    }
