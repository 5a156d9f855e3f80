-- That a trimmed field is what stands between the blanks at both ends of the field.
use Rattle.std.proofs.Common.{◌≡◌, ℕ, ◌+◌, ◌-◌, Bool, true, false, cond, List, [], ◌∷◌, ◌++◌, length, take, drop}
use Rattle.std.proofs.Common.{reverse}
use Rattle.std.proofs.Common.{refl, sym, ap, ◌∙◌}
use Rattle.std.specs.Prelude.{IsTrue, IsFalse}
use Rattle.std.specs.List.{All, prefix_len, suffix_len}
use Rattle.std.proofs.lemmas.List.{append_assoc, length-reverse, reverse-append, reverse-reverse, take_at}
use Rattle.std.proofs.lemmas.List.{length-drop, take-append-drop}
use Rattle.std.proofs.Math.Numerals.{one-add}
use Rattle.std.proofs.lemmas.List.Elements.{All-cons, All-nil}
use Rattle.std.proofs.lemmas.List.Sorted.{All-permutation, IsPermutation-reverse}
use Rattle.csv_records.specs.FileRecords.{IsTrimmed, is_blank, trimmed_end, trimmed_field, trimmed_front}

abbrev IsBlank : ℕ → Type 0
IsBlank byte = IsTrue (is_blank byte)

-- the blanks that bytes begin with
front_blanks : (bytes : List ℕ) → All IsBlank (take (prefix_len is_blank bytes) bytes)
front_blanks [] = All-nil IsBlank
front_blanks (byte ∷ bytes) = by (is_blank byte) refl (front_blanks bytes)
  where
    by : (b : Bool) → is_blank byte ≡ b → All IsBlank (take (prefix_len is_blank bytes) bytes)
        → All IsBlank (take (cond b (1 + prefix_len is_blank bytes) 0) (byte ∷ bytes))
    by true is more =
        rw one-add (All-cons IsBlank byte (take (prefix_len is_blank bytes) bytes) is more)
    by false other more = All-nil IsBlank

-- behind which the first byte is none
front_other : (bytes : List ℕ) (byte : ℕ) (rest : List ℕ) → drop (prefix_len is_blank bytes) bytes ≡ byte ∷ rest
    → IsFalse (is_blank byte)
front_other [] byte rest is = cc
front_other (first ∷ bytes) byte rest is = by (is_blank first) refl is (front_other bytes byte rest)
  where
    by : (b : Bool) → is_blank first ≡ b → drop (cond b (1 + prefix_len is_blank bytes) 0) (first ∷ bytes) ≡ byte ∷ rest
        → (drop (prefix_len is_blank bytes) bytes ≡ byte ∷ rest → is_blank byte ≡ false) → is_blank byte ≡ false
    by true blank is more = more (rw one-add at is)
    by false other is more = let same : first ∷ bytes ≡ byte ∷ rest = is in cc

-- bytes without the blanks at their end, and these
record EndsTrimmed (bytes : List ℕ) : Type 0 where
  parts : bytes ≡ trimmed_end bytes ++ reverse (take (suffix_len is_blank bytes) (reverse bytes))
  trimmed : trimmed_end bytes ≡ reverse (drop (suffix_len is_blank bytes) (reverse bytes))

ends_trimmed : (bytes : List ℕ) → EndsTrimmed bytes
ends_trimmed bytes =
    let s = suffix_len is_blank bytes in
    let kept = reverse (drop s (reverse bytes)) in
    let blanks = reverse (take s (reverse bytes)) in
    let split : bytes ≡ kept ++ blanks =
    sym (reverse-reverse bytes) ∙ ap reverse (sym (take-append-drop s (reverse bytes)))
    ∙ reverse-append (take s (reverse bytes)) (drop s (reverse bytes)) in
    let size : length kept ≡ length bytes - s =
    length-reverse (drop s (reverse bytes)) ∙ length-drop s (reverse bytes)
    ∙ ap (λ (n : ℕ). n - s) (length-reverse bytes) in
    let same : trimmed_end bytes ≡ kept =
    ap (take (length bytes - s)) split ∙ take_at kept blanks (length bytes - s) size in
    record { parts = split ∙ ap (λ (l : List ℕ). l ++ blanks) (sym same); trimmed = same }

pub trimmed : (field : List ℕ) → IsTrimmed field (trimmed_field field)
unfolding trimmed_field
trimmed field =
    let n = prefix_len is_blank field in
    let rest = trimmed_front field in
    let s = suffix_len is_blank rest in
    let blanks = reverse (take s (reverse rest)) in
    let ends = ends_trimmed rest in
    record {
      front = take n field;
      end = blanks;
      parts = sym (take-append-drop n field) ∙ ap (λ (l : List ℕ). take n field ++ l) ends.parts
          ∙ sym (append_assoc (take n field) (trimmed_end rest) blanks);
      blank_front = front_blanks field;
      blank_end = All-permutation IsBlank _ _ (IsPermutation-reverse (take s (reverse rest)))
          (front_blanks (reverse rest));
      first = λ byte others is.
          front_other field byte (others ++ blanks) (ends.parts ∙ ap (λ (l : List ℕ). l ++ blanks) is);
      last = λ byte others is.
          let turned : drop s (reverse rest) ≡ byte ∷ reverse others =
          sym (reverse-reverse (drop s (reverse rest))) ∙ ap reverse (sym ends.trimmed ∙ is)
          ∙ reverse-append others (byte ∷ []) in
          front_other (reverse rest) byte (reverse others) turned;
    }
