-- A text has one place of bad text at most, and is then none of the grammar.
use Rattle.std.proofs.Common.{◌≡◌, ℕ, ◌+◌, ◌-◌, ◌<◌, ◌≤◌, List, ◌++◌, length, take, drop, sym, ◌∙◌, ap, subst, inl, inr}
use Rattle.std.proofs.Common.{arith}
use Rattle.std.proofs.lemmas.Bool.{cases_lt, cases_order}
use Rattle.std.proofs.lemmas.List.{append_assoc, take-append-drop}
use Rattle.std.proofs.Math.Seq.{take-add}
use Rattle.reader_answers.specs.BadPlaces.{Begins, IsBadPlace}

-- a text that begins so begins with each part of that
begins_with_less : (IsText : List ℕ → Type 0) (text : List ℕ) (n m : ℕ) → Begins IsText (take (n + m) text)
    → Begins IsText (take n text)
begins_with_less IsText text n m (more, is) = (
  take m (drop n text)
      ++ more,
  subst IsText
      (ap (λ bytes. bytes ++ more) (take-add n m text) ∙ append_assoc (take n text) (take m (drop n text)) more) is,
)

-- no text of the grammar has a place of bad text before another such place
not_before : (IsText : List ℕ → Type 0) (text : List ℕ) (p q : ℕ) → IsBadPlace IsText text p → IsBadPlace IsText text q
    → p < q → ⊥
not_before IsText text p q here there earlier =
    let within : p < length text = omega (arith, there.within) in
    let split : q ≡ p + 1 + (q - (p + 1)) = omega arith in
    here.at within
    (begins_with_less IsText text (p + 1) (q - (p + 1))
    (subst (λ n. Begins IsText (take n text)) split there.before))

-- a text has one place of bad text at most
pub one-bad-place : (IsText : List ℕ → Type 0) (text : List ℕ) (p q : ℕ) → IsBadPlace IsText text p
    → IsBadPlace IsText text q → p ≡ q
one-bad-place IsText text p q here there =
    elim (cases_order p q) [
      | inl same ↦ same
      | inr other ↦ absurd (elim other [
        | inl earlier ↦ not_before IsText text p q here there earlier
        | inr later ↦ not_before IsText text q p there here later
      ])
    ]

-- and then it is none of the grammar
pub bad-place-no-text : (IsText : List ℕ → Type 0) (text : List ℕ) (p : ℕ) → IsBadPlace IsText text p → ¬ (IsText text)
bad-place-no-text IsText text p here is =
    elim (cases_lt p (length text)) [
      | inl within ↦ here.at within (drop (p + 1) text, subst IsText (sym (take-append-drop (p + 1) text)) is)
      | inr past ↦ here.at_end (let w : p ≤ length text = here.within in omega (arith, w, past)) is
    ]
