-- What a writer took of a piece so far, and what is left of the piece.
use Rattle.std.proofs.Common.{◌≡◌, ℕ, ◌-◌, ◌≤◌, List, ◌++◌, length, take, drop, Option, sym, ap, ◌∙◌, subst, arith}
use Rattle.std.proofs.Common.{append_assoc, take-append-drop, length-append}
use Rattle.std.proofs.Math.Seq.{take-append_seam}
use Rattle.std.proofs.lemmas.List.{take_rest}
use Rattle.std.specs.Io.KnownBytes.{Appends}

-- once n more bytes were taken, what is left begins behind them
pub moves_front : (piece done rest : List ℕ) (n : ℕ) → piece ≡ done ++ rest
    → piece ≡ (done ++ take n rest) ++ take (length rest - n) (drop n rest)
moves_front piece done rest n e =
    e ∙ ap (λ l. done ++ l) (sym (take-append-drop n rest)) ∙ sym (append_assoc done (take n rest) (drop n rest))
    ∙ ap (λ l. (done ++ take n rest) ++ l) (sym (take_rest rest n))

-- what was appended are the first bytes of the piece
pub first_bytes : (before after : Option (List ℕ)) (piece done rest : List ℕ)
    → piece ≡ done ++ rest → Appends before after done
    → (taken : ℕ) × (taken ≤ length piece) × Appends before after (take taken piece)
first_bytes before after piece done rest split appended = (
  length done,
  rw split (simp length-append (omega arith)),
  subst (Appends before after) (sym (take-append_seam done rest) ∙ ap (take (length done)) (sym split)) appended,
)
