-- A text that was copied in front of what was there.
use Rattle.std.proofs.Common.{◌≡◌, ℕ, ◌+◌, ◌≤◌, List, ◌++◌, length, take, drop, sym, ap, ◌∙◌, arith}
use Rattle.std.proofs.lemmas.List.{append_assoc, length-take-le, take-append-drop}
use Rattle.std.proofs.Math.Seq.{drop-append_seam}

pub text_in_front : (start end : ℕ) (room text copied after : List ℕ) → copied ≡ text → start + length text ≡ end
    → end ≤ length room → take end after ≡ take start room ++ copied → drop end after ≡ drop end room
    → drop start after ≡ text ++ drop end room
text_in_front start end room text copied after same ends fits front rest =
    let begins : length (take start room) ≡ start = length-take-le start room (omega arith) in
    let parts : after ≡ take start room ++ (text ++ drop end room) =
    sym (take-append-drop end after)
    ∙ ap (λ (t : List ℕ). t ++ drop end after) (front ∙ ap (λ (t : List ℕ). take start room ++ t) same)
    ∙ ap (λ (t : List ℕ). (take start room ++ text) ++ t) rest
    ∙ append_assoc (take start room) text (drop end room) in
    ap (λ (t : List ℕ). drop start t) parts
    ∙ ap (λ (n : ℕ). drop n (take start room ++ (text ++ drop end room))) (sym begins)
    ∙ drop-append_seam (take start room) (text ++ drop end room)
