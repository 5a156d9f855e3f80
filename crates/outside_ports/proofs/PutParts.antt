-- A text that is put part by part.
use Rattle.std.proofs.Common.{◌≡◌, ℕ, ◌+◌, ◌≤◌, List, ◌++◌, length, take, drop, refl, sym, ap, ◌∙◌, arith}
use Rattle.std.proofs.Common.{length-append}
use Rattle.std.specs.Prelude.{Option, Some, None}
use Rattle.std.specs.Io.KnownBytes.{append_known}
use Rattle.std.proofs.lemmas.List.{append_assoc, take-append-le, take-append-drop}
use Rattle.std.proofs.Math.Seq.{take-append-add}

-- one part behind another
append_known-twice : (written : Option (List ℕ)) (a b : List ℕ)
    → append_known (append_known written a) b ≡ append_known written (a ++ b)
append_known-twice None a b = refl
append_known-twice (Some bytes) a b = ap Some (append_assoc bytes a b)

-- all of one more part was put
pub put_more : (before middle after : Option (List ℕ)) (put part : List ℕ)
    → middle ≡ append_known before put → after ≡ append_known middle part → after ≡ append_known before (put ++ part)
put_more before middle after put part so_far now =
    now ∙ ap (λ w. append_known w part) so_far ∙ append_known-twice before put part

-- what is left is a part and the others
pub two_parts : (rest part others : List ℕ) (n : ℕ) → part ≡ take n rest → others ≡ drop n rest → part ++ others ≡ rest
two_parts rest part others n front back =
    ap (λ p. p ++ others) front ∙ ap (λ o. take n rest ++ o) back ∙ take-append-drop n rest

-- the part at the front of what is left goes over to what was put
pub parts_more : (put rest whole part others : List ℕ)
    → put ++ rest ≡ whole → part ++ others ≡ rest → (put ++ part) ++ others ≡ whole
parts_more put rest whole part others parts split =
    append_assoc put part others ∙ ap (λ r. put ++ r) split ∙ parts

-- of one more part some first bytes were put
pub put_some : (before middle after : Option (List ℕ)) (put rest whole part others : List ℕ) (taken : ℕ)
    → put ++ rest ≡ whole → part ++ others ≡ rest → middle ≡ append_known before put
    → taken ≤ length part → after ≡ append_known middle (take taken part)
    → (some : ℕ) × (some ≤ length whole) × (after ≡ append_known before (take some whole))
put_some before middle after put rest whole part others taken parts split so_far within now =
    let all : put ++ (part ++ others) ≡ whole = ap (λ r. put ++ r) split ∙ parts in
    let some : take (length put + taken) whole ≡ put ++ take taken part =
    ap (take (length put + taken)) (sym all) ∙ take-append-add put (part ++ others) taken
    ∙ ap (λ p. put ++ p) (take-append-le taken part others within) in (
      length put + taken,
      omega (arith, within, ap length all, length-append put (part ++ others), length-append part others),
      put_more before middle after put (take taken part) so_far now ∙ ap (append_known before) (sym some),
    )
