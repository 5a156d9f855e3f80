-- A slice whose first elements stand apart from the rest, `&xs[1..]` and `&xs[k..]`.
use Rattle.std.proofs.Common.{◌≡◌, ℕ, suc, ◌-◌, ◌<◌, List, [], ◌∷◌, ◌++◌, length, take, drop, set, refl, sym, ◌∙◌}
use Rattle.std.proofs.Common.{length-drop, arith}
use Rattle.std.proofs.Math.Seq.{take-length, drop-length}
use Rattle.std.proofs.lemmas.List.{append-nil, drop_all, take_at, take_rest, take-append-drop}
use borrow.Rule.Slice.PartMut.{put_mid}

one_less : (n : ℕ) → suc n - 1 ≡ n
one_less n = omega arith

-- the rest written anew, and then the first element
pub put_first : {X : Type 0} (xs rest : List X) (x : X) → length rest ≡ length xs - 1 → 0 < length xs →
    set (put_mid 1 (length xs - 1) xs rest) 0 x ≡ x ∷ rest
put_first [] rest x e h = absurd (omega arith)
put_first (y ∷ ys) rest x e h = rw (one_less (length ys), drop-length ys, append-nil rest) refl

-- the rest written back as it was
pub put_back : {X : Type 0} (xs : List X) → put_mid 1 (length xs - 1) xs (take (length xs - 1) (drop 1 xs)) ≡ xs
put_back [] = refl
put_back (y ∷ ys) = rw (one_less (length ys), take-length ys, drop-length ys, append-nil ys) refl

-- the elements from a place on written anew
pub put_rest : {X : Type 0} (xs rest : List X) (k : ℕ) →
    put_mid k (length xs - k) xs rest ≡ take k xs ++ rest
put_rest xs rest k =
    rw (drop_all (length xs - k) (drop k xs) (simp length-drop (omega arith)), append-nil rest) refl

-- the elements from a place on written back as they were
pub put_rest_back : {X : Type 0} (xs : List X) (k : ℕ) →
    put_mid k (length xs - k) xs (take (length xs - k) (drop k xs)) ≡ xs
put_rest_back xs k =
    put_rest xs (take (length xs - k) (drop k xs)) k ∙ rw (take_rest xs k) (take-append-drop k xs)

-- a whole list of n elements written anew
pub written : {X : Type 0} (new old : List X) (n : ℕ) → n ≡ length old → length new ≡ length old →
    take n (new ++ drop (length new) old) ≡ new
written new old n e h = take_at new (drop (length new) old) n (h ∙ sym e)
