-- What holds of each element of a list holds of the one that a search finds.
use Rattle.std.proofs.Common.{◌≡◌, Bool, true, false, cond, List, [], ◌∷◌, subst}
use Rattle.std.specs.Prelude.{Some, All, find}
use Rattle.std.specs.List.{AllByRecursion}
use Rattle.std.proofs.lemmas.List.Elements.{recursion_from_All}

by-recursion : {X : Type 0} (P : X → Type 0) (p : X → Bool) (xs : List X) (x : X) → AllByRecursion P xs → find p xs ≡ Some x → P x
by-recursion P p [] x h e = cc
by-recursion P p (y ∷ ys) x h e =
    elim (p y) as (λ b. cond b (Some y) (find p ys) ≡ Some x → P x) [
      | true ↦ λ e. let same : y ≡ x = cc in subst P same h.0
      | false ↦ λ e. by-recursion P p ys x h.1 e
    ] e

pub found : {X : Type 0} (P : X → Type 0) (p : X → Bool) (xs : List X) (x : X) → All P xs → find p xs ≡ Some x → P x
found P p xs x h e = by-recursion P p xs x (recursion_from_All P xs h) e
