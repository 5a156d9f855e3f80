-- Lists at the places of their numbers of atoms.
use Rattle.std.proofs.Common.{◌≡◌, ℕ, zero, suc, List, [], ◌∷◌, ◌++◌, get_or, refl, sym}
use Rattle.std.specs.Prelude.{Option, Some, None, IfSome}
use Rattle.sub_isotopologues.specs.Listings.{Listing}
use Rattle.layered_envelope.specs.ElementLists.{AreListsOf}

-- what is at a place
pub list-at : (weights : List ℕ) (lists : List (Option Listing)) (k : ℕ) (o : Option Listing) → AreListsOf weights lists →
    o ≡ get_or lists k None → IfSome o (λ l. l.element ≡ record { weights = weights; atoms = k })
list-at weights lists k None are is = tt
list-at weights lists k (Some l) are is = are k l (sym is)

-- a place that nothing stands at changes no place
pub get_or-pushed : {X : Type 0} (xs : List X) (k : ℕ) (d : X) → get_or (xs ++ d ∷ []) k d ≡ get_or xs k d
get_or-pushed [] zero d = refl
get_or-pushed [] (suc k) d = refl
get_or-pushed (x ∷ xs) zero d = refl
get_or-pushed (x ∷ xs) (suc k) d = get_or-pushed xs k d
