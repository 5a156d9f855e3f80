-- The first of a list that passes a test, and members of a list by a test of equality.
use Rattle.std.proofs.Common.{◌≡◌, ℕ, zero, suc, ◌+◌, ◌-◌, ◌<◌, ◌≤◌, Bool, true, false, cond, List, [], ◌∷◌, get_or, Some, None, refl, sym, arith, All}
use Rattle.std.specs.Prelude.{Contains, find, Option}
use Rattle.std.specs.List.{range_with_len}
use Rattle.std.specs.Bool.{Decides}
use Rattle.std.specs.Cmp.Lexicographic.{pointwise}
use Rattle.std.specs.Str.{bytes_eq}
use Rattle.std.proofs.lemmas.List.Elements.{All-nil, All-cons}
use Rattle.std.proofs.lemmas.List.Folds.{list_any_at}
use Rattle.std.proofs.lemmas.Map.Views.{Contains-from_any}
use Rattle.std.proofs.lemmas.Slice.Eq.{bytes_eq-Decides, slice_eq-Decides}
use Rattle.cover_claims.specs.Claims.{is_member}

pub some≢none : {X : Type 0} (x : X) → ◌≡◌ {A = Option X} (Some x) None → ⊥
some≢none x e = let t : ◌≡◌ {A = Option _} (Some x) None = e in cc

-- where nothing is found, all fail
pub find-none : {X : Type 0} (p : X → Bool) (xs : List X) → find p xs ≡ None → All (λ x. p x ≡ false) xs
find-none p [] none = All-nil (λ x. p x ≡ false)
find-none {X} p (x ∷ xs) none =
    let Goal : Bool → Type 0 =
    λ b. p x ≡ b → cond b (Some x) (find p xs) ≡ None → All (λ y. p y ≡ false) (x ∷ xs) in
    (elim (p x) as Goal [
      | true ↦ λ passes found. absurd (some≢none x found)
      | false ↦ λ fails rest. All-cons (λ y. p y ≡ false) x xs fails (find-none p xs rest)
    ]) refl none

-- a test of equality decides membership
pub same_isotopologue : (a b : List (List ℕ)) → Decides (pointwise bytes_eq a b) (a ≡ b)
same_isotopologue a b = slice_eq-Decides bytes_eq-Decides a b (pointwise bytes_eq a b) refl

pub is_member-Decides : (members : List (List (List ℕ))) (i : List (List ℕ)) →
    Decides (is_member members i) (Contains members i)
is_member-Decides members i = (
  λ found. Contains-from_any (λ a b same. (same_isotopologue a b).0 same) i members found,
  λ member.
      list_any_at (pointwise bytes_eq i) members member.0 i member.1
      ((same_isotopologue i (get_or members member.0 i)).1 (sym member.2)),
)

-- the first of the places from one on
pub found-here : (p : ℕ → Bool) (a n : ℕ) → a < n → p a ≡ true → find p (range_with_len a (n - a)) ≡ Some a
found-here p a n within is =
    let e : n - a ≡ suc (n - (a + 1)) = omega arith in
    rw (e, is) refl

pub not-here : (p : ℕ → Bool) (a n : ℕ) → a < n → p a ≡ false →
    find p (range_with_len a (n - a)) ≡ find p (range_with_len (a + 1) (n - (a + 1)))
not-here p a n within is =
    let e : n - a ≡ suc (n - (a + 1)) = omega arith in
    rw (e, is) refl

pub none-left : (p : ℕ → Bool) (a n : ℕ) → n ≤ a → find p (range_with_len a (n - a)) ≡ None
none-left p a n past =
    let e : n - a ≡ zero = omega arith in
    rw e refl
