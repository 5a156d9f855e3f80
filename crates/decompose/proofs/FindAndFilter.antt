-- The first element that passes a test, and the elements that a filter keeps.
use Rattle.std.proofs.Common.{◌≡◌, Bool, true, false, ◌&&◌, Some, None, List, [], ◌∷◌, map, refl, inl, inr, subst}
use Rattle.std.specs.List.{find, filter, AllByRecursion as Each}
use Rattle.std.specs.Option.{option_map}
use Rattle.std.proofs.lemmas.Bool.{cases_Bool}

-- a test that no element passes finds nothing
pub find_none : {X : Type 0} (p : X → Bool) (xs : List X) → ((x : X) → p x ≡ false) → find p xs ≡ None
find_none p [] h = refl
find_none p (x ∷ xs) h = rw (h x) (find_none p xs h)

pub find_agree : {X : Type 0} (p q : X → Bool) (xs : List X) → ((x : X) → p x ≡ q x) → find p xs ≡ find q xs
find_agree p q [] h = refl
find_agree p q (x ∷ xs) h = rw (h x, find_agree p q xs h)

pub find-map : {X Y : Type 0} (p : Y → Bool) (f : X → Y) (xs : List X) →
    find p (map f xs) ≡ option_map f (find (λ x. p (f x)) xs)
find-map p f [] = refl
find-map p f (x ∷ xs) =
    elim (cases_Bool (p (f x))) [ inl t ↦ rw (t) refl | inr t ↦ rw (t) (find-map p f xs) ]

-- what is found is one of the elements, and passes the test
pub find_each : {X : Type 0} (P : X → Type 0) (p : X → Bool) (xs : List X) (x : X) → Each P xs → find p xs ≡ Some x →
    P x × (p x ≡ true)
find_each P p [] x e f = absurd (cc)
find_each P p (y ∷ ys) x e f =
    elim (cases_Bool (p y)) [
      | inl t ↦
          let found : Some y ≡ Some x = rw t at f in
          let same : y ≡ x = cc in
          (subst P same e.0, cc)
      | inr t ↦ find_each P p ys x e.1 (rw t at f)
    ]

-- a filter keeps nothing where nothing is found
pub filter_none : {X : Type 0} (p : X → Bool) (xs : List X) → find p xs ≡ None → filter p xs ≡ []
filter_none p [] f = refl
filter_none p (x ∷ xs) f =
    elim (cases_Bool (p x)) [
      | inl t ↦ absurd (let found : Some x ≡ None = rw t at f in cc)
      | inr t ↦ rw t (filter_none p xs (rw t at f))
    ]

-- two filters, one over the other, are one by both tests
pub filter_twice : {X : Type 0} (p q : X → Bool) (xs : List X) → filter q (filter p xs) ≡ filter (λ x. p x && q x) xs
filter_twice p q [] = refl
filter_twice p q (x ∷ xs) =
    elim (cases_Bool (p x)) [
      | inl t ↦ elim (cases_Bool (q x))
          [ inl u ↦ rw (t, u, filter_twice p q xs) | inr u ↦ rw (t, u, filter_twice p q xs) ]
      | inr t ↦ rw (t, filter_twice p q xs)
    ]

-- tests that agree at each element keep the same elements
pub filter_each : {X : Type 0} (p q : X → Bool) (xs : List X) → Each (λ x. p x ≡ q x) xs → filter p xs ≡ filter q xs
filter_each p q [] h = refl
filter_each p q (x ∷ xs) h = rw (h.0, filter_each p q xs h.1)
