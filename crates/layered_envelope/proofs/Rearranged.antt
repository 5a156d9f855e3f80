-- Lists of the same members in any order, built up step by step, so that what is done to each member is done to both.
use Rattle.std.proofs.Common.{Bool, true, false, cond, List, [], ◌∷◌, ◌++◌, map, sym, subst, append_assoc}
use Rattle.std.specs.Prelude.{flat_map, filter}
use Rattle.std.specs.List.Sorted.{IsPermutation}
use Rattle.std.proofs.lemmas.List.{append-nil}
use Rattle.std.proofs.lemmas.List.Sorted.{IsPermutation-refl, IsPermutation-cons, IsPermutation-trans, IsPermutation-middle}
use Rattle.sorted_lists.specs.SortedLists.{put_in_order, sorted_by}

pub data Rearranged (X : Type 0) : List X → List X → Type 0 where
  none : Rearranged X [] []
  kept : {xs ys : List X} (x : X) → Rearranged X xs ys → Rearranged X (x ∷ xs) (x ∷ ys)
  exchanged : {xs : List X} (x y : X) → Rearranged X (x ∷ y ∷ xs) (y ∷ x ∷ xs)
  joined : {xs ys zs : List X} → Rearranged X xs ys → Rearranged X ys zs → Rearranged X xs zs

pub unmoved : {X : Type 0} (xs : List X) → Rearranged X xs xs
unmoved [] = none
unmoved (x ∷ xs) = kept x (unmoved xs)

pub back : {X : Type 0} {xs ys : List X} → Rearranged X xs ys → Rearranged X ys xs
back none = none
back (kept x r) = kept x (back r)
back (exchanged x y) = exchanged y x
back (joined r s) = joined (back s) (back r)

pub IsPermutation-from : {X : Type 0} {xs ys : List X} → Rearranged X xs ys → IsPermutation xs ys
IsPermutation-from none = IsPermutation-refl []
IsPermutation-from (kept x r) = IsPermutation-cons x _ _ (IsPermutation-from r)
IsPermutation-from (exchanged {xs} x y) = IsPermutation-middle (x ∷ []) y xs
IsPermutation-from (joined r s) = IsPermutation-trans _ _ _ (IsPermutation-from r) (IsPermutation-from s)

pub Rearranged-map : {X Y : Type 0} (f : X → Y) {xs ys : List X} → Rearranged X xs ys →
    Rearranged Y (map f xs) (map f ys)
Rearranged-map f none = none
Rearranged-map f (kept x r) = kept (f x) (Rearranged-map f r)
Rearranged-map f (exchanged x y) = exchanged (f x) (f y)
Rearranged-map f (joined r s) = joined (Rearranged-map f r) (Rearranged-map f s)

pub Rearranged-filter : {X : Type 0} (p : X → Bool) {xs ys : List X} → Rearranged X xs ys →
    Rearranged X (filter p xs) (filter p ys)
Rearranged-filter p none = none
Rearranged-filter {X} p (kept {xs} {ys} x r) =
    elim (p x) as (λ b. Rearranged X (cond b (x ∷ filter p xs) (filter p xs)) (cond b (x ∷ filter p ys) (filter p ys)))
    [ true ↦ kept x (Rearranged-filter p r) | false ↦ Rearranged-filter p r ]
Rearranged-filter {X} p (exchanged {xs} x y) =
    elim (p x) as (λ b.
    Rearranged X
    (cond b (x ∷ cond (p y) (y ∷ filter p xs) (filter p xs)) (cond (p y) (y ∷ filter p xs) (filter p xs)))
    (cond (p y) (y ∷ cond b (x ∷ filter p xs) (filter p xs)) (cond b (x ∷ filter p xs) (filter p xs)))) [
      | true ↦ elim (p y) as (λ b.
          Rearranged X (x ∷ cond b (y ∷ filter p xs) (filter p xs)) (cond b (y ∷ x ∷ filter p xs) (x ∷ filter p xs)))
          [ true ↦ exchanged x y | false ↦ unmoved (x ∷ filter p xs) ]
      | false ↦ unmoved (cond (p y) (y ∷ filter p xs) (filter p xs))
    ]
Rearranged-filter p (joined r s) = joined (Rearranged-filter p r) (Rearranged-filter p s)

append_left : {X : Type 0} (zs : List X) {xs ys : List X} → Rearranged X xs ys → Rearranged X (zs ++ xs) (zs ++ ys)
append_left [] r = r
append_left (z ∷ zs) r = kept z (append_left zs r)

append_right : {X : Type 0} (zs : List X) {xs ys : List X} → Rearranged X xs ys → Rearranged X (xs ++ zs) (ys ++ zs)
append_right zs none = unmoved zs
append_right zs (kept x r) = kept x (append_right zs r)
append_right zs (exchanged x y) = exchanged x y
append_right zs (joined r s) = joined (append_right zs r) (append_right zs s)

-- a member moved to the front
moved_up : {X : Type 0} (x : X) (xs ys : List X) → Rearranged X (xs ++ (x ∷ ys)) (x ∷ (xs ++ ys))
moved_up x [] ys = unmoved (x ∷ ys)
moved_up x (z ∷ xs) ys = joined (kept z (moved_up x xs ys)) (exchanged z x)

swapped_parts : {X : Type 0} (xs ys : List X) → Rearranged X (xs ++ ys) (ys ++ xs)
swapped_parts [] ys = subst (λ zs. Rearranged _ ys zs) (sym (append-nil ys)) (unmoved ys)
swapped_parts (x ∷ xs) ys = joined (kept x (swapped_parts xs ys)) (back (moved_up x ys xs))

pub Rearranged-flat_map : {X Y : Type 0} (g : X → List Y) {xs ys : List X} → Rearranged X xs ys →
    Rearranged Y (flat_map g xs) (flat_map g ys)
Rearranged-flat_map g none = none
Rearranged-flat_map g (kept x r) = append_left (g x) (Rearranged-flat_map g r)
Rearranged-flat_map {X} {Y} g (exchanged {xs} x y) =
    let left : Rearranged Y ((g x ++ g y) ++ flat_map g xs) ((g y ++ g x) ++ flat_map g xs) =
    append_right (flat_map g xs) (swapped_parts (g x) (g y)) in
    rw (append_assoc (g x) (g y) (flat_map g xs), append_assoc (g y) (g x) (flat_map g xs)) at left
Rearranged-flat_map g (joined r s) = joined (Rearranged-flat_map g r) (Rearranged-flat_map g s)

pub flat_map_each : {X Y : Type 0} (g h : X → List Y) (xs : List X) → ((x : X) → Rearranged Y (g x) (h x)) →
    Rearranged Y (flat_map g xs) (flat_map h xs)
flat_map_each g h [] each = none
flat_map_each g h (x ∷ xs) each =
    joined (append_right (flat_map g xs) (each x)) (append_left (h x) (flat_map_each g h xs each))

put : {X : Type 0} (before : X → X → Bool) (k : X) (xs : List X) → Rearranged X (k ∷ xs) (put_in_order before k xs)
put before k [] = unmoved (k ∷ [])
put {X} before k (x ∷ xs) =
    elim (before k x) as (λ b. Rearranged X (k ∷ x ∷ xs) (cond b (k ∷ x ∷ xs) (x ∷ put_in_order before k xs)))
    [ true ↦ unmoved (k ∷ x ∷ xs) | false ↦ joined (exchanged k x) (kept x (put before k xs)) ]

pub Rearranged-sorted_by : {X : Type 0} (before : X → X → Bool) (xs : List X) → Rearranged X xs (sorted_by before xs)
Rearranged-sorted_by before [] = none
Rearranged-sorted_by before (x ∷ xs) =
    joined (kept x (Rearranged-sorted_by before xs)) (put before x (sorted_by before xs))
