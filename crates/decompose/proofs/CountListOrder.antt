-- The lexicographic order of count lists, and lists that rise in it.
use Rattle.std.proofs.Common.{◌≡◌, ℕ, ◌<◌, Bool, true, false, ◌&&◌, Option, Some, None, List, [], ◌∷◌, ◌++◌, map, refl}
use Rattle.std.proofs.Common.{◌∙◌, inl, inr, subst, arith}
use Rattle.std.specs.declared.cmp.Ordering.{Ordering}
use Rattle.std.specs.declared.cmp.Ordering.TheVariants.{Less, Equal, Greater}
use Rattle.std.specs.Ordering.{is_lt}
use Rattle.std.specs.List.{find, filter, AllByRecursion as Each}
use Rattle.std.proofs.lemmas.Bool.{cases_Bool, and_parts, and_right, lt-ltb, le-ltb, eq-eqb, ne_eqb}
use Rattle.std.proofs.lemmas.Cmp.{nat_list_cmp_total, tied_itself}
use Rattle.decompose.specs.CountLists.{comes_after}
use Rattle.decompose.specs.CountLists.{follows}
use Rattle.decompose.proofs.FindAndFilter.{filter_each, find_each}

less : (o : Ordering) → is_lt o ≡ true → o ≡ Less
less Less h = refl
less Equal h = absurd (cc)
less Greater h = absurd (cc)

-- the order
pub after_trans : (a b c : List ℕ) → comes_after a b ≡ true → comes_after b c ≡ true → comes_after a c ≡ true
after_trans a b c h k =
    rw (nat_list_cmp_total.trans a b c (less _ h) (less _ k)) refl

pub after_itself : (a : List ℕ) → comes_after a a ≡ false
after_itself a = rw (tied_itself nat_list_cmp_total a) refl

pub after_back : (a b : List ℕ) → comes_after a b ≡ true → comes_after b a ≡ false
after_back a b h =
    rw (nat_list_cmp_total.antisymm b a, less _ h) refl

-- the first count decides where it differs, and else the rest
pub after_below : (c d : ℕ) (cs ds : List ℕ) → d < c → comes_after (c ∷ cs) (d ∷ ds) ≡ false
after_below c d cs ds h = rw (le-ltb c d (omega arith), ne_eqb c d (omega arith)) refl

pub after_above : (c d : ℕ) (cs ds : List ℕ) → c < d → comes_after (c ∷ cs) (d ∷ ds) ≡ true
after_above c d cs ds h = rw (lt-ltb c d h) refl

pub after_same : (c : ℕ) (cs ds : List ℕ) → comes_after (c ∷ cs) (c ∷ ds) ≡ comes_after cs ds
after_same c cs ds = rw (le-ltb c c (omega arith), eq-eqb c c refl) refl

pub follows_trans : (given : Option (List ℕ)) (a b : List ℕ) → follows given a ≡ true → comes_after a b ≡ true →
    follows given b ≡ true
follows_trans None a b h k = refl
follows_trans (Some g) a b h k = after_trans g a b h k

-- each element comes before all later ones
abbrev pub Rises : List (List ℕ) → Type 0
Rises [] = Unit {0}
Rises (x ∷ xs) = Each (λ y. comes_after x y ≡ true) xs × Rises xs

-- each element of the first list comes before all of the second
abbrev pub RiseInto : List (List ℕ) → List (List ℕ) → Type 0
RiseInto xs ys = Each (λ x. Each (λ y. comes_after x y ≡ true) ys) xs

pub Each-append : {X : Type 0} (P : X → Type 0) (xs ys : List X) → Each P xs → Each P ys → Each P (xs ++ ys)
Each-append P [] ys h k = k
Each-append P (x ∷ xs) ys h k = (h.0, Each-append P xs ys h.1 k)

pub Each-map : {X Y : Type 0} (P : Y → Type 0) (f : X → Y) (xs : List X) → Each (λ x. P (f x)) xs → Each P (map f xs)
Each-map P f [] h = tt
Each-map P f (x ∷ xs) h = (h.0, Each-map P f xs h.1)

pub Each-from_all : {X : Type 0} (P : X → Type 0) (xs : List X) → ((x : X) → P x) → Each P xs
Each-from_all P [] h = tt
Each-from_all P (x ∷ xs) h = (h x, Each-from_all P xs h)

pub Each-weaken : {X : Type 0} (P Q : X → Type 0) (xs : List X) → ((x : X) → P x → Q x) → Each P xs → Each Q xs
Each-weaken P Q [] h k = tt
Each-weaken P Q (x ∷ xs) h k = (h x k.0, Each-weaken P Q xs h k.1)

pub Rises-append : (xs ys : List (List ℕ)) → Rises xs → Rises ys → RiseInto xs ys → Rises (xs ++ ys)
Rises-append [] ys h k into = k
Rises-append (x ∷ xs) ys h k into =
    (Each-append (λ y. comes_after x y ≡ true) xs ys h.0 into.0, Rises-append xs ys h.1 k into.1)

-- one count set before each list keeps the order
pub Rises-map : (c : ℕ) (xs : List (List ℕ)) → Rises xs → Rises (map (λ x. c ∷ x) xs)
Rises-map c [] h = tt
Rises-map c (x ∷ xs) h = (
  Each-map (λ y. comes_after (c ∷ x) y ≡ true) (λ y. c ∷ y) xs
      (Each-weaken (λ y. comes_after x y ≡ true) (λ y. comes_after (c ∷ x) (c ∷ y) ≡ true) xs
      (λ y k. after_same c x y ∙ k) h.0),
  Rises-map c xs h.1,
)

-- the elements after the first one that is left are those that come after it
pub first_and_rest : (q : List ℕ → Bool) (given : Option (List ℕ)) (xs : List (List ℕ)) (x : List ℕ) → Rises xs →
    find (λ y. q y && follows given y) xs ≡ Some x →
    filter (λ y. q y && follows given y) xs ≡ x ∷ filter (λ y. q y && comes_after x y) xs
first_and_rest q given [] x h f = absurd (cc)
first_and_rest q given (y ∷ ys) x h f =
    elim (cases_Bool (q y && follows given y)) [
      | inl t ↦
          let found : Some y ≡ Some x = rw t at f in
          let same : y ≡ x = cc in
          let itself : (q y && comes_after y y) ≡ false = and_right (q y) _ (after_itself y) in
          let rest : filter (λ z. q z && follows given z) ys ≡ filter (λ z. q z && comes_after y z) ys =
          filter_each _ _ ys
          (Each-weaken (λ z. comes_after y z ≡ true) (λ z. (q z && follows given z) ≡ (q z && comes_after y z)) ys
          (λ z k. rw (k, follows_trans given y z (and_parts (q y) _ t).1 k) refl) h.0)
          in
          rw t
          (subst (λ z. y ∷ filter (λ z. q z && follows given z) ys ≡ z ∷ filter (λ w. q w && comes_after z w) (y ∷ ys))
          same (rw (itself, rest) refl))
      | inr t ↦
          let found : find (λ z. q z && follows given z) ys ≡ Some x = rw t at f in
          let later : comes_after y x ≡ true = (find_each (λ z. comes_after y z ≡ true) _ ys x h.0 found).0 in
          let earlier : (q y && comes_after x y) ≡ false = and_right (q y) _ (after_back y x later) in
          rw (t, earlier) (first_and_rest q given ys x h.1 found)
    ]
