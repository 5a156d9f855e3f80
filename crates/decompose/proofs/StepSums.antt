-- The lists between three given ones: what several calls pass adds up to what one bound counts.
use Rattle.std.proofs.Common.{◌≡◌, ℕ, ◌+◌, ◌/◌, ◌≤◌, Bool, true, false, not, ◌&&◌, Option, Some, None, List, [], ◌∷◌}
use Rattle.std.proofs.Common.{length, map, replicate, refl, sym, ap, ◌∙◌, inl, inr, subst, arith}
use Rattle.std.specs.declared.cmp.Ordering.{Ordering}
use Rattle.std.specs.declared.cmp.Ordering.TheVariants.{Less, Equal, Greater}
use Rattle.std.specs.Ordering.{is_lt, nat_cmp}
use Rattle.std.specs.Cmp.Lexicographic.{slice_cmp}
use Rattle.std.specs.List.{filter}
use Rattle.std.proofs.lemmas.Bool.{cases_Bool, and_parts, and_right, false≢true, leb-true}
use Rattle.std.proofs.lemmas.Cmp.{nat_list_cmp_total}
use Rattle.std.proofs.lemmas.List.{length-map}
use Rattle.mass_scaling.specs.Masses.{AreMasses, base_of, mass_of}
use Rattle.mass_scaling.specs.Scales.{AreScaled, IsInScaledWindow, scaled_of, grain_for}
use Rattle.mass_scaling.specs.declared.windows.Window.{Window}
use Rattle.mass_scaling.proofs.ScaledWindows.{loses_nothing}
use Rattle.decompose.specs.CountLists.{IsInBox, comes_after, follows, is_up_to}
use Rattle.decompose.specs.Enumeration.{is_within}
use Rattle.decompose.specs.Levels.{scaled_masses_of}
use Rattle.decompose.specs.Numbers.{HasRoom}
use Rattle.decompose.specs.StepBounds.{IsScaledWindowOf, lists_up_to, most_atoms, number_between}
use Rattle.decompose.specs.declared.levels.Symbol.{Symbol}
use Rattle.decompose.proofs.CountedLists.{in_room, some_of}
use Rattle.decompose.proofs.CountListOrder.{after_itself, after_trans, follows_trans}
use Rattle.decompose.proofs.EachListOnce.{contains_box, contains_kept}
use Rattle.decompose.proofs.ScaledEnds.{holds, within_of}
use Rattle.decompose.proofs.WalkBounds.{room_of, least_last}

not_true : (b : Bool) → not b ≡ true → b ≡ false
not_true true h = absurd (cc)
not_true false h = refl

-- what comes after a list comes after one that is not after that
le_lt : (b c a : List ℕ) (o : Ordering) → slice_cmp nat_cmp b c ≡ o → comes_after c b ≡ false →
    comes_after c a ≡ true → comes_after b a ≡ true
le_lt b c a Less e h t = after_trans b c a (rw e refl) t
le_lt b c a Equal e h t = ap is_lt (nat_list_cmp_total.congr b c a e) ∙ t
le_lt b c a Greater e h t =
    let before : comes_after c b ≡ true = rw (nat_list_cmp_total.antisymm c b, e) refl in
    absurd (false≢true (sym h ∙ before))

-- a filter by either of two tests that exclude one another
two_filters : {X : Type 0} (p q r : X → Bool) (xs : List X) → ((x : X) → p x ≡ true → r x ≡ true) →
    ((x : X) → q x ≡ true → (r x ≡ true) × (p x ≡ false)) →
    length (filter p xs) + length (filter q xs) ≤ length (filter r xs)
two_filters p q r [] h k = omega arith
two_filters p q r (x ∷ xs) h k =
    elim (cases_Bool (p x)) [
      | inl t ↦ elim (cases_Bool (q x)) [
        | inl u ↦ absurd (let e : true ≡ false = sym t ∙ (k x u).1 in cc)
        | inr u ↦ rw (t, u, h x t) (omega (arith, two_filters p q r xs h k))
      ]
      | inr t ↦ elim (cases_Bool (q x)) [
        | inl u ↦ rw (t, u, (k x u).0) (omega (arith, two_filters p q r xs h k))
        | inr u ↦ elim (cases_Bool (r x)) [
          | inl v ↦ rw (t, u, v) (omega (arith, two_filters p q r xs h k))
          | inr v ↦ rw (t, u, v) (two_filters p q r xs h k)
        ]
      ]
    ]

-- what is not after a list which is not after another is not after that either
not_after_trans : (a b c : List ℕ) → comes_after b a ≡ false → comes_after c b ≡ false → comes_after c a ≡ false
not_after_trans a b c h k =
    elim (cases_Bool (comes_after c a)) [
      | inl t ↦ absurd (false≢true (sym h ∙ le_lt b c a (slice_cmp nat_cmp b c) refl k t))
      | inr f ↦ f
    ]

up_to_before : (upto : Option (List ℕ)) (a b : List ℕ) → is_up_to upto b ≡ true → comes_after b a ≡ false →
    is_up_to upto a ≡ true
up_to_before None a b h k = refl
up_to_before (Some c) a b h k = ap not (not_after_trans a b c k (not_true (comes_after c b) h))

module _ (masses : List ℕ) (scaled : Window) (after upto : Option (List ℕ)) (m : List ℕ)
    (later : follows after m ≡ true) (earlier_than : is_up_to upto m ≡ true) where
  -- the lists up to one and those after it are no more than all
  pub number_more :
      number_between masses scaled after (Some m) + number_between masses scaled (Some m) upto ≤
      number_between masses scaled after upto
  number_more =
      two_filters
      (λ cs. is_within scaled (mass_of (scaled_of masses) cs) && (follows after cs && is_up_to (Some m) cs))
      (λ cs. is_within scaled (mass_of (scaled_of masses) cs) && (follows (Some m) cs && is_up_to upto cs))
      (λ cs. is_within scaled (mass_of (scaled_of masses) cs) && (follows after cs && is_up_to upto cs))
      (lists_up_to (length masses) (most_atoms masses scaled))
      (λ x t.
      let parts = and_parts (is_within scaled (mass_of (scaled_of masses) x)) _ t in
      let ends = and_parts (follows after x) _ parts.1 in
      rw (parts.0, ends.0, up_to_before upto x m earlier_than (not_true (comes_after m x) ends.1)) refl)
      (λ x t.
      let parts = and_parts (is_within scaled (mass_of (scaled_of masses) x)) _ t in
      let ends = and_parts (comes_after m x) _ parts.1 in (
        rw (parts.0, ends.1, follows_trans after m x later ends.0) refl,
        rw (parts.0, ends.0) (and_right (follows after x) false refl),
      ))

-- symbols of these scaled masses
symbols_for : List ℕ → List Symbol
symbols_for scaled = map (λ a. record { mass = 0; scaled = a; limit = record { low = 0; high = 0 } }) scaled

scaled_for : (scaled : List ℕ) → scaled_masses_of (symbols_for scaled) ≡ scaled
unfolding symbols_for
scaled_for [] = refl
scaled_for (a ∷ as_) = ap (λ xs. a ∷ xs) (scaled_for as_)

-- a count list of a window is one of those that come up to it
pub number_some : (masses : List ℕ) (window scaled : Window) (after : Option (List ℕ)) (counts : List ℕ) →
    AreMasses masses → AreScaled (scaled_of masses) → IsScaledWindowOf masses window scaled →
    length counts ≡ length masses → is_within window (mass_of masses counts) ≡ true → follows after counts ≡ true →
    1 ≤ number_between masses scaled after (Some counts)
number_some masses window scaled after counts are scaled_ok w same within later =
    let a = scaled_of masses in
    let symbols = symbols_for a in
    let top : IsInScaledWindow masses window scaled.hi = (w.exact scaled.hi).1 (w.not_empty, omega arith) in
    let one : IsInScaledWindow masses window (mass_of a counts) =
    loses_nothing masses are window top.not_above.0 top.not_below.0 top.not_above.1 top.not_below.1 counts
    (holds window (mass_of masses counts) within) in
    let in_scaled : is_within scaled (mass_of a counts) ≡ true =
    within_of scaled (mass_of a counts) ((w.exact (mass_of a counts)).0 one) in
    let as_many : length symbols ≡ length masses =
    sym (length-map symbols (λ symbol. symbol.scaled)) ∙ ap length (scaled_for a)
    ∙ length-map masses (λ m. m / grain_for (base_of masses)) in
    let room : HasRoom symbols scaled.hi (most_atoms masses scaled) =
    room_of symbols (base_of a) scaled.hi (omega (arith, scaled_ok.base_above_zero))
    (rw (scaled_for a) (least_last a scaled_ok)) in
    let box : IsInBox (replicate (length masses) (record { low = 0; high = most_atoms masses scaled })) counts =
    subst (λ n. IsInBox (replicate n (record { low = 0; high = most_atoms masses scaled })) counts) as_many
    (in_room symbols scaled.hi (most_atoms masses scaled) counts (same ∙ sym as_many) room
    (rw (scaled_for a) (leb-true _ _ (and_parts _ _ in_scaled).1))) in
    some_of _ counts
    (contains_kept
    (λ cs. is_within scaled (mass_of a cs) && (follows after cs && is_up_to (Some counts) cs))
    (lists_up_to (length masses) (most_atoms masses scaled)) counts
    (rw (in_scaled, later, after_itself counts) refl)
    (contains_box (replicate (length masses) (record { low = 0; high = most_atoms masses scaled })) counts box))
