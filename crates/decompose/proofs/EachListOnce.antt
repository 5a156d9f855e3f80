-- The count lists of a window are the lists of the box whose mass is in the window, and they rise.
use Rattle.std.proofs.Common.{◌≡◌, ℕ, zero, suc, ◌+◌, ◌-◌, ◌<◌, ◌≤◌, true, Bool, List, [], ◌∷◌, map, refl, sym, ◌∙◌, ap}
use Rattle.std.proofs.Common.{subst, inl, inr, arith, ◌↔◌, IsTrue}
use Rattle.std.specs.List.{AllPairs, Contains, filter, range_with_len}
use Rattle.std.proofs.lemmas.Bool.{cases_Bool, cases_lt}
use Rattle.std.proofs.lemmas.List.{get_or-map, length-map}
use Rattle.std.proofs.lemmas.List.Elements.{All-contains, All-filter, All-from_recursion, Contains-append_left}
use Rattle.std.proofs.lemmas.List.Elements.{Contains-append_right, filter_passes}
use Rattle.std.proofs.lemmas.List.Kept.{AllPairs-cons, AllPairs-filter}
use Rattle.mass_scaling.specs.declared.windows.Window.{Window}
use Rattle.mass_scaling.specs.Masses.{mass_of}
use Rattle.decompose.specs.CountLists.{IsInBox, box_of, comes_after}
use Rattle.decompose.specs.Enumeration.{is_within, vectors}
use Rattle.decompose.specs.declared.limits.Limit.{Limit}
use Rattle.decompose.proofs.CountListOrder.{Rises}
use Rattle.decompose.proofs.FirstOfBox.{from_counts, IsInBox-box, Rises-box}

pub contains_here : {X : Type 0} (x : X) (xs : List X) → Contains (x ∷ xs) x
contains_here x xs = (0, omega arith, refl)

contains_later : {X : Type 0} (y : X) (xs : List X) (x : X) → Contains xs x → Contains (y ∷ xs) x
contains_later y xs x h = (suc h.0, omega arith, h.2)

-- a filter keeps an element that passes
pub contains_kept : {X : Type 0} (p : X → Bool) (xs : List X) (x : X) → p x ≡ true → Contains xs x →
    Contains (filter p xs) x
contains_kept p [] x t h = absurd (omega arith)
contains_kept p (y ∷ ys) x t (zero, within, same) =
    let here : y ≡ x = same in
    subst (λ z. Contains (filter p (z ∷ ys)) x) (sym here) (rw t (contains_here x (filter p ys)))
contains_kept p (y ∷ ys) x t (suc k, within, same) =
    let rest = contains_kept p ys x t (k, omega arith, same) in
    elim (cases_Bool (p y)) [ inl u ↦ rw u (contains_later y (filter p ys) x rest) | inr u ↦ rw u rest ]

contains_mapped : {X Y : Type 0} (f : X → Y) (xs : List X) (x : X) → Contains xs x → Contains (map f xs) (f x)
contains_mapped f xs x h =
    (h.0, rw length-map h.1, get_or-map f xs h.0 x (f x) h.1 ∙ ap f h.2)

-- the lists of one of the first counts
contains_from : (box : List (List ℕ)) (a n c : ℕ) (cs : List ℕ) → a ≤ c → c < a + n → Contains box cs →
    Contains (from_counts box (range_with_len a n)) (c ∷ cs)
contains_from box a zero c cs low high h = absurd (omega arith)
contains_from box a (suc n) c cs low high h =
    elim (cases_lt a c) [
      | inl lt ↦ Contains-append_right (map (λ ds. a ∷ ds) box) _ (c ∷ cs)
          (contains_from box (a + 1) n c cs (omega arith) (omega arith) h)
      | inr ge ↦
          let here : a ≡ c = omega arith in
          Contains-append_left (map (λ ds. a ∷ ds) box) _ (c ∷ cs)
          (subst (λ k. Contains (map (λ ds. a ∷ ds) box) (k ∷ cs)) here (contains_mapped (λ ds. a ∷ ds) box cs h))
    ]

-- each list within the limits is one of the box
pub contains_box : (limits : List Limit) (cs : List ℕ) → IsInBox limits cs → Contains (box_of limits) cs
unfolding box_of
contains_box [] [] h = contains_here [] []
contains_box [] (c ∷ cs) h = absurd h
contains_box (l ∷ ls) [] h = absurd h
contains_box (l ∷ ls) (c ∷ cs) h =
    contains_from (box_of ls) l.low (l.high + 1 - l.low) c cs h.0 (omega (arith, h.0, h.1)) (contains_box ls cs h.2)

all_pairs_from : (xs : List (List ℕ)) → Rises xs → AllPairs (λ a b. comes_after a b ≡ true) xs
all_pairs_from [] h = λ i j d before within. absurd (omega arith)
all_pairs_from (x ∷ xs) h =
    AllPairs-cons (λ a b. comes_after a b ≡ true) x xs (All-from_recursion (λ y. comes_after x y ≡ true) xs h.0)
    (all_pairs_from xs h.1)

module _ (masses : List ℕ) (limits : List Limit) (window : Window) where
  -- the lists are those of the box whose mass is in the window
  pub each_list : (cs : List ℕ) → Contains (vectors masses limits window) cs
      ↔ (IsInBox limits cs × IsTrue (is_within window (mass_of masses cs)))
  unfolding vectors
  each_list cs = (
    λ h. (
      All-contains (IsInBox limits) _ cs
          (All-filter (λ c. is_within window (mass_of masses c)) (IsInBox limits) (box_of limits)
          (All-from_recursion (IsInBox limits) (box_of limits) (IsInBox-box limits))) h,
      All-contains (λ c. is_within window (mass_of masses c) ≡ true) _ cs
          (filter_passes (λ c. is_within window (mass_of masses c)) (box_of limits)) h,
    ),
    λ h. contains_kept (λ c. is_within window (mass_of masses c)) (box_of limits) cs h.1 (contains_box limits cs h.0),
  )

  -- each list comes before all later ones
  pub lists_rise : AllPairs (λ a b. IsTrue (comes_after a b)) (vectors masses limits window)
  unfolding vectors
  lists_rise =
      AllPairs-filter (λ a b. comes_after a b ≡ true) (λ c. is_within window (mass_of masses c)) (box_of limits)
      (all_pairs_from (box_of limits) (Rises-box limits))
