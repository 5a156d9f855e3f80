-- What a walk keeps, from one element to the next.
use Rattle.std.proofs.Common.{◌≡◌, ℕ, zero, suc, ◌+◌, ◌-◌, ◌<◌, ◌≤◌, ◌≢◌, List, [], ◌∷◌, ◌++◌, length, get_or, set}
use Rattle.std.proofs.Common.{take, replicate, fold, refl, sym, ◌∙◌, ap, arith, ⊎_elim, append_assoc}
use Rattle.std.proofs.lemmas.Bool.{cases_lt}
use Rattle.std.proofs.lemmas.List.{length-map, map-set, take-set-le, get_or-set_same, get_or-set_other, get_or-map, take_more_set, take_all, replicate_more}
use Rattle.std.proofs.lemmas.List.Sums.{fold-append}
use Rattle.multinomial_bounds.specs.Bounds.{certainty}
use Rattle.sub_isotopologues.specs.Listings.{Listing}
use Rattle.layered_envelope.specs.ChosenPlaces.{bounds_at, AllFall}
use Rattle.layered_envelope.specs.Walks.{lower, upper, los_of, his_of, reached, places_of, lowers_of, uppers_of, IsWalkTo, IsWalk}
use Rattle.layered_envelope.specs.declared.walk.Choice.{Choice}

-- one place more
bounds_at-push : (lists : List (List ℕ)) (places : List ℕ) (k : ℕ) → k < length lists → k < length places →
    bounds_at (take (suc k) lists) (take (suc k) places)
    ≡ bounds_at (take k lists) (take k places) ++ get_or (get_or lists k []) (get_or places k 0) 0 ∷ []
bounds_at-push [] ps k first second = absurd (omega arith)
bounds_at-push (l ∷ ls) [] k first second = absurd (omega arith)
bounds_at-push (l ∷ ls) (p ∷ ps) zero first second = refl
bounds_at-push (l ∷ ls) (p ∷ ps) (suc k) first second =
    ap (λ bs. get_or l p 0 ∷ bs) (bounds_at-push ls ps k (omega arith) (omega arith))

pub reached_none : (f : ℕ → ℕ → ℕ) (lists : List (List ℕ)) (places : List ℕ) → reached f lists places 0 ≡ certainty
unfolding reached
reached_none f lists places = refl

pub reached_more : (f : ℕ → ℕ → ℕ) (lists : List (List ℕ)) (places : List ℕ) (k : ℕ) → k < length lists →
    k < length places →
    reached f lists places (k + 1) ≡ f (reached f lists places k) (get_or (get_or lists k []) (get_or places k 0) 0)
unfolding reached
reached_more f lists places k first second =
    let one : k + 1 ≡ suc k = omega arith in
    rw one
    (ap (fold f certainty) (bounds_at-push lists places k first second)
    ∙ fold-append f certainty (bounds_at (take k lists) (take k places))
    (get_or (get_or lists k []) (get_or places k 0) 0 ∷ []))

-- places from k on don't count
pub reached_set : (f : ℕ → ℕ → ℕ) (lists : List (List ℕ)) (places : List ℕ) (i p k : ℕ) → k ≤ i →
    reached f lists (set places i p) k ≡ reached f lists places k
unfolding reached
reached_set f lists places i p k le =
    ap (λ ps. fold f certainty (bounds_at (take k lists) ps)) (take-set-le k places i p le)

pub reached_all : (f : ℕ → ℕ → ℕ) (lists : List (List ℕ)) (places : List ℕ) (k : ℕ) → length lists ≤ k →
    length places ≤ k →
    reached f lists places k ≡ fold f certainty (bounds_at lists places)
unfolding reached
reached_all f lists places k first second = rw (take_all k lists first, take_all k places second) refl

-- each list has a first bound
pub some_of_each : (lists : List (List ℕ)) (k : ℕ) → AllFall lists → k < length lists → 0 < length (get_or lists k [])
some_of_each [] k fall within = absurd (omega arith)
some_of_each (l ∷ ls) zero fall within = fall.0.some
some_of_each (l ∷ ls) (suc k) fall within = some_of_each ls k fall.1 (omega arith)

-- a choice written at the end of a walk is one more
pub IsWalkTo_more : (lists : List Listing) (choices : List Choice) (n : ℕ) (c : Choice) → n < length choices →
    IsWalkTo n lists choices → c.place < length (get_or (his_of lists) n []) →
    c.before.lo ≡ reached lower (los_of lists) (places_of choices) n →
    c.before.hi ≡ reached upper (his_of lists) (places_of choices) n →
    IsWalkTo (n + 1) lists (set choices n c)
IsWalkTo_more lists choices n c inside walk within lo hi =
    let places : places_of (set choices n c) ≡ set (places_of choices) n c.place = map-set (λ c. c.place) choices n c in
    let lowers : lowers_of (set choices n c) ≡ set (lowers_of choices) n c.before.lo =
    map-set (λ c. c.before.lo) choices n c in
    let uppers : uppers_of (set choices n c) ≡ set (uppers_of choices) n c.before.hi =
    map-set (λ c. c.before.hi) choices n c in
    record {
      within = λ k below.
          rw places
          (⊎_elim
          (λ (before : k < n).
          let other : k ≢ n = omega arith in
          rw (get_or-set_other (places_of choices) n k c.place 0 other) (walk.within k before))
          (λ (behind : n ≤ k).
          let here : k ≡ n = omega arith in
          rw (
            here,
            get_or-set_same (places_of choices) n c.place 0
                (omega (arith, length-map choices (λ c. c.place))),
          ) within)
          (cases_lt k n));
      lowers = λ k below.
          rw (lowers, places, reached_set lower (los_of lists) (places_of choices) n c.place k (omega arith))
          (⊎_elim
          (λ (before : k < n).
          let other : k ≢ n = omega arith in
          rw (get_or-set_other (lowers_of choices) n k c.before.lo 0 other) (walk.lowers k before))
          (λ (behind : n ≤ k).
          let here : k ≡ n = omega arith in
          rw (
            here,
            get_or-set_same (lowers_of choices) n c.before.lo 0
                (omega (arith, length-map choices (λ c. c.before.lo))),
          ) lo)
          (cases_lt k n));
      uppers = λ k below.
          rw (uppers, places, reached_set upper (his_of lists) (places_of choices) n c.place k (omega arith))
          (⊎_elim
          (λ (before : k < n).
          let other : k ≢ n = omega arith in
          rw (get_or-set_other (uppers_of choices) n k c.before.hi 0 other) (walk.uppers k before))
          (λ (behind : n ≤ k).
          let here : k ≡ n = omega arith in
          rw (
            here,
            get_or-set_same (uppers_of choices) n c.before.hi 0
                (omega (arith, length-map choices (λ c. c.before.hi))),
          ) hi)
          (cases_lt k n));
    }

pub IsWalkTo_fewer : (lists : List Listing) (choices : List Choice) (m n : ℕ) → m ≤ n → IsWalkTo n lists choices →
    IsWalkTo m lists choices
IsWalkTo_fewer lists choices m n le walk = record {
  within = λ k below. walk.within k (omega arith);
  lowers = λ k below. walk.lowers k (omega arith);
  uppers = λ k below. walk.uppers k (omega arith);
}

-- what a choice at a place of the walk has
module _ (choices : List Choice) (k : ℕ) (c : Choice) (within : k < length choices) (is : c ≡ get_or choices k c) where
  pub place_at : get_or (places_of choices) k 0 ≡ c.place
  place_at = get_or-map (λ c. c.place) choices k c 0 within ∙ ap (λ x. x.place) (sym is)

  pub lower_at : get_or (lowers_of choices) k 0 ≡ c.before.lo
  lower_at = get_or-map (λ c. c.before.lo) choices k c 0 within ∙ ap (λ x. x.before.lo) (sym is)

  pub upper_at : get_or (uppers_of choices) k 0 ≡ c.before.hi
  upper_at = get_or-map (λ c. c.before.hi) choices k c 0 within ∙ ap (λ x. x.before.hi) (sym is)

-- the product with the last item
pub reached_last : (f : ℕ → ℕ → ℕ) (lists : List (List ℕ)) (places : List ℕ) (e p x y r : ℕ) → e ≢ 0 →
    e ≤ length lists →
    e ≤ length places → get_or places (e - 1) 0 ≡ p → x ≡ reached f lists places (e - 1) →
    y ≡ get_or (get_or lists (e - 1) []) p 0 → r ≡ f x y → r ≡ reached f lists places e
reached_last f lists places e p x y r some first second place before item product =
    let next : e ≡ e - 1 + 1 = omega arith in
    product
    ∙ ap (λ (n : ℕ). f n y) before
    ∙ ap (λ (n : ℕ). f (reached f lists places (e - 1)) n)
    (item ∙ ap (λ (n : ℕ). get_or (get_or lists (e - 1) []) n 0) (sym place))
    ∙ sym (reached_more f lists places (e - 1) (omega arith) (omega arith))
    ∙ ap (reached f lists places) (sym next)

-- a walk whose last place rises
pub risen : (lists : List Listing) (choices : List Choice) (e : ℕ) (c : Choice) → e < length lists →
    IsWalk lists choices →
    c ≡ get_or choices e c → c.place + 1 < length (get_or (his_of lists) e []) →
    IsWalkTo (e + 1) lists (set choices e (record { before = c.before; place = c.place + 1 }))
risen lists choices e c within walk is room =
    let inside : e < length choices = omega (arith, walk.as_many) in
    IsWalkTo_more lists choices e (record { before = c.before; place = c.place + 1 }) inside
    (IsWalkTo_fewer lists choices e (length lists) (omega arith) walk.walk) room
    (sym (lower_at choices e c inside is) ∙ walk.walk.lowers e within)
    (sym (upper_at choices e c inside is) ∙ walk.walk.uppers e within)

-- the places after the last place has risen and the later ones are 0 again
pub risen_places : (choices : List Choice) (e n : ℕ) (c d : Choice) → e < length choices →
    take (e + 1) (places_of (set choices e d)) ++ replicate (n - (e + 1)) 0
    ≡ take e (places_of choices) ++ (d.place ∷ replicate (n - (e + 1)) 0)
risen_places choices e n c d within =
    let places : places_of (set choices e d) ≡ set (places_of choices) e d.place = map-set (λ c. c.place) choices e d in
    let inside : e < length (places_of choices) = omega (arith, length-map choices (λ c. c.place)) in
    ap (λ ps. take (e + 1) ps ++ replicate (n - (e + 1)) 0) places
    ∙ ap (λ ps. ps ++ replicate (n - (e + 1)) 0) (take_more_set (places_of choices) e d.place inside)
    ∙ append_assoc (take e (places_of choices)) (d.place ∷ []) (replicate (n - (e + 1)) 0)

-- one more first item
pub first_places : (choices : List Choice) (e n : ℕ) (c : Choice) (front : List ℕ) → e ≤ n → n < length choices →
    c.place ≡ 0 →
    take n (places_of choices) ≡ front ++ replicate (n - e) 0 →
    take (n + 1) (places_of (set choices n c)) ≡ front ++ replicate (n + 1 - e) 0
first_places choices e n c front le within zero_is before =
    let places : places_of (set choices n c) ≡ set (places_of choices) n c.place = map-set (λ c. c.place) choices n c in
    let inside : n < length (places_of choices) = omega (arith, length-map choices (λ c. c.place)) in
    let more : n - e + 1 ≡ n + 1 - e = omega arith in
    ap (take (n + 1)) places
    ∙ take_more_set (places_of choices) n c.place inside
    ∙ ap (λ ps. ps ++ c.place ∷ []) before
    ∙ append_assoc front (replicate (n - e) 0) (c.place ∷ [])
    ∙ ap (λ (p : ℕ). front ++ (replicate (n - e) 0 ++ p ∷ [])) zero_is
    ∙ ap (λ ps. front ++ ps) (replicate_more (n - e) 0 ∙ ap (λ (k : ℕ). replicate {A = ℕ} k 0) more)
