-- How many lists of a box pass a test, first count by first count.
use Rattle.std.proofs.Common.{◌≡◌, ℕ, zero, suc, ◌+◌, ◌-◌, ◌*◌, ◌<◌, ◌≤◌, Bool, true, not, ◌&&◌, Option, Some, None}
use Rattle.std.proofs.Common.{List, [], ◌∷◌, ◌++◌, length, map, replicate, refl, sym, ap, inl, inr, arith}
use Rattle.std.specs.List.{filter, range_with_len, Contains}
use Rattle.std.proofs.lemmas.Bool.{cases_Bool, cases_lt, and_parts, leb-true}
use Rattle.std.proofs.lemmas.List.Elements.{filter_agree}
use Rattle.std.proofs.Math.Nat.{add-zero, mul-le-mul_left, mul-le-mul_right}
use Rattle.residue_table.specs.Sums.{IsSum}
use Rattle.mass_scaling.specs.Masses.{mass_of}
use Rattle.mass_scaling.specs.declared.windows.Window.{Window}
use Rattle.decompose.specs.CountLists.{IsInBox, box_of, is_up_to}
use Rattle.decompose.specs.Enumeration.{is_within}
use Rattle.decompose.specs.StepBounds.{lists_up_to}
use Rattle.decompose.specs.Numbers.{HasRoom, sum_range, number_in, number_at, number_from}
use Rattle.decompose.specs.Levels.{scaled_masses_of, window_less}
use Rattle.decompose.specs.declared.levels.Symbol.{Symbol}
use Rattle.decompose.proofs.CountListOrder.{after_below, after_same}
use Rattle.decompose.proofs.EachListOnce.{contains_box, contains_kept}
use Rattle.decompose.proofs.FirstOfBox.{from_counts}
use Rattle.decompose.proofs.SearchSteps.{within_less}

-- how many elements a filter keeps
filtered-append : {X : Type 0} (p : X → Bool) (xs ys : List X) →
    length (filter p (xs ++ ys)) ≡ length (filter p xs) + length (filter p ys)
filtered-append p [] ys = omega arith
filtered-append p (x ∷ xs) ys =
    elim (cases_Bool (p x)) [
      | inl t ↦ rw t (omega (arith, filtered-append p xs ys))
      | inr f ↦ rw f (filtered-append p xs ys)
    ]

filtered-map : {X Y : Type 0} (p : Y → Bool) (f : X → Y) (xs : List X) →
    length (filter p (map f xs)) ≡ length (filter (λ x. p (f x)) xs)
filtered-map p f [] = refl
filtered-map p f (x ∷ xs) =
    elim (cases_Bool (p (f x))) [
      | inl t ↦ rw t (ap suc (filtered-map p f xs))
      | inr n ↦ rw n (filtered-map p f xs)
    ]

filtered_from : (p : List ℕ → Bool) (box : List (List ℕ)) (a n : ℕ) →
    length (filter p (from_counts box (range_with_len a n))) ≡
    sum_range (λ k. length (filter (λ cs. p (k ∷ cs)) box)) a n
filtered_from p box a zero = refl
filtered_from p box a (suc n) =
    omega (
      arith,
      filtered-append p (map (λ cs. a ∷ cs) box) (from_counts box (range_with_len (a + 1) n)),
      filtered-map p (λ cs. a ∷ cs) box,
      filtered_from p box (a + 1) n,
    )

-- the lists of a box, first count by first count
pub filtered_box : (p : List ℕ → Bool) (n most : ℕ) →
    length (filter p (lists_up_to (suc n) most)) ≡
    sum_range (λ k. length (filter (λ cs. p (k ∷ cs)) (lists_up_to n most))) 0 (most + 1)
unfolding box_of
filtered_box p n most =
    let all : most + 1 - 0 ≡ most + 1 = omega arith in
    rw all (filtered_from p (lists_up_to n most) 0 (most + 1))

-- sums
pub sum_last : (f : ℕ → ℕ) (a n : ℕ) → sum_range f a (suc n) ≡ sum_range f a n + f (a + n)
sum_last f a zero = omega (arith, ap f (add-zero a))
sum_last f a (suc n) =
    let place : a + 1 + n ≡ a + suc n = omega arith in
    omega (arith, sum_last f (a + 1) n, ap f place)

sum_split : (f : ℕ → ℕ) (a j n : ℕ) → sum_range f a (j + n) ≡ sum_range f a j + sum_range f (a + j) n
sum_split f a zero n =
    let none : 0 + n ≡ n = omega arith in
    omega (arith, ap (λ k. sum_range f a k) none, ap (λ k. sum_range f k n) (add-zero a))
sum_split f a (suc j) n =
    let more : suc j + n ≡ suc (j + n) = omega arith in
    let place : a + 1 + j ≡ a + suc j = omega arith in
    omega (
      arith,
      ap (λ k. sum_range f a k) more,
      sum_split f (a + 1) j n,
      ap (λ k. sum_range f k n) place,
    )

-- a part of a sum is at most the whole
pub sum_part : (f : ℕ → ℕ) (a m b n : ℕ) → a ≤ b → b + n ≤ a + m → sum_range f b n ≤ sum_range f a m
sum_part f a m b n low high =
    let j : ℕ = b - a in
    let rest : ℕ = a + m - (b + n) in
    let whole : m ≡ j + (n + rest) = omega arith in
    let place : a + j ≡ b = omega arith in
    omega (
      arith,
      ap (λ k. sum_range f a k) whole,
      sum_split f a j (n + rest),
      ap (λ k. sum_range f k (n + rest)) place,
      sum_split f b n rest,
    )

pub sum_less : (f g : ℕ → ℕ) (a n : ℕ) → ((k : ℕ) → a ≤ k → k < a + n → f k ≤ g k) →
    sum_range f a n ≤ sum_range g a n
sum_less f g a zero h = omega arith
sum_less f g a (suc n) h =
    omega (arith, h a (omega arith) (omega arith), sum_less f g (a + 1) n (λ k l w. h k (omega arith) (omega arith)))

module _ (s : Symbol) (ss : List Symbol) (w : Window) (most : ℕ) where
  number_in-sum : (upto : Option (List ℕ)) →
      number_in (s ∷ ss) w most upto ≡ sum_range (number_at s ss w most upto) 0 (most + 1)
  number_in-sum upto =
      filtered_box (λ cs. is_within w (mass_of (scaled_masses_of (s ∷ ss)) cs) && is_up_to upto cs) (length ss) most

  -- those that begin with a count, as lists of the symbols below
  pub number_at-below : (upto below : Option (List ℕ)) (k : ℕ) → k * s.scaled ≤ w.hi →
      ((cs : List ℕ) → is_up_to upto (k ∷ cs) ≡ is_up_to below cs) →
      number_at s ss w most upto k ≡ number_in ss (window_less w (k * s.scaled)) most below
  number_at-below upto below k fits same =
      ap length
      (filter_agree
      (λ cs. is_within w (mass_of (scaled_masses_of (s ∷ ss)) (k ∷ cs)) && is_up_to upto (k ∷ cs))
      (λ cs. is_within (window_less w (k * s.scaled)) (mass_of (scaled_masses_of ss) cs) && is_up_to below cs)
      (λ cs. rw (within_less w (k * s.scaled) (mass_of (scaled_masses_of ss) cs) fits, same cs) refl)
      (lists_up_to (length ss) most))

-- not more lists begin with some counts than there are
pub number_from-in : (symbols : List Symbol) (w : Window) (count most : ℕ) (upto : Option (List ℕ)) →
    number_from symbols w count most upto ≤ number_in symbols w most upto
number_from-in [] w count most upto = omega arith
number_from-in (s ∷ ss) w count most upto =
    elim (cases_lt most count) [
      | inl lt ↦
          let none : most + 1 - count ≡ 0 = omega arith in
          omega (arith, ap (λ n. sum_range (number_at s ss w most upto) count n) none)
      | inr ge ↦ omega (
        arith,
        number_in-sum s ss w most upto,
        sum_part (number_at s ss w most upto) 0 (most + 1) count (most + 1 - count) (omega arith) (omega arith),
      )
    ]

-- a list in a scaled window has no count above the most
pub in_room : (symbols : List Symbol) (hi most : ℕ) (cs : List ℕ) → length cs ≡ length symbols →
    HasRoom symbols hi most →
    mass_of (scaled_masses_of symbols) cs ≤ hi →
    IsInBox (replicate (length symbols) (record { low = 0; high = most })) cs
in_room [] hi most [] e room fits = tt
in_room [] hi most (c ∷ cs) e room fits = absurd (omega arith)
in_room (s ∷ ss) hi most [] e room fits = absurd (omega arith)
in_room (s ∷ ss) hi most (c ∷ cs) e room fits =
    (omega arith, room.0 c (omega (arith, fits)), in_room ss hi most cs (omega arith) room.1 (omega (arith, fits)))

pub some_of : {X : Type 0} (xs : List X) (x : X) → Contains xs x → 1 ≤ length xs
some_of xs x h = omega (arith, h.1)

-- there is a list where one is known
pub some_in : (symbols : List Symbol) (w : Window) (most : ℕ) (upto : Option (List ℕ)) (cs : List ℕ) →
    length cs ≡ length symbols → HasRoom symbols w.hi most →
    is_within w (mass_of (scaled_masses_of symbols) cs) ≡ true → is_up_to upto cs ≡ true →
    1 ≤ number_in symbols w most upto
some_in symbols w most upto cs e room within up =
    some_of _ cs
    (contains_kept (λ xs. is_within w (mass_of (scaled_masses_of symbols) xs) && is_up_to upto xs)
    (lists_up_to (length symbols) most) cs (rw (within, up) refl)
    (contains_box (replicate (length symbols) (record { low = 0; high = most })) cs
    (in_room symbols w.hi most cs e room (leb-true _ _ (and_parts _ _ within).1))))

-- no other end of a scaled window leaves more room
pub room_below : (symbols : List Symbol) (hi less most : ℕ) → less ≤ hi → HasRoom symbols hi most →
    HasRoom symbols less most
room_below [] hi less most h room = tt
room_below (s ∷ ss) hi less most h room =
    ((λ count fits. room.0 count (omega (arith, fits))), room_below ss hi less most h room.1)

-- a sum of whole multiples is the scaled mass of a count list
pub counts_of_sum : (masses : List ℕ) (value : ℕ) → IsSum masses value →
    (cs : List ℕ) × (length cs ≡ length masses) × (mass_of masses cs ≡ value)
counts_of_sum [] value h = ([], refl, sym h)
counts_of_sum (m ∷ ms) value h =
    let below = counts_of_sum ms h.1 h.3 in
    (h.0 ∷ below.0, ap suc below.1, omega (arith, h.2, below.2))

pub sum_of_none : (masses : List ℕ) → IsSum masses 0
sum_of_none [] = refl
sum_of_none (m ∷ ms) = (0, 0, omega arith, sum_of_none ms)

-- what a walk over a symbol and those below it has passed: the lists in the scaled window that begin with some counts
abbrev pub passed : Symbol → List Symbol → Window → ℕ → ℕ → ℕ → ℕ
passed s ss w most count number =
    sum_range (λ k. number_in ss (window_less w (k * s.scaled)) most None) count number

module _ (s : Symbol) (ss : List Symbol) (w : Window) (most : ℕ) (room : HasRoom (s ∷ ss) w.hi most) where
  passed_at : (upto : Option (List ℕ)) (k : ℕ) → k * s.scaled ≤ w.hi →
      ((cs : List ℕ) → is_up_to upto (k ∷ cs) ≡ true) →
      number_in ss (window_less w (k * s.scaled)) most None ≡ number_at s ss w most upto k
  passed_at upto k fits before = sym (number_at-below s ss w most upto None k fits before)

  less_fits : (k c : ℕ) → k ≤ c → c * s.scaled ≤ w.hi → k * s.scaled ≤ w.hi
  less_fits k c h fits = omega (arith, fits, mul-le-mul_right s.scaled h)

  -- where none was found
  pub passed_all : (count c : ℕ) → count ≤ c → c * s.scaled ≤ w.hi →
      passed s ss w most count (c + 1 - count) ≤ number_from (s ∷ ss) w count most None
  passed_all count c low fits =
      let few : c ≤ most = room.0 c fits in
      omega (
        arith,
        sum_less (λ k. number_in ss (window_less w (k * s.scaled)) most None) (number_at s ss w most None) count
            (c + 1 - count)
            (λ k from to. omega (arith, passed_at None k (less_fits k c (omega arith) fits) (λ cs. refl))),
        sum_part (number_at s ss w most None) count (most + 1 - count) count (c + 1 - count) (omega arith)
            (omega arith),
      )

  -- where a list was found at a count
  pub passed_found : (count c : ℕ) (x : List ℕ) → count ≤ c → c * s.scaled ≤ w.hi →
      passed s ss w most count (c - count) + number_in ss (window_less w (c * s.scaled)) most (Some x) ≤
      number_from (s ∷ ss) w count most (Some (c ∷ x))
  passed_found count c x low fits =
      let few : c ≤ most = room.0 c fits in
      let here : number_at s ss w most (Some (c ∷ x)) c ≡ number_in ss (window_less w (c * s.scaled)) most (Some x) =
      number_at-below s ss w most (Some (c ∷ x)) (Some x) c fits (λ cs. ap not (after_same c x cs)) in
      let place : count + (c - count) ≡ c = omega arith in
      omega (
        arith,
        sum_less (λ k. number_in ss (window_less w (k * s.scaled)) most None)
            (number_at s ss w most (Some (c ∷ x))) count (c - count)
            (λ k from to. omega (
              arith,
              passed_at (Some (c ∷ x)) k (less_fits k c (omega arith) fits)
                  (λ cs. ap not (after_below c k x cs (omega arith))),
            )),
        sum_last (number_at s ss w most (Some (c ∷ x))) count (c - count),
        ap (λ k. number_at s ss w most (Some (c ∷ x)) k) place,
        here,
        sum_part (number_at s ss w most (Some (c ∷ x))) count (most + 1 - count) count (suc (c - count)) (omega arith)
            (omega arith),
      )

  -- one count more is passed
  pub passed_more : (count c : ℕ) → count ≤ c →
      passed s ss w most count (c + 1 - count) ≡
      passed s ss w most count (c - count) + number_in ss (window_less w (c * s.scaled)) most None
  passed_more count c low =
      let f : ℕ → ℕ = λ k. number_in ss (window_less w (k * s.scaled)) most None in
      let more : c + 1 - count ≡ suc (c - count) = omega arith in
      let place : count + (c - count) ≡ c = omega arith in
      omega (arith, ap (λ n. sum_range f count n) more, sum_last f count (c - count), ap f place)

-- what the walk below a count takes is charged to the lists there
pub charged : (c1 len number there : ℕ) → number ≤ there → 1 ≤ there →
    c1 * (1 + len * number) ≤ c1 * (suc len * there)
charged c1 len number there few some =
    let one : c1 * 1 ≤ c1 * there = mul-le-mul_left c1 some in
    let rest : c1 * len * number ≤ c1 * len * there = mul-le-mul_left (c1 * len) few in
    omega (arith, one, rest)
