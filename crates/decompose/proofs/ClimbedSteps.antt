-- The steps of a walk that climbs are charged to the token's prefixes and to the lists that come after it.
use Rattle.std.proofs.Common.{◌≡◌, ℕ, zero, suc, ◌+◌, ◌-◌, ◌*◌, ◌<◌, ◌≤◌, true, not, ◌&&◌, Option, Some, None, List, []}
use Rattle.std.proofs.Common.{◌∷◌, ◌++◌, length, length-drop, take, drop, get_or, refl, ap, subst, arith}
use Rattle.std.specs.List.{filter, find}
use Rattle.std.proofs.lemmas.List.Elements.{filter_agree}
use Rattle.std.proofs.Math.Nat.{mul-le-mul_left, mul-le-mul_right}
use Rattle.mass_scaling.specs.Masses.{mass_of}
use Rattle.mass_scaling.specs.declared.windows.Window.{Window}
use Rattle.decompose.specs.CountLists.{IsInBox, box_of, follows, is_up_to}
use Rattle.decompose.specs.Enumeration.{is_within}
use Rattle.decompose.specs.Search.{is_left}
use Rattle.decompose.specs.StepBounds.{lists_up_to}
use Rattle.decompose.specs.Levels.{masses_of, scaled_masses_of, limits_of, counts_of, window_less}
use Rattle.decompose.specs.Numbers.{HasRoom, sum_range, number_at, number_in, number_from, number_after}
use Rattle.decompose.specs.Probes.{IsScaledWindow, scaled_at}
use Rattle.decompose.specs.Walk.{StandsAt, limits_from}
use Rattle.decompose.specs.declared.limits.Limit.{Limit}
use Rattle.decompose.specs.declared.levels.Symbol.{Symbol}
use Rattle.decompose.specs.declared.levels.Level.{Level}
use Rattle.decompose.proofs.CountListOrder.{after_above, after_below, after_same}
use Rattle.decompose.proofs.CountedLists.{filtered_box, sum_part, sum_less, room_below, number_from-in}
use Rattle.decompose.proofs.FindAndFilter.{find_each}
use Rattle.decompose.proofs.FirstOfBox.{IsInBox-box}
use Rattle.decompose.proofs.ProbeSteps.{level_fits, scaled_below}
use Rattle.decompose.proofs.SearchSteps.{within_less}

module _ (s : Symbol) (ss : List Symbol) (w : Window) (most v : ℕ) (gs : List ℕ) (upto : Option (List ℕ)) where
  -- the lists that come after v ∷ gs and begin with a count
  abbrev after_at : ℕ → ℕ
  after_at k =
      length (filter
      (λ cs. is_within w (mass_of (scaled_masses_of (s ∷ ss)) (k ∷ cs))
      && (follows (Some (v ∷ gs)) (k ∷ cs) && is_up_to upto (k ∷ cs)))
      (lists_up_to (length ss) most))

  after_at-sum : number_after (s ∷ ss) w (Some (v ∷ gs)) most upto ≡ sum_range after_at 0 (most + 1)
  after_at-sum =
      filtered_box
      (λ cs. is_within w (mass_of (scaled_masses_of (s ∷ ss)) cs)
      && (follows (Some (v ∷ gs)) cs && is_up_to upto cs))
      (length ss) most

  after_at-above : (k : ℕ) → v < k → number_at s ss w most upto k ≡ after_at k
  after_at-above k above =
      ap length
      (filter_agree
      (λ cs. is_within w (mass_of (scaled_masses_of (s ∷ ss)) (k ∷ cs)) && is_up_to upto (k ∷ cs))
      (λ cs. is_within w (mass_of (scaled_masses_of (s ∷ ss)) (k ∷ cs))
      && (follows (Some (v ∷ gs)) (k ∷ cs) && is_up_to upto (k ∷ cs)))
      (λ cs. rw (after_above v k gs cs above) refl) (lists_up_to (length ss) most))

  after_at-here : (below : Option (List ℕ)) → v * s.scaled ≤ w.hi →
      ((cs : List ℕ) → is_up_to upto (v ∷ cs) ≡ is_up_to below cs) →
      after_at v ≡ number_after ss (window_less w (v * s.scaled)) (Some gs) most below
  after_at-here below fits same =
      ap length
      (filter_agree
      (λ cs. is_within w (mass_of (scaled_masses_of (s ∷ ss)) (v ∷ cs))
      && (follows (Some (v ∷ gs)) (v ∷ cs) && is_up_to upto (v ∷ cs)))
      (λ cs. is_within (window_less w (v * s.scaled)) (mass_of (scaled_masses_of ss) cs)
      && (follows (Some gs) cs && is_up_to below cs))
      (λ cs.
      rw (within_less w (v * s.scaled) (mass_of (scaled_masses_of ss) cs) fits, after_same v gs cs, same cs) refl)
      (lists_up_to (length ss) most))

  -- those below the count of the token, and those from the next count on
  climb_number : (below : Option (List ℕ)) → v ≤ most → v * s.scaled ≤ w.hi →
      ((cs : List ℕ) → is_up_to upto (v ∷ cs) ≡ is_up_to below cs) →
      number_after ss (window_less w (v * s.scaled)) (Some gs) most below
      + number_from (s ∷ ss) w (v + 1) most upto ≤ number_after (s ∷ ss) w (Some (v ∷ gs)) most upto
  climb_number below few fits same =
      let rest : ℕ = most + 1 - (v + 1) in
      let tail : most + 1 - v ≡ suc rest = omega arith in
      omega (
        arith,
        after_at-sum,
        sum_part after_at 0 (most + 1) v (most + 1 - v) (omega arith) (omega arith),
        ap (λ n. sum_range after_at v n) tail,
        after_at-here below fits same,
        sum_less (number_at s ss w most upto) after_at (v + 1) rest
            (λ k from to. omega (arith, after_at-above k (omega arith))),
      )

module _ (most : ℕ) (d : Level) where
  -- at a place of the walk
  pub climb_at : (symbols : List Symbol) (window w : Window) (levels : List Level) (place : ℕ)
      (upto below : Option (List ℕ)) → StandsAt symbols window levels (suc place) → IsScaledWindow symbols window w →
      HasRoom symbols w.hi most →
      ((cs : List ℕ) → is_up_to upto ((get_or levels place d).count ∷ cs) ≡ is_up_to below cs) →
      number_after (drop (suc place) symbols) (scaled_at symbols levels w (suc place))
      (Some (drop (suc place) (counts_of levels))) most below
      + number_from (drop place symbols) (scaled_at symbols levels w place) ((get_or levels place d).count + 1) most
      upto
      ≤ number_after (drop place symbols) (scaled_at symbols levels w place) (Some (drop place (counts_of levels))) most
      upto
  climb_at [] window w levels place upto below h sw room same = absurd h
  climb_at (s ∷ ss) window w [] place upto below h sw room same = absurd h
  climb_at (s ∷ ss) window w (v ∷ vs) zero upto below h sw room same =
      let fits = level_fits s ss window w v sw h.0 in
      climb_number s ss w most v.count (counts_of vs) upto below (room.0 v.count fits) fits same
  climb_at (s ∷ ss) window w (v ∷ vs) (suc place) upto below h sw room same =
      let less = window_less w (v.count * s.scaled) in
      climb_at ss v.left less vs place upto below h.1 (scaled_below s ss window w less v sw h.0 refl)
      (room_below ss w.hi less.hi most (omega arith) room.1) same

  -- those at a place are among all
  pub climb_all : (symbols : List Symbol) (window w : Window) (levels : List Level) (place : ℕ) (x : List ℕ) →
      StandsAt symbols window levels (suc place) → IsScaledWindow symbols window w → HasRoom symbols w.hi most →
      number_after (drop place symbols) (scaled_at symbols levels w place) (Some (drop place (counts_of levels))) most
      (Some x) ≤
      number_after symbols w (Some (counts_of levels)) most (Some (take place (counts_of levels) ++ x))
  climb_all [] window w levels place x h sw room = absurd h
  climb_all (s ∷ ss) window w [] place x h sw room = absurd h
  climb_all (s ∷ ss) window w (v ∷ vs) zero x h sw room = omega arith
  climb_all (s ∷ ss) window w (v ∷ vs) (suc place) x h sw room =
      let fits = level_fits s ss window w v sw h.0 in
      let less = window_less w (v.count * s.scaled) in
      let y : List ℕ = take place (counts_of vs) ++ x in
      omega (
        arith,
        climb_all ss v.left less vs place x h.1 (scaled_below s ss window w less v sw h.0 refl)
            (room_below ss w.hi less.hi most (omega arith) room.1),
        climb_number s ss w most v.count (counts_of vs) (Some (v.count ∷ y)) (Some y) (room.0 v.count fits) fits
            (λ cs. ap not (after_same v.count y cs)),
      )

-- a list that begins with a greater count comes after
greater_first : (limits : List Limit) (v : ℕ) (x : List ℕ) → 1 ≤ length limits →
    IsInBox (limits_from (v + 1) limits) x →
    (cs : List ℕ) → is_up_to (Some x) (v ∷ cs) ≡ true
greater_first [] v x some box cs = absurd (omega arith)
greater_first (l ∷ ls) v [] some box cs = absurd box
greater_first (l ∷ ls) v (c ∷ x) some box cs = ap not (after_below c v x cs (omega (arith, box.0)))

pub found_after : (symbols : List Symbol) (window : Window) (v : ℕ) (x : List ℕ) → 1 ≤ length (limits_of symbols) →
    find (is_left (masses_of symbols) window None) (box_of (limits_from (v + 1) (limits_of symbols))) ≡ Some x →
    (cs : List ℕ) → is_up_to (Some x) (v ∷ cs) ≡ true
found_after symbols window v x some found =
    greater_first (limits_of symbols) v x some
    (find_each (IsInBox (limits_from (v + 1) (limits_of symbols))) (is_left (masses_of symbols) window None)
    (box_of (limits_from (v + 1) (limits_of symbols))) x (IsInBox-box (limits_from (v + 1) (limits_of symbols)))
    found).0

-- one place higher
pub climbed : (c1 n l j after from all old now end : ℕ) → l ≤ n → after + from ≤ all →
    now ≤ old + c1 * (j + n * after) → end ≤ now + c1 * (1 + l * from) → end ≤ old + c1 * (j + 1 + n * all)
climbed c1 n l j after from all old now end few parts before here =
    let own : c1 * (l * from) ≤ c1 * (n * from) = mul-le-mul_left c1 (mul-le-mul_right from few) in
    let sum : c1 * (n * (after + from)) ≤ c1 * (n * all) = mul-le-mul_left c1 (mul-le-mul_left n parts) in
    omega (arith, before, here, own, sum)

-- all places
pub climbed_all : (c1 n j all whole old end : ℕ) → j ≤ n → all ≤ whole → end ≤ old + c1 * (j + n * all) →
    end ≤ old + n * c1 * (whole + 1)
climbed_all c1 n j all whole old end few less h =
    let places : c1 * j ≤ c1 * n = mul-le-mul_left c1 few in
    let sum : c1 * (n * all) ≤ c1 * (n * whole) = mul-le-mul_left c1 (mul-le-mul_left n less) in
    omega (arith, h, places, sum)

room_drop : (symbols : List Symbol) (place hi most : ℕ) → HasRoom symbols hi most → HasRoom (drop place symbols) hi most
room_drop symbols zero hi most room = room
room_drop [] (suc place) hi most room = tt
room_drop (s ∷ ss) (suc place) hi most room = room_drop ss place hi most room.1

-- what the levels leave has no more room
pub room_at : (symbols : List Symbol) (w : Window) (levels : List Level) (place most : ℕ) → HasRoom symbols w.hi most →
    HasRoom (drop place symbols) (scaled_at symbols levels w place).hi most
room_at symbols w levels zero most room = room
room_at [] w levels (suc place) most room = tt
room_at (s ∷ ss) w [] (suc place) most room = room_drop ss place w.hi most room.1
room_at (s ∷ ss) w (v ∷ vs) (suc place) most room =
    let less = window_less w (v.count * s.scaled) in
    room_at ss less vs place most (room_below ss w.hi less.hi most (omega arith) room.1)

module _ (symbols : List Symbol) (window w : Window) (levels : List Level) (place depth most old now end : ℕ)
    (d : Level)
    (h : StandsAt symbols window levels (suc place)) (sw : IsScaledWindow symbols window w)
    (room : HasRoom symbols w.hi most) (standing : suc place ≤ depth)
    (before : now ≤ old + (most + 1) * (depth - suc place + length symbols *
    number_after (drop (suc place) symbols) (scaled_at symbols levels w (suc place))
    (Some (drop (suc place) (counts_of levels))) most None)) where
  fewer : length (drop place symbols) ≤ length symbols
  fewer = simp length-drop (omega arith)

  one_place : depth - suc place + 1 ≡ depth - place
  one_place = omega arith

  -- no list was found at a place
  pub climb_steps_on :
      end ≤ now + (most + 1) * (1 + length (drop place symbols) *
      number_from (drop place symbols) (scaled_at symbols levels w place) ((get_or levels place d).count + 1) most
      None) →
      end ≤ old + (most + 1) * (depth - place + length symbols * number_after (drop place symbols)
      (scaled_at symbols levels w place) (Some (drop place (counts_of levels))) most None)
  climb_steps_on here =
      subst (λ n. end ≤ old + (most + 1) * (n + length symbols * number_after (drop place symbols)
      (scaled_at symbols levels w place) (Some (drop place (counts_of levels))) most None)) one_place
      (climbed (most + 1) (length symbols) (length (drop place symbols)) (depth - suc place) _ _ _ old now end fewer
      (climb_at most d symbols window w levels place None None h sw room (λ cs. refl)) before here)

  -- a list was found there
  pub climb_steps_found : (x : List ℕ) → depth ≤ length symbols →
      ((cs : List ℕ) → is_up_to (Some x) ((get_or levels place d).count ∷ cs) ≡ true) →
      end ≤ now + (most + 1) * (1 + length (drop place symbols) * number_from (drop place symbols)
      (scaled_at symbols levels w place) ((get_or levels place d).count + 1) most (Some x)) →
      end ≤ old + length symbols * (most + 1) * (number_after symbols w (Some (counts_of levels)) most
      (Some (take place (counts_of levels) ++ x)) + 1)
  climb_steps_found x few after here =
      climbed_all (most + 1) (length symbols) (depth - suc place + 1) _ _ old end (omega (arith, few))
      (climb_all most d symbols window w levels place x h sw room)
      (climbed (most + 1) (length symbols) (length (drop place symbols)) (depth - suc place) _ _ _ old now end fewer
      (climb_at most d symbols window w levels place (Some x) None h sw room after) before here)

-- the steps to the first list
pub first_steps : (symbols : List Symbol) (w : Window) (low most old end : ℕ) (upto : Option (List ℕ)) →
    1 ≤ length symbols → end ≤ old + (most + 1) * (1 + length symbols * number_from symbols w low most upto) →
    end ≤ old + length symbols * (most + 1) * (number_in symbols w most upto + 1)
first_steps symbols w low most old end upto some h =
    let one : 1 * (most + 1) ≤ length symbols * (most + 1) = mul-le-mul_right (most + 1) some in
    let all : length symbols * (most + 1) * number_from symbols w low most upto ≤
    length symbols * (most + 1) * number_in symbols w most upto =
    mul-le-mul_left (length symbols * (most + 1)) (number_from-in symbols w low most upto) in
    omega (arith, h, one, all)
