-- Each step of the walk is charged to the counts below which it is made.
use Rattle.std.proofs.Common.{◌≡◌, ℕ, suc, ◌+◌, ◌-◌, ◌*◌, ◌≤◌, ◌⊎◌, not, Some, None, List, ◌∷◌, length}
use Rattle.std.proofs.Common.{refl, ap, ◌∙◌, inl, inr, arith}
use Rattle.std.specs.List.{find}
use Rattle.std.proofs.lemmas.Bool.{and_parts}
use Rattle.std.proofs.lemmas.List.{length-map}
use Rattle.std.proofs.Math.Nat.{mul-le-mul_left}
use Rattle.mass_scaling.specs.declared.windows.Window.{Window}
use Rattle.decompose.specs.CountLists.{IsInBox, box_of}
use Rattle.decompose.specs.Search.{is_left}
use Rattle.decompose.specs.Levels.{masses_of, limits_of, window_less}
use Rattle.decompose.specs.Numbers.{HasRoom, number_in, number_from}
use Rattle.decompose.specs.Probes.{IsFilled, IsScaledWindow}
use Rattle.decompose.specs.declared.levels.Symbol.{Symbol}
use Rattle.decompose.proofs.CountListOrder.{after_itself}
use Rattle.decompose.proofs.CountedLists.{passed, passed_more, passed_all, passed_found, charged, some_in, room_below}
use Rattle.decompose.proofs.CountedLists.{number_from-in}
use Rattle.decompose.proofs.FindAndFilter.{find_each}
use Rattle.decompose.proofs.FirstOfBox.{IsInBox-box, IsInBox-length}

module _ (s : Symbol) (ss : List Symbol) (w : Window) (most : ℕ) (room : HasRoom (s ∷ ss) w.hi most)
    (count c old now probed end low : ℕ) (from : count ≤ c)
    (before : now ≤ old + c + (most + 1) * (suc (length ss) * passed s ss w most count (c - count)))
    (probe : probed ≤ now + 1) where
  abbrev rest : Window
  rest = window_less w (c * s.scaled)

  room_there : HasRoom ss rest.hi most
  room_there = room_below ss w.hi rest.hi most (omega arith) room.1

  -- a count is done: no list was found
  pub count_done : ((end ≡ probed)
      ⊎ ((end ≤ probed + (most + 1) * (1 + length ss * number_from ss rest low most None)) × IsFilled ss rest)) →
      end ≤ old + (c + 1) + (most + 1) * (suc (length ss) * passed s ss w most count (c + 1 - count))
  count_done (inl e) =
      rw (passed_more s ss w most room count c from) (omega (arith, before, probe, e))
  count_done (inr h) =
      let there : ℕ = number_in ss rest most None in
      let some : 1 ≤ there = some_in ss rest most None h.1.0 h.1.1 room_there h.1.2 refl in
      let below = charged (most + 1) (length ss) (number_from ss rest low most None) there
      (number_from-in ss rest low most None) some in
      rw (passed_more s ss w most room count c from) (omega (arith, before, probe, h.0, below))

  -- a list was found below a count
  pub count_found : (x : List ℕ) → c * s.scaled ≤ w.hi →
      end ≤ probed + (most + 1) * (1 + length ss * number_from ss rest low most (Some x)) →
      1 ≤ number_in ss rest most (Some x) →
      end ≤ old + (most + 1) * (1 + suc (length ss) * number_from (s ∷ ss) w count most (Some (c ∷ x)))
  count_found x fits steps some =
      let there : ℕ = number_in ss rest most (Some x) in
      let all : ℕ = number_from (s ∷ ss) w count most (Some (c ∷ x)) in
      let done : ℕ = passed s ss w most count (c - count) in
      let below = charged (most + 1) (length ss) (number_from ss rest low most (Some x)) there
      (number_from-in ss rest low most (Some x)) some in
      let parts : done + there ≤ all = passed_found s ss w most room count c x from fits in
      let times : suc (length ss) * (done + there) ≤ suc (length ss) * all = mul-le-mul_left (suc (length ss)) parts in
      let charges : (most + 1) * (suc (length ss) * (done + there)) ≤ (most + 1) * (suc (length ss) * all) =
      mul-le-mul_left (most + 1) times in
      omega (arith, before, probe, steps, below, charges, room.0 c fits)

module _ (s : Symbol) (ss : List Symbol) (w : Window) (most : ℕ) (room : HasRoom (s ∷ ss) w.hi most) where
  -- all counts are done
  pub counts_done : (count c old end : ℕ) → count ≤ c → c * s.scaled ≤ w.hi →
      end ≤ old + (c + 1) + (most + 1) * (suc (length ss) * passed s ss w most count (c + 1 - count)) →
      end ≤ old + (most + 1) * (1 + suc (length ss) * number_from (s ∷ ss) w count most None)
  counts_done count c old end from fits h =
      let all : ℕ = number_from (s ∷ ss) w count most None in
      let done : ℕ = passed s ss w most count (c + 1 - count) in
      let parts : done ≤ all = passed_all s ss w most room count c from fits in
      let times : suc (length ss) * done ≤ suc (length ss) * all = mul-le-mul_left (suc (length ss)) parts in
      let charges : (most + 1) * (suc (length ss) * done) ≤ (most + 1) * (suc (length ss) * all) =
      mul-le-mul_left (most + 1) times in
      omega (arith, h, charges, room.0 c fits)

-- a list that is found is one of its scaled window
pub found_in : (symbols : List Symbol) (window scaled : Window) (most : ℕ) (x : List ℕ) →
    IsScaledWindow symbols window scaled → HasRoom symbols scaled.hi most →
    find (is_left (masses_of symbols) window None) (box_of (limits_of symbols)) ≡ Some x →
    1 ≤ number_in symbols scaled most (Some x)
found_in symbols window scaled most x w room found =
    let each =
    find_each (IsInBox (limits_of symbols)) (is_left (masses_of symbols) window None) (box_of (limits_of symbols)) x
    (IsInBox-box (limits_of symbols)) found in
    let same : length x ≡ length symbols =
    IsInBox-length (limits_of symbols) x each.0 ∙ length-map symbols (λ symbol. symbol.limit) in
    some_in symbols scaled most (Some x) x same room (w.keeps x (and_parts _ _ each.1).0) (ap not (after_itself x))
