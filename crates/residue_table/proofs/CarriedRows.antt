-- What carrying entries on along a cycle keeps, and that all cycles together make the row of one mass more.
use Rattle.std.proofs.Common.{◌≡◌, ℕ, zero, suc, ◌+◌, ◌-◌, ◌*◌, ◌/◌, ◌%◌, ◌<◌, ◌≤◌, min, List, [], ◌∷◌, length, get_or}
use Rattle.std.proofs.Common.{ap, arith, sym, subst, refl, below_more, ◌∙◌, inl, inr}
use Rattle.std.proofs.Math.ListN.{set}
use Rattle.std.proofs.lemmas.Bool.{cases_eq, cases_lt}
use Rattle.std.proofs.lemmas.List.{get_or-set_other, get_or-set_same, length-set}
use Rattle.std.proofs.lemmas.Nat.{div-add-mod', mod_below}
use Rattle.std.proofs.Math.Nat.{mod-eq_of_lt, mul-le-mul_right}
use Rattle.residue_table.specs.Sums.{IsSum}
use Rattle.residue_table.specs.Rows.{AreLimited, IsComplete, IsSound}
use Rattle.residue_table.specs.Strides.{IsCarried, IsClosed, IsLowered, IsStride, KeepsSound, residue_after}
use Rattle.residue_table.proofs.Cycles.{cycle_is, next_step, on_cycle, once_round, rounds, same_residue, some_divisor, step_back, steps_on}

-- 0 is a sum of no multiples
pub zero_sum : (masses : List ℕ) → IsSum masses 0
zero_sum [] = refl
zero_sum (m ∷ ms) = (0, 0, omega arith, zero_sum ms)

-- a sum is one of a mass more
pub none_of_it : (mass : ℕ) (masses : List ℕ) (value : ℕ) → IsSum masses value → IsSum (mass ∷ masses) value
none_of_it mass masses value s = (0, value, omega arith, s)

one_more : (mass : ℕ) (masses : List ℕ) (value : ℕ) → IsSum (mass ∷ masses) value → IsSum (mass ∷ masses) (value + mass)
one_more mass masses value s = (s.0 + 1, s.1, omega (arith, s.2), s.3)

-- an entry that is lowered
pub set_lowers : (xs : List ℕ) (i y : ℕ) → i < length xs → y ≤ get_or xs i 0 → IsLowered xs (set xs i y)
set_lowers xs i y within less k = elim (cases_eq k i) [
  | inl e ↦ rw e (rw get_or-set_same less)
  | inr ne ↦ rw (get_or-set_other xs i k y 0 ne) (omega arith)
]

-- a sound row stays so where an entry becomes the one before and the mass
set_sound : (mass : ℕ) (masses xs : List ℕ) (place next least y : ℕ) → place < length xs → next < length xs →
    next ≡ (place + mass % length xs) % length xs → least ≡ get_or xs place 0 →
    y ≡ min (least + mass) (get_or xs next 0) →
    IsSound (mass ∷ masses) xs → IsSound (mass ∷ masses) (set xs next y)
set_sound mass masses xs place next least y within next_within is_next is_least is_y sound value small reached =
    let reached' : get_or (set xs next y) (value % length xs) 0 ≤ value = rw (length-set xs next y) at reached in
    elim (cases_eq (value % length xs) next) [
      | inl here ↦
          let at_next : get_or xs next 0 ≤ value → IsSum (mass ∷ masses) value =
          λ h. sound value small (rw here h) in
          let lowered : y ≤ value = rw (here, get_or-set_same xs next y 0 next_within) at reached' in
          elim (cases_lt value (get_or xs next 0)) [
            | inr ge ↦ at_next ge
            | inl lt ↦
                let before = value - mass in
                let enough : least + mass ≤ value = omega (arith, lowered, is_y) in
                let whole : before + mass ≡ value = omega arith in
                let residue : before % length xs ≡ place =
                step_back before place mass (length xs) within
                (ap (λ (z : ℕ). z % length xs) whole ∙ here ∙ is_next) in
                let s = sound before (omega arith) (rw residue (omega (arith, is_least, enough))) in
                rw whole at (one_more mass masses before s)
          ]
      | inr ne ↦ sound value small (rw (get_or-set_other xs next (value % length xs) y 0 ne) at reached')
    ]

-- one step of carrying an entry on
module _ (start step mass count modulus : ℕ) (old xs : List ℕ) (place next least y : ℕ)
    (is_length : length xs ≡ modulus)
    (is_step : step ≡ mass % modulus) (within : place < modulus) (next_within : next < modulus)
    (is_next : next ≡ (place + step) % modulus) (is_place : place ≡ residue_after modulus start step count)
    (is_least : least ≡ get_or xs place 0) (is_y : y ≡ min (least + mass) (get_or xs next 0)) where
  -- the residue that the step leads to
  pub next_is : next ≡ residue_after modulus start step (count + 1)
  next_is = is_next ∙ ap (λ (z : ℕ). (z + step) % modulus) is_place ∙ next_step modulus start step count

  lowers : IsLowered xs (set xs next y)
  lowers = set_lowers xs next y (omega arith) (omega (arith, is_y))

  pub still_lowered : IsLowered old xs → IsLowered old (set xs next y)
  still_lowered low k = omega (arith, lowers k, low k)

  pub still_limited : AreLimited xs → AreLimited (set xs next y)
  still_limited limited k = omega (arith, lowers k, limited k)

  pub still_sound : KeepsSound mass old xs → KeepsSound mass old (set xs next y)
  still_sound keeps masses sound =
      set_sound mass masses xs place next least y (rw is_length within) (rw is_length next_within)
      (rw (is_length, ← is_step) is_next) is_least is_y (keeps masses sound)

  at_next : (i m : ℕ) → i + m ≡ count + 1 → IsLowered old xs → IsCarried modulus start step mass count old xs →
      get_or (set xs next y) next 0 ≤ get_or old (residue_after modulus start step i) 0 + m * mass
  at_next i zero e low carried =
      let here : residue_after modulus start step i ≡ next =
      ap (λ (z : ℕ). residue_after modulus start step z) (omega arith) ∙ sym next_is in
      rw here (omega (arith, lowers next, low next))
  at_next i (suc m) e low carried =
      let before : residue_after modulus start step (i + m) ≡ place =
      ap (λ (z : ℕ). residue_after modulus start step z) (omega arith) ∙ sym is_place in
      let bound = rw before at (carried i m (omega arith)) in
      let next_xs : next < length xs = rw is_length next_within in
      rw (get_or-set_same xs next y 0 next_xs) (omega (arith, bound, is_least, is_y))

  pub still_carried : IsLowered old xs → IsCarried modulus start step mass count old xs →
      IsCarried modulus start step mass (count + 1) old (set xs next y)
  still_carried low carried i m few = elim (cases_lt count (i + m)) [
    | inr le ↦ omega (arith, carried i m le, lowers (residue_after modulus start step (i + m)))
    | inl lt ↦
        let e : i + m ≡ count + 1 = omega arith in
        let there : residue_after modulus start step (i + m) ≡ next =
        ap (λ (z : ℕ). residue_after modulus start step z) e ∙ sym next_is in
        rw there (at_next i m e low carried)
  ]

-- Once round and on from a start whose entry stands, each entry is at most each other and the mass once for each step
-- between.
pub closed : (modulus start step mass cycle : ℕ) (old mid new : List ℕ) → start < modulus →
    residue_after modulus start step cycle ≡ start → IsCarried modulus start step mass cycle old mid →
    IsLowered mid new →
    ((k : ℕ) → k ≤ cycle → get_or new (residue_after modulus start step k) 0 ≤ get_or mid start 0 + k * mass) →
    IsClosed modulus start step mass cycle old new
closed modulus start step mass cycle old mid new within back carried low on i m i_less m_less =
    elim (cases_lt cycle (i + m)) [
      | inr le ↦ omega (arith, carried i m le, low (residue_after modulus start step (i + m)))
      | inl lt ↦
          let k = i + m - cycle in
          let rest = cycle - i in
          let again : residue_after modulus start step (i + m) ≡ residue_after modulus start step k =
          ap (λ (z : ℕ). residue_after modulus start step z) (omega arith)
          ∙ once_round modulus start step cycle k back in
          let to_start : residue_after modulus start step (i + rest) ≡ start =
          ap (λ (z : ℕ). residue_after modulus start step z) (omega arith) ∙ back in
          let before = rw to_start at (carried i rest (omega arith)) in
          let behind = on k (omega arith) in
          let together : m ≡ rest + k = omega arith in
          let times : m * mass ≡ (rest + k) * mass = ap (λ (z : ℕ). z * mass) together in
          rw again (omega (arith, before, behind, times))
    ]

zero_steps : (start step : ℕ) → start + 0 * step ≡ start
zero_steps start step = omega arith

from_start : (modulus start step mass cycle : ℕ) (mid new : List ℕ) → start < modulus →
    IsCarried modulus start step mass cycle mid new → (k : ℕ) → k ≤ cycle →
    get_or new (residue_after modulus start step k) 0 ≤ get_or mid start 0 + k * mass
from_start modulus start step mass cycle mid new within carried k few =
    let at_start : residue_after modulus start step 0 ≡ start =
    ap (λ (z : ℕ). z % modulus) (zero_steps start step) ∙ mod-eq_of_lt within in
    let none : 0 + k ≡ k = omega arith in
    subst (λ (z : ℕ). get_or new (residue_after modulus start step z) 0 ≤ get_or mid start 0 + k * mass) none
    (rw at_start at (carried 0 k (omega arith)))

-- a cycle that was gone round a second time is closed
pub closed_twice : (modulus modulus' start step mass cycle : ℕ) (old mid new : List ℕ) → start < modulus →
    residue_after modulus start step cycle ≡ start → modulus' ≡ modulus →
    IsCarried modulus start step mass cycle old mid → IsLowered mid new →
    IsCarried modulus' start step mass cycle mid new → IsClosed modulus start step mass cycle old new
closed_twice modulus modulus' start step mass cycle old mid new within back same carried low again =
    closed modulus start step mass cycle old mid new within back carried low
    (from_start modulus start step mass cycle mid new within
    (subst (λ (z : ℕ). IsCarried z start step mass cycle mid new) same again))

-- and so is one whose start was not lowered
pub closed_once : (modulus start step mass cycle : ℕ) (old mid : List ℕ) → start < modulus →
    residue_after modulus start step cycle ≡ start → IsCarried modulus start step mass cycle old mid →
    get_or old start 0 ≤ get_or mid start 0 → IsClosed modulus start step mass cycle old mid
closed_once modulus start step mass cycle old mid within back carried kept =
    closed modulus start step mass cycle old mid mid within back carried (λ k. omega arith)
    (λ k few. omega (arith, kept, from_start modulus start step mass cycle old mid within carried k few))

-- one cycle more is closed
pub one_cycle_more : (modulus modulus' start step mass cycle : ℕ) (old xs new : List ℕ) → modulus' ≡ modulus →
    IsLowered old xs → IsLowered xs new → IsClosed modulus' start step mass cycle xs new →
    ((p : ℕ) → p < start → IsClosed modulus p step mass cycle old xs) → (p : ℕ) → p < start + 1 →
    IsClosed modulus p step mass cycle old new
one_cycle_more modulus modulus' start step mass cycle old xs new same low lower is_closed before =
    below_more (λ p. IsClosed modulus p step mass cycle old new) start
    (λ p less i m i_less m_less.
    omega
    (arith, before p less i m i_less m_less, lower (residue_after modulus p step (i + m))))
    (λ i m i_less m_less.
    omega (
      arith,
      subst (λ (z : ℕ). IsClosed z start step mass cycle xs new) same is_closed i m i_less m_less,
      low (residue_after modulus start step i),
    ))

-- where all cycles are closed, the row is complete for one mass more
pub complete : (mass : ℕ) (masses old new : List ℕ) (step divisor : ℕ) (stride : IsStride (length old) step divisor) →
    1 ≤ length old → length new ≡ length old → step ≡ mass % length old → IsComplete masses old →
    ((p : ℕ) → p < divisor → IsClosed (length old) p step mass (length old / divisor) old new) →
    IsComplete (mass ∷ masses) new
complete mass masses old new step divisor stride some same is_step whole all value s =
    let modulus = length old in
    let count = s.0 in
    let rest = s.1 in
    let residue = rest % modulus in
    let reached : get_or old residue 0 ≤ rest = whole rest s.3 in
    let place = on_cycle modulus step divisor stride residue (mod_below rest modulus some) in
    let start = residue % divisor in
    let i = place.0 in
    let fewer = count % stride.cycle in
    let some_divisor' : 1 ≤ divisor = some_divisor modulus step divisor stride some in
    let in_cycle : fewer < stride.cycle = mod_below count stride.cycle (omega (arith, place.1)) in
    let all_cycles = rw (cycle_is modulus step divisor stride some) at
    (all start (mod_below residue divisor some_divisor')) in
    let bound = rw place.2 at (all_cycles i fewer place.1 in_cycle) in
    let split : i + fewer + count / stride.cycle * stride.cycle ≡ i + count =
    omega (arith, div-add-mod' count stride.cycle) in
    let less : fewer * mass ≤ count * mass =
    mul-le-mul_right mass (omega (arith, div-add-mod' count stride.cycle)) in
    let moved : residue_after modulus start step (i + fewer) ≡ (residue + count * step) % modulus =
    sym (rounds modulus step divisor stride start (i + fewer) (count / stride.cycle))
    ∙ ap (λ (z : ℕ). residue_after modulus start step z) split ∙ sym (steps_on modulus start step i count)
    ∙ ap (λ (z : ℕ). (z + count * step) % modulus) place.2 in
    let mass_parts : mass / modulus * modulus + step ≡ mass = rw is_step (div-add-mod' mass modulus) in
    let here : (residue + count * step) % modulus ≡ value % modulus =
    same_residue (residue + count * step) value (rest / modulus + count * (mass / modulus)) 0 modulus
    (omega (arith, s.2, div-add-mod' rest modulus, ap (λ (z : ℕ). count * z) mass_parts)) in
    rw (same, ← here, ← moved) (omega (arith, bound, reached, less, s.2))
