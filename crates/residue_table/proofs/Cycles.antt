-- Residues along a cycle of steps, and that each residue lies on one of the cycles.
use Rattle.std.proofs.Common.{◌≡◌, ℕ, zero, suc, ◌+◌, ◌-◌, ◌*◌, ◌/◌, ◌%◌, ◌<◌, ◌≤◌, ap, arith, subst, sym, ◌∙◌}
use Rattle.std.proofs.lemmas.Nat.{div-add-mod', mod_below}
use Rattle.std.proofs.Math.Nat.{add-mul-mod_self_right, mod-add-mod, mod-eq_of_lt, mul-div_cancel}
use Rattle.residue_table.specs.Strides.{IsStride, residue_after}

-- numbers that are equal but for multiples of the modulus
pub same_residue : (x y u w modulus : ℕ) → x + u * modulus ≡ y + w * modulus → x % modulus ≡ y % modulus
same_residue x y u w modulus e =
    sym (add-mul-mod_self_right x u modulus) ∙ ap (λ (z : ℕ). z % modulus) e ∙ add-mul-mod_self_right y w modulus

-- the residue before a step is known from the one behind it
pub step_back : (value place mass modulus : ℕ) → place < modulus →
    (value + mass) % modulus ≡ (place + mass % modulus) % modulus → value % modulus ≡ place
step_back value place mass modulus within e =
    let below : mass % modulus < modulus = mod_below mass modulus (omega arith) in
    let to_end = modulus - mass % modulus in
    let whole : mass / modulus * modulus + mass % modulus ≡ mass = div-add-mod' mass modulus in
    let up : value % modulus ≡ (value + mass + to_end) % modulus =
    same_residue value (value + mass + to_end) (mass / modulus + 1) 0 modulus (omega (arith, whole)) in
    let down : (place + mass % modulus + to_end) % modulus ≡ place =
    same_residue (place + mass % modulus + to_end) place 0 1 modulus (omega arith) ∙ mod-eq_of_lt within in
    up ∙ sym (mod-add-mod (value + mass) modulus to_end) ∙ ap (λ (z : ℕ). (z + to_end) % modulus) e
    ∙ mod-add-mod (place + mass % modulus) modulus to_end ∙ down

-- one step on
pub next_step : (modulus start step count : ℕ) →
    (residue_after modulus start step count + step) % modulus ≡ residue_after modulus start step (count + 1)
next_step modulus start step count =
    mod-add-mod (start + count * step) modulus step ∙ ap (λ (z : ℕ). z % modulus) (omega arith)

-- so many steps on
pub steps_on : (modulus start step from count : ℕ) →
    (residue_after modulus start step from + count * step) % modulus ≡ residue_after modulus start step (from + count)
steps_on modulus start step from count =
    mod-add-mod (start + from * step) modulus (count * step) ∙ ap (λ (z : ℕ). z % modulus) (omega arith)

-- from a start that a number of steps leads back to, that number more makes no difference
pub once_round : (modulus start step cycle count : ℕ) → residue_after modulus start step cycle ≡ start →
    residue_after modulus start step (cycle + count) ≡ residue_after modulus start step count
once_round modulus start step cycle count back =
    sym (steps_on modulus start step cycle count) ∙ ap (λ (z : ℕ). (z + count * step) % modulus) back

module _ (modulus step divisor : ℕ) (stride : IsStride modulus step divisor) where
  whole_round : stride.cycle * step ≡ stride.factor * modulus
  whole_round =
      omega
      (arith, ap (λ (z : ℕ). stride.cycle * z) stride.step_is, ap (λ (z : ℕ). stride.factor * z) stride.modulus_is)

  -- whole rounds more make no difference
  pub rounds : (start count turns : ℕ) →
      residue_after modulus start step (count + turns * stride.cycle) ≡ residue_after modulus start step count
  rounds start count turns =
      same_residue (start + (count + turns * stride.cycle) * step) (start + count * step) 0 (turns * stride.factor)
      modulus (omega (arith, ap (λ (z : ℕ). turns * z) whole_round))

  -- a cycle leads back to its start
  pub back_to_start : (start : ℕ) → start < modulus → residue_after modulus start step stride.cycle ≡ start
  back_to_start start within =
      same_residue (start + stride.cycle * step) start 0 stride.factor modulus (omega (arith, whole_round))
      ∙ mod-eq_of_lt within

  pub some_cycle : 1 ≤ modulus → 1 ≤ stride.cycle
  some_cycle some = elim stride.cycle as (λ (n : ℕ). modulus ≡ n * divisor → 1 ≤ n) [
    | zero ↦ λ e. absurd (omega arith)
    | suc n ↦ λ e. omega arith
  ] stride.modulus_is

  pub some_divisor : 1 ≤ modulus → 1 ≤ divisor
  some_divisor some = elim divisor as (λ (n : ℕ). modulus ≡ stride.cycle * n → 1 ≤ n) [
    | zero ↦ λ e. absurd (omega arith)
    | suc n ↦ λ e. omega arith
  ] stride.modulus_is

  -- how long a cycle is
  pub cycle_is : 1 ≤ modulus → modulus / divisor ≡ stride.cycle
  cycle_is some =
      ap (λ (z : ℕ). z / divisor) stride.modulus_is ∙ mul-div_cancel stride.cycle {n = divisor} (some_divisor some)

  -- a cycle leads back to its start, for the length and the modulus as the code has them
  pub round_of : (modulus' start : ℕ) → 1 ≤ modulus → modulus' ≡ modulus → start < modulus →
      residue_after modulus' start step (modulus / divisor) ≡ start
  round_of modulus' start some same within =
      subst (λ (z : ℕ). residue_after z start step (modulus / divisor) ≡ start) (sym same)
      (rw (cycle_is some) (back_to_start start within))

  -- each residue is on the cycle that begins at what it leaves behind the divisor
  pub on_cycle : (residue : ℕ) → residue < modulus →
      (count : ℕ) × (count < stride.cycle) × (residue_after modulus (residue % divisor) step count ≡ residue)
  on_cycle residue within =
      let cycle = stride.cycle in
      let some : 1 ≤ cycle = some_cycle (omega arith) in
      let less = cycle - 1 in
      let start = residue % divisor in
      let times = residue / divisor in
      let forth = stride.steps_forth in
      let back = stride.steps_back in
      let far = times * (forth + back * less) in
      let parts : times * divisor + start ≡ residue = div-add-mod' residue divisor in
      let combined = ap (λ (z : ℕ). times * z) stride.returns in
      let round : (less + 1) * step ≡ stride.factor * modulus =
      ap (λ (z : ℕ). z * step) (omega arith) ∙ whole_round in
      let turned = ap (λ (z : ℕ). times * back * z) round in
      let there : residue_after modulus start step far ≡ residue =
      same_residue (start + far * step) residue (times * stride.moduli_forth)
      (times * stride.moduli_back + times * back * stride.factor) modulus (omega (arith, parts, combined, turned))
      ∙ mod-eq_of_lt within in
      let near : far % cycle + far / cycle * cycle ≡ far = omega (arith, div-add-mod' far cycle) in (
        far % cycle,
        mod_below far cycle some,
        sym (rounds start (far % cycle) (far / cycle)) ∙ ap (λ (z : ℕ). residue_after modulus start step z) near
            ∙ there,
      )

-- Euclid's algorithm ends
pub stride_end : (divisor : ℕ) → IsStride divisor 0 divisor
stride_end divisor = record {
  cycle = 1;
  modulus_is = omega arith;
  factor = 0;
  step_is = omega arith;
  moduli_forth = 1;
  steps_forth = 0;
  moduli_back = 0;
  steps_back = 0;
  returns = omega arith;
}

-- one step of Euclid's algorithm
pub stride_step : (modulus step divisor : ℕ) → IsStride step (modulus % step) divisor → IsStride modulus step divisor
stride_step modulus step divisor s =
    let parts : modulus / step * step + modulus % step ≡ modulus = div-add-mod' modulus step in
    record {
      cycle = modulus / step * s.cycle + s.factor;
      modulus_is = omega (arith, parts, ap (λ (z : ℕ). modulus / step * z) s.modulus_is, s.step_is);
      factor = s.cycle;
      step_is = s.modulus_is;
      moduli_forth = s.steps_forth;
      steps_forth = s.moduli_forth + s.steps_back * (modulus / step);
      moduli_back = s.steps_back;
      steps_back = s.moduli_back + s.steps_forth * (modulus / step);
      returns = omega
          (arith, s.returns, ap (λ (z : ℕ). s.steps_forth * z) parts, ap (λ (z : ℕ). s.steps_back * z) parts);
    }
