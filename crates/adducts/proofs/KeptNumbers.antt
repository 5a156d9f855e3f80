-- Numbers that are kept up to 2^32 - 1 have the same products up to there.
use Rattle.std.proofs.Common.{◌≡◌, ℕ, zero, suc, ◌+◌, ◌-◌, ◌*◌, ◌^◌, ◌<◌, ◌≤◌, min, refl, sym, ap, ◌∙◌, inl, inr, arith, le_trans}
use Rattle.std.proofs.lemmas.Bool.{cases_lt}
use Rattle.std.proofs.Math.Nat.{mul-le-mul_left, mul-le-mul_right, mul_comm}
use Rattle.adducts.specs.AdductReader.{capped}

pub capped-small : (a : ℕ) → a ≤ 2 ^ 32 - 1 → capped a ≡ a
capped-small a h = omega (arith, h)

pub capped-large : (a : ℕ) → 2 ^ 32 - 1 ≤ a → capped a ≡ 2 ^ 32 - 1
capped-large a h = omega (arith, h)

positive : (a : ℕ) → (a ≡ 0 → ⊥) → 1 ≤ a
positive zero h = absurd (h refl)
positive (suc a) h = omega arith

pub capped-product : (a b : ℕ) → capped (capped a * capped b) ≡ capped (a * b)
capped-product a b =
    elim (cases_lt (2 ^ 32 - 1) a) [
      | inl large ↦ elim (cases_lt 0 b) [
        | inl some ↦
            let here : 1 ≤ capped b = omega (arith, some) in
            let least : capped a * 1 ≤ capped a * capped b = mul-le-mul_left (capped a) here in
            let more : a * 1 ≤ a * b = mul-le-mul_left a some in
            let top : capped a ≡ 2 ^ 32 - 1 = omega (arith, large) in
            capped-large (capped a * capped b) (omega (arith, least, top))
            ∙ sym (capped-large (a * b) (omega (arith, more, large)))
        | inr none ↦
            let zero_b : b ≡ 0 = omega (arith, none) in
            ap (λ n. capped (capped a * capped n)) zero_b ∙ omega arith ∙ ap (λ n. capped (a * n)) (sym zero_b)
      ]
      | inr small ↦ elim (cases_lt (2 ^ 32 - 1) b) [
        | inl large ↦ elim (cases_lt 0 a) [
          | inl some ↦
              let here : 1 ≤ capped a = omega (arith, some) in
              let least : 1 * capped b ≤ capped a * capped b = mul-le-mul_right (capped b) here in
              let more : 1 * b ≤ a * b = mul-le-mul_right b some in
              let top : capped b ≡ 2 ^ 32 - 1 = omega (arith, large) in
              capped-large (capped a * capped b) (omega (arith, least, top))
              ∙ sym (capped-large (a * b) (omega (arith, more, large)))
          | inr none ↦
              let zero_a : a ≡ 0 = omega (arith, none) in
              ap (λ n. capped (capped n * capped b)) zero_a ∙ omega arith ∙ ap (λ n. capped (n * b)) (sym zero_a)
        ]
        | inr small_b ↦
            ap (λ n. capped (n * capped b)) (capped-small a small) ∙ ap (λ n. capped (a * n)) (capped-small b small_b)
      ]
    ]
