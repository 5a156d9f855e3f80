-- Leaps over remainders that are above a width.
use Rattle.std.proofs.Common.{◌≡◌, ℕ, zero, suc, ◌+◌, ◌-◌, ◌*◌, ◌%◌, ◌^◌, ◌<◌, ◌≤◌, ◌⊎◌, min, [], ◌∷◌, None}
use Rattle.std.proofs.Common.{refl, sym, ◌∙◌, inl, inr, arith}
use Rattle.std.proofs.lemmas.Bool.{cases_lt}
use Rattle.std.proofs.Math.Nat.{mul-le-mul_left, mul-le-mul_right}
use Rattle.decompose.specs.Levels.{NoneIsWithin}
use Rattle.decompose.specs.Strides.{AreStrides, LeapsOver}
use Rattle.decompose.specs.declared.levels.Symbol.{Symbol}
use Rattle.decompose.specs.declared.strides.Strides.{Strides}
use Rattle.decompose.specs.declared.strides.Leap.{Leap}
use Rattle.mass_scaling.specs.declared.windows.Window.{Window}
use Rattle.decompose.proofs.LevelsOfSymbols.{none_by_remainder, remainder_less, remainder_less_more}
use Rattle.decompose.proofs.WalkSteps.{Reaches, first, walk_goes_on, walk_ends, one_none, narrow_less}

-- by an inverse that is not too great, no more strides are taken than fit
pub strides_fit : (times x inverse stride : ℕ) → times * 2 ^ 64 ≤ x * inverse → inverse * stride < 2 ^ 64 →
    times * stride ≤ x
strides_fit times x inverse stride h small =
    let left : times * 2 ^ 64 * stride ≤ x * inverse * stride = mul-le-mul_right stride h in
    let right : x * (inverse * stride) ≤ x * 2 ^ 64 = mul-le-mul_left x (omega arith) in
    elim (cases_lt x (times * stride)) [
      | inl lt ↦ absurd (omega (arith, left, right))
      | inr ge ↦ ge
    ]

pub down_fits : (s : Strides) → AreStrides s → (times x : ℕ) → times * 2 ^ 64 ≤ x * s.inverse →
    s.fall ≤ s.mass - s.fall → times * s.fall ≤ x
down_fits s are times x h less =
    let is : min s.fall (s.mass - s.fall) ≡ s.fall = omega arith in
    strides_fit times x s.inverse s.fall h (rw is at are.inverse)

pub up_fits : (s : Strides) → AreStrides s → (times x : ℕ) → times * 2 ^ 64 ≤ x * s.inverse →
    s.mass - s.fall < s.fall → times * (s.mass - s.fall) ≤ x
up_fits s are times x h less =
    let is : min s.fall (s.mass - s.fall) ≡ s.mass - s.fall = omega arith in
    strides_fit times x s.inverse (s.mass - s.fall) h (rw is at are.inverse)

-- the remainders on the way
module _ (m heavier number remainder fall : ℕ) (h : heavier % m ≡ fall) (n : number % m ≡ remainder) (below : fall < m)
    (remainder_below : remainder < m) where
  less_again : (j : ℕ) → number - suc j * heavier ≡ number - j * heavier - heavier
  less_again j = omega arith

  pub falls : (j : ℕ) → j * heavier ≤ number → j * fall ≤ remainder →
      (number - j * heavier) % m ≡ remainder - j * fall
  falls zero fits less =
      let same : number - 0 * heavier ≡ number = omega arith in
      let rest : remainder - 0 * fall ≡ remainder = omega arith in
      rw (same, rest) n
  falls (suc j) fits less =
      let before = falls j (omega (arith, fits)) (omega (arith, less)) in
      let rest : remainder - j * fall - fall ≡ remainder - suc j * fall = omega arith in
      rw (less_again j)
      (remainder_less m (number - j * heavier) heavier (remainder - j * fall) fall (omega (arith, fits)) before h
      (omega (arith, remainder_below)) below (omega (arith, less)) ∙ rest)

  pub rises : (j : ℕ) → j * heavier ≤ number → remainder + j * (m - fall) < m →
      (number - j * heavier) % m ≡ remainder + j * (m - fall)
  rises zero fits less =
      let same : number - 0 * heavier ≡ number = omega arith in
      let rest : remainder + 0 * (m - fall) ≡ remainder = omega arith in
      rw (same, rest) n
  rises (suc j) fits less =
      let rise : ℕ = m - fall in
      let more : suc j * rise ≡ j * rise + rise = omega arith in
      let before = rises j (omega (arith, fits)) (omega (arith, less, more)) in
      let rest : remainder + j * rise + (m - fall) ≡ remainder + suc j * rise = omega (arith, more) in
      rw (less_again j)
      (remainder_less_more m (number - j * heavier) heavier (remainder + j * rise) fall (omega (arith, fits)) before h
      (omega (arith, less, more)) below (omega (arith, less, more, below)) ∙ rest)

module _ (s : Strides) (are : AreStrides s) (remainder width : ℕ) (remainder_below : remainder < s.mass) where
  pub leaps_none : LeapsOver s remainder width record { times = 0; remainder = remainder }
  leaps_none = record {
    above = λ heavier number j h n few fits. inl (omega (arith, few));
    last = λ heavier number h n fits.
        let same : number - 0 * heavier ≡ number = omega arith in
        rw same n;
    below = remainder_below;
  }

  pub leaps_down : (times : ℕ) → times * s.fall ≤ remainder - width - 1 → width < remainder →
      LeapsOver s remainder width record { times = times; remainder = remainder - times * s.fall }
  leaps_down times fall above = record {
    above = λ heavier number j h n few fits.
        let less = mul-le-mul_right s.fall few in
        inr (rw (falls s.mass heavier number remainder s.fall h n are.below remainder_below j fits
        (omega (arith, less, fall))) (omega (arith, less, fall)));
    last = λ heavier number h n fits.
        falls s.mass heavier number remainder s.fall h n are.below remainder_below times fits (omega (arith, fall));
    below = omega (arith, remainder_below);
  }

  pub leaps_up : (times : ℕ) → times * (s.mass - s.fall) ≤ s.mass - 1 - remainder → width < remainder →
      LeapsOver s remainder width record { times = times; remainder = remainder + times * (s.mass - s.fall) }
  leaps_up times rise above = record {
    above = λ heavier number j h n few fits.
        let less = mul-le-mul_right (s.mass - s.fall) few in
        inr (rw (rises s.mass heavier number remainder s.fall h n are.below remainder_below j fits
        (omega (arith, less, rise, remainder_below))) (omega (arith, above)));
    last = λ heavier number h n fits.
        rises s.mass heavier number remainder s.fall h n are.below remainder_below times fits
        (omega (arith, rise, remainder_below));
    below = omega (arith, rise, remainder_below);
  }

-- a walk over two symbols leaps over counts of the heavier one below which none of the lighter one is within
module _ (heavier lighter : Symbol) (from : ℕ) (window : Window) (width : ℕ) where
  abbrev pub Stands : ℕ → ℕ → Type 0
  Stands count hi =
      Reaches heavier (lighter ∷ []) from window record { count = count; left = record { lo = hi - width; hi = hi } }

  abbrev pub NoneTo : ℕ → ℕ → Type 0
  NoneTo times hi =
      (j : ℕ) → j ≤ times → j * heavier.mass ≤ hi →
      NoneIsWithin lighter record { lo = hi - j * heavier.mass - width; hi = hi - j * heavier.mass }

  here_none : (times hi : ℕ) → NoneTo times hi → NoneIsWithin lighter record { lo = hi - width; hi = hi }
  here_none times hi none =
      let same : hi - 0 * heavier.mass ≡ hi = omega arith in
      rw same at (none 0 (omega arith) (omega arith))

  go_on : (count hi : ℕ) → Stands count hi → NoneIsWithin lighter record { lo = hi - width; hi = hi } →
      count < heavier.limit.high → heavier.mass ≤ hi → Stands (count + 1) (hi - heavier.mass)
  go_on count hi stands none room fits =
      walk_goes_on heavier (lighter ∷ []) from window
      record { count = count; left = record { lo = hi - width; hi = hi } } stands (one_none lighter record { lo = hi - width; hi = hi } none)
      record { count = count + 1; left = record { lo = hi - heavier.mass - width; hi = hi - heavier.mass } }
      (refl, room, fits, narrow_less width hi (hi - heavier.mass) heavier.mass refl)

  later_none : (times hi : ℕ) → heavier.mass ≤ hi → NoneTo (suc times) hi → NoneTo times (hi - heavier.mass)
  later_none times hi fits none j few room =
      let same : hi - heavier.mass - j * heavier.mass ≡ hi - suc j * heavier.mass = omega arith in
      rw same (none (suc j) (omega arith) (omega (arith, room, fits)))

  pub leap_on : (times count hi : ℕ) → Stands count hi → NoneTo times hi → count + times + 1 ≤ heavier.limit.high →
      (times + 1) * heavier.mass ≤ hi → Stands (count + (times + 1)) (hi - (times + 1) * heavier.mass)
  leap_on zero count hi stands none room fits =
      let one : hi - (0 + 1) * heavier.mass ≡ hi - heavier.mass = omega arith in
      let here : 0 + 1 ≡ 1 = omega arith in
      rw one (go_on count hi stands (here_none 0 hi none) (omega arith) (omega (arith, fits)))
  leap_on (suc times) count hi stands none room fits =
      let next = go_on count hi stands (here_none (suc times) hi none) (omega arith) (omega (arith, fits)) in
      let place : count + 1 + (times + 1) ≡ count + (suc times + 1) = omega arith in
      let less : hi - heavier.mass - (times + 1) * heavier.mass ≡ hi - (suc times + 1) * heavier.mass = omega arith in
      rw (← place, ← less)
      (leap_on times (count + 1) (hi - heavier.mass) next (later_none times hi (omega (arith, fits)) none)
      (omega (arith, room)) (omega (arith, fits)))

  pub leap_ends : (times count hi : ℕ) → Stands count hi → NoneTo times hi →
      ((heavier.limit.high < count + (times + 1)) ⊎ (hi < (times + 1) * heavier.mass)) →
      first heavier (lighter ∷ []) from window ≡ None
  leap_ends zero count hi stands none over =
      walk_ends heavier (lighter ∷ []) from window
      record { count = count; left = record { lo = hi - width; hi = hi } } stands
      (one_none lighter record { lo = hi - width; hi = hi } (here_none 0 hi none))
      (elim over [ inl high ↦ inl (omega (arith, high)) | inr heavy ↦ inr (omega (arith, heavy)) ])
  leap_ends (suc times) count hi stands none over =
      let ends = walk_ends heavier (lighter ∷ []) from window
      record { count = count; left = record { lo = hi - width; hi = hi } } stands
      (one_none lighter record { lo = hi - width; hi = hi } (here_none (suc times) hi none)) in
      elim (cases_lt count heavier.limit.high) [
        | inr high ↦ ends (inl high)
        | inl room ↦ elim (cases_lt hi heavier.mass) [
          | inl heavy ↦ ends (inr heavy)
          | inr fits ↦
              leap_ends times (count + 1) (hi - heavier.mass)
              (go_on count hi stands (here_none (suc times) hi none) room fits) (later_none times hi fits none)
              (elim over [ inl high ↦ inl (omega (arith, high)) | inr heavy ↦ inr (omega (arith, heavy, fits)) ])
        ]
      ]

  -- below the counts that are leapt over none of the lighter symbol is within
  pub leapt : (hi remainder : ℕ) (s : Strides) (leap : Leap) → 0 < lighter.mass → s.mass ≡ lighter.mass →
      s.fall ≡ heavier.mass % lighter.mass → LeapsOver s remainder width leap → remainder ≡ hi % lighter.mass →
      NoneIsWithin lighter record { lo = hi - width; hi = hi } → NoneTo leap.times hi
  leapt hi remainder s leap pos mass fall over is none j few fits =
      elim (over.above heavier.mass hi j (rw mass (sym fall)) (rw mass (sym is)) few fits) [
        | inl zero_is ↦
            let same : hi - j * heavier.mass ≡ hi = rw zero_is (omega arith) in
            rw same none
        | inr above ↦
            let high = rw mass at above in
            none_by_remainder lighter
            record { lo = hi - j * heavier.mass - width; hi = hi - j * heavier.mass } pos (omega arith)
            (omega (arith, high))
      ]

  -- the remainder behind a leap
  pub leapt_remainder : (hi remainder : ℕ) (s : Strides) (leap : Leap) → s.mass ≡ lighter.mass →
      s.fall ≡ heavier.mass % lighter.mass → LeapsOver s remainder width leap → remainder ≡ hi % lighter.mass →
      leap.times * heavier.mass ≤ hi → (hi - leap.times * heavier.mass) % lighter.mass ≡ leap.remainder
  leapt_remainder hi remainder s leap mass fall over is fits =
      rw mass at (over.last heavier.mass hi (rw mass (sym fall)) (rw mass (sym is)) fits)
