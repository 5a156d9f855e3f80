-- Symbols and their levels: the least count whose mass is in a window, remainders by the symbol's mass, and the
-- lists of their masses, limits and counts.
use Rattle.std.proofs.Common.{◌≡◌, ℕ, zero, suc, ◌+◌, ◌-◌, ◌*◌, ◌/◌, ◌%◌, ◌<◌, ◌≤◌, ◌⊎◌, max, false, Option, Some, None}
use Rattle.std.proofs.Common.{MatchOption, List, [], ◌∷◌, ◌++◌, length, take, drop, set, get_or, refl, sym, ap, ◌∙◌}
use Rattle.std.proofs.Common.{inl, inr, arith}
use Rattle.std.specs.List.{All}
use Rattle.std.specs.Option.{is_some}
use Rattle.std.specs.Int.{div_ceil}
use Rattle.std.proofs.lemmas.Grind.{div_ceil_times}
use Rattle.std.proofs.lemmas.Bool.{cases_lt, and_left, and_right, lt-leb}
use Rattle.std.proofs.lemmas.Nat.{le-div, mod-mul-add, div-add-mod'}
use Rattle.std.proofs.Math.Nat.{mul-le-mul_right}
use Rattle.decompose.specs.Enumeration.{is_within}
use Rattle.std.proofs.lemmas.List.{length-map}
use Rattle.mass_scaling.specs.declared.limits.TheConstants.{MIN_MASS, MAX_SCALED_MASS}
use Rattle.decompose.specs.CountLists.{IsLimit}
use Rattle.decompose.specs.Levels.{IsSymbol, IsLevel, IsFirstWithin, scaled_masses_of, symbols_of, levels_of}
use Rattle.decompose.specs.Levels.{masses_of, limits_of, counts_of}
use Rattle.decompose.specs.Levels.{NoneIsWithin}
use Rattle.decompose.specs.declared.limits.Limit.{Limit}
use Rattle.decompose.specs.declared.levels.Symbol.{Symbol}
use Rattle.decompose.specs.declared.levels.Level.{Level}
use Rattle.mass_scaling.specs.declared.windows.Window.{Window}

-- what holds where there is nothing
pub none_of : {A : Type 0} {P : Type 0} (Q : A → Type 0) (o : Option A) → is_some o ≡ false → MatchOption o P Q → P
none_of Q None e h = h
none_of Q (Some x) e h = absurd (cc)

pub below_window : (window : Window) (mass : ℕ) → mass < window.lo → is_within window mass ≡ false
below_window window mass h = and_left _ _ (lt-leb window.lo mass h)

pub above_window : (window : Window) (mass : ℕ) → window.hi < mass → is_within window mass ≡ false
above_window window mass h = and_right _ _ (lt-leb mass window.hi h)

below_least : (lo m k : ℕ) → 0 < m → k < div_ceil lo m → k * m < lo
below_least lo m k pos h =
    elim (cases_lt (k * m) lo) [
      | inl lt ↦ lt
      | inr ge ↦
          let more : k + 1 ≤ div_ceil lo m = omega arith in
          absurd (omega (arith, (div_ceil_times lo m pos).1, mul-le-mul_right m more))
    ]

module _ (symbol : Symbol) (window : Window) (pos : 0 < symbol.mass) (least : ℕ)
    (is_least : least ≡ max symbol.limit.low (div_ceil window.lo symbol.mass)) where
  skipped : (k : ℕ) → symbol.limit.low ≤ k → k < least → is_within window (k * symbol.mass) ≡ false
  skipped k low h = below_window window _ (below_least window.lo symbol.mass k pos (omega arith))

  pub none_at_all : symbol.limit.high < least → NoneIsWithin symbol window
  none_at_all h = λ k low high. skipped k low (omega arith)

  pub first_within : (result : Option Level) → least ≤ symbol.limit.high →
      MatchOption result ((symbol.limit.high < least) ⊎ (window.hi < least * symbol.mass))
      (λ level. (level.count ≡ least) × (least ≤ symbol.limit.high) × IsLevel symbol.mass window level) →
      MatchOption result (NoneIsWithin symbol window) (IsFirstWithin symbol window)
  first_within None h (inl over) = absurd (omega arith)
  first_within None h (inr over) = λ k low high. elim (cases_lt k least) [
    | inl lt ↦ skipped k low lt
    | inr ge ↦ above_window window _ (omega (arith, mul-le-mul_right symbol.mass ge))
  ]
  first_within (Some level) h l =
      let enough : div_ceil window.lo symbol.mass * symbol.mass ≤ least * symbol.mass =
      mul-le-mul_right symbol.mass (omega arith) in
      record {
        not_below = omega (arith, l.0);
        not_above = omega (arith, l.0);
        is_level = l.2;
        within = rw (l.2.rest, l.0) (omega (arith, (div_ceil_times window.lo symbol.mass pos).0));
        skipped = λ k low lt. skipped k low (omega (arith, l.0));
      }

-- where the remainder of the upper end is above the width, no multiple is in the window
pub none_by_remainder : (symbol : Symbol) (window : Window) → 0 < symbol.mass → window.lo ≤ window.hi →
    window.hi - window.lo < window.hi % symbol.mass → NoneIsWithin symbol window
none_by_remainder symbol window pos ordered h k low high =
    elim (cases_lt window.hi (k * symbol.mass)) [
      | inl lt ↦ above_window window _ lt
      | inr ge ↦
          let most = mul-le-mul_right symbol.mass (le-div k window.hi symbol.mass pos ge) in
          below_window window _ (omega (arith, most, div-add-mod' window.hi symbol.mass))
    ]

-- a difference of multiples and remainders
module _ (m p r s : ℕ) where
  less_multiple : (d : ℕ) → s ≤ r → ((p + d) * m + r) - (p * m + s) ≡ d * m + (r - s)
  less_multiple d h = omega arith

  less_multiple_more : (d : ℕ) → s < m → ((p + (d + 1)) * m + r) - (p * m + s) ≡ d * m + (r + (m - s))
  less_multiple_more d h = omega arith

  no_more : (q : ℕ) → r < m → p * m + s ≤ q * m + r → p ≤ q
  no_more q h fits =
      elim (cases_lt q p) [
        | inl lt ↦
            let one_more : q + 1 ≤ p = omega arith in
            absurd (omega (arith, mul-le-mul_right m one_more))
        | inr ge ↦ ge
      ]

  fewer : (q : ℕ) → r < s → p * m + s ≤ q * m + r → p + 1 ≤ q
  fewer q h fits =
      elim (cases_lt p q) [
        | inl lt ↦ omega arith
        | inr ge ↦ absurd (omega (arith, mul-le-mul_right m ge))
      ]

module _ (m number less remainder step : ℕ) (fits : less ≤ number) (r : number % m ≡ remainder) (s : less % m ≡ step)
    (below : remainder < m) (step_below : step < m) where
  number_is : number / m * m + remainder ≡ number
  number_is = omega (arith, div-add-mod' number m)

  less_is : less / m * m + step ≡ less
  less_is = omega (arith, div-add-mod' less m)

  pub remainder_less : step ≤ remainder → (number - less) % m ≡ remainder - step
  remainder_less h =
      let d : ℕ = number / m - less / m in
      let more : less / m ≤ number / m =
      no_more m (less / m) remainder step (number / m) below (omega (arith, number_is, less_is)) in
      let quotient : number / m ≡ less / m + d = omega arith in
      let difference : number - less ≡ d * m + (remainder - step) =
      omega (arith, less_multiple m (less / m) remainder step d h, ap (λ q. q * m) quotient, number_is, less_is) in
      rw difference (mod-mul-add d m (remainder - step) (omega arith))

  pub remainder_less_more : remainder < step → (number - less) % m ≡ remainder + (m - step)
  remainder_less_more h =
      let d : ℕ = number / m - less / m - 1 in
      let more : less / m + 1 ≤ number / m =
      fewer m (less / m) remainder step (number / m) h (omega (arith, number_is, less_is)) in
      let quotient : number / m ≡ less / m + (d + 1) = omega arith in
      let difference : number - less ≡ d * m + (remainder + (m - step)) =
      omega (
        arith,
        less_multiple_more m (less / m) remainder step d step_below,
        ap (λ q. q * m) quotient,
        number_is,
        less_is,
      ) in
      rw difference (mod-mul-add d m (remainder + (m - step)) (omega arith))

-- the count of one more level written
pub counts_more : (levels : List Level) (counts : List ℕ) (place : ℕ) (d : Level) → place < length levels →
    length counts ≡ length levels →
    set (counts_of (take place levels) ++ drop place counts) place (get_or levels place d).count ≡
    counts_of (take (place + 1) levels) ++ drop (place + 1) counts
counts_more [] counts place d h e = absurd (omega arith)
counts_more (v ∷ vs) [] place d h e = absurd (omega arith)
counts_more (v ∷ vs) (c ∷ cs) zero d h e = refl
counts_more (v ∷ vs) (c ∷ cs) (suc place) d h e =
    let one_more : suc place + 1 ≡ suc (place + 1) = omega arith in
    rw one_more (ap (λ xs. v.count ∷ xs) (counts_more vs cs place d (omega arith) (omega arith)))

-- the symbols of masses, scaled masses and limits
pub masses_are : (masses scaled : List ℕ) (limits : List Limit) → length scaled ≡ length masses →
    length limits ≡ length masses → masses_of (symbols_of masses scaled limits) ≡ masses
masses_are [] scaled limits e f = refl
masses_are (m ∷ ms) [] limits e f = absurd (omega arith)
masses_are (m ∷ ms) (a ∷ as_) [] e f = absurd (omega arith)
masses_are (m ∷ ms) (a ∷ as_) (l ∷ ls) e f =
    ap (λ xs. m ∷ xs) (masses_are ms as_ ls (omega arith) (omega arith))

pub scaled_are : (masses scaled : List ℕ) (limits : List Limit) → length scaled ≡ length masses →
    length limits ≡ length masses → scaled_masses_of (symbols_of masses scaled limits) ≡ scaled
scaled_are [] [] limits e f = refl
scaled_are [] (a ∷ as_) limits e f = absurd (omega arith)
scaled_are (m ∷ ms) [] limits e f = absurd (omega arith)
scaled_are (m ∷ ms) (a ∷ as_) [] e f = absurd (omega arith)
scaled_are (m ∷ ms) (a ∷ as_) (l ∷ ls) e f =
    ap (λ xs. a ∷ xs) (scaled_are ms as_ ls (omega arith) (omega arith))

pub limits_are : (masses scaled : List ℕ) (limits : List Limit) → length scaled ≡ length masses →
    length limits ≡ length masses → limits_of (symbols_of masses scaled limits) ≡ limits
limits_are [] scaled [] e f = refl
limits_are [] scaled (l ∷ ls) e f = absurd (omega arith)
limits_are (m ∷ ms) [] limits e f = absurd (omega arith)
limits_are (m ∷ ms) (a ∷ as_) [] e f = absurd (omega arith)
limits_are (m ∷ ms) (a ∷ as_) (l ∷ ls) e f =
    ap (λ xs. l ∷ xs) (limits_are ms as_ ls (omega arith) (omega arith))

pub length_are : (masses scaled : List ℕ) (limits : List Limit) → length scaled ≡ length masses →
    length limits ≡ length masses → length (symbols_of masses scaled limits) ≡ length masses
length_are masses scaled limits e f =
    sym (length-map (symbols_of masses scaled limits) (λ symbol. symbol.mass))
    ∙ ap length (masses_are masses scaled limits e f)

all_cons : {X : Type 0} (P : X → Type 0) (x : X) (xs : List X) → P x → All P xs → All P (x ∷ xs)
all_cons P x xs h k zero d w = h
all_cons P x xs h k (suc n) d w = k n d (omega arith)

pub symbols_are_ok : (masses scaled : List ℕ) (limits : List Limit) → length scaled ≡ length masses →
    length limits ≡ length masses → All (λ m. MIN_MASS ≤ m) masses → All (λ a. a ≤ MAX_SCALED_MASS) scaled →
    All IsLimit limits → All IsSymbol (symbols_of masses scaled limits)
symbols_are_ok [] scaled limits e f heavy light ok = λ k d w. absurd (omega arith)
symbols_are_ok (m ∷ ms) [] limits e f heavy light ok = absurd (omega arith)
symbols_are_ok (m ∷ ms) (a ∷ as_) [] e f heavy light ok = absurd (omega arith)
symbols_are_ok (m ∷ ms) (a ∷ as_) (l ∷ ls) e f heavy light ok =
    all_cons IsSymbol record { mass = m; scaled = a; limit = l } (symbols_of ms as_ ls)
    record {
      positive = omega (arith, heavy 0 0 (omega arith));
      scaled_in_range = light 0 0 (omega arith);
      limit = ok 0 l (omega arith);
    }
    (symbols_are_ok ms as_ ls (omega arith) (omega arith) (λ k d w. heavy (suc k) d (omega arith))
    (λ k d w. light (suc k) d (omega arith)) (λ k d w. ok (suc k) d (omega arith)))

pub counts_are : (window : Window) (counts : List ℕ) → counts_of (levels_of window counts) ≡ counts
counts_are window [] = refl
counts_are window (c ∷ cs) = ap (λ xs. c ∷ xs) (counts_are window cs)
