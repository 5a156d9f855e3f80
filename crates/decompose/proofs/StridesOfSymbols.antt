-- The strides of the last two symbols of a walk.
use Rattle.std.proofs.Common.{◌≡◌, ℕ, zero, suc, ◌+◌, ◌≤◌, List, [], ◌∷◌, length, drop, get_or, arith}
use Rattle.decompose.specs.Strides.{AreStridesOf, KnowsStrides}
use Rattle.decompose.specs.declared.levels.Symbol.{Symbol}
use Rattle.decompose.specs.declared.strides.Strides.{Strides}

pub strides_below : (s : Symbol) (below : List Symbol) (strides : Strides) → KnowsStrides (s ∷ below) strides →
    KnowsStrides below strides
strides_below s [] strides knows = tt
strides_below s (a ∷ []) strides knows = tt
strides_below s (a ∷ b ∷ ss) strides knows = knows

pub strides_at : (symbols : List Symbol) (place : ℕ) (strides : Strides) → KnowsStrides symbols strides →
    KnowsStrides (drop place symbols) strides
strides_at symbols zero strides knows = knows
strides_at [] (suc place) strides knows = knows
strides_at (s ∷ ss) (suc place) strides knows = strides_at ss place strides (strides_below s ss strides knows)

-- fewer than two symbols have none
pub strides_of_few : (symbols : List Symbol) (strides : Strides) → length symbols ≤ 1 → KnowsStrides symbols strides
strides_of_few [] strides few = tt
strides_of_few (a ∷ []) strides few = tt
strides_of_few (a ∷ b ∷ ss) strides few = absurd (omega arith)

pub strides_of_last : (symbols : List Symbol) (d : Symbol) (strides : Strides) (place : ℕ) →
    place + 2 ≡ length symbols →
    AreStridesOf (get_or symbols place d).mass (get_or symbols (place + 1) d).mass strides →
    KnowsStrides symbols strides
strides_of_last [] d strides place last are = absurd (omega arith)
strides_of_last (a ∷ []) d strides place last are = absurd (omega arith)
strides_of_last (a ∷ b ∷ []) d strides zero last are = are
strides_of_last (a ∷ b ∷ []) d strides (suc place) last are = absurd (omega arith)
strides_of_last (a ∷ b ∷ c ∷ cs) d strides zero last are = absurd (omega arith)
strides_of_last (a ∷ b ∷ c ∷ cs) d strides (suc place) last are =
    let later : suc place + 1 ≡ suc (place + 1) = omega arith in
    strides_of_last (b ∷ c ∷ cs) d strides place (omega arith) (rw later at are)

pub strides_of_two : (symbols : List Symbol) (d e : Symbol) (strides : Strides) → length symbols ≡ 2 →
    KnowsStrides symbols strides →
    AreStridesOf (get_or symbols 0 d).mass (get_or symbols 1 e).mass strides
strides_of_two [] d e strides two knows = absurd (omega arith)
strides_of_two (a ∷ []) d e strides two knows = absurd (omega arith)
strides_of_two (a ∷ b ∷ []) d e strides two knows = knows
strides_of_two (a ∷ b ∷ c ∷ cs) d e strides two knows = absurd (omega arith)
