-- The bound on the steps of a walk, in the words of its enumeration.
use Rattle.std.proofs.Common.{◌≡◌, ℕ, suc, ◌+◌, ◌-◌, ◌*◌, ◌/◌, ◌<◌, ◌≤◌, Option, Some, None, MatchOption, List, []}
use Rattle.std.proofs.Common.{◌∷◌, length, get_or, sym, ap, ◌∙◌, inl, inr, arith}
use Rattle.std.specs.List.{All}
use Rattle.std.proofs.lemmas.Bool.{cases_lt}
use Rattle.std.proofs.lemmas.List.{length-map, get_or_default}
use Rattle.std.proofs.lemmas.Nat.{le-div}
use Rattle.std.proofs.Math.Nat.{mul-le-mul_left}
use Rattle.mass_scaling.specs.Masses.{base_of}
use Rattle.mass_scaling.specs.Scales.{Scaling, AreScaled, scaled_of}
use Rattle.mass_scaling.specs.declared.windows.Window.{Window}
use Rattle.decompose.specs.Levels.{scaled_masses_of, masses_of, counts_of}
use Rattle.decompose.specs.Numbers.{HasRoom, number_after}
use Rattle.decompose.specs.Probes.{AreTables}
use Rattle.decompose.specs.StepBounds.{HasNoScaledWindow, IsScaledWindowOf, most_atoms, most_steps}
use Rattle.decompose.specs.Enumeration.{Enumeration}
use Rattle.decompose.specs.Search.{enumeration}
use Rattle.decompose.specs.Walk.{IsWalk, given_of}
use Rattle.decompose.specs.declared.limits.Limit.{Limit}
use Rattle.decompose.specs.declared.levels.Symbol.{Symbol}
use Rattle.decompose.specs.declared.levels.Level.{Level}
use Rattle.decompose.proofs.WalkSteps.{window_same}

-- there is one scaled window
same_scaled : (masses : List ℕ) (window v w : Window) → IsScaledWindowOf masses window v →
    IsScaledWindowOf masses window w → v ≡ w
same_scaled masses window v w p q =
    let low = (q.exact v.lo).0 ((p.exact v.lo).1 (omega arith, p.not_empty)) in
    let high = (q.exact v.hi).0 ((p.exact v.hi).1 (p.not_empty, omega arith)) in
    let low_back = (p.exact w.lo).0 ((q.exact w.lo).1 (omega arith, q.not_empty)) in
    let high_back = (p.exact w.hi).0 ((q.exact w.hi).1 (q.not_empty, omega arith)) in
    window_same v w (omega (arith, low, low_back)) (omega (arith, high, high_back))

-- the last scaled mass is the least
pub least_last : (scaled : List ℕ) → AreScaled scaled → All (λ a. base_of scaled ≤ a) scaled
least_last scaled are k d within =
    elim (cases_lt k (length scaled - 1)) [
      | inl lt ↦ omega (
        arith,
        are.falling k (length scaled - 1) d lt (omega (arith, are.some)),
        get_or_default scaled (length scaled - 1) d 0 (omega (arith, are.some)),
      )
      | inr ge ↦
          let last : k ≡ length scaled - 1 = omega arith in
          omega (arith, ap (λ n. get_or scaled n d) last, get_or_default scaled (length scaled - 1) d 0 (omega arith))
    ]

pub room_of : (symbols : List Symbol) (base hi : ℕ) → 0 < base → All (λ a. base ≤ a) (scaled_masses_of symbols) →
    HasRoom symbols hi (hi / base)
room_of [] base hi pos least = tt
room_of (s ∷ ss) base hi pos least = (
  λ count fits.
      let first : base ≤ s.scaled = least 0 0 (omega arith) in
      le-div count hi base pos (omega (arith, fits, mul-le-mul_left count first)),
  room_of ss base hi pos (λ k d within. least (suc k) d (omega arith)),
)

-- an alphabet has a symbol
pub some_symbol : (masses : List ℕ) (scale : Scaling) (residues : List ℕ) (symbols : List Symbol) →
    AreTables masses scale residues → masses_of symbols ≡ masses → 1 ≤ length symbols
some_symbol masses scale residues symbols tables are =
    omega (
      arith,
      tables.scale_is.are_masses.some,
      ap length are,
      length-map symbols (λ symbol. symbol.mass),
    )

module _ (masses : List ℕ) (symbols : List Symbol) (window : Window) (levels : List Level) (stands : Option ℕ)
    (scale : Scaling) (residues : List ℕ) (tables : AreTables masses scale residues) (old end : ℕ)
    (upto : Option (List ℕ)) where
  -- the steps of a search for the list that is left next
  abbrev pub SearchSteps : Option Window → Type 0
  SearchSteps scaled =
      MatchOption scaled (end ≡ old)
      (λ w. (most : ℕ) → HasRoom symbols w.hi most → end ≤ old + length symbols * (most + 1) *
      (number_after symbols w (given_of stands (counts_of levels)) most upto + 1))

  pub walk_steps : (scaled : Option Window) → IsWalk masses symbols window scaled levels stands → SearchSteps scaled →
      (w : Window) → IsScaledWindowOf masses window w →
      end ≤ old + most_steps masses w (given_of stands (counts_of levels)) upto
  walk_steps None walk h w is = omega (arith, h)
  walk_steps (Some v) walk h w is =
      let same : v ≡ w = same_scaled masses window v w walk.exact is in
      let here = rw same at h in
      let scaled_ok : AreScaled (scaled_of masses) = rw tables.scale_is.scaled at tables.scaled_ok in
      let room : HasRoom symbols w.hi (most_atoms masses w) =
      room_of symbols (base_of (scaled_of masses)) w.hi (omega (arith, scaled_ok.base_above_zero))
      (rw walk.scaled_are (least_last (scaled_of masses) scaled_ok)) in
      let as_many : length symbols ≡ length masses =
      sym (length-map symbols (λ symbol. symbol.mass)) ∙ ap length walk.masses_are in
      rw (as_many, walk.scaled_are) at (here (most_atoms masses w) room)

  pub walk_no_steps : (scaled : Option Window) → IsWalk masses symbols window scaled levels stands →
      SearchSteps scaled → HasNoScaledWindow masses window → end ≡ old
  walk_no_steps None walk h none = h
  walk_no_steps (Some v) walk h none =
      absurd (none v.lo ((walk.exact.exact v.lo).1 (omega arith, walk.exact.not_empty)))

  module _ (limits : List Limit) (now : Enumeration)
      (is_now : enumeration masses limits window (given_of stands (counts_of levels)) ≡ now) (scaled : Option Window)
      (walk : IsWalk masses symbols window scaled levels stands) (h : SearchSteps scaled) where
    pub steps_now : (w : Window) → IsScaledWindowOf now.masses now.window w →
        end ≤ old + most_steps now.masses w now.given upto
    steps_now w is = rw (← is_now) (walk_steps scaled walk h w (rw (← is_now) at is))

    pub no_steps_now : HasNoScaledWindow now.masses now.window → end ≡ old
    no_steps_now none = walk_no_steps scaled walk h (rw (← is_now) at none)
