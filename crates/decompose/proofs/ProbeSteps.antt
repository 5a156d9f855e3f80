-- Probes: what the levels of a walk leave of a scaled window, and where nothing can fill it.
use Rattle.std.proofs.Common.{◌≡◌, ℕ, zero, suc, ◌+◌, ◌-◌, ◌*◌, ◌^◌, ◌<◌, ◌≤◌, Bool, true, false, leb, eqb, min, length}
use Rattle.std.proofs.Common.{Option, None, List, [], ◌∷◌, drop, get_or, refl, sym, ap, ◌∙◌}
use Rattle.std.proofs.Common.{inl, inr, subst, arith}
use Rattle.std.specs.List.{find, All}
use Rattle.std.specs.Bool.{OnTrue, OnFalse}
use Rattle.std.proofs.lemmas.Bool.{cases_Bool, and_left, and_parts, leb-true, le-leb, false≢true}
use Rattle.std.proofs.lemmas.Bool.Decides.{nat_tests}
use Rattle.std.proofs.Math.Nat.{mul-le-mul_right}
use Rattle.mass_scaling.specs.Masses.{mass_of}
use Rattle.mass_scaling.specs.declared.windows.Window.{Window}
use Rattle.residue_table.specs.Sums.{IsSum, Reaches, HoldsNowhereIn, HoldsSomewhereIn}
use Rattle.std.specs.Prelude.{IsTrue, ◌↔◌}
use Rattle.std.proofs.lemmas.List.{length-map}
use Rattle.decompose.proofs.CountedLists.{counts_of_sum, sum_of_none}
use Rattle.decompose.specs.CountLists.{IsInBox, box_of}
use Rattle.decompose.specs.Enumeration.{is_within}
use Rattle.decompose.specs.Search.{is_left}
use Rattle.decompose.specs.Levels.{IsSymbol, IsLevel, masses_of, scaled_masses_of, limits_of, counts_of, window_less}
use Rattle.decompose.specs.Levels.{window_at}
use Rattle.decompose.specs.Probes.{HasNoList, IsFilled, IsScaledWindow, KnowsScaled, scaled_at}
use Rattle.decompose.specs.Walk.{StandsAt}
use Rattle.decompose.specs.declared.limits.Limit.{Limit}
use Rattle.decompose.specs.declared.levels.Symbol.{Symbol}
use Rattle.decompose.specs.declared.levels.Level.{Level}
use Rattle.decompose.proofs.FindAndFilter.{find_none}
use Rattle.decompose.proofs.SearchSteps.{within_less}
use Rattle.decompose.proofs.WalkSteps.{window_same}

mass_of-nil : (masses : List ℕ) → mass_of masses [] ≡ 0
mass_of-nil [] = refl
mass_of-nil (m ∷ ms) = refl

-- the mass of a count list is a sum of whole multiples
IsSum-mass : (masses counts : List ℕ) → IsSum masses (mass_of masses counts)
IsSum-mass [] counts = refl
IsSum-mass (m ∷ ms) [] =
    (0, mass_of ms [], (let none = mass_of-nil ms in omega arith), IsSum-mass ms [])
IsSum-mass (m ∷ ms) (c ∷ cs) = (c, mass_of ms cs, refl, IsSum-mass ms cs)

-- no counts fill a scaled window that the table reaches nowhere
pub none_fills : (residues : List ℕ) (symbols : List Symbol) (scaled : Window) → KnowsScaled residues symbols →
    HoldsNowhereIn (Reaches residues (length symbols)) scaled.lo scaled.hi → (counts : List ℕ) →
    is_within scaled (mass_of (scaled_masses_of symbols) counts) ≡ false
none_fills residues symbols scaled knows nowhere counts =
    elim (cases_Bool (is_within scaled (mass_of (scaled_masses_of symbols) counts))) [
      | inl t ↦
          let ends = and_parts (leb scaled.lo (mass_of (scaled_masses_of symbols) counts)) _ t in
          let sum = IsSum-mass (scaled_masses_of symbols) counts in
          absurd
          (nowhere (mass_of (scaled_masses_of symbols) counts) (leb-true _ _ ends.0) (leb-true _ _ ends.1)
          (subst (λ xs. IsSum xs (mass_of (scaled_masses_of symbols) counts)) (sym knows.last) sum))
      | inr f ↦ f
    ]

drop_tail : (k : ℕ) (xs ys : List ℕ) (y : ℕ) → drop k xs ≡ y ∷ ys → drop (suc k) xs ≡ ys
drop_tail zero [] ys y e = absurd (cc)
drop_tail zero (x ∷ xs) ys y e = cc
drop_tail (suc k) [] ys y e = absurd (cc)
drop_tail (suc k) (x ∷ xs) ys y e = drop_tail k xs ys y e

-- a table that knows symbols knows those below the first
pub knows_below : (residues : List ℕ) (s : Symbol) (below : List Symbol) → KnowsScaled residues (s ∷ below) →
    KnowsScaled residues below
knows_below residues s below knows =
    let more : suc (length below) ≤ length residues = knows.at_most in
    let place : length residues - length below ≡ suc (length residues - suc (length below)) = omega arith in
    record {
      at_most = omega arith;
      last = rw place
          (drop_tail (length residues - suc (length below)) residues (scaled_masses_of below) s.scaled knows.last);
    }

pub knows_at : (residues : List ℕ) (symbols : List Symbol) (place : ℕ) → KnowsScaled residues symbols →
    KnowsScaled residues (drop place symbols)
knows_at residues symbols zero knows = knows
knows_at residues [] (suc place) knows = knows
knows_at residues (s ∷ ss) (suc place) knows = knows_at residues ss place (knows_below residues s ss knows)

less_within : (window : Window) (taken mass : ℕ) → is_within window (taken + mass) ≡ true →
    is_within (window_less window taken) mass ≡ true
less_within window taken mass h = grind (arith, nat_tests)

-- what a level leaves of a scaled window is one of what it leaves of the window
pub scaled_below : (s : Symbol) (below : List Symbol) (window scaled rest : Window) (level : Level) →
    IsScaledWindow (s ∷ below) window scaled → IsLevel s.mass window level →
    rest ≡ window_less scaled (level.count * s.scaled) → IsScaledWindow below level.left rest
scaled_below s below window scaled rest level w v e =
    rw e record {
      keeps = λ cs h.
          less_within scaled (level.count * s.scaled) (mass_of (scaled_masses_of below) cs)
          (w.keeps (level.count ∷ cs)
          (within_less window (level.count * s.mass) (mass_of (masses_of below) cs) v.fits ∙ (rw v.rest at h)));
      keeps_below = λ cs h.
          let left : level.left.hi ≡ window.hi - level.count * s.mass = ap (λ (x : Window). x.hi) v.rest in
          let all = w.keeps_below (level.count ∷ cs) (omega (arith, h, v.fits, left)) in
          omega (arith, all);
      not_empty = omega (arith, w.not_empty);
      in_range = omega (arith, w.in_range);
    }

-- where no counts fill what is left of the scaled window, no list is there
pub none_without : (symbols : List Symbol) (window scaled : Window) (limits : List Limit) →
    IsScaledWindow symbols window scaled →
    ((counts : List ℕ) → is_within scaled (mass_of (scaled_masses_of symbols) counts) ≡ false) →
    find (is_left (masses_of symbols) window None) (box_of limits) ≡ None
none_without symbols window scaled limits w none =
    find_none (is_left (masses_of symbols) window None) (box_of limits)
    (λ cs. elim (cases_Bool (is_within window (mass_of (masses_of symbols) cs))) [
      | inl t ↦ absurd (false≢true (sym (none cs) ∙ w.keeps cs t))
      | inr f ↦ and_left _ _ f
    ])

pub none_at_all : (symbols : List Symbol) (window : Window) (given : Option (List ℕ)) (limits : List Limit) →
    HasNoList symbols window → find (is_left (masses_of symbols) window given) (box_of limits) ≡ None
none_at_all symbols window given limits none =
    find_none (is_left (masses_of symbols) window given) (box_of limits) (λ cs. and_left _ _ (none cs))

-- what the levels before a place leave
pub scaled_at_place : (symbols : List Symbol) (window scaled : Window) (levels : List Level) (place : ℕ) →
    StandsAt symbols window levels (suc place) → IsScaledWindow symbols window scaled →
    IsScaledWindow (drop place symbols) (window_at window levels place) (scaled_at symbols levels scaled place)
scaled_at_place symbols window scaled levels zero h w = w
scaled_at_place [] window scaled levels (suc place) h w = absurd h
scaled_at_place (s ∷ ss) window scaled [] (suc place) h w = absurd h
scaled_at_place (s ∷ ss) window scaled (v ∷ vs) (suc place) h w =
    scaled_at_place ss v.left (window_less scaled (v.count * s.scaled)) vs place h.1
    (scaled_below s ss window scaled (window_less scaled (v.count * s.scaled)) v w h.0 refl)

-- what stands past the end of a list
abbrev pub no_level : Level
no_level = record { count = 0; left = record { lo = 0; hi = 0 } }

abbrev pub no_symbol : Symbol
no_symbol = record { mass = 0; scaled = 0; limit = record { low = 0; high = 0 } }

-- the scaled mass of the counts before a place
abbrev pub taken_at : List Symbol → List Level → ℕ → ℕ
taken_at symbols levels zero = 0
taken_at [] levels (suc place) = 0
taken_at (s ∷ ss) [] (suc place) = 0
taken_at (s ∷ ss) (v ∷ vs) (suc place) = v.count * s.scaled + taken_at ss vs place

pub taken_more : (symbols : List Symbol) (levels : List Level) (place : ℕ) (d : Level) (e : Symbol) →
    place < length levels → length levels ≡ length symbols →
    taken_at symbols levels (place + 1) ≡
    taken_at symbols levels place + (get_or levels place d).count * (get_or symbols place e).scaled
taken_more [] levels place d e h f = absurd (omega arith)
taken_more (s ∷ ss) [] place d e h f = absurd (omega arith)
taken_more (s ∷ ss) (v ∷ vs) zero d e h f = omega arith
taken_more (s ∷ ss) (v ∷ vs) (suc place) d e h f =
    let one_more : suc place + 1 ≡ suc (place + 1) = omega arith in
    rw one_more (omega (arith, taken_more ss vs place d e (omega arith) (omega arith)))

-- no more is taken than a window has
pub taken_less : (scaled : Window) (taken most : ℕ) → scaled.lo ≤ scaled.hi → scaled.hi ≤ most →
    window_less scaled (min taken most) ≡ window_less scaled taken
taken_less scaled taken most ordered in_range =
    let lo : scaled.lo - min taken most ≡ scaled.lo - taken = omega arith in
    let hi : scaled.hi - min taken most ≡ scaled.hi - taken = omega arith in
    rw (lo, hi) refl

nothing_less : (window : Window) → window_less window 0 ≡ window
nothing_less window =
    window_same (window_less window 0) window (omega arith) (omega arith)

pub scaled_at-taken : (symbols : List Symbol) (levels : List Level) (scaled : Window) (place : ℕ) →
    scaled_at symbols levels scaled place ≡ window_less scaled (taken_at symbols levels place)
scaled_at-taken symbols levels scaled zero = sym (nothing_less scaled)
scaled_at-taken [] levels scaled (suc place) = sym (nothing_less scaled)
scaled_at-taken (s ∷ ss) [] scaled (suc place) = sym (nothing_less scaled)
scaled_at-taken (s ∷ ss) (v ∷ vs) scaled (suc place) =
    let taken : ℕ = v.count * s.scaled in
    let below : ℕ = taken_at ss vs place in
    let lo : scaled.lo - taken - below ≡ scaled.lo - (taken + below) = omega arith in
    let hi : scaled.hi - taken - below ≡ scaled.hi - (taken + below) = omega arith in
    scaled_at-taken ss vs (window_less scaled taken) place ∙ rw (lo, hi) refl

-- the symbols from a place on
pub symbols_at : (symbols : List Symbol) (place : ℕ) → All IsSymbol symbols → All IsSymbol (drop place symbols)
symbols_at symbols zero h = h
symbols_at [] (suc place) h = h
symbols_at (s ∷ ss) (suc place) h = symbols_at ss place (λ k d w. h (suc k) d (omega arith))

-- one more atom leaves as much less
pub less_more : (scaled : Window) (rest : Window) (count a : ℕ) → rest ≡ window_less scaled (count * a) →
    window_less rest a ≡ window_less scaled ((count + 1) * a)
less_more scaled rest count a e =
    let lo : scaled.lo - count * a - a ≡ scaled.lo - (count + 1) * a = omega arith in
    let hi : scaled.hi - count * a - a ≡ scaled.hi - (count + 1) * a = omega arith in
    rw (e, lo, hi) refl

-- the scaled mass of the atoms of a symbol fits
pub scaled_fits : (symbol : Symbol) (count : ℕ) → IsSymbol symbol → count ≤ symbol.limit.high →
    count * symbol.scaled < 2 ^ 64
scaled_fits symbol count s high =
    let few : count ≤ 10000 = omega (arith, s.limit.bounded) in
    let most = mul-le-mul_right symbol.scaled few in
    omega (arith, most, s.scaled_in_range)

pub scaled_fits_at : (symbols : List Symbol) (levels : List Level) (place : ℕ) (d : Level) (e : Symbol) →
    place < length levels → All IsSymbol symbols → IsInBox (limits_of symbols) (counts_of levels) →
    (get_or levels place d).count * (get_or symbols place e).scaled < 2 ^ 64
scaled_fits_at [] [] place d e h ok box = absurd (omega arith)
scaled_fits_at [] (v ∷ vs) place d e h ok box = absurd box
scaled_fits_at (s ∷ ss) [] place d e h ok box = absurd box
scaled_fits_at (s ∷ ss) (v ∷ vs) zero d e h ok box = scaled_fits s v.count (ok 0 s (omega arith)) box.1
scaled_fits_at (s ∷ ss) (v ∷ vs) (suc place) d e h ok box =
    scaled_fits_at ss vs place d e (omega arith) (λ k l w. ok (suc k) l (omega arith)) box.2

-- what a probe tells
pub filled_or_not : (residues : List ℕ) (symbols : List Symbol) (scaled : Window) (r : Bool) →
    KnowsScaled residues symbols →
    IsTrue r ↔ HoldsSomewhereIn (Reaches residues (length symbols)) scaled.lo scaled.hi →
    OnFalse r ((counts : List ℕ) → is_within scaled (mass_of (scaled_masses_of symbols) counts) ≡ false)
filled_or_not residues symbols scaled true knows reaches = tt
filled_or_not residues symbols scaled false knows reaches =
    none_fills residues symbols scaled knows
    (λ value from to sum. absurd (false≢true (reaches.1 (value, from, to, sum))))

-- a level's count has a scaled mass that is not above the scaled window
pub level_fits : (s : Symbol) (below : List Symbol) (window scaled : Window) (level : Level) →
    IsScaledWindow (s ∷ below) window scaled → IsLevel s.mass window level → level.count * s.scaled ≤ scaled.hi
level_fits s below window scaled level w v =
    let none = mass_of-nil (masses_of below) in
    let scaled_none = mass_of-nil (scaled_masses_of below) in
    omega (arith, scaled_none, w.keeps_below (level.count ∷ []) (omega (arith, none, v.fits)))

-- where a probe succeeds, a count list fills what is left
pub is_filled : (residues : List ℕ) (symbols : List Symbol) (scaled : Window) (r : Bool) →
    KnowsScaled residues symbols →
    IsTrue r ↔ HoldsSomewhereIn (Reaches residues (length symbols)) scaled.lo scaled.hi →
    OnTrue r (IsFilled symbols scaled)
is_filled residues symbols scaled false knows reaches = tt
is_filled residues symbols scaled true knows reaches =
    let found = reaches.0 refl in
    let sum : IsSum (scaled_masses_of symbols) found.0 = subst (λ xs. IsSum xs found.0) knows.last found.3 in
    let counts = counts_of_sum (scaled_masses_of symbols) found.0 sum in
    let same : length counts.0 ≡ length symbols = counts.1 ∙ length-map symbols (λ symbol. symbol.scaled) in
    let within : is_within scaled (mass_of (scaled_masses_of symbols) counts.0) ≡ true =
    rw (counts.2, le-leb scaled.lo found.0 found.1, le-leb found.0 scaled.hi found.2) refl in
    (counts.0, same, within)

-- no atom at all fills a window that reaches down to 0
pub is_filled_by_none : (symbols : List Symbol) (scaled : Window) → scaled.lo ≡ 0 →
    OnTrue (eqb scaled.lo 0) (IsFilled symbols scaled)
is_filled_by_none symbols scaled e =
    let counts = counts_of_sum (scaled_masses_of symbols) 0 (sum_of_none (scaled_masses_of symbols)) in
    let same : length counts.0 ≡ length symbols = counts.1 ∙ length-map symbols (λ symbol. symbol.scaled) in
    let within : is_within scaled (mass_of (scaled_masses_of symbols) counts.0) ≡ true =
    rw (counts.2, e, le-leb 0 scaled.hi (omega arith)) refl in
    elim (cases_Bool (eqb scaled.lo 0)) [
      | inl t ↦ rw t (counts.0, same, within)
      | inr f ↦ rw f tt
    ]
