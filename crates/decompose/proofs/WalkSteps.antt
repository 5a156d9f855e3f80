-- How the walk goes on from one count of a symbol to the next: over the masses m ∷ ms and the limits l ∷ ls, for the
-- first list of the box whose mass is in the window and which comes after the given one.
use Rattle.std.proofs.Common.{◌≡◌, ℕ, ◌+◌, ◌-◌, ◌*◌, ◌<◌, ◌≤◌, ◌⊎◌, Bool, eqb, true, false, length, Option, Some, None, List, []}
use Rattle.std.proofs.Common.{◌∷◌, get_or, set, refl, ap, ◌∙◌, inl, inr, subst, arith}
use Rattle.std.specs.List.{find}
use Rattle.std.proofs.lemmas.Bool.{cases_Bool, cases_lt, eqb-true, eqb-false, and_left, le-leb, lt-leb}
use Rattle.std.proofs.Math.Nat.{mul-le-mul_right, add-zero}
use Rattle.std.proofs.Math.Bool.{and-true}
use Rattle.mass_scaling.specs.Masses.{mass_of}
use Rattle.decompose.specs.CountLists.{box_of}
use Rattle.decompose.specs.Enumeration.{is_within}
use Rattle.decompose.specs.Search.{is_left}
use Rattle.decompose.specs.Levels.{window_less, IsLevel, AreLevels, IsFirstWithin, NoneIsWithin, masses_of, limits_of, counts_of}
use Rattle.decompose.specs.Walk.{limits_from, FindsFirst}
use Rattle.decompose.specs.declared.limits.Limit.{Limit}
use Rattle.decompose.specs.declared.levels.Symbol.{Symbol}
use Rattle.decompose.specs.declared.levels.Level.{Level}
use Rattle.mass_scaling.specs.declared.windows.Window.{Window}
use Rattle.decompose.proofs.FindAndFilter.{find_none, find_agree}
use Rattle.decompose.proofs.FirstOfBox.{find-box_found, find-box_none}
use Rattle.decompose.proofs.LevelsOfSymbols.{above_window}
use Rattle.decompose.proofs.SearchSteps.{Searched, within_less}

-- the search begins with a count
pub search_begins : (m : ℕ) (ms : List ℕ) (l : Limit) (ls : List Limit) (window : Window) →
    Searched m ms l ls window None l.low None
search_begins m ms l ls window = record {
  low = omega arith;
  skipped = λ k low w. absurd (omega arith);
  here = λ cs. refl;
  beyond = λ k cs w. refl;
  in_box = tt;
}

module _ (m : ℕ) (ms : List ℕ) (l : Limit) (ls : List Limit) (window : Window) (given : Option (List ℕ)) where
  module _ (level : Level) (now : Option (List ℕ)) (s : Searched m ms l ls window given level.count now)
      (v : IsLevel m window level) where
    -- the lists that begin with the count of the level
    with_count : find (λ cs. is_left (m ∷ ms) window given (level.count ∷ cs)) (box_of ls) ≡
        find (is_left ms level.left now) (box_of ls)
    with_count =
        rw v.rest
        (find_agree _ _ (box_of ls)
        (λ cs. rw (within_less window (level.count * m) (mass_of ms cs) v.fits, s.here cs) refl))

    pub found_below : (x : List ℕ) → level.count ≤ l.high → find (is_left ms level.left now) (box_of ls) ≡ Some x →
        find (is_left (m ∷ ms) window given) (box_of (l ∷ ls)) ≡ Some (level.count ∷ x)
    found_below x high found =
        find-box_found _ l ls level.count x s.low high s.skipped (with_count ∙ found)

    pub none_below : find (is_left ms level.left now) (box_of ls) ≡ None →
        Searched m ms l ls window given (level.count + 1) None
    none_below none = record {
      low = omega (arith, s.low);
      skipped = λ k low w. elim (cases_lt k level.count) [
        | inl lt ↦ s.skipped k low lt
        | inr ge ↦
            let here : level.count ≡ k = omega arith in
            subst (λ n. find (λ cs. is_left (m ∷ ms) window given (n ∷ cs)) (box_of ls) ≡ None) here
            (with_count ∙ none)
      ];
      here = λ cs. s.beyond (level.count + 1) cs (omega arith);
      beyond = λ k cs w. s.beyond k cs (omega arith);
      in_box = tt;
    }

  -- no count from here on is within the limit and below the window
  pub none_beyond : (count : ℕ) (now : Option (List ℕ)) → Searched m ms l ls window given count now →
      ((l.high < count) ⊎ (window.hi < count * m)) →
      find (is_left (m ∷ ms) window given) (box_of (l ∷ ls)) ≡ None
  none_beyond count now s over =
      find-box_none _ l ls
      (λ k low w. elim (cases_lt k count) [
        | inl lt ↦ s.skipped k low lt
        | inr ge ↦ elim over [
          | inl high ↦ absurd (omega arith)
          | inr heavy ↦
              find_none _ (box_of ls)
              (λ cs. and_left _ _
              (above_window window _ (omega (arith, mul-le-mul_right m ge))))
        ]
      ])

-- one more of a symbol is above its limit, or above the window, where it is above what its level leaves
pub over_next : (m : ℕ) (l : Limit) (window : Window) (level : Level) → IsLevel m window level →
    ((l.high ≤ level.count) ⊎ (level.left.hi < m)) → ((l.high < level.count + 1) ⊎ (window.hi < (level.count + 1) * m))
over_next m l window level v (inl high) = inl (omega arith)
over_next m l window level v (inr heavy) =
    let rest : level.left.hi ≡ window.hi - level.count * m = ap (λ (w : Window). w.hi) v.rest in
    inr (omega (arith, v.fits))

pub window_same : (w v : Window) → w.lo ≡ v.lo → w.hi ≡ v.hi → w ≡ v
window_same w v e f =
    let P : ℕ → ℕ → Type 0 = λ lo hi. w ≡ record { lo = lo; hi = hi } in
    subst (λ hi. P v.lo hi) f (subst (λ lo. P lo w.hi) e refl)

-- the next level of a symbol
pub IsLevel-next : (m : ℕ) (window : Window) (level next : Level) → IsLevel m window level →
    next.count ≡ level.count + 1 → m ≤ level.left.hi → next.left ≡ window_less level.left m → IsLevel m window next
IsLevel-next m window level next v one fits rest =
    let was_lo : level.left.lo ≡ window.lo - level.count * m = ap (λ (w : Window). w.lo) v.rest in
    let was_hi : level.left.hi ≡ window.hi - level.count * m = ap (λ (w : Window). w.hi) v.rest in
    let now_lo : next.left.lo ≡ level.left.lo - m = ap (λ (w : Window). w.lo) rest in
    let now_hi : next.left.hi ≡ level.left.hi - m = ap (λ (w : Window). w.hi) rest in
    let more : next.count * m ≡ level.count * m + m = rw one (omega arith) in
    record {
      fits = omega (arith, v.fits);
      rest = window_same next.left (window_less window (next.count * m)) (omega arith) (omega arith);
    }

-- what a level leaves is as wide as the window, as far as it is above 0
pub level_narrow : (m : ℕ) (window : Window) (level : Level) (count hi : ℕ) → window.lo ≤ window.hi →
    IsLevel m window level → level.count ≡ count → level.left.hi ≡ hi →
    IsLevel m window record { count = count; left = record { lo = hi - (window.hi - window.lo); hi = hi } }
level_narrow m window level count hi ordered v is_count is_hi =
    let left_hi : level.left.hi ≡ window.hi - level.count * m = ap (λ (w : Window). w.hi) v.rest in
    let taken : level.count * m ≡ count * m = ap (λ n. n * m) is_count in
    record {
      fits = omega (arith, v.fits, taken);
      rest = window_same (record { lo = hi - (window.hi - window.lo); hi = hi }) (window_less window (count * m))
          (omega (arith, left_hi, taken, is_hi, v.fits)) (omega (arith, left_hi, taken, is_hi));
    }

-- it stays so from one count to the next
pub narrow_less : (width hi less m : ℕ) → less ≡ hi - m →
    let now : Window = record { lo = less - width; hi = less } in
    now ≡ window_less (record { lo = hi - width; hi = hi }) m
narrow_less width hi less m e =
    window_same (record { lo = less - width; hi = less }) (window_less (record { lo = hi - width; hi = hi }) m)
    (omega arith) (omega arith)

pub not_below : (m hi : ℕ) → (m ≤ hi → ⊥) → hi < m
not_below m hi h = elim (cases_lt hi m) [ inl lt ↦ lt | inr ge ↦ absurd (h ge) ]

-- the ends of what a level leaves stand in order
pub level_ordered : (m : ℕ) (window : Window) (level : Level) → IsLevel m window level → window.lo ≤ window.hi →
    level.left.lo ≤ level.left.hi
level_ordered m window level v h =
    let is_lo : level.left.lo ≡ window.lo - level.count * m = ap (λ (w : Window). w.lo) v.rest in
    let is_hi : level.left.hi ≡ window.hi - level.count * m = ap (λ (w : Window). w.hi) v.rest in
    omega arith

-- the first list over one symbol
module _ (symbol : Symbol) (window : Window) where
  is_left_one : (k : ℕ) → is_left (symbol.mass ∷ []) window None (k ∷ []) ≡ is_within window (k * symbol.mass)
  is_left_one k = rw (add-zero (k * symbol.mass), and-true) refl

  pub one_found : (level : Level) → IsFirstWithin symbol window level →
      find (is_left (symbol.mass ∷ []) window None) (box_of (symbol.limit ∷ [])) ≡ Some (level.count ∷ [])
  unfolding box_of
  one_found level f =
      let is_lo : level.left.lo ≡ window.lo - level.count * symbol.mass = ap (λ (w : Window). w.lo) f.is_level.rest in
      let here : is_left (symbol.mass ∷ []) window None (level.count ∷ []) ≡ true =
      is_left_one level.count
      ∙ rw (
        le-leb window.lo (level.count * symbol.mass) (omega (arith, f.within)),
        le-leb (level.count * symbol.mass) window.hi f.is_level.fits,
      ) refl
      in
      find-box_found _ symbol.limit [] level.count [] f.not_below f.not_above
      (λ k low w. rw (is_left_one k, f.skipped k low w) refl)
      (rw here refl)

  pub one_none : NoneIsWithin symbol window →
      find (is_left (symbol.mass ∷ []) window None) (box_of (symbol.limit ∷ [])) ≡ None
  unfolding box_of
  one_none h =
      find-box_none _ symbol.limit [] (λ k low w. rw (is_left_one k, h k low (omega arith)) refl)

-- the search over a symbol and those below it, from a count on: it has come to a level
pub record Reaches (symbol : Symbol) (below : List Symbol) (count : ℕ) (window : Window) (level : Level) : Type 0 where
  pub searched : Searched symbol.mass (masses_of below) record { low = count; high = symbol.limit.high }
      (limits_of below) window None level.count None
  pub is_level : IsLevel symbol.mass window level
  pub not_above : level.count ≤ symbol.limit.high

module _ (symbol : Symbol) (below : List Symbol) (count : ℕ) (window : Window) where
  -- what the search looks for
  abbrev pub first : Option (List ℕ)
  first =
      find (is_left (masses_of (symbol ∷ below)) window None) (box_of (limits_from count (limits_of (symbol ∷ below))))

  begins : Searched symbol.mass (masses_of below) record { low = count; high = symbol.limit.high } (limits_of below)
      window None count None
  begins =
      search_begins symbol.mass (masses_of below) record { low = count; high = symbol.limit.high } (limits_of below)
      window

  pub walk_begins : (level : Level) → level.count ≡ count → count ≤ symbol.limit.high →
      IsLevel symbol.mass window level → Reaches symbol below count window level
  walk_begins level e high v = record { searched = rw e begins; is_level = v; not_above = omega arith }

  pub walk_begins_not : ((symbol.limit.high < count) ⊎ (window.hi < count * symbol.mass)) → first ≡ None
  walk_begins_not over =
      none_beyond symbol.mass (masses_of below) record { low = count; high = symbol.limit.high } (limits_of below)
      window None count None begins over

  module _ (level : Level) (r : Reaches symbol below count window level) where
    pub walk_finds : (x : List ℕ) →
        find (is_left (masses_of below) level.left None) (box_of (limits_of below)) ≡ Some x →
        first ≡ Some (level.count ∷ x)
    walk_finds x found =
        found_below symbol.mass (masses_of below) record { low = count; high = symbol.limit.high } (limits_of below)
        window None level None r.searched r.is_level x r.not_above found

    module _ (none : find (is_left (masses_of below) level.left None) (box_of (limits_of below)) ≡ None) where
      after : Searched symbol.mass (masses_of below) record { low = count; high = symbol.limit.high } (limits_of below)
          window None (level.count + 1) None
      after =
          none_below symbol.mass (masses_of below) record { low = count; high = symbol.limit.high } (limits_of below)
          window None level None r.searched r.is_level none

      pub walk_goes_on : (next : Level) →
          ((next.count ≡ level.count + 1) × (level.count < symbol.limit.high) × (symbol.mass ≤ level.left.hi)
          × (next.left ≡ window_less level.left symbol.mass)) → Reaches symbol below count window next
      walk_goes_on next raised = record {
        searched = rw raised.0 after;
        is_level = IsLevel-next symbol.mass window level next r.is_level raised.0 raised.2 raised.3;
        not_above = omega (arith, raised.0, raised.1);
      }

      pub walk_ends : ((symbol.limit.high ≤ level.count) ⊎ (level.left.hi < symbol.mass)) → first ≡ None
      walk_ends over =
          none_beyond symbol.mass (masses_of below) record { low = count; high = symbol.limit.high } (limits_of below)
          window None (level.count + 1) None after
          (over_next symbol.mass record { low = count; high = symbol.limit.high } window level r.is_level over)

-- a search that ended, from the first symbol's own lower limit on
module _ (symbols : List Symbol) (low : ℕ) (window : Window) (found : Bool) (before after_ : List Level)
    (from_low : limits_from low (limits_of symbols) ≡ limits_of symbols)
    (finds : FindsFirst symbols low window found before after_) where
  pub first_is : found ≡ true →
      (find (is_left (masses_of symbols) window None) (box_of (limits_of symbols)) ≡ Some (counts_of after_))
      × AreLevels symbols window after_
  first_is e =
      let h : FindsFirst symbols low window true before after_ =
      subst (λ b. FindsFirst symbols low window b before after_) e finds in
      rw from_low at h

  pub first_is_none : found ≡ false →
      (find (is_left (masses_of symbols) window None) (box_of (limits_of symbols)) ≡ None) × (after_ ≡ before)
  first_is_none e =
      let h : FindsFirst symbols low window false before after_ =
      subst (λ b. FindsFirst symbols low window b before after_) e finds in
      rw from_low at h

-- what is found for the two symbols of a slice is found for the slice
pub pair_finds : (symbols : List Symbol) (d e : Symbol) (low : ℕ) (window : Window) (found : Bool)
    (before after_ : List Level) → length symbols ≡ 2 →
    FindsFirst (get_or symbols 0 d ∷ get_or symbols 1 e ∷ []) low window found before after_ →
    FindsFirst symbols low window found before after_
pair_finds [] d e low window found before after_ two h = absurd (omega arith)
pair_finds (x ∷ []) d e low window found before after_ two h = absurd (omega arith)
pair_finds (x ∷ y ∷ []) d e low window found before after_ two h = h
pair_finds (x ∷ y ∷ z ∷ zs) d e low window found before after_ two h = absurd (omega arith)

-- one level written
pub one_written : (levels : List Level) (level : Level) → length levels ≡ 1 → set levels 0 level ≡ level ∷ []
one_written [] level h = absurd (omega arith)
one_written (x ∷ []) level h = refl
one_written (x ∷ y ∷ ys) level h = absurd (omega arith)

-- two levels written
pub two_written : (levels : List Level) (first second : Level) → length levels ≡ 2 →
    set (set levels 0 first) 1 second ≡ first ∷ second ∷ []
two_written [] first second h = absurd (omega arith)
two_written (x ∷ []) first second h = absurd (omega arith)
two_written (x ∷ y ∷ []) first second h = refl
two_written (x ∷ y ∷ z ∷ zs) first second h = absurd (omega arith)

-- with no symbol, the empty list is the only one: its mass is in the window where that begins at 0
pub empty_found : (symbols : List Symbol) (count : ℕ) (window : Window) (levels : List Level) → length symbols ≡ 0 →
    length levels ≡ length symbols → window.lo ≤ window.hi →
    FindsFirst symbols count window (eqb window.lo 0) levels levels
unfolding box_of
empty_found [] count window [] e f ordered =
    elim (cases_Bool (eqb window.lo 0)) [
      | inl t ↦ rw
          (t, le-leb window.lo 0 (omega (arith, eqb-true window.lo 0 t)), le-leb 0 window.hi (omega arith)) (refl, tt)
      | inr t ↦
          let above : 0 < window.lo = omega (arith, eqb-false window.lo 0 t) in
          rw (t, lt-leb window.lo 0 above) (refl, refl)
    ]
empty_found [] count window (v ∷ vs) e f ordered = absurd (omega arith)
empty_found (s ∷ ss) count window levels e f ordered = absurd (omega arith)

-- the symbols of a slice of one or two
pub one_of : (symbols : List Symbol) (first : Symbol) → length symbols ≡ 1 → first ≡ get_or symbols 0 first →
    symbols ≡ first ∷ []
one_of [] first h is = absurd (omega arith)
one_of (s ∷ []) first h is = rw is refl
one_of (s ∷ t ∷ ts) first h is = absurd (omega arith)

pub two_of : (symbols : List Symbol) (first second : Symbol) → length symbols ≡ 2 → first ≡ get_or symbols 0 first →
    second ≡ get_or symbols 1 second → symbols ≡ first ∷ second ∷ []
two_of [] first second h is is_second = absurd (omega arith)
two_of (s ∷ []) first second h is is_second = absurd (omega arith)
two_of (s ∷ t ∷ []) first second h is is_second = rw (is, is_second) refl
two_of (s ∷ t ∷ u ∷ us) first second h is is_second = absurd (omega arith)
