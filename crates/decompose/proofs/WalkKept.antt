-- What a walk keeps from one list to the next.
use Rattle.std.proofs.Common.{◌≡◌, ℕ, suc, length, true, false, Option, Some, None, List, [], ◌∷◌, take, drop, ◌++◌}
use Rattle.std.proofs.Common.{refl, sym, ap, ◌∙◌, subst, arith}
use Rattle.std.specs.Prelude.{◌-◌, ◌/◌, IfSome, IsSomeAnd, MatchOption}
use Rattle.std.specs.List.{find, All}
use Rattle.std.specs.Option.{option_and}
use Rattle.std.proofs.lemmas.Bool.{and_right}
use Rattle.std.proofs.lemmas.List.{length-map}
use Rattle.mass_scaling.specs.declared.windows.Window.{Window}
use Rattle.mass_scaling.specs.Windows.{IsWindow}
use Rattle.mass_scaling.specs.Masses.{mass_of}
use Rattle.decompose.specs.CountLists.{IsLimit, IsInBox, box_of}
use Rattle.decompose.specs.Enumeration.{Enumeration, left, is_within}
use Rattle.decompose.specs.Search.{enumeration, is_left}
use Rattle.mass_scaling.specs.Masses.{base_of}
use Rattle.mass_scaling.specs.Scales.{Scaling, scaled_of, grain_for}
use Rattle.decompose.specs.Probes.{AreTables, HasNoList, IsScaledWindow, KnowsScaled}
use Rattle.decompose.specs.Levels.{IsSymbol, scaled_masses_of, symbols_of, masses_of, limits_of, counts_of, AreLevels}
use Rattle.decompose.specs.StepBounds.{HasNoScaledWindow, IsScaledWindowOf}
use Rattle.decompose.specs.Walk.{IsWalk, StandsAt, given_of}
use Rattle.decompose.specs.declared.limits.Limit.{Limit}
use Rattle.decompose.specs.declared.levels.Symbol.{Symbol}
use Rattle.decompose.specs.declared.levels.Level.{Level}
use Rattle.decompose.proofs.FirstOfBox.{IsInBox-length}
use Rattle.decompose.proofs.FirstOfSlice.{written}
use Rattle.decompose.proofs.NextGiven.{first_left, first_in_box, first_in_window}
use Rattle.decompose.proofs.LevelsOfSymbols.{masses_are, scaled_are, limits_are, length_are, symbols_are_ok}

-- once a list is found, the walk stands at all its levels
stands_at_all : (symbols : List Symbol) (window : Window) (levels : List Level) → AreLevels symbols window levels →
    StandsAt symbols window levels (length levels)
unfolding box_of
stands_at_all [] window [] h = rw (and_right (is_within window 0) false refl) refl
stands_at_all [] window (v ∷ vs) h = absurd h
stands_at_all (s ∷ ss) window [] h = absurd h
stands_at_all (s ∷ ss) window (v ∷ vs) h = (h.0, stands_at_all ss v.left vs h.1)

are_levels-length : (symbols : List Symbol) (window : Window) (levels : List Level) → AreLevels symbols window levels →
    length levels ≡ length symbols
are_levels-length [] window [] h = refl
are_levels-length [] window (v ∷ vs) h = absurd h
are_levels-length (s ∷ ss) window [] h = absurd h
are_levels-length (s ∷ ss) window (v ∷ vs) h = ap suc (are_levels-length ss v.left vs h.1)

module _ (masses : List ℕ) (symbols : List Symbol) (window : Window) (scaled : Option Window) (levels : List Level)
    (stands : Option ℕ) (w : IsWalk masses symbols window scaled levels stands) where
  -- what the search for the list that is left next looks for
  abbrev looked_for : Option (List ℕ)
  looked_for =
      find (is_left (masses_of symbols) window (given_of stands (counts_of levels))) (box_of (limits_of symbols))

  pub next_is : looked_for ≡
      find (is_left masses window (given_of stands (counts_of levels))) (box_of (limits_of symbols))
  next_is = rw w.masses_are refl

  pub IsWalk-found : (new : List Level) → looked_for ≡ Some (counts_of new) → AreLevels symbols window new →
      IsWalk masses symbols window scaled new (Some (length new))
  IsWalk-found new found are = record {
    masses_are = w.masses_are;
    scaled_are = w.scaled_are;
    symbols_ok = w.symbols_ok;
    one_level_each = are_levels-length symbols window new are;
    enumerates = record {
      one_limit_each = w.enumerates.one_limit_each;
      limits = w.enumerates.limits;
      window = w.enumerates.window;
      given =
          first_in_box (enumeration masses (limits_of symbols) window (given_of stands (counts_of levels)))
          (counts_of new) (sym next_is ∙ found);
    };
    scaled_window = w.scaled_window;
    exact = w.exact;
    stands_at = stands_at_all symbols window new are;
  }

-- at the end the walk stands nowhere any more
pub IsWalk-end : (masses : List ℕ) (symbols : List Symbol) (window : Window) (scaled : Option Window)
    (levels : List Level) (stands : Option ℕ) →
    IsWalk masses symbols window scaled levels stands →
    find (is_left (masses_of symbols) window (given_of stands (counts_of levels))) (box_of (limits_of symbols)) ≡ None →
    IsWalk masses symbols window scaled levels (option_and stands (Some 0))
IsWalk-end masses symbols window scaled levels None w none = record {
  masses_are = w.masses_are;
  scaled_are = w.scaled_are;
  symbols_ok = w.symbols_ok;
  one_level_each = w.one_level_each;
  enumerates = w.enumerates;
  scaled_window = w.scaled_window;
  exact = w.exact;
  stands_at = tt;
}
IsWalk-end masses symbols window scaled levels (Some depth) w none = record {
  masses_are = w.masses_are;
  scaled_are = w.scaled_are;
  symbols_ok = w.symbols_ok;
  one_level_each = w.one_level_each;
  enumerates = w.enumerates;
  scaled_window = w.scaled_window;
  exact = w.exact;
  stands_at = none;
}

pub given_of-end : (stands : Option ℕ) (counts : List ℕ) →
    given_of (option_and stands (Some 0)) counts ≡ given_of stands counts
given_of-end None counts = refl
given_of-end (Some depth) counts = refl

-- the symbols of an alphabet's masses
pub made_symbols_ok : (masses : List ℕ) (scale : Scaling) (residues : List ℕ) (limits : List Limit) →
    AreTables masses scale residues → length limits ≡ length masses → All IsLimit limits →
    All IsSymbol (symbols_of masses scale.scaled limits)
made_symbols_ok masses scale residues limits tables one limits_ok =
    symbols_are_ok masses scale.scaled limits
    (ap length tables.scale_is.scaled ∙ length-map masses (λ m. m / grain_for (base_of masses))) one
    tables.scale_is.are_masses.lower_limit tables.scaled_ok.upper_limit limits_ok

-- a walk is made
module _ (masses : List ℕ) (scale : Scaling) (residues : List ℕ) (limits : List Limit) (window : Window)
    (scaled : Option Window) (tables : AreTables masses scale residues) (one : length limits ≡ length masses)
    (limits_ok : All IsLimit limits) (window_ok : IsWindow window)
    (scaled_ok : (symbols : List Symbol) → masses_of symbols ≡ masses → scaled_masses_of symbols ≡ scaled_of masses →
    MatchOption scaled (HasNoList symbols window) (IsScaledWindow symbols window))
    (exact : MatchOption scaled (HasNoScaledWindow masses window) (IsScaledWindowOf masses window)) where
  pub scaled_length : length scale.scaled ≡ length masses
  scaled_length = ap length tables.scale_is.scaled ∙ length-map masses (λ m. m / grain_for (base_of masses))

  pub IsWalk-made : (levels : List Level) (stands : Option ℕ) → length levels ≡ length masses →
      IfSome (given_of stands (counts_of levels)) (IsInBox limits) →
      IfSome stands (StandsAt (symbols_of masses scale.scaled limits) window levels) →
      IsWalk masses (symbols_of masses scale.scaled limits) window scaled levels stands
  IsWalk-made levels stands length_ok box standing = record {
    masses_are = masses_are masses scale.scaled limits scaled_length one;
    scaled_are = scaled_are masses scale.scaled limits scaled_length one ∙ tables.scale_is.scaled;
    symbols_ok = made_symbols_ok masses scale residues limits tables one limits_ok;
    one_level_each = length_ok ∙ sym (length_are masses scale.scaled limits scaled_length one);
    enumerates = rw (limits_are masses scale.scaled limits scaled_length one)
        record { one_limit_each = one; limits = limits_ok; window = window_ok; given = box };
    scaled_window = scaled_ok (symbols_of masses scale.scaled limits)
        (masses_are masses scale.scaled limits scaled_length one)
        (scaled_are masses scale.scaled limits scaled_length one ∙ tables.scale_is.scaled);
    exact = exact;
    stands_at = standing;
  }

  -- a walk that goes on after these counts: its levels were written over those that were made
  module _ (after : List ℕ) (symbols : List Symbol) (made new : List Level) (n depth : ℕ)
      (box : IsInBox limits after) (symbols_are : symbols ≡ symbols_of masses scale.scaled limits)
      (n_is : n ≡ length made) (same : length new ≡ length made) (counts : counts_of new ≡ after)
      (standing : StandsAt symbols window new depth) where
    new_length : length new ≡ length masses
    new_length =
        sym (length-map new (λ level. level.count)) ∙ ap length counts ∙ IsInBox-length limits after box ∙ one

    pub IsWalk-resumed : IsWalk masses symbols window scaled (take n (new ++ drop (length new) made)) (Some depth)
    IsWalk-resumed =
        rw (written new made n n_is same, symbols_are)
        (IsWalk-made new (Some depth) new_length (rw counts box) (rw symbols_are at standing))

    pub resumed_is : enumeration masses (limits_of symbols) window
        (Some (counts_of (take n (new ++ drop (length new) made)))) ≡ enumeration masses limits window (Some after)
    resumed_is =
        rw (
          written new made n n_is same,
          symbols_are,
          limits_are masses scale.scaled limits scaled_length one,
          counts,
        ) refl

-- a table of residues of an alphabet knows the symbols of a walk over it
pub knows_all : (masses : List ℕ) (scale : Scaling) (residues : List ℕ) (symbols : List Symbol) →
    AreTables masses scale residues → scaled_masses_of symbols ≡ scaled_of masses → KnowsScaled residues symbols
knows_all masses scale residues symbols tables are =
    let same : residues ≡ scaled_masses_of symbols = tables.residues_are ∙ sym are in
    let as_many : length residues ≡ length symbols =
    ap length same ∙ length-map symbols (λ symbol. symbol.scaled) in
    let none : length residues - length symbols ≡ 0 = omega arith in
    record { at_most = omega arith; last = rw none same }

-- a walk that is seen as an enumeration now, and the levels written over its own
module _ (masses : List ℕ) (symbols : List Symbol) (window : Window) (scaled : Option Window)
    (levels new : List Level) (stands : Option ℕ) (n : ℕ) (now : Enumeration)
    (w : IsWalk masses symbols window scaled levels stands)
    (is_now : enumeration masses (limits_of symbols) window (given_of stands (counts_of levels)) ≡ now)
    (n_is : n ≡ length levels) (same : length new ≡ length levels) where
  -- the levels behind the search
  abbrev pub levels_now : List Level
  levels_now = take n (new ++ drop (length new) levels)

  -- what the search looks for is what the enumeration gives next
  looks_for : looked_for masses symbols window scaled levels stands w ≡
      find (is_left now.masses now.window now.given) (box_of now.limits)
  looks_for = next_is masses symbols window scaled levels stands w ∙ rw (← is_now) refl

  module _ (found : looked_for masses symbols window scaled levels stands w ≡ Some (counts_of new))
      (are : AreLevels symbols window new) where
    pub IsWalk-finds : (m : ℕ) → m ≡ n → IsWalk masses symbols window scaled levels_now (Some m)
    IsWalk-finds m e =
        let m_is : m ≡ length new = e ∙ n_is ∙ sym same in
        rw (written new levels n n_is same, m_is)
        (IsWalk-found masses symbols window scaled levels stands w new found are)

    pub finds_next : (find (is_left now.masses now.window now.given) (box_of now.limits) ≡ Some (counts_of levels_now))
        × (enumeration masses (limits_of symbols) window (Some (counts_of levels_now)) ≡
        record now { given = Some (counts_of levels_now) })
    finds_next = rw (written new levels n n_is same) (sym looks_for ∙ found, rw (← is_now) refl)

  module _ (none : looked_for masses symbols window scaled levels stands w ≡ None) (unchanged : new ≡ levels) where
    pub IsWalk-ends : IsWalk masses symbols window scaled levels_now (option_and stands (Some 0))
    IsWalk-ends =
        rw (written new levels n n_is same, unchanged) (IsWalk-end masses symbols window scaled levels stands w none)

    pub ends_here : (find (is_left now.masses now.window now.given) (box_of now.limits) ≡ None)
        × (enumeration masses (limits_of symbols) window
        (given_of (option_and stands (Some 0)) (counts_of levels_now)) ≡ now)
    ends_here = (
      sym looks_for ∙ none,
      rw (written new levels n n_is same, unchanged, given_of-end stands (counts_of levels)) is_now,
    )

some_given : (stands : Option ℕ) (counts : List ℕ) (P : List ℕ → Type 0) → IsSomeAnd (given_of stands counts) P →
    P counts
some_given None counts P h = absurd h
some_given (Some depth) counts P h = h

-- the list that a walk gives is that of the counts of its levels
module _ (old now : Enumeration) (masses : List ℕ) (limits : List Limit) (window : Window) (stands : Option ℕ)
    (counts x : List ℕ) (is_now : enumeration masses limits window (given_of stands counts) ≡ now) (x_is : x ≡ counts)
    (gives : IsSomeAnd now.given (λ next.
    (find (is_left old.masses old.window old.given) (box_of old.limits) ≡ Some next)
    × (now ≡ record old { given = Some next }))) where
  abbrev IsNext : List ℕ → Type 0
  IsNext next =
      (find (is_left old.masses old.window old.given) (box_of old.limits) ≡ Some next)
      × (now ≡ record old { given = Some next })

  given_now : IsNext x
  given_now =
      let is_given : now.given ≡ given_of stands counts = ap (λ (e : Enumeration). e.given) (sym is_now) in
      let given : IsSomeAnd (given_of stands counts) IsNext = subst (λ g. IsSomeAnd g IsNext) is_given gives in
      rw x_is (some_given stands counts IsNext given)

  pub gives_next : left old ≡ x ∷ left now
  gives_next = first_left old x given_now.0 ∙ ap (λ (e : Enumeration). x ∷ left e) (sym given_now.1)

  pub gives_given : now ≡ record old { given = Some x }
  gives_given = given_now.1

  pub gives_in_box : IsInBox old.limits x
  gives_in_box = first_in_box old x given_now.0

  pub gives_in_window : is_within old.window (mass_of old.masses x) ≡ true
  gives_in_window = first_in_window old x given_now.0
