-- How the walk climbs: the levels from a place on are done, and the count at this place is raised.
use Rattle.std.proofs.Common.{◌≡◌, ℕ, zero, suc, ◌+◌, ◌-◌, ◌*◌, ◌<◌, ◌≤◌, ◌⊎◌, length, Option, Some, None, List, []}
use Rattle.std.proofs.Common.{◌∷◌, ◌++◌, take, drop, refl, ap, ◌∙◌, inl, inr, subst, get_or, true, false, arith}
use Rattle.std.specs.List.{All}
use Rattle.std.specs.List.{find}
use Rattle.std.proofs.lemmas.Bool.{and_right, cases_lt}
use Rattle.decompose.specs.CountLists.{IsInBox, box_of}
use Rattle.decompose.specs.Enumeration.{is_within}
use Rattle.decompose.specs.Search.{is_left}
use Rattle.decompose.specs.CountLists.{follows}
use Rattle.decompose.specs.Levels.{IsSymbol, AreLevels, window_at, masses_of, limits_of, counts_of}
use Rattle.decompose.specs.Walk.{limits_from, StandsAt}
use Rattle.decompose.specs.declared.limits.TheConstants.{MAX_COUNT}
use Rattle.decompose.specs.declared.limits.Limit.{Limit}
use Rattle.decompose.specs.declared.levels.Symbol.{Symbol}
use Rattle.decompose.specs.declared.levels.Level.{Level}
use Rattle.mass_scaling.specs.declared.windows.Window.{Window}
use borrow.Rule.Slice.PartMut.{put_mid}
use Rattle.decompose.proofs.FirstOfBox.{find-box_from}
use Rattle.decompose.proofs.FirstOfSlice.{put_rest}
use Rattle.decompose.proofs.SearchSteps.{Searched, search_first}
use Rattle.decompose.proofs.WalkSteps.{found_below, none_below, none_beyond, level_ordered, over_next, walk_begins_not}

-- where the counts before this one are done, the lists that follow the given one are those from this count on
from_here : (m : ℕ) (ms : List ℕ) (l : Limit) (ls : List Limit) (window : Window) (given : Option (List ℕ))
    (count : ℕ) → Searched m ms l ls window given count None → count ≤ l.high + 1 →
    find (is_left (m ∷ ms) window given) (box_of (l ∷ ls)) ≡
    find (is_left (m ∷ ms) window None) (box_of (record { low = count; high = l.high } ∷ ls))
from_here m ms l ls window given count s high =
    find-box_from (is_left (m ∷ ms) window given) (is_left (m ∷ ms) window None) l ls count s.low high s.skipped
    (λ k cs h. elim (cases_lt count k) [
      | inl lt ↦ rw (s.beyond k cs lt) refl
      | inr ge ↦
          let here : count ≡ k = omega arith in
          let follows_here : follows given (k ∷ cs) ≡ true =
          subst (λ n. follows given (n ∷ cs) ≡ true) here (s.here cs) in
          rw follows_here refl
    ])

no_level : Level
no_level = record { count = 0; left = record { lo = 0; hi = 0 } }

-- at the counts of levels that stand in the box
begun : (s : Symbol) (ss : List Symbol) (window : Window) (v : Level) (vs : List Level) →
    IsInBox (limits_of (s ∷ ss)) (counts_of (v ∷ vs)) →
    Searched s.mass (masses_of ss) s.limit (limits_of ss) window (Some (v.count ∷ counts_of vs)) v.count
    (Some (counts_of vs))
begun s ss window v vs box =
    search_first s.mass (masses_of ss) s.limit (limits_of ss) window (s.limit ∷ limits_of ss)
    (Some (v.count ∷ counts_of vs)) v.count (Some (counts_of vs)) refl box refl

-- what is looked for at a place, once the count there is raised
abbrev pub at_place : List Symbol → Window → List Level → ℕ → Level → Option (List ℕ)
at_place symbols window levels place d =
    find (is_left (masses_of (drop place symbols)) (window_at window levels place) None)
    (box_of (limits_from ((get_or levels place d).count + 1) (limits_of (drop place symbols))))

at_first : (s : Symbol) (ss : List Symbol) (window : Window) (v : Level) (vs : List Level) →
    StandsAt (s ∷ ss) window (v ∷ vs) 1 → IsInBox (limits_of (s ∷ ss)) (counts_of (v ∷ vs)) →
    find (is_left (masses_of (s ∷ ss)) window (Some (counts_of (v ∷ vs)))) (box_of (limits_of (s ∷ ss))) ≡
    find (is_left (masses_of (s ∷ ss)) window None) (box_of (limits_from (v.count + 1) (limits_of (s ∷ ss))))
at_first s ss window v vs h box =
    from_here s.mass (masses_of ss) s.limit (limits_of ss) window (Some (counts_of (v ∷ vs))) (v.count + 1)
    (none_below s.mass (masses_of ss) s.limit (limits_of ss) window (Some (counts_of (v ∷ vs))) v (Some (counts_of vs))
    (begun s ss window v vs box) h.0 h.1)
    (omega (arith, box.1))

-- the walk stands at one level less
pub climb_none : (symbols : List Symbol) (window : Window) (levels : List Level) (place : ℕ) (d : Level) →
    StandsAt symbols window levels (suc place) → IsInBox (limits_of symbols) (counts_of levels) →
    at_place symbols window levels place d ≡ None → StandsAt symbols window levels place
climb_none [] window levels place d h box none = absurd h
climb_none (s ∷ ss) window [] place d h box none = absurd h
climb_none (s ∷ ss) window (v ∷ vs) zero d h box none = at_first s ss window v vs h box ∙ none
climb_none (s ∷ ss) window (v ∷ vs) (suc place) d h box none =
    (h.0, climb_none ss v.left vs place d h.1 box.2 none)

-- one more at the place is above its limit or what is left
pub climb_over : (symbols : List Symbol) (window : Window) (levels : List Level) (place : ℕ) (d : Level) (e : Symbol) →
    StandsAt symbols window levels (suc place) →
    (((get_or symbols place e).limit.high ≤ (get_or levels place d).count)
    ⊎ ((get_or levels place d).left.hi < (get_or symbols place e).mass)) →
    at_place symbols window levels place d ≡ None
climb_over [] window levels place d e h over = absurd h
climb_over (s ∷ ss) window [] place d e h over = absurd h
climb_over (s ∷ ss) window (v ∷ vs) zero d e h over =
    walk_begins_not s ss (v.count + 1) window (over_next s.mass s.limit window v h.0 over)
climb_over (s ∷ ss) window (v ∷ vs) (suc place) d e h over = climb_over ss v.left vs place d e h.1 over

-- the list that is found at the place, behind the counts before it
pub climb_found : (symbols : List Symbol) (window : Window) (levels : List Level) (place : ℕ) (d : Level) (x : List ℕ) →
    StandsAt symbols window levels (suc place) → IsInBox (limits_of symbols) (counts_of levels) →
    at_place symbols window levels place d ≡ Some x →
    find (is_left (masses_of symbols) window (Some (counts_of levels))) (box_of (limits_of symbols)) ≡
    Some (take place (counts_of levels) ++ x)
climb_found [] window levels place d x h box found = absurd h
climb_found (s ∷ ss) window [] place d x h box found = absurd h
climb_found (s ∷ ss) window (v ∷ vs) zero d x h box found = at_first s ss window v vs h box ∙ found
climb_found (s ∷ ss) window (v ∷ vs) (suc place) d x h box found =
    found_below s.mass (masses_of ss) s.limit (limits_of ss) window (Some (counts_of (v ∷ vs))) v (Some (counts_of vs))
    (begun s ss window v vs box) h.0 (take place (counts_of vs) ++ x) box.1
    (climb_found ss v.left vs place d x h.1 box.2 found)

-- the levels before the place, and those that were found from it on
pub climb_levels : (symbols : List Symbol) (window : Window) (levels new : List Level) (place : ℕ) →
    StandsAt symbols window levels (suc place) → AreLevels (drop place symbols) (window_at window levels place) new →
    AreLevels symbols window (take place levels ++ new)
climb_levels [] window levels new place h found = absurd h
climb_levels (s ∷ ss) window [] new place h found = absurd h
climb_levels (s ∷ ss) window (v ∷ vs) new zero h found = found
climb_levels (s ∷ ss) window (v ∷ vs) new (suc place) h found = (h.0, climb_levels ss v.left vs new place h.1 found)

pub counts_behind : (levels new : List Level) (place : ℕ) →
    take place (counts_of levels) ++ counts_of new ≡ counts_of (take place levels ++ new)
counts_behind [] new zero = refl
counts_behind [] new (suc place) = refl
counts_behind (v ∷ vs) new zero = refl
counts_behind (v ∷ vs) new (suc place) = ap (λ xs. v.count ∷ xs) (counts_behind vs new place)

-- levels that were found at a place, written into those before
module _ (symbols : List Symbol) (window : Window) (was levels new : List Level) (place : ℕ) (d : Level)
    (same : levels ≡ was) (h : StandsAt symbols window levels (suc place))
    (box : IsInBox (limits_of symbols) (counts_of was)) where
  in_box : IsInBox (limits_of symbols) (counts_of levels)
  in_box = rw same box

  pub climb_finds : at_place symbols window levels place d ≡ Some (counts_of new) →
      AreLevels (drop place symbols) (window_at window levels place) new →
      (find (is_left (masses_of symbols) window (Some (counts_of was))) (box_of (limits_of symbols)) ≡
      Some (counts_of (put_mid place (length levels - place) levels new)))
      × AreLevels symbols window (put_mid place (length levels - place) levels new)
  climb_finds found are =
      rw (put_rest levels new place) (
        rw (← same)
            (climb_found symbols window levels place d (counts_of new) h in_box found
            ∙ ap Some (counts_behind levels new place)),
        climb_levels symbols window levels new place h are,
      )

  pub climb_on : at_place symbols window levels place d ≡ None → StandsAt symbols window levels place
  climb_on none = climb_none symbols window levels place d h in_box none

-- the walk stands at no more levels than there are
pub stands_within : (symbols : List Symbol) (window : Window) (levels : List Level) (depth : ℕ) →
    StandsAt symbols window levels depth → depth ≤ length levels
stands_within symbols window levels zero h = omega arith
stands_within [] window levels (suc depth) h = absurd h
stands_within (s ∷ ss) window [] (suc depth) h = absurd h
stands_within (s ∷ ss) window (v ∷ vs) (suc depth) h = omega (arith, stands_within ss v.left vs depth h.1)

-- the ends of what the levels leave stand in order
pub window_ordered : (symbols : List Symbol) (window : Window) (levels : List Level) (place : ℕ) →
    StandsAt symbols window levels (suc place) → window.lo ≤ window.hi →
    (window_at window levels place).lo ≤ (window_at window levels place).hi
window_ordered symbols window levels zero h ordered = ordered
window_ordered [] window levels (suc place) h ordered = absurd h
window_ordered (s ∷ ss) window [] (suc place) h ordered = absurd h
window_ordered (s ∷ ss) window (v ∷ vs) (suc place) h ordered =
    window_ordered ss v.left vs place h.1 (level_ordered s.mass window v h.0 ordered)

-- a count of the levels is within its limit
pub count_below : (symbols : List Symbol) (levels : List Level) (place : ℕ) (d : Level) →
    IsInBox (limits_of symbols) (counts_of levels) → All IsSymbol symbols → place < length levels →
    (get_or levels place d).count ≤ MAX_COUNT
count_below [] [] place d box ok h = absurd (omega arith)
count_below [] (v ∷ vs) place d box ok h = absurd box
count_below (s ∷ ss) [] place d box ok h = absurd box
count_below (s ∷ ss) (v ∷ vs) zero d box ok h = omega (arith, box.1, (ok 0 s (omega arith)).limit.bounded)
count_below (s ∷ ss) (v ∷ vs) (suc place) d box ok h =
    count_below ss vs place d box.2 (λ k l w. ok (suc k) l (omega arith)) (omega arith)

-- the walk has nowhere to go from the empty list
pub stands_empty : (symbols : List Symbol) (window : Window) (levels : List Level) → length symbols ≡ 0 →
    length levels ≡ length symbols → StandsAt symbols window levels 0
unfolding box_of
stands_empty [] window [] e f = rw (and_right (is_within window 0) false refl) refl
stands_empty [] window (v ∷ vs) e f = absurd (omega arith)
stands_empty (s ∷ ss) window levels e f = absurd (omega arith)

-- where the first count is above its limit or the window, no list that comes after is in the window
pub stands_first : (symbols : List Symbol) (s : Symbol) (ss : List Symbol) (window : Window) (levels : List Level)
    (d : Level) → symbols ≡ s ∷ ss → length levels ≡ length symbols → IsInBox (limits_of symbols) (counts_of levels) →
    ((s.limit.high < (get_or levels 0 d).count) ⊎ (window.hi < (get_or levels 0 d).count * s.mass)) →
    StandsAt symbols window levels 0
stands_first symbols s ss window [] d e f box over = absurd (omega (arith, ap length e))
stands_first symbols s ss window (v ∷ vs) d e f box over =
    let begun_here = begun s ss window v vs (rw e at box) in
    rw e
    (none_beyond s.mass (masses_of ss) s.limit (limits_of ss) window (Some (counts_of (v ∷ vs))) v.count
    (Some (counts_of vs)) begun_here over)

-- what the levels before a place leave is what the last of them leaves
pub window_at_last : (window : Window) (levels : List Level) (place : ℕ) (d : Level) → 0 < place →
    place ≤ length levels → (get_or levels (place - 1) d).left ≡ window_at window levels place
window_at_last window levels zero d pos h = absurd (omega arith)
window_at_last window [] (suc place) d pos h = absurd (omega arith)
window_at_last window (v ∷ vs) (suc zero) d pos h = refl
window_at_last window (v ∷ vs) (suc (suc place)) d pos h =
    let one_less : suc (suc place) - 1 ≡ suc place = omega arith in
    let rest = window_at_last v.left vs (suc place) d (omega arith) (omega arith) in
    let rest_less : suc place - 1 ≡ place = omega arith in
    rw one_less (rw rest_less at rest)
