-- How the search goes on from one count to the next: over the masses m ∷ ms and the limits l ∷ ls,
-- for the first list of the box whose mass is in the window and which comes after the given one.
use Rattle.std.proofs.Common.{◌≡◌, ℕ, ◌+◌, ◌-◌, ◌*◌, ◌/◌, ◌<◌, ◌≤◌, min, leb, eqb, Bool, true, false, not, ◌&&◌, length}
use Rattle.std.proofs.Common.{Option, Some, None, List, [], ◌∷◌, refl, ◌∙◌, inl, inr, subst, arith}
use Rattle.std.specs.Prelude.{IfSome, IsSomeAnd, MatchBool, MatchOption, is_some}
use Rattle.std.specs.List.{find}
use Rattle.std.specs.Int.{div_ceil}
use Rattle.std.proofs.lemmas.Grind.{div_ceil_times}
use Rattle.std.proofs.lemmas.Bool.{cases_lt, and_left, and_right, le-leb, lt-leb, cases_Bool, eqb-true, eqb-false}
use Rattle.std.proofs.lemmas.Bool.Decides.{nat_tests}
use Rattle.std.proofs.lemmas.Nat.{le-div}
use Rattle.std.proofs.Math.Nat.{div-mul-le_self, mul-le-mul_right}
use Rattle.mass_scaling.specs.Masses.{mass_of}
use Rattle.decompose.specs.CountLists.{IsInBox, box_of}
use Rattle.decompose.specs.Enumeration.{is_within}
use Rattle.decompose.specs.Levels.{window_less}
use Rattle.decompose.specs.Search.{is_left}
use Rattle.decompose.specs.CountLists.{follows}
use Rattle.decompose.specs.declared.limits.Limit.{Limit}
use Rattle.mass_scaling.specs.declared.windows.Window.{Window}
use Rattle.decompose.proofs.FindAndFilter.{find_none, find_agree}
use Rattle.decompose.proofs.CountListOrder.{after_below, after_above, after_same}
use Rattle.decompose.proofs.FirstOfBox.{NoneBelow, find-box_found, find-box_none}

-- the search has come to a count: no list with a smaller first count is left, and with this first
-- count the others have to follow now
pub record Searched (m : ℕ) (ms : List ℕ) (l : Limit) (ls : List Limit) (window : Window) (given : Option (List ℕ))
    (count : ℕ) (now : Option (List ℕ)) : Type 0 where
  pub low : l.low ≤ count
  pub skipped : NoneBelow (is_left (m ∷ ms) window given) l ls count
  pub here : (cs : List ℕ) → follows given (count ∷ cs) ≡ follows now cs
  pub beyond : (k : ℕ) (cs : List ℕ) → count < k → follows given (k ∷ cs) ≡ true
  pub in_box : IfSome now (IsInBox ls)

-- a mass and one more are within a window exactly if the mass is within what is left of it
pub within_less : (window : Window) (taken mass : ℕ) → taken ≤ window.hi →
    is_within window (taken + mass) ≡ is_within (window_less window taken) mass
within_less window taken mass h = grind (arith, nat_tests)

-- a first count whose own mass is above the window
above_window : (m : ℕ) (ms : List ℕ) (window : Window) (k : ℕ) (cs : List ℕ) → 0 < m → window.hi / m < k →
    is_within window (mass_of (m ∷ ms) (k ∷ cs)) ≡ false
above_window m ms window k cs pos h =
    elim (cases_lt window.hi (k * m)) [
      | inl lt ↦ and_right _ _ (lt-leb (k * m + mass_of ms cs) window.hi (omega arith))
      | inr ge ↦ absurd (omega (arith, le-div k window.hi m pos ge))
    ]

fits_below : (count hi m : ℕ) → count ≤ hi / m → count * m ≤ hi
fits_below count hi m h = omega (arith, div-mul-le_self hi m, mul-le-mul_right m h)

module _ (m : ℕ) (ms : List ℕ) (l : Limit) (ls : List Limit) (window : Window) where
  -- the search begins with the count of the list given last, or with the least
  pub search_first : (limits : List Limit) (given : Option (List ℕ)) (count : ℕ) (now : Option (List ℕ)) →
      limits ≡ l ∷ ls → IfSome given (IsInBox limits) →
      MatchOption given ((count ≡ l.low) × (now ≡ None)) (λ cs. IsSomeAnd now (λ rest. cs ≡ count ∷ rest)) →
      Searched m ms l ls window given count now
  search_first limits None count now e h f = rw (f.0, f.1) record {
    low = omega arith;
    skipped = λ k low w. absurd (omega arith);
    here = λ cs. refl;
    beyond = λ k cs w. refl;
    in_box = tt;
  }
  search_first limits (Some cs) count None e h f = absurd f
  search_first limits (Some cs) count (Some rest) e h f =
      let in_box = rw (e, f) at h in
      rw f record {
        low = in_box.0;
        skipped = λ k low w. find_none _ (box_of ls) (λ cs. and_right _ _ (after_below count k rest cs w));
        here = λ cs. after_same count rest cs;
        beyond = λ k cs w. after_above count k rest cs w;
        in_box = in_box.2;
      }

module _ (m : ℕ) (ms : List ℕ) (l : Limit) (ls : List Limit) (window : Window) (given : Option (List ℕ)) where
  module _ (count : ℕ) (now : Option (List ℕ)) (s : Searched m ms l ls window given count now) (masses : List ℕ)
      (limits : List Limit) (masses_are : masses ≡ m ∷ ms) (limits_are : limits ≡ l ∷ ls) where
    -- the lists that begin with this count
    with_count : count * m ≤ window.hi →
        find (λ cs. is_left (m ∷ ms) window given (count ∷ cs)) (box_of ls) ≡
        find (is_left ms (window_less window (count * m)) now) (box_of ls)
    with_count fits =
        find_agree _ _ (box_of ls) (λ cs. rw (within_less window (count * m) (mass_of ms cs) fits, s.here cs) refl)

    pub search_found : (lo : ℕ) (x : List ℕ) → lo ≡ window.lo - count * m → count ≤ min l.high (window.hi / m) →
        find (is_left ms record { lo = lo; hi = window.hi - count * m } now) (box_of ls) ≡ Some x →
        find (is_left masses window given) (box_of limits) ≡ Some (count ∷ x)
    search_found lo x e high found =
        rw (masses_are, limits_are)
        (find-box_found _ l ls count x s.low (omega arith) s.skipped
        (with_count (fits_below count window.hi m (omega arith)) ∙ rw e at found))

    pub search_on : (lo : ℕ) → lo ≡ window.lo - count * m → count ≤ min l.high (window.hi / m) →
        find (is_left ms record { lo = lo; hi = window.hi - count * m } now) (box_of ls) ≡ None →
        Searched m ms l ls window given (count + 1) None
    search_on lo e high none = record {
      low = omega (arith, s.low);
      skipped = λ k low w. elim (cases_lt k count) [
        | inl lt ↦ s.skipped k low lt
        | inr ge ↦
            let here : count ≡ k = omega arith in
            subst (λ n. find (λ cs. is_left (m ∷ ms) window given (n ∷ cs)) (box_of ls) ≡ None) here
            (with_count (fits_below count window.hi m (omega arith)) ∙ rw e at none)
      ];
      here = λ cs. s.beyond (count + 1) cs (omega arith);
      beyond = λ k cs w. s.beyond k cs (omega arith);
      in_box = tt;
    }

    pub search_end : 0 < m → min l.high (window.hi / m) < count →
        find (is_left masses window given) (box_of limits) ≡ None
    search_end pos over =
        rw (masses_are, limits_are)
        (find-box_none _ l ls (λ k low w. elim (cases_lt k count) [
          | inl lt ↦ s.skipped k low lt
          | inr ge ↦ find_none _ (box_of ls) (λ cs. and_left _ _ (above_window m ms window k cs pos (omega arith)))
        ]))

below_least : (lo m k : ℕ) → 0 < m → k < div_ceil lo m → k * m < lo
below_least lo m k pos h =
    elim (cases_lt (k * m) lo) [
      | inl lt ↦ lt
      | inr ge ↦
          let more : k + 1 ≤ div_ceil lo m = omega arith in
          absurd (omega (arith, (div_ceil_times lo m pos).1, mul-le-mul_right m more))
    ]

-- a first count whose own mass is below the window, where no other is to come
below_window : (m : ℕ) (window : Window) (k : ℕ) (cs : List ℕ) → k * m < window.lo →
    is_within window (mass_of (m ∷ []) (k ∷ cs)) ≡ false
below_window m window k cs h = and_left _ _ (lt-leb window.lo (k * m + 0) (omega arith))

-- at the last mass, the counts whose mass is below the window are passed over
pub search_raise : (m : ℕ) (ms : List ℕ) (l : Limit) (ls : List Limit) (window : Window) (given : Option (List ℕ))
    (count : ℕ) (now : Option (List ℕ)) (least : ℕ) →
    Searched m ms l ls window given count now → length ms ≡ 0 → length ls ≡ length ms → 0 < m →
    least ≡ div_ceil window.lo m → count < least → Searched m ms l ls window given least None
search_raise m [] l [] window given count now least s e f pos is h = record {
  low = omega (arith, s.low);
  skipped = λ k low w. find_none _ (box_of [])
      (λ cs. and_left _ _ (below_window m window k cs (below_least window.lo m k pos (omega arith))));
  here = λ cs. s.beyond least cs h;
  beyond = λ k cs w. s.beyond k cs (omega arith);
  in_box = tt;
}
search_raise m [] l (d ∷ ds) window given count now least s e f pos is h = absurd (omega arith)
search_raise m (n ∷ ns) l ls window given count now least s e f pos is h = absurd (omega arith)

-- with no mass left, the empty list is the only one: it is left where the window has the mass 0 and
-- no list was given
pub search_empty : (window : Window) (masses : List ℕ) (limits : List Limit) (out : List ℕ)
    (given : Option (List ℕ)) (r : Bool) →
    length masses ≡ 0 → length limits ≡ length masses → length out ≡ length masses → IfSome given (IsInBox limits) →
    r ≡ (eqb window.lo 0 && not (is_some given)) →
    MatchBool r (find (is_left masses window given) (box_of limits) ≡ Some out)
    ((find (is_left masses window given) (box_of limits) ≡ None) × (out ≡ out))
unfolding box_of
search_empty window [] [] [] None r m l o h e =
    elim (cases_Bool (eqb window.lo 0)) [
      | inl t ↦ rw
          (e, t, le-leb window.lo 0 (omega (arith, eqb-true window.lo 0 t)), le-leb 0 window.hi (omega arith)) refl
      | inr t ↦
          let above : 0 < window.lo = omega (arith, eqb-false window.lo 0 t) in
          rw (e, t) (rw (lt-leb window.lo 0 above) refl, refl)
    ]
search_empty window [] [] [] (Some []) r m l o h e =
    rw (e, and_right (eqb window.lo 0) false refl)
    (rw (and_right (leb window.lo 0 && leb 0 window.hi) false refl) refl, refl)
search_empty window [] [] [] (Some (g ∷ gs)) r m l o h e = absurd h
search_empty window (m ∷ ms) limits out given r n l o h e = absurd (omega arith)
search_empty window [] (l ∷ ls) out given r n m o h e = absurd (omega arith)
search_empty window [] [] (x ∷ xs) given r n m o h e = absurd (omega arith)
