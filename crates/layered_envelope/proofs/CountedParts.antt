-- What counting adds to the layer before, from one item of a list to the next.
use Rattle.std.proofs.Common.{◌≡◌, ℕ, suc, ◌+◌, ◌-◌, ◌*◌, ◌<◌, ◌≤◌, ltb, true, false, List, [], ◌∷◌, map, length}
use Rattle.std.proofs.Common.{get_or, take, drop, fold, refl, sym, ◌∙◌, ap, subst, arith, ⊎_elim}
use Rattle.std.specs.Prelude.{sum_by, flat_map}
use Rattle.std.specs.List.{range_with_len}
use Rattle.std.proofs.Math.Nat.{le_trans, mul-le-mul_left}
use Rattle.std.proofs.lemmas.Bool.{cases_lt, lt-ltb, le-ltb, false≢true}
use Rattle.std.proofs.lemmas.List.{length-map, length-append, length-drop, take_all, get_or-map}
use Rattle.std.proofs.lemmas.List.Concat.{length-flat_map}
use Rattle.std.proofs.lemmas.List.Sums.{sum_by-append, sum_by-le-sum_by}
use Rattle.multinomial_bounds.proofs.SumLemmas.{sum_by-map}
use Rattle.multinomial_bounds.specs.Bounds.{certainty, floor_of, ceiling_of}
use Rattle.sub_isotopologues.specs.SubIsotopologues.{SubIsotopologue}
use Rattle.sub_isotopologues.specs.Listings.{Listing, items_of}
use Rattle.layered_envelope.specs.declared.layer_end.LayerEnd.{LayerEnd}
use Rattle.layered_envelope.specs.declared.layer_end.TheConstants.{MAX_MEMBERS}
use Rattle.layered_envelope.specs.ChosenPlaces.{bounds_at, firsts, AllFall, above, above_from}
use Rattle.layered_envelope.specs.Walks.{lower, upper, los_of, his_of}
use Rattle.layered_envelope.specs.CountedWalks.{members_above, lo_above, hi_above, with_member, Adds}
use Rattle.layered_envelope.proofs.RoundedProducts.{upper-rises}
use Rattle.layered_envelope.proofs.NextChoice.{none_from, from_first, from_start, first_above}

-- the places above a threshold that have an item of the first list from p on
abbrev places_from : ℕ → ℕ → List Listing → ℕ → List (List ℕ)
places_from s x [] p = []
places_from s x (l ∷ ls) p = above_from upper s x (map (λ i. i.hi) (items_of l)) (his_of ls) p

-- how many these are, and what the bounds of their products total
unfoldable pub members_from : ℕ → ℕ → List Listing → ℕ → ℕ
members_from s x lists p = length (places_from s x lists p)

unfoldable pub lo_from : ℕ → ℕ → ℕ → List Listing → ℕ → ℕ
lo_from s y x lists p = sum_by (λ places. fold lower y (bounds_at (los_of lists) places)) (places_from s x lists p)

unfoldable pub hi_from : ℕ → ℕ → List Listing → ℕ → ℕ
hi_from s x lists p = sum_by (λ places. fold upper x (bounds_at (his_of lists) places)) (places_from s x lists p)

-- the bounds of an item of the first list
abbrev pub hi_item : List Listing → ℕ → ℕ
hi_item lists p = get_or (get_or (his_of lists) 0 []) p 0

abbrev pub lo_item : List Listing → ℕ → ℕ
lo_item lists p = get_or (get_or (los_of lists) 0 []) p 0

-- one sum over them
sum_next : (g : List ℕ → ℕ) (s x h : ℕ) (l : List ℕ) (ls : List (List ℕ)) (p : ℕ) → p < length l → get_or l p 0 ≡ h →
    sum_by g (above_from upper s x l ls p)
    ≡ sum_by (λ ps. g (p ∷ ps)) (above upper s (upper x h) ls) + sum_by g (above_from upper s x l ls (p + 1))
sum_next g s x h l ls p within is =
    let here : List (List ℕ) = above upper s (upper x (get_or l p 0)) ls in
    ap (sum_by g) (from_first upper upper-rises s l ls x p within)
    ∙ sum_by-append g (map (λ ps. p ∷ ps) here) (above_from upper s x l ls (p + 1))
    ∙ ap (λ (n : ℕ). n + sum_by g (above_from upper s x l ls (p + 1))) (sum_by-map g (λ ps. p ∷ ps) here)
    ∙ ap (λ (b : ℕ). sum_by (λ ps. g (p ∷ ps)) (above upper s (upper x b) ls)
    + sum_by g (above_from upper s x l ls (p + 1))) is

module _ (s x : ℕ) where
  -- those with the item at p, of these bounds, and those with a later one
  module _ (lists : List Listing) (p h k : ℕ) (within : p < length (get_or (his_of lists) 0 []))
      (hi : hi_item lists p ≡ h) (lo : lo_item lists p ≡ k) where
    pub members_next : members_from s x lists p
        ≡ members_above s (upper x h) (drop 1 lists) + members_from s x lists (p + 1)
    unfolding members_above members_from
    members_next = next lists within hi
      where
        next : (lists : List Listing) → p < length (get_or (his_of lists) 0 []) → hi_item lists p ≡ h →
            length (places_from s x lists p)
            ≡ length (above upper s (upper x h) (his_of (drop 1 lists))) + length (places_from s x lists (p + 1))
        next [] within hi = absurd (omega arith)
        next (l ∷ ls) within hi =
            let his : List ℕ = map (λ i. i.hi) (items_of l) in
            let here : List (List ℕ) = above upper s (upper x (get_or his p 0)) (his_of ls) in
            ap length (from_first upper upper-rises s his (his_of ls) x p within)
            ∙ length-append (map (λ ps. p ∷ ps) here) (above_from upper s x his (his_of ls) (p + 1))
            ∙ ap (λ (n : ℕ). n + length (above_from upper s x his (his_of ls) (p + 1)))
            (length-map here (λ ps. p ∷ ps))
            ∙ ap (λ (b : ℕ). length (above upper s (upper x b) (his_of ls))
            + length (above_from upper s x his (his_of ls) (p + 1))) hi

    pub lo_next : (y : ℕ) → lo_from s y x lists p
        ≡ lo_above s (lower y k) (upper x h) (drop 1 lists) + lo_from s y x lists (p + 1)
    unfolding lo_above lo_from
    lo_next y = next lists within hi lo
      where
        next : (lists : List Listing) → p < length (get_or (his_of lists) 0 []) → hi_item lists p ≡ h →
            lo_item lists p ≡ k →
            sum_by (λ places. fold lower y (bounds_at (los_of lists) places)) (places_from s x lists p)
            ≡ sum_by (λ places. fold lower (lower y k) (bounds_at (los_of (drop 1 lists)) places))
            (above upper s (upper x h) (his_of (drop 1 lists)))
            + sum_by (λ places. fold lower y (bounds_at (los_of lists) places)) (places_from s x lists (p + 1))
        next [] within hi lo = absurd (omega arith)
        next (l ∷ ls) within hi lo =
            let his : List ℕ = map (λ i. i.hi) (items_of l) in
            sum_next (λ places. fold lower y (bounds_at (los_of (l ∷ ls)) places)) s x h his (his_of ls) p within hi
            ∙ ap (λ (b : ℕ). sum_by (λ places. fold lower (lower y b) (bounds_at (los_of ls) places))
            (above upper s (upper x h) (his_of ls))
            + sum_by (λ places. fold lower y (bounds_at (los_of (l ∷ ls)) places))
            (above_from upper s x his (his_of ls) (p + 1))) lo

    pub hi_next : hi_from s x lists p
        ≡ hi_above s (upper x h) (drop 1 lists) + hi_from s x lists (p + 1)
    unfolding hi_above hi_from
    hi_next = next lists within hi
      where
        next : (lists : List Listing) → p < length (get_or (his_of lists) 0 []) → hi_item lists p ≡ h →
            sum_by (λ places. fold upper x (bounds_at (his_of lists) places)) (places_from s x lists p)
            ≡ sum_by (λ places. fold upper (upper x h) (bounds_at (his_of (drop 1 lists)) places))
            (above upper s (upper x h) (his_of (drop 1 lists)))
            + sum_by (λ places. fold upper x (bounds_at (his_of lists) places)) (places_from s x lists (p + 1))
        next [] within hi = absurd (omega arith)
        next (l ∷ ls) within hi =
            let his : List ℕ = map (λ i. i.hi) (items_of l) in
            sum_next (λ places. fold upper x (bounds_at (his_of (l ∷ ls)) places)) s x h his (his_of ls) p within hi
            ∙ ap (λ (b : ℕ). sum_by (λ places. fold upper (upper x b) (bounds_at (his_of ls) places))
            (above upper s (upper x h) (his_of ls))
            + sum_by (λ places. fold upper x (bounds_at (his_of (l ∷ ls)) places))
            (above_from upper s x his (his_of ls) (p + 1))) hi

  -- all are those from the first item on
  places_all : (lists : List Listing) → 0 < length lists → above upper s x (his_of lists) ≡ places_from s x lists 0
  places_all [] some = absurd (omega arith)
  places_all (l ∷ ls) some = from_start upper upper-rises s (map (λ i. i.hi) (items_of l)) (his_of ls) x

  pub members_all : (lists : List Listing) → 0 < length lists → members_above s x lists ≡ members_from s x lists 0
  unfolding members_above members_from
  members_all lists some = ap length (places_all lists some)

  pub lo_all : (y : ℕ) (lists : List Listing) → 0 < length lists → lo_above s y x lists ≡ lo_from s y x lists 0
  unfolding lo_above lo_from
  lo_all y lists some = ap (sum_by (λ places. fold lower y (bounds_at (los_of lists) places))) (places_all lists some)

  pub hi_all : (lists : List Listing) → 0 < length lists → hi_above s x lists ≡ hi_from s x lists 0
  unfolding hi_above hi_from
  hi_all lists some = ap (sum_by (λ places. fold upper x (bounds_at (his_of lists) places))) (places_all lists some)

  -- none are left from an item on that is not above the threshold with the first of the later lists
  places_none : (lists : List Listing) (p : ℕ) → AllFall (his_of lists) →
      (p < length (get_or (his_of lists) 0 []) →
      fold upper (upper x (hi_item lists p)) (firsts (his_of (drop 1 lists))) ≤ s) →
      places_from s x lists p ≡ []
  places_none [] p fall below = refl
  places_none (l ∷ ls) p fall below =
      none_from upper upper-rises s (map (λ i. i.hi) (items_of l)) (his_of ls) x p fall.0 fall.1 below

  module _ (lists : List Listing) (p : ℕ) (fall : AllFall (his_of lists))
      (below : p < length (get_or (his_of lists) 0 []) →
      fold upper (upper x (hi_item lists p)) (firsts (his_of (drop 1 lists))) ≤ s) where
    pub members_none : members_from s x lists p ≡ 0
    unfolding members_from
    members_none = ap length (places_none lists p fall below)

    pub lo_none : (y : ℕ) → lo_from s y x lists p ≡ 0
    unfolding lo_from
    lo_none y =
        ap (sum_by (λ places. fold lower y (bounds_at (los_of lists) places))) (places_none lists p fall below)

    pub hi_none : hi_from s x lists p ≡ 0
    unfolding hi_from
    hi_none = ap (sum_by (λ places. fold upper x (bounds_at (his_of lists) places))) (places_none lists p fall below)

  pub members_some : (lists : List Listing) → AllFall (his_of lists) → s < fold upper x (firsts (his_of lists)) →
      1 ≤ members_above s x lists
  unfolding members_above
  members_some lists fall over =
      omega (arith, ap length (first_above upper upper-rises s (his_of lists) x fall over))

-- a higher threshold has no more
flat_map_fewer : (g h : ℕ → List (List ℕ)) → ((k : ℕ) → length (g k) ≤ length (h k)) → (xs : List ℕ) →
    length (flat_map g xs) ≤ length (flat_map h xs)
flat_map_fewer g h each xs =
    omega (
      arith,
      length-flat_map g xs,
      length-flat_map h xs,
      sum_by-le-sum_by (λ k. length (g k)) (λ k. length (h k)) xs each,
    )

module _ (t s : ℕ) (le : t ≤ s) where
  from_fewer : (l : List ℕ) (ls : List (List ℕ)) (x : ℕ) →
      ((y : ℕ) → length (above upper s y ls) ≤ length (above upper t y ls)) → (xs : List ℕ) →
      length (flat_map (λ p. map (λ ps. p ∷ ps) (above upper s (upper x (get_or l p 0)) ls)) xs)
      ≤ length (flat_map (λ p. map (λ ps. p ∷ ps) (above upper t (upper x (get_or l p 0)) ls)) xs)
  from_fewer l ls x fewer xs =
      flat_map_fewer (λ p. map (λ ps. p ∷ ps) (above upper s (upper x (get_or l p 0)) ls))
      (λ p. map (λ ps. p ∷ ps) (above upper t (upper x (get_or l p 0)) ls))
      (λ p.
      omega (
        arith,
        fewer (upper x (get_or l p 0)),
        length-map (above upper s (upper x (get_or l p 0)) ls) (λ ps. p ∷ ps),
        length-map (above upper t (upper x (get_or l p 0)) ls) (λ ps. p ∷ ps),
      ))
      xs

  above_fewer : (lists : List (List ℕ)) (x : ℕ) → length (above upper s x lists) ≤ length (above upper t x lists)
  above_fewer [] x =
      ⊎_elim
      (λ (h : s < x). let lt : t < x = le_trans (omega arith) h in rw (lt-ltb s x h, lt-ltb t x lt) (omega arith))
      (λ (h : x ≤ s). rw (le-ltb s x h) (omega arith))
      (cases_lt s x)
  above_fewer (l ∷ ls) x = from_fewer l ls x (above_fewer ls) (range_with_len 0 (length l))

  pub members_fewer : (x : ℕ) (lists : List Listing) (p : ℕ) → members_from s x lists p ≤ members_from t x lists p
  unfolding members_from
  members_fewer x [] p = omega arith
  members_fewer x (l ∷ ls) p =
      from_fewer (map (λ i. i.hi) (items_of l)) (his_of ls) x (above_fewer (his_of ls))
      (range_with_len p (length (map (λ i. i.hi) (items_of l)) - p))

-- what was added where the items of the first list before p were counted
pub record AddsTo (t y x : ℕ) (lists : List Listing) (p : ℕ) (old now : LayerEnd) : Type 0 where
  pub same : now.threshold ≡ old.threshold
  pub members : now.members + (members_above old.threshold x lists + members_from t x lists p)
      ≡ old.members + (members_above t x lists + members_from old.threshold x lists p)
  pub lo : now.lo_total + (lo_above old.threshold y x lists + lo_from t y x lists p)
      ≡ old.lo_total + (lo_above t y x lists + lo_from old.threshold y x lists p)
  pub hi : now.hi_total + (hi_above old.threshold x lists + hi_from t x lists p)
      ≡ old.hi_total + (hi_above t x lists + hi_from old.threshold x lists p)
  pub passed : p + members_from t x lists p ≤ members_above t x lists

module _ (t y x : ℕ) (lists : List Listing) where
  pub adds_none : (old : LayerEnd) → 0 < length lists → AddsTo t y x lists 0 old old
  adds_none old some = record {
    same = refl;
    members = omega (arith, members_all t x lists some, members_all old.threshold x lists some);
    lo = omega (arith, lo_all t x y lists some, lo_all old.threshold x y lists some);
    hi = omega (arith, hi_all t x lists some, hi_all old.threshold x lists some);
    passed = omega (arith, members_all t x lists some);
  }

  module _ (p : ℕ) (old now : LayerEnd) (so_far : AddsTo t y x lists p old now) where
    -- the next item, of these bounds, was counted
    pub adds_more : (new : LayerEnd) (h k : ℕ) → p < length (get_or (his_of lists) 0 []) → hi_item lists p ≡ h →
        lo_item lists p ≡ k → 1 ≤ members_above t (upper x h) (drop 1 lists) →
        Adds t (lower y k) (upper x h) (drop 1 lists) now new → AddsTo t y x lists (p + 1) old new
    adds_more new h k within hi lo some adds =
        let next = members_next t x lists p h k within hi lo in
        let older_next = members_next old.threshold x lists p h k within hi lo in
        let is = rw so_far.same at adds in
        record {
          same = is.same;
          members = omega (arith, so_far.members, is.members, next, older_next);
          lo =
              omega (
                arith,
                so_far.lo,
                is.lo,
                lo_next t x lists p h k within hi lo y,
                lo_next old.threshold x lists p h k within hi lo y,
              );
          hi =
              omega (
                arith,
                so_far.hi,
                is.hi,
                hi_next t x lists p h k within hi lo,
                hi_next old.threshold x lists p h k within hi lo,
              );
          passed = omega (arith, so_far.passed, next, some);
        }

    -- no later item can be
    module _ (fall : AllFall (his_of lists)) (le : t ≤ old.threshold)
        (below : p < length (get_or (his_of lists) 0 []) →
        fold upper (upper x (hi_item lists p)) (firsts (his_of (drop 1 lists))) ≤ t) where
      older_below : p < length (get_or (his_of lists) 0 []) →
          fold upper (upper x (hi_item lists p)) (firsts (his_of (drop 1 lists))) ≤ old.threshold
      older_below within = le_trans (below within) le

      pub adds_all : Adds t y x lists old now
      adds_all = record {
        same = so_far.same;
        members =
            omega (
              arith,
              so_far.members,
              members_none t x lists p fall below,
              members_none old.threshold x lists p fall older_below,
            );
        lo =
            omega (
              arith,
              so_far.lo,
              lo_none t x lists p fall below y,
              lo_none old.threshold x lists p fall older_below y,
            );
        hi =
            omega (
              arith,
              so_far.hi,
              hi_none t x lists p fall below,
              hi_none old.threshold x lists p fall older_below,
            );
      }

-- a choice that is not above a threshold
pub not_above : (t u : ℕ) → (t < u → false ≡ true) → ltb t u ≡ false
not_above t u never =
    ⊎_elim
    (λ (h : t < u). absurd (false≢true (never h)))
    (λ (h : u ≤ t). le-ltb t u h)
    (cases_lt t u)

-- a choice of all lists, which are none
module _ (t y x : ℕ) (over : t < x) where
  nothing_above : (s : ℕ) → x ≤ s → (members_above s x [] ≡ 0) × (lo_above s y x [] ≡ 0) × (hi_above s x [] ≡ 0)
  unfolding members_above lo_above hi_above
  nothing_above s le = rw (le-ltb s x le) (refl, refl, refl)

  one_above : (s : ℕ) → s < x → (members_above s x [] ≡ 1) × (lo_above s y x [] ≡ y) × (hi_above s x [] ≡ x)
  unfolding members_above lo_above hi_above
  one_above s lt = rw (lt-ltb s x lt) (refl, omega arith, omega arith)

  pub adds_member : (old new : LayerEnd) → new ≡ with_member y x old → Adds t y x [] old new
  adds_member old new is =
      let one = one_above t over in
      ⊎_elim
      (λ (h : old.threshold < x).
      let before = one_above old.threshold h in
      rw (is, lt-ltb old.threshold x h)
      (record {
        same = refl;
        members = omega (arith, one.0, before.0);
        lo = omega (arith, one.1, before.1);
        hi = omega (arith, one.2, before.2);
      }))
      (λ (h : x ≤ old.threshold).
      let before = nothing_above old.threshold h in
      rw (is, le-ltb old.threshold x h)
      (record {
        same = refl;
        members = omega (arith, one.0, before.0);
        lo = omega (arith, one.1, before.1);
        hi = omega (arith, one.2, before.2);
      }))
      (cases_lt old.threshold x)

  pub one_too_many : (old : LayerEnd) → x ≤ old.threshold → old.members ≡ MAX_MEMBERS →
      MAX_MEMBERS + members_above old.threshold x [] < old.members + members_above t x []
  one_too_many old le full =
      let one = one_above t over in
      let before = nothing_above old.threshold le in
      omega (arith, one.0, before.0, full)

-- steps within the bound, from one item to the next and to the last one
module _ (n steps new start p left all : ℕ) (so_far : steps + 2 * n * left ≤ start + p + 2 * n * all) where
  pub steps_more : (child left' : ℕ) → left ≡ child + left' → new ≤ steps + 1 + 2 * n * child →
      new + 2 * n * left' ≤ start + (p + 1) + 2 * n * all
  steps_more child left' parts few = omega (arith, so_far, few, ap (λ (k : ℕ). 2 * n * k) parts)

  pub steps_all : p ≤ all → 1 ≤ all → new ≤ steps + 1 → new ≤ start + 2 * suc n * all
  steps_all passed some few = omega (arith, so_far, passed, some, few)

  -- where one member more is too many
  pub steps_to_limit : (old now older older_left older_child most : ℕ) →
      now + (older + left) ≡ old + (all + older_left) → p + left ≤ all → older_child ≤ older_left → now ≤ most →
      new + 2 * n * now ≤ steps + 1 + 2 * n * (older_child + most + 1) →
      new + 2 * suc n * old ≤ start + 2 * suc n * (older + most + 1)
  steps_to_limit old now older older_left older_child most parts passed part fits few =
      omega (
        arith,
        so_far,
        few,
        parts,
        passed,
        part,
        fits,
        ap (λ (k : ℕ). 2 * n * k) parts,
        mul-le-mul_left (2 * n) part,
      )

-- a product that is not above a threshold
pub not_over : (t u : ℕ) → (t < u → false ≡ true) → u ≤ t
not_over t u never =
    ⊎_elim (λ (h : t < u). absurd (false≢true (never h))) (λ (h : u ≤ t). h) (cases_lt t u)

pub below_item : (t x h p : ℕ) (l : Listing) (ls : List Listing) (modes : List ℕ) → modes ≡ firsts (his_of ls) →
    hi_item (l ∷ ls) p ≡ h → (t < fold upper (upper x h) modes → false ≡ true) →
    fold upper (upper x (hi_item (l ∷ ls) p)) (firsts (his_of ls)) ≤ t
below_item t x h p l ls modes are is never =
    subst (λ (b : ℕ). fold upper (upper x b) (firsts (his_of ls)) ≤ t) (sym is)
    (subst (λ ms. fold upper (upper x h) ms ≤ t) are (not_over t (fold upper (upper x h) modes) never))

-- the items of the first list, as they are read
module _ (l : Listing) (ls : List Listing) (items : List SubIsotopologue) (are : items ≡ items_of l) (p : ℕ)
    (within : p < length items) where
  pub item_within : p < length (get_or (his_of (l ∷ ls)) 0 [])
  item_within = omega (arith, within, ap length are, length-map (items_of l) (λ i. i.hi))

  module _ (i : SubIsotopologue) (is : i ≡ get_or items p i) where
    same : get_or (items_of l) p i ≡ i
    same = ap (λ xs. get_or xs p i) (sym are) ∙ sym is

    pub item_hi : hi_item (l ∷ ls) p ≡ i.hi
    item_hi = get_or-map (λ i. i.hi) (items_of l) p i 0 (omega (arith, within, ap length are)) ∙ ap (λ x. x.hi) same

    pub item_lo : lo_item (l ∷ ls) p ≡ i.lo
    item_lo = get_or-map (λ i. i.lo) (items_of l) p i 0 (omega (arith, within, ap length are)) ∙ ap (λ x. x.lo) same

-- the first of the lists, and the later ones
module _ (lists : List Listing) (l : Listing) (ls : List Listing) (split : lists ≡ l ∷ ls) (modes : List ℕ) where
  pub modes_later : take (length modes - 1) (drop 1 modes) ≡ drop 1 modes
  modes_later = take_all (length modes - 1) (drop 1 modes) (omega (arith, length-drop 1 modes))

  pub firsts_later : modes ≡ firsts (his_of lists) → take (length modes - 1) (drop 1 modes) ≡ firsts (his_of ls)
  firsts_later are = modes_later ∙ ap (drop 1) (are ∙ ap (λ xs. firsts (his_of xs)) split)

  pub above_items : (t x h : ℕ) → h ≡ x → modes ≡ firsts (his_of lists) → t < fold upper x modes →
      t < fold upper h (firsts (his_of (l ∷ ls)))
  above_items t x h is are over =
      subst (λ xs. t < fold upper h (firsts (his_of xs))) split
      (subst (λ (n : ℕ). t < fold upper n (firsts (his_of lists))) (sym is)
      (subst (λ ms. t < fold upper x ms) are over))

-- where there are no lists, the product is a choice
pub above_member : (lists : List Listing) (modes : List ℕ) (t x : ℕ) → lists ≡ [] → modes ≡ firsts (his_of lists) →
    t < fold upper x modes → t < x
above_member lists modes t x none are over =
    subst (λ xs. t < fold upper x (firsts (his_of xs))) none (subst (λ ms. t < fold upper x ms) are over)

pub lower_is : (x y b : ℕ) → b ≡ floor_of (x * y) certainty → b ≡ lower x y
unfolding lower
lower_is x y b is = is

pub upper_is : (x y b : ℕ) → b ≡ ceiling_of (x * y) certainty → b ≡ upper x y
unfolding upper
upper_is x y b is = is

pub none_of : (lists : List Listing) → length lists ≡ 0 → lists ≡ []
none_of [] none = refl
none_of (l ∷ ls) none = absurd (omega arith)
