-- The totals of the peaks with one more member.
use Rattle.std.proofs.Common.{◌≡◌, ◌≢◌, ℕ, ◌+◌, ◌<◌, ◌||◌, true, false, Bool, List, [], ◌∷◌, ◌++◌, length, get_or, set}
use Rattle.std.proofs.Common.{cond}
use Rattle.std.proofs.Common.{arith, ap, ap₂, sym, subst, refl, ◌∙◌, inl, inr, get_or-set_same, get_or-set_other}
use Rattle.std.proofs.Common.{length-set}
use Rattle.std.specs.Prelude.{Option, Some, sum_by, is_some}
use Rattle.std.specs.List.{insert}
use Rattle.std.proofs.lemmas.Bool.{cases_eq, cases_lt, eq-eqb, ne_eqb}
use Rattle.std.proofs.lemmas.List.{get_or_default}
use Rattle.std.proofs.lemmas.Bool.Decides.{nat_tests}
use Rattle.std.proofs.lemmas.List.Sums.{sum_by_push, sum_by-cons, sum_by-set, sum_by-insert}
use Rattle.std.proofs.lemmas.List.Folds.{list_any-append}
use Rattle.prediction_score.specs.declared.shares.Total.{Total}
use Rattle.prediction_score.specs.declared.shares.Shares.{Shares}
use Rattle.prediction_score.specs.Scores.{Match, is_at, lo_at, has_member, unmatched_lo}
use Rattle.prediction_score.specs.PeakOrders.{IsSplit, HasKey, Each, IsRisingBy, IsTotal, AreShares}
use Rattle.prediction_score.proofs.RisingKeys.{rising-insert, rising-set, Each-insert, HasKey-insert, HasKey-new}
use Rattle.prediction_score.proofs.RisingKeys.{HasKey-set}
use Rattle.prediction_score.proofs.RisingKeys.{no_key-split}

lo_at-push : (ms : List Match) (m : Match) (j : ℕ)
    → lo_at (ms ++ m ∷ []) j ≡ lo_at ms j + cond (is_at m.0 j) m.1 0
lo_at-push ms m j = sum_by_push (λ (n : Match). cond (is_at n.0 j) n.1 0) ms m

has_member-push : (ms : List Match) (m : Match) (j : ℕ)
    → has_member (ms ++ m ∷ []) j ≡ (has_member ms j || is_at m.0 j)
has_member-push ms m j =
    list_any-append (λ (n : Match). is_at n.0 j) ms (m ∷ []) ∙ ap (λ b. has_member ms j || b) (one (is_at m.0 j))
  where
    one : (b : Bool) → (b || false) ≡ b
    one true = refl
    one false = refl

-- a peak without member has the total 0
lo_at-none : (ms : List Match) (j : ℕ) → has_member ms j ≡ false → lo_at ms j ≡ 0
lo_at-none [] j none = refl
lo_at-none (m ∷ ms) j none =
    rw (sum_by-cons (λ (n : Match). cond (is_at n.0 j) n.1 0) m ms)
    (elim (is_at m.0 j) as (λ b. (b || has_member ms j) ≡ false → cond b m.1 0 + lo_at ms j ≡ 0) [
      | true ↦ λ e. cc
      | false ↦ λ e. omega (arith, lo_at-none ms j e)
    ] none)

same_place : (p : ℕ) → is_at (Some p) p ≡ true
same_place p = eq-eqb p p refl

other_place : (p j : ℕ) → p ≢ j → is_at (Some p) j ≡ false
other_place p j other = ne_eqb p j other

-- a total of another peak stays
IsTotal-other : (n : ℕ) (ms : List Match) (p lo : ℕ) (t : Total) → p ≢ t.place → IsTotal n ms t
    → IsTotal n (ms ++ (Some p, lo) ∷ []) t
IsTotal-other n ms p lo t other is =
    let no : is_at (Some p) t.place ≡ false = other_place p t.place other in record {
      inside = is.inside;
      matched = has_member-push ms (Some p, lo) t.place ∙ ap (λ b. b || is_at (Some p) t.place) is.matched;
      lo = is.lo ∙ sym (lo_at-push ms (Some p, lo) t.place ∙ ap (λ b. lo_at ms t.place + cond b lo 0) no
          ∙ omega arith);
    }

-- that of the peak grows
IsTotal-more : (n : ℕ) (ms : List Match) (p lo : ℕ) (t new : Total) → t.place ≡ p → new.place ≡ p
    → new.lo ≡ t.lo + lo → IsTotal n ms t → IsTotal n (ms ++ (Some p, lo) ∷ []) new
IsTotal-more n ms p lo t new old_is new_is more is =
    let here : new.place ≡ t.place = new_is ∙ sym old_is in
    let yes : is_at (Some p) new.place ≡ true = ap (λ j. is_at (Some p) j) new_is ∙ same_place p in record {
      inside = omega (arith, is.inside);
      matched = has_member-push ms (Some p, lo) new.place
          ∙ ap₂ (λ a b. a || b) (ap (has_member ms) here ∙ is.matched) yes;
      lo = more ∙ ap (λ a. a + lo) (is.lo ∙ ap (lo_at ms) (sym here))
          ∙ sym (lo_at-push ms (Some p, lo) new.place ∙ ap (λ b. lo_at ms new.place + cond b lo 0) yes);
    }

-- and a peak may get its first member
IsTotal-new : (n : ℕ) (ms : List Match) (p lo : ℕ) (new : Total) → p < n → has_member ms p ≡ false → new.place ≡ p
    → new.lo ≡ lo → IsTotal n (ms ++ (Some p, lo) ∷ []) new
IsTotal-new n ms p lo new inside none place_is lo_is =
    let yes : is_at (Some p) new.place ≡ true = ap (λ j. is_at (Some p) j) place_is ∙ same_place p in
    let without : has_member ms new.place ≡ false = ap (has_member ms) place_is ∙ none in
    let zero_lo = lo_at-none ms new.place without in record {
      inside = omega arith;
      matched = has_member-push ms (Some p, lo) new.place ∙ ap₂ (λ a b. a || b) without yes;
      lo = lo_is ∙ sym (lo_at-push ms (Some p, lo) new.place ∙ ap (λ b. lo_at ms new.place + cond b lo 0) yes
          ∙ omega arith);
    }

-- the parts of shares whose totals are these
AreShares-of : (n : ℕ) (ms : List Match) (shares : Shares) (xs : List Total) → shares.totals.items ≡ xs
    → IsRisingBy (λ (t : Total). t.place) xs → Each (IsTotal n ms) xs
    → ((p : ℕ) → has_member ms p ≡ true → HasKey (λ (t : Total). t.place) xs p)
    → shares.unmatched ≡ unmatched_lo ms → shares.matched ≡ sum_by (λ (t : Total). t.lo) xs
    → shares.unmatched + shares.matched ≡ sum_by (λ (m : Match). m.1) ms → AreShares n ms shares
AreShares-of n ms shares xs e rising totals each unmatched matched all = record {
  rising = subst (IsRisingBy (λ (t : Total). t.place)) (sym e) rising;
  totals = subst (Each (IsTotal n ms)) (sym e) totals;
  each = λ p has. subst (λ l. HasKey (λ (t : Total). t.place) l p) (sym e) (each p has);
  unmatched = unmatched;
  matched = matched ∙ ap (sum_by (λ (t : Total). t.lo)) (sym e);
  all = all;
}

unmatched-push : (ms : List Match) (p lo : ℕ) → unmatched_lo (ms ++ (Some p, lo) ∷ []) ≡ unmatched_lo ms
unmatched-push ms p lo =
    sum_by_push (λ (m : Match). cond (is_some m.0) 0 m.1) ms (Some p, lo) ∙ omega arith

all-push : (ms : List Match) (o : Option ℕ) (lo : ℕ)
    → sum_by (λ (m : Match). m.1) (ms ++ (o, lo) ∷ []) ≡ sum_by (λ (m : Match). m.1) ms + lo
all-push ms o lo = sum_by_push (λ (m : Match). m.1) ms (o, lo)

-- which peaks have a member with one more
had_member : (ms : List Match) (p lo j : ℕ) → p ≢ j → has_member (ms ++ (Some p, lo) ∷ []) j ≡ true
    → has_member ms j ≡ true
had_member ms p lo j other has =
    let no = other_place p j other in
    let pushed = has_member-push ms (Some p, lo) j in grind (arith, nat_tests)

-- one more member of a peak that has one
pub AreShares-found : (n : ℕ) (ms : List Match) (old new : Shares) (index p lo : ℕ) (y : Total) → AreShares n ms old
    → index < length old.totals.items → ((d : Total) → (get_or old.totals.items index d).place ≡ p)
    → new.unmatched ≡ old.unmatched → new.matched ≡ old.matched + lo → new.totals.items ≡ set old.totals.items index y
    → y.place ≡ p → ((d : Total) → y.lo ≡ (get_or old.totals.items index d).lo + lo)
    → AreShares n (ms ++ (Some p, lo) ∷ []) new
AreShares-found n ms old new index p lo y are inside here unmatched matched items place_is more =
    let key : Total → ℕ = λ t. t.place in
    let xs : List Total = old.totals.items in
    let same : (d : Total) → y.place ≡ (get_or xs index d).place = λ d. place_is ∙ sym (here d) in
    AreShares-of n (ms ++ (Some p, lo) ∷ []) new (set xs index y) items
    (rising-set key xs index y inside same are.rising)
    (λ i d within.
    let size = length-set xs index y in
    elim (cases_eq i index) [
      | inl at ↦ subst (λ j. IsTotal n (ms ++ (Some p, lo) ∷ []) (get_or (set xs index y) j d)) (sym at)
          (subst (IsTotal n (ms ++ (Some p, lo) ∷ [])) (sym (get_or-set_same xs index y d inside))
          (IsTotal-more n ms p lo (get_or xs index d) y (here d) place_is (more d) (are.totals index d inside)))
      | inr other ↦ subst (IsTotal n (ms ++ (Some p, lo) ∷ [])) (sym (get_or-set_other xs index i y d other))
          (IsTotal-other n ms p lo (get_or xs i d) (apart i d other (omega arith)) (are.totals i d (omega arith)))
    ])
    (λ j has. elim (cases_eq p j) [
      | inl at ↦ HasKey-set key xs index y j inside same (index, inside, λ d. here d ∙ at)
      | inr other ↦ HasKey-set key xs index y j inside same (are.each j (had_member ms p lo j other has))
    ])
    (unmatched ∙ are.unmatched ∙ sym (unmatched-push ms p lo))
    (omega (arith, are.matched, sum_by-set (λ (t : Total). t.lo) xs index y y inside, more y))
    (omega (arith, are.all, all-push ms (Some p) lo))
  where
    apart : (i : ℕ) (d : Total) → i ≢ index → i < length old.totals.items → p ≢ (get_or old.totals.items i d).place
    apart i d other within same =
        let at = here d in
        elim (cases_lt i index) [
          | inl before ↦ let less = are.rising i index d before inside in omega arith
          | inr from ↦ let less = are.rising index i d (omega arith) within in omega arith
        ]

-- or of one that has none
pub AreShares-new : (n : ℕ) (ms : List Match) (old new : Shares) (index p lo : ℕ) (y : Total) → AreShares n ms old
    → p < n → IsSplit (λ (t : Total). t.place) old.totals.items p index
    → ((d : Total) → index < length old.totals.items → (get_or old.totals.items index d).place ≢ p)
    → new.unmatched ≡ old.unmatched → new.matched ≡ old.matched + lo
    → new.totals.items ≡ insert old.totals.items index y → y.place ≡ p → y.lo ≡ lo
    → AreShares n (ms ++ (Some p, lo) ∷ []) new
AreShares-new n ms old new index p lo y are inside split fresh unmatched matched items place_is lo_is =
    let key : Total → ℕ = λ t. t.place in
    let xs : List Total = old.totals.items in
    let split_y : IsSplit key xs y.place index = subst (λ q. IsSplit key xs q index) (sym place_is) split in
    let fresh_y : (d : Total) → index < length xs → (get_or xs index d).place ≢ y.place =
    λ d below same. fresh d below (same ∙ place_is) in
    AreShares-of n (ms ++ (Some p, lo) ∷ []) new (insert xs index y) items
    (rising-insert key xs index y are.rising split_y fresh_y)
    (Each-insert (IsTotal n (ms ++ (Some p, lo) ∷ [])) xs index y split.within
    (λ i d within. IsTotal-other n ms p lo (get_or xs i d) (apart i d within) (are.totals i d within))
    (IsTotal-new n ms p lo y inside without place_is lo_is))
    (λ j has. elim (cases_eq p j) [
      | inl at ↦ subst (HasKey key (insert xs index y)) (place_is ∙ at) (HasKey-new key xs index y split.within)
      | inr other ↦ HasKey-insert key xs index y j split.within (are.each j (had_member ms p lo j other has))
    ])
    (unmatched ∙ are.unmatched ∙ sym (unmatched-push ms p lo))
    (omega (arith, are.matched, sum_by-insert (λ (t : Total). t.lo) xs index y))
    (omega (arith, are.all, all-push ms (Some p) lo))
  where
    apart : (i : ℕ) (d : Total) → i < length old.totals.items → p ≢ (get_or old.totals.items i d).place
    apart i d within same =
        no_key-split (λ (t : Total). t.place) old.totals.items p index d are.rising split fresh
        (i, within, λ e. ap (λ (t : Total). t.place) (get_or_default old.totals.items i e d within) ∙ sym same)

    without : has_member ms p ≡ false
    without = elim (has_member ms p) as (λ b. has_member ms p ≡ b → b ≡ false) [
      | true ↦ λ e. absurd (no_key-split (λ (t : Total). t.place) old.totals.items p index y are.rising split fresh
          (are.each p e))
      | false ↦ λ e. refl
    ] refl
