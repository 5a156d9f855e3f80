-- The box: its lists lie within the limits and rise, and its first list that passes a test begins
-- with the first count under which one does.
use Rattle.std.proofs.Common.{◌≡◌, ℕ, zero, suc, ◌+◌, ◌-◌, ◌<◌, ◌≤◌, leb, Bool, true, ◌&&◌, Some, None, List, [], ◌∷◌}
use Rattle.std.proofs.Common.{length, map, refl, sym, ap, ◌∙◌, inl, inr, subst, arith}
use Rattle.std.specs.List.{find, flat_map, range_with_len, list_all, zip, AllByRecursion as Each}
use Rattle.std.proofs.lemmas.Bool.{cases_lt, and_parts, leb-true, le-leb}
use Rattle.std.proofs.lemmas.List.Folds.{find-append}
use Rattle.decompose.specs.CountLists.{IsInBox, box_of, comes_after}
use Rattle.decompose.specs.declared.limits.Limit.{Limit}
use Rattle.decompose.proofs.FindAndFilter.{find-map, find_agree, find_each}
use Rattle.decompose.proofs.CountListOrder.{Rises, Each-append, Each-map, Each-from_all, Each-weaken, Rises-append}
use Rattle.decompose.proofs.CountListOrder.{Rises-map, after_above}

-- the lists that begin with one of n counts from a on, and go on with one of a box
abbrev pub from_counts : List (List ℕ) → List ℕ → List (List ℕ)
from_counts box counts = flat_map (λ c. map (λ cs. c ∷ cs) box) counts

-- greater first counts come after
later : (box : List (List ℕ)) (c : ℕ) (cs : List ℕ) (a n : ℕ) → c < a →
    Each (λ y. comes_after (c ∷ cs) y ≡ true) (from_counts box (range_with_len a n))
later box c cs a zero h = tt
later box c cs a (suc n) h =
    Each-append _ (map (λ ds. a ∷ ds) box) _
    (Each-map (λ y. comes_after (c ∷ cs) y ≡ true) (λ ds. a ∷ ds) box
    (Each-from_all _ box (λ ds. after_above c a cs ds h)))
    (later box c cs (a + 1) n (omega arith))

rises_from : (box : List (List ℕ)) (a n : ℕ) → Rises box → Rises (from_counts box (range_with_len a n))
rises_from box a zero h = tt
rises_from box a (suc n) h =
    Rises-append (map (λ cs. a ∷ cs) box) _ (Rises-map a box h) (rises_from box (a + 1) n h)
    (Each-map (λ x. Each (λ y. comes_after x y ≡ true) (from_counts box (range_with_len (a + 1) n))) (λ cs. a ∷ cs) box
    (Each-from_all _ box (λ cs. later box a cs (a + 1) n (omega arith))))

pub Rises-box : (limits : List Limit) → Rises (box_of limits)
unfolding box_of
Rises-box [] = (tt, tt)
Rises-box (l ∷ ls) = rises_from (box_of ls) l.low (l.high + 1 - l.low) (Rises-box ls)

in_box_from : (l : Limit) (ls : List Limit) (a n : ℕ) → l.low ≤ a → n ≤ l.high + 1 - a →
    Each (IsInBox ls) (box_of ls) → Each (IsInBox (l ∷ ls)) (from_counts (box_of ls) (range_with_len a n))
in_box_from l ls a zero low high h = tt
in_box_from l ls a (suc n) low high h =
    Each-append (IsInBox (l ∷ ls)) (map (λ cs. a ∷ cs) (box_of ls)) _
    (Each-map (IsInBox (l ∷ ls)) (λ cs. a ∷ cs) (box_of ls)
    (Each-weaken (IsInBox ls) (λ cs. IsInBox (l ∷ ls) (a ∷ cs)) (box_of ls) (λ cs k. (low, omega arith, k)) h))
    (in_box_from l ls (a + 1) n (omega arith) (omega arith) h)

-- each list of the box is within the limits
pub IsInBox-box : (limits : List Limit) → Each (IsInBox limits) (box_of limits)
unfolding box_of
IsInBox-box [] = (tt, tt)
IsInBox-box (l ∷ ls) = in_box_from l ls l.low (l.high + 1 - l.low) (omega arith) (omega arith) (IsInBox-box ls)

found_from : (p : List ℕ → Bool) (box : List (List ℕ)) (a n c : ℕ) (x : List ℕ) → a ≤ c → c < a + n →
    ((k : ℕ) → a ≤ k → k < c → find (λ cs. p (k ∷ cs)) box ≡ None) → find (λ cs. p (c ∷ cs)) box ≡ Some x →
    find p (from_counts box (range_with_len a n)) ≡ Some (c ∷ x)
found_from p box a zero c x low high skipped found = absurd (omega arith)
found_from p box a (suc n) c x low high skipped found =
    elim (cases_lt a c) [
      | inl lt ↦
          rw (find-append p (map (λ cs. a ∷ cs) box), find-map p (λ cs. a ∷ cs) box, skipped a (omega arith) lt)
          (found_from p box (a + 1) n c x (omega arith) (omega arith) (λ k h. skipped k (omega arith)) found)
      | inr ge ↦
          let here : a ≡ c = omega arith in
          let first : find (λ cs. p (a ∷ cs)) box ≡ Some x =
          subst (λ k. find (λ cs. p (k ∷ cs)) box ≡ Some x) (sym here) found in
          rw (find-append p (map (λ cs. a ∷ cs) box), find-map p (λ cs. a ∷ cs) box, first)
          (ap (λ k. Some (k ∷ x)) here)
    ]

none_from : (p : List ℕ → Bool) (box : List (List ℕ)) (a n : ℕ) →
    ((k : ℕ) → a ≤ k → k < a + n → find (λ cs. p (k ∷ cs)) box ≡ None) →
    find p (from_counts box (range_with_len a n)) ≡ None
none_from p box a zero skipped = refl
none_from p box a (suc n) skipped =
    rw (find-append p (map (λ cs. a ∷ cs) box), find-map p (λ cs. a ∷ cs) box, skipped a (omega arith) (omega arith))
    (none_from p box (a + 1) n (λ k h w. skipped k (omega arith) (omega arith)))

-- the counts under which no list passes a test may be left out
pub skip_from : (p : List ℕ → Bool) (box : List (List ℕ)) (a n j b m : ℕ) → b ≡ a + j → m + j ≡ n →
    ((k : ℕ) → a ≤ k → k < a + j → find (λ cs. p (k ∷ cs)) box ≡ None) →
    find p (from_counts box (range_with_len a n)) ≡ find p (from_counts box (range_with_len b m))
skip_from p box a n zero b m e f skipped =
    let same_a : b ≡ a = omega arith in
    let same_n : m ≡ n = omega arith in
    rw (same_a, same_n) refl
skip_from p box a zero (suc j) b m e f skipped = absurd (omega arith)
skip_from p box a (suc n) (suc j) b m e f skipped =
    rw (find-append p (map (λ cs. a ∷ cs) box), find-map p (λ cs. a ∷ cs) box, skipped a (omega arith) (omega arith))
    (skip_from p box (a + 1) n j b m (omega arith) (omega arith) (λ k h w. skipped k (omega arith) (omega arith)))

-- two tests that agree under each count
pub agree_from : (p q : List ℕ → Bool) (box : List (List ℕ)) (a n : ℕ) →
    ((k : ℕ) (cs : List ℕ) → a ≤ k → p (k ∷ cs) ≡ q (k ∷ cs)) →
    find p (from_counts box (range_with_len a n)) ≡ find q (from_counts box (range_with_len a n))
agree_from p q box a zero agree = refl
agree_from p q box a (suc n) agree =
    rw (
      find-append p (map (λ cs. a ∷ cs) box),
      find-append q (map (λ cs. a ∷ cs) box),
      find-map p (λ cs. a ∷ cs) box,
      find-map q (λ cs. a ∷ cs) box,
      find_agree (λ cs. p (a ∷ cs)) (λ cs. q (a ∷ cs)) box (λ cs. agree a cs (omega arith)),
      agree_from p q box (a + 1) n (λ k cs h. agree k cs (omega arith)),
    ) refl

-- no list of the box that begins with one of the counts below c passes the test
abbrev pub NoneBelow : (List ℕ → Bool) → Limit → List Limit → ℕ → Type 0
NoneBelow p l ls c = (k : ℕ) → l.low ≤ k → k < c → find (λ cs. p (k ∷ cs)) (box_of ls) ≡ None

pub find-box_found : (p : List ℕ → Bool) (l : Limit) (ls : List Limit) (c : ℕ) (x : List ℕ) → l.low ≤ c → c ≤ l.high →
    NoneBelow p l ls c → find (λ cs. p (c ∷ cs)) (box_of ls) ≡ Some x → find p (box_of (l ∷ ls)) ≡ Some (c ∷ x)
unfolding box_of
find-box_found p l ls c x low high skipped found =
    found_from p (box_of ls) l.low (l.high + 1 - l.low) c x low (omega arith) skipped found

pub find-box_none : (p : List ℕ → Bool) (l : Limit) (ls : List Limit) → NoneBelow p l ls (l.high + 1) →
    find p (box_of (l ∷ ls)) ≡ None
unfolding box_of
find-box_none p l ls skipped =
    none_from p (box_of ls) l.low (l.high + 1 - l.low) (λ k h w. skipped k h (omega arith))

-- where no list with a lower first count passes, the box may begin with this count
pub find-box_from : (p q : List ℕ → Bool) (l : Limit) (ls : List Limit) (c : ℕ) → l.low ≤ c → c ≤ l.high + 1 →
    NoneBelow p l ls c → ((k : ℕ) (cs : List ℕ) → c ≤ k → p (k ∷ cs) ≡ q (k ∷ cs)) →
    find p (box_of (l ∷ ls)) ≡ find q (box_of (record { low = c; high = l.high } ∷ ls))
unfolding box_of
find-box_from p q l ls c low high skipped agree =
    skip_from p (box_of ls) l.low (l.high + 1 - l.low) (c - l.low) c (l.high + 1 - c) (omega arith) (omega arith)
    (λ k h w. skipped k h (omega arith))
    ∙ agree_from p q (box_of ls) c (l.high + 1 - c) agree

-- a list of the box has one count for each limit
pub IsInBox-length : (limits : List Limit) (counts : List ℕ) → IsInBox limits counts → length counts ≡ length limits
IsInBox-length [] [] h = refl
IsInBox-length [] (c ∷ cs) h = absurd h
IsInBox-length (l ∷ ls) [] h = absurd h
IsInBox-length (l ∷ ls) (c ∷ cs) h = ap suc (IsInBox-length ls cs h.2)

-- whether a count is within its limit
abbrev pub is_within_limit : Limit × ℕ → Bool
is_within_limit p = leb p.0.low p.1 && leb p.1 p.0.high

-- a list is in the box exactly if each of its counts is within its limit
pub IsInBox-from_all : (limits : List Limit) (counts : List ℕ) → length limits ≡ length counts →
    list_all is_within_limit (zip limits counts) ≡ true → IsInBox limits counts
IsInBox-from_all [] [] e h = tt
IsInBox-from_all [] (c ∷ cs) e h = absurd (omega arith)
IsInBox-from_all (l ∷ ls) [] e h = absurd (omega arith)
IsInBox-from_all (l ∷ ls) (c ∷ cs) e h =
    let parts = and_parts (is_within_limit (l, c)) _ h in
    let ends = and_parts (leb l.low c) _ parts.0 in
    (leb-true l.low c ends.0, leb-true c l.high ends.1, IsInBox-from_all ls cs (omega arith) parts.1)

pub all-from_IsInBox : (limits : List Limit) (counts : List ℕ) → IsInBox limits counts →
    list_all is_within_limit (zip limits counts) ≡ true
all-from_IsInBox [] [] h = refl
all-from_IsInBox [] (c ∷ cs) h = absurd h
all-from_IsInBox (l ∷ ls) [] h = absurd h
all-from_IsInBox (l ∷ ls) (c ∷ cs) h =
    rw (le-leb l.low c h.0, le-leb c l.high h.1) (all-from_IsInBox ls cs h.2)

-- what is found in the box is within the limits
pub found_in_box : (limits : List Limit) (p : List ℕ → Bool) (x : List ℕ) → find p (box_of limits) ≡ Some x →
    IsInBox limits x
found_in_box limits p x found = (find_each (IsInBox limits) p (box_of limits) x (IsInBox-box limits) found).0
