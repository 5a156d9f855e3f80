-- The moves to children are the moves to parents taken back.
use Rattle.std.proofs.Common.{◌≡◌, ◌≢◌, ℕ, suc, ◌+◌, ◌-◌, ◌<◌, ◌≤◌, List, length, get_or, set, take, sum, sym, ◌∙◌, ap}
use Rattle.std.proofs.Common.{arith, ⊎_elim, true, eqb, ltb, get_or-set_other, get_or-set_same, length-set}
use Rattle.std.proofs.lemmas.Bool.{and_parts, and_from, cases_lt, cases_eq, leb-true, le-leb, ltb-true, ltb-false}
use Rattle.std.proofs.lemmas.Bool.{lt-ltb, eqb-false, ne_eqb, not-true, not_from_false}
use Rattle.std.proofs.lemmas.List.{get_or_past, get_or-take}
use Rattle.std.proofs.Math.Seq.{take-set-lt}
use Rattle.multinomial_bounds.specs.Weight.{one_less, one_more}
use Rattle.multinomial_bounds.specs.Path.{first_above, atoms_above, parent_of}
use Rattle.multinomial_bounds.proofs.PlaceLemmas.{first_place_fails}
use Rattle.multinomial_bounds.proofs.WeightLemmas.{moved_to, one_less-one_more, in_list}
use Rattle.multinomial_bounds.proofs.PathLemmas.{first_above_is, first_above-above, length-moved, sum-moved}
use Rattle.multinomial_bounds.proofs.PathLemmas.{one_more-one_less, atoms_above-moved, IsParentMove, IsParentMove-from}
use Rattle.isotopologue_list.proofs.ParentLemmas.{parent-above, parent-below}
use Rattle.sub_isotopologues.specs.Children.{moved, can_gain, can_lose, is_child_move}

-- before the first place above, none is above
pub first_above-before : (a b : List ℕ) (k : ℕ) → k < first_above a b → get_or b k 0 ≤ get_or a k 0
unfolding first_above
first_above-before a b k before =
    ⊎_elim
    (λ (h : k < length b).
    ltb-false _ _ (first_place_fails (λ k. ltb (get_or a k 0) (get_or b k 0)) (length b) k h before))
    (λ (h : length b ≤ k). omega (arith, get_or_past b k 0 h))
    (cases_lt k (length b))

-- the first place above is at least one before which none is above
pub first_above-from : (a b : List ℕ) (i : ℕ) → i < length b → ((k : ℕ) → k < i → get_or b k 0 ≤ get_or a k 0) →
    i ≤ first_above a b
first_above-from a b i within none =
    ⊎_elim
    (λ (h : first_above a b < i).
    let le : get_or b (first_above a b) 0 ≤ get_or a (first_above a b) 0 = none (first_above a b) h in
    absurd (omega (arith, first_above-above a b (omega arith))))
    (λ (h : i ≤ first_above a b). h)
    (cases_lt (first_above a b) i)

-- what a move to a child asks
pub record IsChildMove (m x : List ℕ) (i j : ℕ) : Type 0 where
  pub gain_first : i ≤ first_above m x
  pub gain_from : get_or m i 0 ≤ get_or x i 0
  pub lose_first : j ≤ first_above x m
  pub lose_from : get_or x j 0 ≤ get_or m j 0
  pub has : 1 ≤ get_or x j 0
  pub apart : i ≢ j

pub IsChildMove-from : (m x : List ℕ) (i j : ℕ) → is_child_move m x i j ≡ true → IsChildMove m x i j
unfolding can_gain can_lose
IsChildMove-from m x i j test =
    let both = and_parts _ _ test in
    let ends = and_parts _ _ both.0 in
    let gains = and_parts _ _ ends.0 in
    let loses = and_parts _ _ ends.1 in
    let first = and_parts _ _ loses.0 in
    let has : 0 < get_or x j 0 = ltb-true 0 (get_or x j 0) loses.1 in
    record {
      gain_first = leb-true i (first_above m x) gains.0;
      gain_from = leb-true (get_or m i 0) (get_or x i 0) gains.1;
      lose_first = leb-true j (first_above x m) first.0;
      lose_from = leb-true (get_or x j 0) (get_or m j 0) first.1;
      has = omega arith;
      apart = eqb-false i j (not-true (eqb i j) both.1);
    }

pub is_child_move-from : (m x : List ℕ) (i j : ℕ) → IsChildMove m x i j → is_child_move m x i j ≡ true
unfolding can_gain can_lose
is_child_move-from m x i j move =
    and_from _ _
    (and_from _ _
    (and_from _ _ (le-leb _ _ move.gain_first) (le-leb _ _ move.gain_from))
    (and_from _ _
    (and_from _ _ (le-leb _ _ move.lose_first) (le-leb _ _ move.lose_from))
    (lt-ltb 0 (get_or x j 0) (omega (arith, move.has)))))
    (not_from_false (eqb i j) (ne_eqb i j move.apart))

-- what a move leaves
pub moved-other : (x : List ℕ) (i j k : ℕ) → (k ≡ i → ⊥) → (k ≡ j → ⊥) → get_or (moved x i j) k 0 ≡ get_or x k 0
moved-other x i j k not_gain not_loss =
    get_or-set_other (one_less x j) i k (get_or (one_less x j) i 0 + 1) 0 not_gain
    ∙ get_or-set_other x j k (get_or x j 0 - 1) 0 not_loss

pub moved-gain : (x : List ℕ) (i j : ℕ) → i ≢ j → i < length x → get_or (moved x i j) i 0 ≡ get_or x i 0 + 1
moved-gain x i j apart within = moved_to x j i (λ e. apart (sym e)) within

pub moved-loss : (x : List ℕ) (i j : ℕ) → i ≢ j → 1 ≤ get_or x j 0 → get_or (moved x i j) j 0 + 1 ≡ get_or x j 0
moved-loss x i j apart has =
    let there : get_or (one_less x j) j 0 + 1 ≡ get_or x j 0 =
    omega (arith, one_less-there x j has) in
    omega (arith, get_or-set_other (one_less x j) i j (get_or (one_less x j) i 0 + 1) 0 (λ e. apart (sym e)))
  where
    one_less-there : (x : List ℕ) (j : ℕ) → 1 ≤ get_or x j 0 → get_or (one_less x j) j 0 ≡ get_or x j 0 - 1
    one_less-there x j has = get_or-set_same x j (get_or x j 0 - 1) 0 (in_list x j has)

-- a child of the counts x, and the move to it
pub record IsChildBy (m x : List ℕ) (i j : ℕ) (y : List ℕ) : Type 0 where
  pub places : length y ≡ length x
  pub atoms : sum y ≡ sum x
  pub parent : parent_of m y ≡ x
  pub farther : atoms_above m y ≡ atoms_above m x + 1
  pub gain : first_above m y ≡ i
  pub loss : first_above y m ≡ j

pub IsChildBy-from : (m x : List ℕ) (i j : ℕ) → length m ≡ length x → i < length x → IsChildMove m x i j →
    IsChildBy m x i j (moved x i j)
unfolding parent_of
IsChildBy-from m x i j same within move =
    let y : List ℕ = moved x i j in
    let up : get_or (moved x i j) i 0 ≡ get_or x i 0 + 1 = moved-gain x i j move.apart within in
    let down : get_or (moved x i j) j 0 + 1 ≡ get_or x j 0 = moved-loss x i j move.apart move.has in
    let above : get_or m i 0 < get_or (moved x i j) i 0 = omega (arith, move.gain_from) in
    let below : get_or (moved x i j) j 0 < get_or m j 0 = omega (arith, move.lose_from) in
    let gain : first_above m (moved x i j) ≡ i = first_above_is m (moved x i j) i above
    (λ k before.
    ⊎_elim
    (λ (e : k ≡ j). rw e (omega arith))
    (λ (ne : k ≡ j → ⊥).
    omega (
      arith,
      moved-other x i j k (λ e. omega arith) ne,
      first_above-before m x k (omega (arith, move.gain_first)),
    ))
    (cases_eq k j)) in
    let loss : first_above (moved x i j) m ≡ j = first_above_is (moved x i j) m j below
    (λ k before.
    ⊎_elim
    (λ (e : k ≡ i). rw e (omega arith))
    (λ (ne : k ≡ i → ⊥).
    omega (
      arith,
      moved-other x i j k ne (λ e. omega arith),
      first_above-before x m k (omega (arith, move.lose_first)),
    ))
    (cases_eq k i)) in
    let inside : i < length (one_less x j) = rw length-set within in
    let back : one_more (one_less (moved x i j) i) j ≡ x =
    ap (λ z. one_more z j) (one_less-one_more (one_less x j) i inside) ∙ one_more-one_less x j move.has in
    let place : j < length (moved x i j) = rw (length-moved x j i) (in_list x j move.has) in
    let nearer : atoms_above m (one_more (one_less (moved x i j) i) j) + 1 ≡ atoms_above m (moved x i j) =
    atoms_above-moved m (moved x i j) i j above below place in
    record {
      places = length-moved x j i;
      atoms = sum-moved x j i move.has within;
      parent = rw (gain, loss) back;
      farther = sym (rw back at nearer);
      gain = gain;
      loss = loss;
    }

-- counts that aren't the mode are a child of their parent
module _ (m y : List ℕ) (d : ℕ) (same : length m ≡ length y) (atoms : sum m ≡ sum y)
    (far : atoms_above m y ≡ suc d) where
  to_parent : IsParentMove m y d
  to_parent = IsParentMove-from m y d same atoms far

  parent-other : (k : ℕ) → (k ≡ first_above m y → ⊥) → (k ≡ first_above y m → ⊥) →
      get_or (parent_of m y) k 0 ≡ get_or y k 0
  unfolding parent_of
  parent-other k not_gain not_loss = moved-other y (first_above y m) (first_above m y) k not_loss not_gain

  pub IsChildMove-back : IsChildMove m (parent_of m y) (first_above m y) (first_above y m)
  IsChildMove-back =
      let i : ℕ = first_above m y in
      let j : ℕ = first_above y m in
      let down : get_or (parent_of m y) (first_above m y) 0 + 1 ≡ get_or y
      (first_above m y) 0 = parent-above m y d to_parent in
      let up : get_or (parent_of m y) (first_above y m) 0 ≡ get_or y
      (first_above y m) 0 + 1 = parent-below m y d to_parent in
      record {
        gain_first = first_above-from m (parent_of m y) (first_above m y)
            (omega (arith, to_parent.above_within, to_parent.places))
            (λ k before.
            ⊎_elim
            (λ (e : k ≡ first_above y m). rw e (omega (arith, to_parent.below)))
            (λ (ne : k ≡ first_above y m → ⊥).
            omega (arith, parent-other k (λ e. omega arith) ne, first_above-before m y k before))
            (cases_eq k (first_above y m)));
        gain_from = omega (arith, to_parent.above);
        lose_first = first_above-from (parent_of m y) m (first_above y m)
            (omega (arith, to_parent.below_within))
            (λ k before.
            ⊎_elim
            (λ (e : k ≡ first_above m y). rw e (omega (arith, to_parent.above)))
            (λ (ne : k ≡ first_above m y → ⊥).
            omega (arith, parent-other k ne (λ e. omega arith), first_above-before y m k before))
            (cases_eq k (first_above m y)));
        lose_from = omega (arith, to_parent.below);
        has = omega arith;
        apart = to_parent.apart;
      }

  pub moved-back : moved (parent_of m y) (first_above m y) (first_above y m) ≡ y
  unfolding parent_of
  moved-back =
      let inside : first_above y m < length (one_less y (first_above m y)) = rw length-set to_parent.below_within in
      ap (λ z. one_more z (first_above m y)) (one_less-one_more (one_less y (first_above m y)) (first_above y m) inside)
      ∙ one_more-one_less y (first_above m y) (omega (arith, to_parent.above))

-- a move among the first items of a list
pub take-moved : (xs whole : List ℕ) (n i j : ℕ) → take n whole ≡ xs → i < n → j < n →
    take n (set (set whole j (get_or whole j 0 - 1)) i (get_or (set whole j (get_or whole j 0 - 1)) i 0 + 1)) ≡ moved xs
    i j
take-moved xs whole n i j front gain_within lose_within =
    let less : List ℕ = set whole j (get_or whole j 0 - 1) in
    let there : get_or xs j 0 ≡ get_or whole j 0 = ap (λ zs. get_or zs j 0) (sym front)
    ∙ get_or-take n whole j 0 lose_within in
    let fewer : take n (set whole j (get_or whole j 0 - 1)) ≡ one_less xs j =
    take-set-lt n whole j (get_or whole j 0 - 1) lose_within
    ∙ ap (λ zs. set zs j (get_or whole j 0 - 1)) front
    ∙ ap (λ (v : ℕ). set xs j (v - 1)) (sym there) in
    let here : get_or (one_less xs j) i 0 ≡ get_or (set whole j (get_or whole j 0 - 1)) i 0 =
    ap (λ zs. get_or zs i 0) (sym fewer) ∙ get_or-take n (set whole j (get_or whole j 0 - 1)) i 0 gain_within in
    take-set-lt n (set whole j (get_or whole j 0 - 1)) i
    (get_or (set whole j (get_or whole j 0 - 1)) i 0 + 1) gain_within
    ∙ ap (λ zs. set zs i (get_or (set whole j (get_or whole j 0 - 1)) i 0 + 1)) fewer
    ∙ ap (λ (v : ℕ). set (one_less xs j) i (v + 1)) (sym here)
