-- The bounds of an element's counts from those of their parents.
use Rattle.std.proofs.Common.{◌≡◌, ◌≢◌, ℕ, zero, suc, ◌+◌, ◌*◌, ◌<◌, ◌≤◌, List, length, get_or, sum, sym, ◌∙◌, ap, subst, arith, true}
use Rattle.std.proofs.Math.Nat.{le_trans, mul-le-mul_right}
use Rattle.multinomial_bounds.specs.Weight.{IsWeights, IsCounts, weight_of, total_of}
use Rattle.multinomial_bounds.specs.Bounds.{floor_of, ceiling_of, IsEnclosure}
use Rattle.multinomial_bounds.specs.Mode.{mode_of_atoms, IsMode}
use Rattle.multinomial_bounds.specs.Path.{atoms_above, parent_of, bound_of}
use Rattle.multinomial_bounds.proofs.ModeLemmas.{length-mode_of_atoms, sum-mode_of_atoms, IsMode-mode_of_atoms, IsWeights-positive}
use Rattle.multinomial_bounds.proofs.EnclosureLemmas.{ceiling-bound_of-parent, IsEnclosure-counts}
use Rattle.multinomial_bounds.proofs.PathLemmas.{IsParentMove, IsParentMove-from}
use Rattle.isotopologue_list.proofs.ParentLemmas.{bound_of-parent, mode_is}
use Rattle.sub_isotopologues.specs.Children.{moved, is_child_move, IsNode}
use Rattle.sub_isotopologues.proofs.ChildMoves.{IsChildMove, IsChildMove-from, IsChildBy, IsChildBy-from}

-- the move from counts to a child of them
pub record IsMoveTo (ws x : List ℕ) (i j : ℕ) : Type 0 where
  pub apart : i ≢ j
  pub has : 1 ≤ get_or x j 0
  pub falls : get_or x j 0 * get_or ws i 0 ≤ (get_or x i 0 + 1) * get_or ws j 0
  pub bound : (round : ℕ → ℕ → ℕ) →
      bound_of round ws (moved x i j)
      ≡ round (bound_of round ws x * (get_or x j 0 * get_or ws i 0)) ((get_or x i 0 + 1) * get_or ws j 0)

pub IsMoveTo-from : (ws m x : List ℕ) (above below lo hi i j : ℕ) → IsNode ws m x above below lo hi → i < length x →
    j < length x →
    is_child_move m x i j ≡ true → IsMoveTo ws x i j
IsMoveTo-from ws m x above below lo hi i j node gain_within lose_within is =
    let move : IsChildMove m x i j = IsChildMove-from m x i j is in
    let by : IsChildBy m x i j (moved x i j) = IsChildBy-from m x i j node.mode_places gain_within move in
    let mode : IsMode ws m = rw node.mode_is (IsMode-mode_of_atoms ws node.weights_in_range.some (sum x)) in
    let y : List ℕ = moved x i j in
    let far : atoms_above m (moved x i j) ≡ suc (atoms_above m x) = by.farther ∙ omega arith in
    let alike : length m ≡ length (moved x i j) = node.mode_places ∙ sym by.places in
    let atoms : sum m ≡ sum (moved x i j) =
    ap sum node.mode_is ∙ sum-mode_of_atoms ws node.weights_in_range.some (sum x) ∙ sym by.atoms in
    let back : IsParentMove m (moved x i j) (atoms_above m x) = IsParentMove-from m (moved x i j)
    (atoms_above m x) alike atoms far in
    record {
      apart = move.apart;
      has = move.has;
      falls =
          le_trans (mul-le-mul_right (get_or ws i 0) move.lose_from)
          (le_trans (mode i j (omega (arith, node.places)) (omega (arith, node.places)))
          (mul-le-mul_right (get_or ws j 0) (omega (arith, move.gain_from))));
      bound = λ round.
          let whole : m ≡ mode_of_atoms ws (sum (moved x i j)) = node.mode_is ∙ ap (mode_of_atoms ws) (sym by.atoms) in
          rw (by.parent, by.gain, by.loss) at
          (bound_of-parent m (moved x i j) (atoms_above m x) back round ws whole far);
    }

-- counts of an element, and their parent
module _ (ws : List ℕ) (n : ℕ) (ok : IsWeights ws) where
  pub mode_counts : IsCounts ws n (mode_of_atoms ws n)
  mode_counts = record { places_agree = length-mode_of_atoms ws n; atoms_agree = sum-mode_of_atoms ws ok.some n }

  pub hi-enclosed : (y : List ℕ) → IsCounts ws n y →
      IsEnclosure (bound_of floor_of ws y) (bound_of ceiling_of ws y) (weight_of ws n y) (total_of ws n)
  hi-enclosed y is = IsEnclosure-counts ws n y ok is

  -- where no atom is above the mode, the counts are the mode
  pub nearest-is_mode : (y : List ℕ) → IsCounts ws n y → atoms_above (mode_of_atoms ws n) y ≡ 0 → y ≡ mode_of_atoms ws n
  nearest-is_mode y is none =
      mode_is (mode_of_atoms ws n) y (mode_counts.places_agree ∙ sym is.places_agree)
      (mode_counts.atoms_agree ∙ sym is.atoms_agree) none

  module _ (y : List ℕ) (d : ℕ) (is : IsCounts ws n y) (far : atoms_above (mode_of_atoms ws n) y ≡ suc d) where
    pub to_parent : IsParentMove (mode_of_atoms ws n) y d
    to_parent =
        IsParentMove-from (mode_of_atoms ws n) y d (mode_counts.places_agree ∙ sym is.places_agree)
        (mode_counts.atoms_agree ∙ sym is.atoms_agree) far

    pub parent_counts : IsCounts ws n (parent_of (mode_of_atoms ws n) y)
    parent_counts = record {
      places_agree = to_parent.places ∙ is.places_agree;
      atoms_agree = to_parent.atoms ∙ is.atoms_agree;
    }

    -- the upper bound is at most the parent's
    pub hi-le-parent : bound_of ceiling_of ws y ≤ bound_of ceiling_of ws (parent_of (mode_of_atoms ws n) y)
    hi-le-parent =
        let m_is : mode_of_atoms ws (sum y) ≡ mode_of_atoms ws n = ap (mode_of_atoms ws) is.atoms_agree in
        let away : atoms_above (mode_of_atoms ws (sum y)) y ≡ suc d = rw m_is far in
        let P : List ℕ → Type 0 = λ m. bound_of ceiling_of ws y ≤ bound_of ceiling_of ws (parent_of m y) in
        subst P m_is
        (ceiling-bound_of-parent ws y d ok.some is.places_agree away (IsWeights-positive ws ok))

  -- no counts have a greater upper bound than the mode
  pub hi-le-mode : (d : ℕ) (y : List ℕ) → IsCounts ws n y → atoms_above (mode_of_atoms ws n) y ≡ d →
      bound_of ceiling_of ws y ≤ bound_of ceiling_of ws (mode_of_atoms ws n)
  hi-le-mode zero y is none =
      let same : y ≡ mode_of_atoms ws n = nearest-is_mode y is none in rw same (omega arith)
  hi-le-mode (suc d) y is far =
      le_trans (hi-le-parent y d is far)
      (hi-le-mode d (parent_of (mode_of_atoms ws n) y) (parent_counts y d is far) (to_parent y d is far).nearer)

-- the item of a child, from its parent's bounds
pub child_item : (ws m x : List ℕ) (above below lo hi i j lo' hi' : ℕ) → IsNode ws m x above below lo hi →
    IsMoveTo ws x i j →
    lo' ≡ floor_of (lo * (get_or x j 0 * get_or ws i 0)) ((get_or x i 0 + 1) * get_or ws j 0) →
    hi' ≡ ceiling_of (hi * (get_or x j 0 * get_or ws i 0)) ((get_or x i 0 + 1) * get_or ws j 0) →
    (lo' ≡ bound_of floor_of ws (moved x i j)) × (hi' ≡ bound_of ceiling_of ws (moved x i j))
child_item ws m x above below lo hi i j lo' hi' node move low high = (
  low ∙ ap (λ (b : ℕ). floor_of (b * (get_or x j 0 * get_or ws i 0)) ((get_or x i 0 + 1) * get_or ws j 0)) node.lo_is
      ∙ sym (move.bound floor_of),
  high ∙ ap (λ (b : ℕ). ceiling_of (b * (get_or x j 0 * get_or ws i 0)) ((get_or x i 0 + 1) * get_or ws j 0)) node.hi_is
      ∙ sym (move.bound ceiling_of),
)
