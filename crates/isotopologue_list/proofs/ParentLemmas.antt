-- The bound of counts from that of their parent, and the first place and the atoms above.
use Rattle.std.proofs.Common.{◌≡◌, ◌≢◌, ℕ, suc, ◌+◌, ◌-◌, ◌*◌, ◌<◌, ◌≤◌, List, length, get_or, sum, refl, sym, ◌∙◌, ap}
use Rattle.std.proofs.Common.{arith, ⊎_elim, not, ltb, get_or-set_same, get_or-set_other}
use Rattle.std.specs.List.{sum_by, range_with_len}
use Rattle.std.proofs.lemmas.Bool.{cases_lt}
use Rattle.std.proofs.lemmas.List.FromFn.{length-range_with_len}
use Rattle.std.proofs.lemmas.List.Sums.{sum_by_push, prefix_len-le-length}
use Rattle.multinomial_bounds.specs.Weight.{places, one_less, IsWeights, IsCounts}
use Rattle.multinomial_bounds.specs.Bounds.{floor_of, ceiling_of}
use Rattle.multinomial_bounds.specs.Mode.{mode_of_atoms, mode_bound, IsMode}
use Rattle.multinomial_bounds.specs.Path.{first_above, atoms_above, parent_of, bound_of}
use Rattle.multinomial_bounds.proofs.WeightLemmas.{moved_to}
use Rattle.multinomial_bounds.proofs.ModeLemmas.{length-mode_of_atoms, IsMode-mode_of_atoms}
use Rattle.multinomial_bounds.proofs.PathLemmas.{IsParentMove, IsParentMove-from, IsParentMove-falls, bound_at-suc}
use Rattle.multinomial_bounds.proofs.PathLemmas.{bound_at-mode, first_above-above, atoms_above-zero, same_counts}
use Rattle.isotopologue_list.specs.ListedParts.{ends_of_counts}
use Rattle.isotopologue_list.proofs.FlatLemmas.{range_push}

first_above-most : (a b : List ℕ) → first_above a b ≤ length b
unfolding first_above
first_above-most a b =
    omega (
      arith,
      prefix_len-le-length (λ k. not (ltb (get_or a k 0) (get_or b k 0))) (places b),
      length-range_with_len 0 (length b),
    )

-- no place is above
pub first_above-nowhere : (a b : List ℕ) → ((k : ℕ) → k < length b → get_or b k 0 ≤ get_or a k 0) → first_above a b ≡ length b
first_above-nowhere a b none =
    ⊎_elim
    (λ (h : first_above a b < length b).
    let here : get_or b (first_above a b) 0 ≤ get_or a (first_above a b) 0 = none (first_above a b) h in
    absurd (omega (arith, first_above-above a b h)))
    (λ (h : length b ≤ first_above a b). omega (arith, first_above-most a b))
    (cases_lt (first_above a b) (length b))

-- the atoms above at the first places
pub above_first : List ℕ → List ℕ → ℕ → ℕ
above_first a b n = sum_by (λ k. get_or b k 0 - get_or a k 0) (range_with_len 0 n)

pub above_first-none : (a b : List ℕ) → above_first a b 0 ≡ 0
unfolding above_first
above_first-none a b = omega arith

pub above_first-more : (a b : List ℕ) (n : ℕ) → above_first a b (n + 1) ≡ above_first a b n + (get_or b n 0 - get_or a n 0)
unfolding above_first
above_first-more a b n =
    ap (sum_by (λ k. get_or b k 0 - get_or a k 0)) (range_push 0 n)
    ∙ sum_by_push (λ k. get_or b k 0 - get_or a k 0) (range_with_len 0 n) (0 + n)
    ∙ (let e : 0 + n ≡ n = omega arith in rw e)

pub above_first-all : (a b : List ℕ) → above_first a b (length b) ≡ atoms_above a b
unfolding above_first atoms_above
above_first-all a b = refl

-- the bounds of the mode
pub bound_of-mode : (round : ℕ → ℕ → ℕ) (ws m : List ℕ) → m ≡ mode_of_atoms ws (sum m) →
    bound_of round ws m ≡ mode_bound round ws (sum m)
unfolding bound_of
bound_of-mode round ws m is = rw (← is) (bound_at-mode round ws m (mode_bound round ws (sum m)))

-- counts of as many atoms with none above the mode are the mode
pub mode_is : (m x : List ℕ) → length m ≡ length x → sum m ≡ sum x → atoms_above m x ≡ 0 → x ≡ m
mode_is m x same atoms none = same_counts x m (sym same) (sym atoms) (atoms_above-zero m x none)

-- the move from the parent of counts x to them
module _ (m x : List ℕ) (d : ℕ) (move : IsParentMove m x d) where
  pub parent-below : get_or (parent_of m x) (first_above x m) 0 ≡ get_or x (first_above x m) 0 + 1
  unfolding parent_of
  parent-below = moved_to x (first_above m x) (first_above x m) move.apart move.below_within

  pub parent-above : get_or (parent_of m x) (first_above m x) 0 + 1 ≡ get_or x (first_above m x) 0
  unfolding parent_of
  parent-above =
      omega (
        arith,
        move.above,
        get_or-set_other (one_less x (first_above m x)) (first_above x m) (first_above m x)
            (get_or (one_less x (first_above m x)) (first_above x m) 0 + 1) 0 move.apart,
        get_or-set_same x (first_above m x) (get_or x (first_above m x) 0 - 1) 0 move.above_within,
      )

  pub bound_of-parent : (round : ℕ → ℕ → ℕ) (ws : List ℕ) → m ≡ mode_of_atoms ws (sum x) → atoms_above m x ≡ suc d →
      bound_of round ws x
      ≡ round
      (bound_of round ws (parent_of m x) * (get_or (parent_of m x) (first_above x m) 0 * get_or ws (first_above m x) 0))
      ((get_or (parent_of m x) (first_above m x) 0 + 1) * get_or ws (first_above x m) 0)
  unfolding bound_of
  bound_of-parent round ws is some =
      rw (parent-below, parent-above, move.atoms, ← is, move.nearer, some)
      (bound_at-suc round ws m (mode_bound round ws (sum x)) d x)

-- counts that have atoms above the mode m have a parent
pub parent_move : (m x : List ℕ) → length m ≡ length x → sum m ≡ sum x → 1 ≤ atoms_above m x →
    IsParentMove m x (atoms_above m x - 1)
parent_move m x same atoms some = IsParentMove-from m x (atoms_above m x - 1) same atoms (omega arith)

-- the move down from the parent p to counts x
pub record IsMoveDown (ws m x p : List ℕ) (from to : ℕ) : Type 0 where
  pub places : length p ≡ length ws
  pub atoms : sum p ≡ sum m
  pub from_within : from < length ws
  pub to_within : to < length ws
  pub apart : from ≢ to
  pub has_atom : 1 ≤ get_or p from 0
  pub falls : get_or p from 0 * get_or ws to 0 ≤ (get_or p to 0 + 1) * get_or ws from 0
  pub nearer : atoms_above m p < atoms_above m x
  pub bound : (round : ℕ → ℕ → ℕ) →
      bound_of round ws x ≡ round (bound_of round ws p * (get_or p from 0 * get_or ws to 0)) ((get_or p to 0 + 1) * get_or ws from 0)

pub IsMoveDown-from : (ws m x p : List ℕ) (from to : ℕ) → IsWeights ws → m ≡ mode_of_atoms ws (sum m) → IsCounts ws (sum m) x →
    1 ≤ atoms_above m x → p ≡ parent_of m x → from ≡ first_above x m → to ≡ first_above m x → IsMoveDown ws m x p from to
IsMoveDown-from ws m x p from to weights mode counts some parent below above =
    let same : length m ≡ length x =
    ap length mode ∙ length-mode_of_atoms ws (sum m) ∙ sym counts.places_agree in
    let move : IsParentMove m x (atoms_above m x - 1) = parent_move m x same (sym counts.atoms_agree) some in
    let is_mode : IsMode ws m = rw mode (IsMode-mode_of_atoms ws weights.some (sum m)) in
    rw (parent, below, above) (record {
      places = move.places ∙ counts.places_agree;
      atoms = move.atoms ∙ counts.atoms_agree;
      from_within = omega (arith, move.below_within, counts.places_agree);
      to_within = omega (arith, move.above_within, counts.places_agree);
      apart = λ e. move.apart (sym e);
      has_atom = omega (arith, parent-below m x (atoms_above m x - 1) move);
      falls = rw (parent-below m x (atoms_above m x - 1) move, parent-above m x (atoms_above m x - 1) move)
          (IsParentMove-falls ws m x (atoms_above m x - 1) counts.places_agree is_mode move);
      nearer = omega (arith, move.nearer);
      bound = λ round.
          bound_of-parent m x (atoms_above m x - 1) move round ws
          (mode ∙ ap (mode_of_atoms ws) (sym counts.atoms_agree)) (omega arith);
    })

-- the bounds of counts that no move leads to from the mode
pub ends_of_mode : (ws m x : List ℕ) (n lo hi : ℕ) → IsCounts ws n m → m ≡ mode_of_atoms ws n →
    lo ≡ mode_bound floor_of ws n → hi ≡ mode_bound ceiling_of ws n → IsCounts ws n x → atoms_above m x ≡ 0 →
    (lo, hi) ≡ ends_of_counts ws x
ends_of_mode ws m x n lo hi mode value low high counts none =
    let same : x ≡ m =
    mode_is m x (mode.places_agree ∙ sym counts.places_agree) (mode.atoms_agree ∙ sym counts.atoms_agree) none in
    let whole : m ≡ mode_of_atoms ws (sum m) = value ∙ ap (mode_of_atoms ws) (sym mode.atoms_agree) in
    rw (same, bound_of-mode floor_of ws m whole, bound_of-mode ceiling_of ws m whole, mode.atoms_agree, low, high)
