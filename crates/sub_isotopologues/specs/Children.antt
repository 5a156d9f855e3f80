-- Only proofs use these: the counts of an element that one move of an atom leads to from their parent, and those whose
-- upper bound is in a band. Bounds are in units of 10^-18.
use Rattle.std.specs.Prelude.{◌≡◌, ℕ, ◌≤◌, Bool, ◌&&◌, ◌==◌, not, nat_lt, nat_le, List, length, map, filter, flat_map, sum, slice_index}
use Rattle.std.specs.List.{range_with_len}
use Rattle.multinomial_bounds.specs.Weight.{one_less, one_more, IsWeights}
use Rattle.multinomial_bounds.specs.Bounds.{floor_of, ceiling_of}
use Rattle.multinomial_bounds.specs.Mode.{mode_of_atoms}
use Rattle.multinomial_bounds.specs.Path.{first_above, bound_of}
use Rattle.multinomial_bounds.specs.Compositions.{compositions}
use Rattle.sub_isotopologues.specs.SubIsotopologues.{SubIsotopologue, sub_isotopologue_of}

-- the counts where one isotope gains an atom that another one loses
abbrev pub moved : List ℕ → ℕ → ℕ → List ℕ
moved counts gain lose = one_more (one_less counts lose) gain

-- Whether an isotope can gain the atom, and whether one can lose it, where the counts are to be the parent of those
-- that the move leads to.
unfoldable pub can_gain : List ℕ → List ℕ → ℕ → Bool
can_gain mode counts gain =
    nat_le gain (first_above mode counts) && nat_le (slice_index mode gain) (slice_index counts gain)

unfoldable pub can_lose : List ℕ → List ℕ → ℕ → Bool
can_lose mode counts lose =
    nat_le lose (first_above counts mode)
    && nat_le (slice_index counts lose) (slice_index mode lose)
    && nat_lt 0 (slice_index counts lose)

abbrev pub is_child_move : List ℕ → List ℕ → ℕ → ℕ → Bool
is_child_move mode counts gain lose = can_gain mode counts gain && can_lose mode counts lose && not (gain == lose)

-- The children of counts: those where this isotope gains an atom of one of the first n, those where one of the first n
-- gains it, and all.
unfoldable pub children_gaining : List ℕ → List ℕ → ℕ → ℕ → List (List ℕ)
children_gaining mode counts gain n =
    map (moved counts gain) (filter (is_child_move mode counts gain) (range_with_len 0 n))

unfoldable pub children_first : List ℕ → List ℕ → ℕ → List (List ℕ)
children_first mode counts n =
    flat_map (λ gain. children_gaining mode counts gain (length counts)) (range_with_len 0 n)

abbrev pub children : List ℕ → List ℕ → List (List ℕ)
children mode counts = children_first mode counts (length counts)

-- of some counts those with an upper bound above the one number and at most the other, with their bounds
abbrev pub in_band : List ℕ → ℕ → ℕ → List ℕ → Bool
in_band weights above up_to counts =
    nat_lt above (bound_of ceiling_of weights counts) && nat_le (bound_of ceiling_of weights counts) up_to

unfoldable pub wanted_of : List ℕ → ℕ → ℕ → List (List ℕ) → List SubIsotopologue
wanted_of weights above up_to counts =
    map (sub_isotopologue_of weights) (filter (in_band weights above up_to) counts)

-- an upper bound is at most the one number, unless it is above the other
abbrev pub IsBoundUpTo : List ℕ → ℕ → ℕ → List ℕ → Type 0
IsBoundUpTo weights up_to bound counts =
    bound_of ceiling_of weights counts ≤ up_to → bound_of ceiling_of weights counts ≤ bound

-- all counts with an upper bound above a number, in lexicographic order
unfoldable pub counts_over : List ℕ → ℕ → ℕ → List (List ℕ)
counts_over weights atoms above =
    filter (λ counts. nat_lt above (bound_of ceiling_of weights counts)) (compositions (length weights) atoms)

-- counts of an element beside its mode, with the first places above and below it and the bounds of the counts
pub record IsNode (weights mode counts : List ℕ) (above below lo hi : ℕ) : Type 0 where
  pub weights_in_range : IsWeights weights
  pub few_atoms : sum counts ≤ 10000
  pub places : length counts ≡ length weights
  pub mode_places : length mode ≡ length counts
  pub mode_is : mode ≡ mode_of_atoms weights (sum counts)
  pub above_is : above ≡ first_above mode counts
  pub below_is : below ≡ first_above counts mode
  pub lo_is : lo ≡ bound_of floor_of weights counts
  pub hi_is : hi ≡ bound_of ceiling_of weights counts
