-- The cover of a list of elements for a wanted coverage: the isotopologues of the reaching layer by falling lower
-- bound, as few as have the coverage, with the bound that no smaller set beats. Bounds of probabilities, thresholds
-- and coverages are in units of 10^-18.
use Rattle.std.specs.Prelude.{◌≡◌, ℕ, ◌+◌, ◌*◌, ◌<◌, ◌≤◌, Bool, ◌||◌, ◌&&◌, ◌==◌, nat_lt, nat_le, List, length, map, sum, take, All}
use Rattle.std.specs.List.{position_or_len, range_with_len}
use Rattle.std.specs.List.Sorted.{IsSortedBy}
use Rattle.std.specs.Ordering.{is_lt, nat_cmp}
use Rattle.std.specs.Cmp.Lexicographic.{slice_cmp}
use Rattle.sorted_lists.specs.SortedLists.{sorted_by}
use Rattle.multinomial_bounds.specs.Isotopologue.{Element, all_atoms}
use Rattle.isotopologue_sets.specs.Layers.{lo_of, hi_of, lo_total, layer, reaching_threshold}
use Rattle.isotopologue_sets.specs.Coverage.{Reaches, ReachesButFor, Bound}

-- an isotopologue with the bounds of its probability
pub record Member : Type 0 where
  pub counts : List (List ℕ)
  pub lo : ℕ
  pub hi : ℕ

abbrev pub member_of : List Element → List (List ℕ) → Member
member_of elements counts = record { counts = counts; lo = lo_of elements counts; hi = hi_of elements counts }

-- the cover's order: by falling lower bound, ties in lexicographic order of the counts
abbrev pub stands_before : List Element → List (List ℕ) → List (List ℕ) → Bool
stands_before elements a b =
    nat_lt (lo_of elements b) (lo_of elements a)
    || ((lo_of elements a == lo_of elements b) && is_lt (slice_cmp (slice_cmp nat_cmp) a b))

-- the least number whose total is at least the coverage, and `all` where no smaller number has it
abbrev pub fewest : (ℕ → ℕ) → ℕ → ℕ → ℕ
fewest total coverage all = position_or_len (λ n. nat_le coverage (total n)) (range_with_len 0 all)

-- the members of a layer in the cover's order
unfoldable pub ordered_layer : List Element → ℕ → List (List (List ℕ))
ordered_layer elements threshold = sorted_by (stands_before elements) (layer elements threshold)

-- how many of them, from the first one on, have lower bounds that total at least the coverage
unfoldable pub size_for : List Element → ℕ → List (List (List ℕ)) → ℕ
size_for elements coverage members = fewest (λ n. lo_total elements (take n members)) coverage (length members)

-- how many of the greatest upper bounds total at least the coverage
unfoldable pub bound_for : List Element → ℕ → List (List (List ℕ)) → ℕ
bound_for elements coverage members =
    let greatest = sorted_by (λ a b. nat_lt b a) (map (hi_of elements) members) in
    fewest (λ n. sum (take n greatest)) coverage (length members)

-- a cover: the threshold of its layer, its size and bound, and all members of the layer in the cover's order, of
-- which the first `size` are the cover
pub record CoverNumbers : Type 0 where
  pub threshold : ℕ
  pub size : ℕ
  pub bound : ℕ
  pub members : List Member

-- the cover of elements for a coverage
unfoldable pub cover_numbers : List Element → ℕ → CoverNumbers
cover_numbers elements coverage =
    let threshold = reaching_threshold elements coverage in
    let members = ordered_layer elements threshold in
    record {
      threshold = threshold;
      size = size_for elements coverage members;
      bound = bound_for elements coverage members;
      members = map (member_of elements) members;
    }

-- the counts of the first n members
abbrev pub first_counts : ℕ → List Member → List (List (List ℕ))
first_counts n members = map (λ m. m.counts) (take n members)

-- What a cover claims. The members have the bounds of their counts and stand in the cover's order. The first `size`
-- of them reach the coverage in exact weights, and fewer of them don't have it by their lower bounds; no set with
-- fewer than `bound` members reaches it; and the first `bound` members reach it but for at most bound * (2N + q)
-- parts in 10^18, where N is the number of atoms and q that of elements.
pub record IsCover (elements : List Element) (coverage size bound : ℕ) (members : List Member) : Type 0 where
  pub bounds_are : All (λ m. (m.lo ≡ lo_of elements m.counts) × (m.hi ≡ hi_of elements m.counts)) members
  pub in_order : IsSortedBy (stands_before elements) (map (λ m. m.counts) members)
  pub within : size ≤ length members
  pub reached : Reaches elements (first_counts size members) coverage
  pub no_shorter : (n : ℕ) → n < size → lo_total elements (first_counts n members) < coverage
  pub least : Bound elements bound coverage
  pub bound_from : 1 ≤ bound
  pub bound_to : bound ≤ size
  pub gap :
      ReachesButFor elements (first_counts bound members) coverage (bound * (2 * all_atoms elements + length elements))
