-- The list of an element's subisotopologues that can be part of an isotopologue above a threshold. Bounds and
-- thresholds are in units of 10^-18.
use Rattle.std.specs.Prelude.{ℕ, ◌-◌, List, length, map, filter, nat_lt}
use Rattle.std.specs.List.{range_with_len}
use Rattle.sorted_lists.specs.SortedLists.{sorted_by}
use Rattle.multinomial_bounds.specs.Bounds.{ceiling_of}
use Rattle.multinomial_bounds.specs.Path.{bound_of}
use Rattle.multinomial_bounds.specs.Isotopologue.{Element}
use Rattle.multinomial_bounds.specs.Compositions.{counts_of}
use Rattle.sub_isotopologues.specs.SubIsotopologues.{SubIsotopologue, sub_isotopologue_of, stands_before, product_with}

-- the most items of a list
abbrev pub max_sub_isotopologues : ℕ
max_sub_isotopologues = 1048576

-- What a list is of: the element, the upper bounds of the others, the threshold, and how many items of it were given.
pub record Listing : Type 0 where
  pub element : Element
  pub before : ℕ
  pub after : List ℕ
  pub threshold : ℕ
  pub given : ℕ

-- an element's listing of which nothing was given
abbrev pub listing_of : List ℕ → ℕ → ℕ → List ℕ → ℕ → Listing
listing_of weights atoms before after threshold =
    record {
      element = record { weights = weights; atoms = atoms };
      before = before;
      after = after;
      threshold = threshold;
      given = 0;
    }

-- the same listing with another threshold, or with another number of items given
abbrev pub lowered : Listing → ℕ → Listing
lowered l threshold = record l { threshold = threshold }

abbrev pub with_given : Listing → ℕ → Listing
with_given l given = record l { given = given }

-- all counts of the element whose product with the others is above the threshold, in lexicographic order
unfoldable pub counts_above : Listing → List (List ℕ)
counts_above l =
    filter (λ counts. nat_lt l.threshold (product_with l.before l.after (bound_of ceiling_of l.element.weights counts)))
    (counts_of l.element)

-- the items of the list: these counts by falling upper bound, ties in lexicographic order, with their bounds
unfoldable pub items_of : Listing → List SubIsotopologue
items_of l =
    map (sub_isotopologue_of l.element.weights) (sorted_by (stands_before l.element.weights) (counts_above l))

-- the places of the items that were not given yet
abbrev pub places_left : Listing → List ℕ
places_left l = range_with_len l.given (length (items_of l) - l.given)
