-- Only proofs use these: what a lower threshold adds to a list. Bounds are in units of 10^-18.
use Rattle.std.specs.Prelude.{◌≡◌, ◌≢◌, ◌<◌, ◌≤◌, ◌↔◌, ℕ, Bool, List, [], length, map, take, All, AllPairs}
use Rattle.std.specs.Prelude.{slice_index, slice_index_or}
use Rattle.std.specs.Ordering.{is_lt, nat_cmp, ordering_then}
use Rattle.std.specs.declared.cmp.Ordering.{Ordering}
use Rattle.std.specs.Cmp.Lexicographic.{slice_cmp}
use Rattle.std.specs.List.Sorted.{IsPermutation}
use Rattle.sorted_lists.specs.SortedLists.{sorted_by}
use Rattle.sub_isotopologues.specs.SubIsotopologues.{SubIsotopologue, sub_isotopologue_of, stands_before}
use Rattle.sub_isotopologues.specs.SubIsotopologues.{product_with, AreOthers}
use Rattle.multinomial_bounds.specs.Weight.{IsWeights}
use Rattle.multinomial_bounds.specs.Bounds.{certainty}
use Rattle.multinomial_bounds.specs.Mode.{mode_of_atoms}
use Rattle.multinomial_bounds.specs.Isotopologue.{Element}
use Rattle.sub_isotopologues.specs.Children.{counts_over, children, IsBoundUpTo}
use Rattle.sub_isotopologues.specs.Listings.{Listing, items_of, max_sub_isotopologues}

-- the order of items: by falling upper bound, ties in lexicographic order of the counts
abbrev pub item_cmp : SubIsotopologue → SubIsotopologue → Ordering
item_cmp a b = ordering_then (nat_cmp b.hi a.hi) (slice_cmp nat_cmp a.counts b.counts)

abbrev pub item_stands_before : SubIsotopologue → SubIsotopologue → Bool
item_stands_before a b = is_lt (item_cmp a b)

-- items that are all counts of an element with an upper bound above a number, each once and with its bounds
pub record AreItemsOver (weights : List ℕ) (atoms above : ℕ) (items : List SubIsotopologue) : Type 0 where
  pub values : items ≡ map (sub_isotopologue_of weights) (map (λ i. i.counts) items)
  pub same_counts : IsPermutation (counts_over weights atoms above) (map (λ i. i.counts) items)
  pub distinct : AllPairs (λ a b. a ≢ b) (map (λ i. i.counts) items)

-- the same items in their order
unfoldable pub items_over : List ℕ → ℕ → ℕ → List SubIsotopologue
items_over weights atoms above =
    map (sub_isotopologue_of weights) (sorted_by (stands_before weights) (counts_over weights atoms above))

-- For the first items a number each that bounds the upper bounds of their children but for those above `up_to`, which
-- are items themselves.
pub record AreSearched (weights mode : List ℕ) (up_to : ℕ) (items : List SubIsotopologue) (unlisted : List ℕ) :
    Type 0 where
  pub few : length unlisted ≤ length items
  pub bounds : (k : ℕ) → k < length unlisted →
      All (λ y. IsBoundUpTo weights up_to (slice_index unlisted k) y)
      (children mode (slice_index_or (map (λ i. i.counts) items) k []))

-- the items of an element that are grown: all with an upper bound above a number
pub record Grown : Type 0 where
  pub element : Element
  pub above : ℕ

abbrev pub grown_items : Grown → List SubIsotopologue
grown_items g = items_over g.element.weights g.element.atoms g.above

-- What is kept of them: the element's mode, the items, and numbers that bound those of their children that are no items.
pub record AreGrown (g : Grown) (mode : SubIsotopologue) (kept : List SubIsotopologue) (unlisted : List ℕ) :
    Type 0 where
  pub weights : IsWeights g.element.weights
  pub few_atoms : g.element.atoms ≤ 10000
  pub few : length kept ≤ max_sub_isotopologues
  pub mode_is : mode ≡ sub_isotopologue_of g.element.weights (mode_of_atoms g.element.weights g.element.atoms)
  pub items_are : kept ≡ grown_items g
  pub searched : AreSearched g.element.weights mode.counts g.above kept unlisted

-- What a list keeps: how many of the grown items are its items. They are those above one number, which stands for the
-- threshold of the products.
pub record IsListed (l : Listing) (g : Grown) (listed : ℕ) : Type 0 where
  pub weights : IsWeights l.element.weights
  pub cut : ℕ
  pub cuts : (hi : ℕ) → hi ≤ certainty → (l.threshold < product_with l.before l.after hi) ↔ (cut < hi)
  pub others : AreOthers l.before l.after
  pub at_most_one : l.threshold ≤ certainty
  pub given : l.given ≤ listed
  pub within : listed ≤ length (grown_items g)
  pub items_are : take listed (grown_items g) ≡ items_of l
