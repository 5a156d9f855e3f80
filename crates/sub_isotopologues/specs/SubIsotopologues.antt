-- The subisotopologues of an element: the counts that its isotopes may have, with the bounds of their probability, in
-- their order. Bounds are in units of 10^-18.
use Rattle.std.specs.Prelude.{ℕ, Bool, ◌||◌, ◌&&◌, ◌==◌, ◌*◌, ◌∷◌, nat_lt, List, fold, All, ◌≤◌}
use Rattle.std.specs.Ordering.{is_lt, nat_cmp}
use Rattle.std.specs.Cmp.Lexicographic.{slice_cmp}
use Rattle.multinomial_bounds.specs.Bounds.{certainty, floor_of, ceiling_of}
use Rattle.multinomial_bounds.specs.Path.{bound_of}

-- counts of one element's isotopes, with the bounds of their probability
pub record SubIsotopologue : Type 0 where
  pub counts : List ℕ
  pub lo : ℕ
  pub hi : ℕ

-- the counts of an element of these weights, with their bounds
unfoldable pub sub_isotopologue_of : List ℕ → List ℕ → SubIsotopologue
sub_isotopologue_of weights counts =
    record { counts = counts; lo = bound_of floor_of weights counts; hi = bound_of ceiling_of weights counts }

-- the order of the list: by falling upper bound, ties in lexicographic order of the counts
abbrev pub stands_before : List ℕ → List ℕ → List ℕ → Bool
stands_before weights a b =
    nat_lt (bound_of ceiling_of weights b) (bound_of ceiling_of weights a)
    || ((bound_of ceiling_of weights a == bound_of ceiling_of weights b) && is_lt (slice_cmp nat_cmp a b))

-- The upper bound of a product of probabilities, each factor rounded up: it begins at what the elements before this
-- one have, and goes on with this one's and with those of the elements after it, in order.
unfoldable pub product_with : ℕ → List ℕ → ℕ → ℕ
product_with before after hi = fold (λ product bound. ceiling_of (product * bound) certainty) before (hi ∷ after)

-- a number times bounds in order, rounded up after each
unfoldable pub raised : ℕ → List ℕ → ℕ
raised p bounds = fold (λ product bound. ceiling_of (product * bound) certainty) p bounds

-- what is asked of the bounds of the other elements: that they are above 0 and at most 1
pub record AreOthers (before : ℕ) (after : List ℕ) : Type 0 where
  pub before_some : 1 ≤ before
  pub before_most : before ≤ certainty
  pub after_some : All (λ hi. 1 ≤ hi) after
  pub after_most : All (λ hi. hi ≤ certainty) after
