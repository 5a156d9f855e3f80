-- For proofs alone: what the threshold of a layer leaves for the first elements of a product.
use Rattle.std.specs.Prelude.{ℕ, ◌≡◌, ◌+◌, ◌<◌, ◌≤◌, ◌↔◌, List, length, drop, fold, slice_index}
use Rattle.multinomial_bounds.specs.Bounds.{certainty}
use Rattle.layered_envelope.specs.Walks.{upper}

-- the greatest product that isn't above a threshold together with the bounds of later elements
abbrev pub IsCutoff : ℕ → List ℕ → ℕ → Type 0
IsCutoff threshold later cutoff = (x : ℕ) → x ≤ certainty → (threshold < fold upper x later) ↔ (cutoff < x)

-- one for each element, over the modes of those after it
pub record AreCutoffs (threshold : ℕ) (modes cutoffs : List ℕ) : Type 0 where
  pub as_many : length cutoffs ≡ length modes
  pub at : (k : ℕ) → k < length modes → IsCutoff threshold (drop (k + 1) modes) (slice_index cutoffs k)
