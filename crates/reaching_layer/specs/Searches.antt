-- For proofs alone: how the search for a cover ends.
use Rattle.std.specs.Prelude.{ℕ, ◌≡◌, ◌+◌, ◌-◌, ◌<◌, ◌≤◌, true, false, List}
use Rattle.multinomial_bounds.specs.Isotopologue.{Element}
use Rattle.isotopologue_sets.specs.Layers.{lo_total, layer, has_too_many, ends_search, threshold_at, last_threshold_for}
use Rattle.layered_envelope.specs.Layerings.{Layering, last_threshold}
use Rattle.reaching_layer.specs.declared.fault.CoverFault.{CoverFault}
use Rattle.reaching_layer.specs.declared.fault.CoverFault.TheVariants.{TooMany, Memory}

-- The layers are at the one that was guessed: its lower bounds have this total, and it has few members. Or they are
-- before the first one.
pub record IsGuessed (elements : List Element) (layers : Layering) (total : ℕ) : Type 0 where
  pub elements_are : layers.elements ≡ elements
  pub none : layers.given ≡ 0 → total ≡ 0
  pub total_is : 0 < layers.given → total ≡ lo_total elements (layer elements (threshold_at elements (layers.given - 1)))
  pub few : 0 < layers.given → has_too_many elements (threshold_at elements (layers.given - 1)) ≡ false
  pub few_layers : layers.given ≤ 60

-- The layer given last is the reaching layer of these elements or a later one, and the reaching layer is none before the
-- first of these numbers.
pub record IsPast (elements : List Element) (coverage first : ℕ) (layers : Layering) : Type 0 where
  pub elements_are : layers.elements ≡ elements
  pub some : 1 ≤ first
  pub first_given : first ≤ layers.given
  pub few_layers : layers.given ≤ 60
  pub before : (k : ℕ) → k + 1 < first → ends_search elements coverage (threshold_at elements k) ≡ false
  pub reaches : coverage ≤ lo_total elements (layer elements (threshold_at elements (layers.given - 1)))
  pub few : has_too_many elements (threshold_at elements (layers.given - 1)) ≡ false

-- the number of the reaching layer, of so many that were given
pub record IsReachingNumber (elements : List Element) (coverage given number : ℕ) : Type 0 where
  pub some : 1 ≤ number
  pub within : number ≤ given
  pub is : last_threshold_for elements coverage ≡ threshold_at elements (number - 1)
  pub few : has_too_many elements (threshold_at elements (number - 1)) ≡ false

-- the search ends with too many members at the threshold that is told, or there is no memory
abbrev pub EndsByFault : List Element → ℕ → CoverFault → Type 0
EndsByFault elements coverage Memory = Unit {0}
EndsByFault elements coverage (TooMany threshold) =
    (threshold ≡ last_threshold_for elements coverage)
    × (has_too_many elements (last_threshold_for elements coverage) ≡ true)
