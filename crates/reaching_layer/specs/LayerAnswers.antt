-- What `reaching_layer` answers: the cover's numbers, or the layer that has too many members. Thresholds and coverages
-- are in units of 10^-18.
use Rattle.std.specs.Prelude.{ℕ, Bool, true, false, List, Result, Ok, Err, if◌then◌else◌}
use Rattle.multinomial_bounds.specs.Isotopologue.{Element}
use Rattle.isotopologue_sets.specs.Layers.{has_too_many, last_threshold_for}
use Rattle.isotopologue_sets.specs.Covers.{CoverNumbers, cover_numbers}
use Rattle.layered_envelope.specs.declared.fault.LayerFault.{LayerFault}
use Rattle.layered_envelope.specs.declared.fault.LayerFault.TheVariants as layer
use Rattle.reaching_layer.specs.declared.fault.CoverFault.{CoverFault}
use Rattle.reaching_layer.specs.declared.fault.CoverFault.TheVariants.{TooMany, Memory}

-- want of memory, which is the one free answer
abbrev pub is_memory : CoverFault → Bool
is_memory Memory = true
is_memory (TooMany threshold) = false

-- the fault of a layer, told of a cover
abbrev pub of_layer_fault : LayerFault → CoverFault
of_layer_fault (layer.TooMany threshold) = TooMany threshold
of_layer_fault layer.Memory = Memory

-- the numbers of the cover of elements for a coverage, unless a layer has too many members and none before it has the
-- coverage
abbrev pub numbers_unless_too_many : List Element → ℕ → Result CoverNumbers CoverFault
numbers_unless_too_many elements coverage =
    if has_too_many elements (last_threshold_for elements coverage)
    then Err (TooMany (last_threshold_for elements coverage))
    else Ok (cover_numbers elements coverage)
