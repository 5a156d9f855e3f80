-- Layers one after another, and what they tell. Bounds and thresholds are in units of 10^-18.
use Rattle.std.specs.Prelude.{ℕ, ◌+◌, ◌-◌, ◌*◌, Bool, true, false, ◌&&◌, ◌==◌, nat_lt, List, length, sum_by, Option, Some, None, Result, Ok, Err, if◌then◌else◌}
use Rattle.multinomial_bounds.specs.Isotopologue.{Element}
use Rattle.isotopologue_sets.specs.Layers.{hi_of, lo_total, layer, threshold_at}
use Rattle.layered_envelope.specs.declared.fault.LayerFault.{LayerFault}
use Rattle.layered_envelope.specs.declared.fault.LayerFault.TheVariants.{TooMany, Memory}
use Rattle.layered_envelope.specs.declared.layer_end.LayerEnd.{LayerEnd}
use Rattle.layered_envelope.specs.declared.layer_end.TheConstants.{MAX_MEMBERS}
use Rattle.layered_envelope.specs.PlacedLayers.{layer_places}

-- the layers of some elements, of which so many were given
pub record Layering : Type 0 where
  pub elements : List Element
  pub given : ℕ

-- the threshold of the layer given last, and of the next one
abbrev pub last_threshold : Layering → ℕ
last_threshold l = threshold_at l.elements (l.given - 1)

abbrev pub next_threshold : Layering → ℕ
next_threshold l = threshold_at l.elements l.given

-- whether the layer of threshold 0 was given, which is the last
abbrev pub are_all_given : Layering → Bool
are_all_given l = nat_lt 0 l.given && (last_threshold l == 0)

-- what the layer of a threshold has: how many members, and what their lower and their upper bounds total
abbrev pub layer_end : List Element → ℕ → LayerEnd
layer_end elements threshold =
    record {
      threshold = threshold;
      members = length (layer elements threshold);
      lo_total = lo_total elements (layer elements threshold);
      hi_total = sum_by (hi_of elements) (layer elements threshold);
    }

-- the next layer, unless it has too many members
abbrev pub end_within_limit : List Element → ℕ → Result LayerEnd LayerFault
end_within_limit elements threshold =
    if nat_lt MAX_MEMBERS (length (layer elements threshold))
    then Err (TooMany threshold)
    else Ok (layer_end elements threshold)

-- the same of layers: none after the last
abbrev pub some_end : Result LayerEnd LayerFault → Result (Option LayerEnd) LayerFault
some_end (Ok end) = Ok (Some end)
some_end (Err fault) = Err fault

abbrev pub next_end : Layering → Result (Option LayerEnd) LayerFault
next_end l = if are_all_given l then Ok None else some_end (end_within_limit l.elements (next_threshold l))

-- want of memory, which is the one free answer
abbrev pub is_memory : LayerFault → Bool
is_memory Memory = true
is_memory (TooMany threshold) = false

-- the layers after an answer: one more was given, or none
abbrev pub with_next : Layering → Option LayerEnd → Layering
with_next l None = l
with_next l (Some end) = record l { given = l.given + 1 }

-- How many steps a layer of so many members takes at most, of so many elements: one step is one test of a partial
-- choice, which is at most one product for each element.
abbrev pub most_steps : ℕ → ℕ → ℕ
most_steps elements members = if elements == 0 then 1 else 2 * elements * (members + 1)

abbrev pub most_end_steps : ℕ → Result (Option LayerEnd) LayerFault → ℕ
most_end_steps elements (Ok None) = 0
most_end_steps elements (Ok (Some end)) = most_steps elements end.members
most_end_steps elements (Err (TooMany threshold)) = most_steps elements (MAX_MEMBERS + 1)
most_end_steps elements (Err Memory) = 0

-- the places of the members of the layer given last, in lexicographic order
abbrev pub last_places : Layering → List (List ℕ)
last_places l = layer_places l.elements (last_threshold l)
