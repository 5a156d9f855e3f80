-- The formulas of a peak: those whose ion is within tolerance of its m/z and which meet the rules.
use Rattle.std.specs.Prelude.{ℕ, ℤ, Bool, true, false, ◌&&◌, List, map, filter, is_some, Option, Some, None, if◌then◌else◌}
use Rattle.std.specs.List.{zip}
use Rattle.decompose.specs.declared.limits.Limit.{Limit}
use Rattle.decompose.specs.CountLists.{box_of}
use Rattle.mass_scaling.specs.Tolerances.{within}
use Rattle.written_items.specs.declared.item.Item.{Item}
use Rattle.formula_text.specs.Formulas.{formula_of, sum_of, count_in}
use Rattle.alphabet_text.specs.declared.entries.AlphabetEntry.{AlphabetEntry}
use Rattle.adducts.specs.Adducts.{divisor_of}
use Rattle.adducts.specs.Ions.{ion_mass}
use Rattle.golden_rules.specs.declared.rules.Verdict.{Verdict}
use Rattle.golden_rules.specs.declared.rules.Verdict.TheVariants.{Pass, Fails}
use Rattle.golden_rules.specs.Verdicts.{verdict}
use Rattle.candidates.specs.Grounds.{GroundValue}

abbrev pub items_of : List AlphabetEntry → List Item
items_of alphabet = map (λ entry. entry.item) alphabet

-- the items of an alphabet, each with its count of a count list
abbrev pub counts_of : List AlphabetEntry → List ℕ → List (Item × ℕ)
counts_of alphabet counts = zip (items_of alphabet) counts

-- the formula of a count list, in Hill order
abbrev pub formula_at : List AlphabetEntry → List ℕ → List (Item × ℕ)
formula_at alphabet counts = sum_of (counts_of alphabet counts)

-- the counts that a formula has of the items of an alphabet
abbrev pub counts_in : List AlphabetEntry → List (Item × ℕ) → List ℕ
counts_in alphabet formula = map (count_in formula) (items_of alphabet)

abbrev pub masses_of : List AlphabetEntry → List ℕ
masses_of alphabet = map (λ entry. entry.mass) alphabet

abbrev pub limits_of : List AlphabetEntry → List Limit
limits_of alphabet = map (λ entry. entry.limit) alphabet

-- whether there is an ion whose mass is within tolerance of an m/z
abbrev pub is_ion_within : GroundValue → ℕ → Option ℤ → Bool
is_ion_within premises mz None = false
is_ion_within premises mz (Some mass) = within mass mz premises.tolerance (divisor_of premises.adduct)

-- whether a verdict of rules is that a formula meets them all
abbrev pub is_pass : Verdict → Bool
is_pass Pass = true
is_pass (Fails rule) = false

-- whether a formula meets the rules
abbrev pub meets_rules : GroundValue → List (Item × ℕ) → Bool
meets_rules premises formula = is_pass (verdict premises.table premises.rules formula)

-- a formula if its ion is defined and within tolerance of an m/z, by its exact mass, and it meets the rules
abbrev pub candidate_if : GroundValue → ℕ → Option (List (Item × ℕ)) → Option (List (Item × ℕ))
candidate_if premises mz None = None
candidate_if premises mz (Some formula) =
    if is_ion_within premises mz (ion_mass premises.table premises.adduct formula)
    && meets_rules premises formula then Some formula else None

-- the candidate of a count list: its formula, if it is one within the limits, with an atom, and passes
abbrev pub candidate_of : GroundValue → ℕ → List ℕ → Option (List (Item × ℕ))
candidate_of premises mz counts = candidate_if premises mz (formula_of (counts_of premises.alphabet counts))

abbrev pub is_candidate : GroundValue → ℕ → List ℕ → Bool
is_candidate premises mz counts = is_some (candidate_of premises mz counts)

-- the formulas of a peak, by their count lists: all of the alphabet's box that are candidates, in lexicographic order
unfoldable pub formulas_of_peak : GroundValue → ℕ → List (List ℕ)
formulas_of_peak premises mz = filter (is_candidate premises mz) (box_of (limits_of premises.alphabet))
