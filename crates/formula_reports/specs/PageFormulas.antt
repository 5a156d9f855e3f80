-- The formulas of a peak that are asked for, by their count lists: a page of all formulas of the peak.
use Rattle.std.specs.Prelude.{ℕ, ◌-◌, ◌≡◌, nat_lt, List, slice_index, slice_index_or, IfSome, length, take, find}
use Rattle.std.specs.Prelude.{is_some, if◌then◌else◌, Option, Some, None, option_map, Result, Ok}
use Rattle.std.specs.List.{enumerate_from}
use Rattle.reader_answers.specs.Answers.{unless_fault}
use Rattle.written_items.specs.declared.item.Item.{Item}
use Rattle.decompose.specs.Enumeration.{after_given}
use Rattle.candidates.specs.Grounds.{GroundValue}
use Rattle.candidates.specs.PeakFormulas.{counts_in, formulas_of_peak}
use Rattle.command_io.specs.declared.input_fault.InputFault.{InputFault}
use Rattle.command_io.specs.declared.input_fault.InputFault.TheVariants.{CandidateLimit}
use Rattle.formula_reports.specs.Queries.{FormulaQuery}
use Rattle.formula_reports.specs.declared.decomposition.TheConstants.{MAX_CANDIDATES}

-- the first so many of a list, or all
abbrev pub first_of : {X : Type 0} → Option ℕ → List X → List X
first_of None xs = xs
first_of (Some n) xs = take n xs

-- so many, or all, without one of them
abbrev pub one_less : Option ℕ → Option ℕ
one_less None = None
one_less (Some n) = Some (n - 1)

-- the counts of a token, where there is one
abbrev pub token_counts : GroundValue → Option (List (Item × ℕ)) → Option (List ℕ)
token_counts premises after = option_map (counts_in premises.alphabet) after

-- the count lists of a peak that come after those of a token, or all
abbrev pub counts_after : GroundValue → Option (List (Item × ℕ)) → ℕ → List (List ℕ)
counts_after premises after mz = after_given (formulas_of_peak premises mz) (token_counts premises after)

-- the page of a peak that a query asks for
abbrev pub asked_counts : FormulaQuery → ℕ → List (List ℕ)
asked_counts query mz = first_of query.limit (counts_after query.premises query.after mz)

-- what is kept of the first peaks: of some of them the page that a query asks for
abbrev pub AreKept : FormulaQuery → List (Option (List (List ℕ))) → Type 0
AreKept query kept =
    (k : ℕ) → IfSome (slice_index_or kept k None) (λ lists. lists ≡ asked_counts query (slice_index query.mzs k))

-- the peaks with their numbers, from 1
abbrev pub numbered : List ℕ → List (ℕ × ℕ)
numbered mzs = enumerate_from 1 mzs

-- the first peak with more than 1,048,576 formulas behind the token
abbrev pub crowded_peak : FormulaQuery → Option (ℕ × ℕ)
crowded_peak query =
    find (λ peak. nat_lt MAX_CANDIDATES (length (counts_after query.premises query.after peak.1)))
    (numbered query.mzs)

-- a query is refused where a peak has too many formulas; where so many are asked for, there are never too many
abbrev pub within_limit : FormulaQuery → Result FormulaQuery InputFault
within_limit query =
    if is_some query.limit then Ok query
    else unless_fault (option_map (λ peak. CandidateLimit peak.0) (crowded_peak query)) (Ok query)
