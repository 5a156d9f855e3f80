-- What holds of the formulas that are printed of peaks.
use Rattle.std.specs.Prelude.{◌≡◌, ◌≢◌, ℕ, ◌+◌, ◌≤◌, List, [], ◌∷◌, ◌++◌, length, Ok, Option, Some, MatchOption, All}
use Rattle.std.specs.Prelude.{IsTrue}
use Rattle.decompose.specs.CountLists.{comes_after}
use Rattle.decompose.specs.Enumeration.{lists_after}
use Rattle.formula_text.specs.PrintedText.{printed_text}
use Rattle.candidates.specs.Grounds.{GroundValue}
use Rattle.candidates.specs.PeakFormulas.{formula_at, formulas_of_peak}
use Rattle.peak_formulas.specs.PeakClaims.{AreAllOfPeak}
use Rattle.formula_reports.specs.PageFormulas.{asked_counts, token_counts}
use Rattle.formula_reports.specs.Queries.{FormulaQuery}
use Rattle.formula_reports.specs.Steps.{token_step}

-- with a token, the lists before the page don't come after its counts, and those from the page on do; without one the
-- page is the first
abbrev pub BeginsBehind : Option (List ℕ) → List (List ℕ) → List (List ℕ) → Type 0
BeginsBehind token before from =
    MatchOption token (before ≡ []) (λ counts. All (λ list. ¬ IsTrue (comes_after counts list)) before
    × All (λ list. IsTrue (comes_after counts list)) from)

-- with a limit, the page has at most so many lists, and just as many where some are behind it; without one it is the
-- last
abbrev pub EndsWithin : Option ℕ → List (List ℕ) → List (List ℕ) → Type 0
EndsWithin limit page behind =
    MatchOption limit (behind ≡ []) (λ most. (length page ≤ most) × (behind ≢ [] → length page ≡ most))

-- A page of lists: what stands before it and behind it, and that the page behind the counts of its last list begins
-- where it ends, so that pages joined are the whole.
pub record IsPageOf (lists page : List (List ℕ)) (token : Option (List ℕ)) (limit : Option ℕ) : Type 0 where
  pub before : List (List ℕ)
  pub behind : List (List ℕ)
  pub parts : lists ≡ before ++ page ++ behind
  pub begins : BeginsBehind token before (page ++ behind)
  pub ends : EndsWithin limit page behind
  pub next : (first : List (List ℕ)) (last : List ℕ) → page ≡ first ++ last ∷ [] → lists_after lists last ≡ behind

-- The printed text of the formula of a count list, given as a token, is read as just that formula, whose counts are the
-- list: the page that it asks for begins behind it.
pub record IsTokenOf (premises : GroundValue) (counts : List ℕ) : Type 0 where
  pub read : token_step premises (Some (printed_text (formula_at premises.alphabet counts)))
      ≡ Ok (Some (formula_at premises.alphabet counts))
  pub place : token_counts premises (Some (formula_at premises.alphabet counts)) ≡ Some counts

-- the formulas that are printed for a peak: the page asked for, of all formulas of the peak; the text of each, and so of
-- the last, is a token that asks for the page behind it
pub record PrintsPeak (query : FormulaQuery) (mz : ℕ) : Type 0 where
  pub all : AreAllOfPeak query.premises mz (formulas_of_peak query.premises mz)
  pub page : IsPageOf (formulas_of_peak query.premises mz) (asked_counts query mz)
      (token_counts query.premises query.after) query.limit
  pub tokens : All (IsTokenOf query.premises) (asked_counts query mz)
