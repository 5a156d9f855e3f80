-- The lines of the report of ranked peaks. The m/z is in units of 10^-12 Da, scores are in units of 10^-18.
use Rattle.std.specs.Prelude.{ℕ, Bool, List, [], ◌∷◌, ◌++◌, codes, if◌then◌else◌, length}
use Rattle.std.specs.List.{enumerate_from, flat_map}
use Rattle.std.specs.Fmt.{decimal}
use Rattle.formula_text.specs.PrintedText.{printed_text}
use Rattle.ranking.specs.Places.{RankedEntry, by_score}
use Rattle.report_lines.specs.ReportLines.{line, mass_text}

-- the line above the jobs of a report on so many
abbrev pub rank_head : ℕ → List ℕ
rank_head jobs = line (codes "rank" ∷ decimal jobs ∷ [])

-- whether a job is done
abbrev pub done_text : Bool → List ℕ
done_text done = if done then codes "done" else codes "open"

-- the line of a job: the number of its peak, the m/z of that, whether it is done, and how many formulas it found
abbrev pub job_line : ℕ → ℕ → Bool → ℕ → List ℕ
job_line peak mz done found =
    line (codes "job" ∷ decimal peak ∷ mass_text mz ∷ done_text done ∷ decimal found ∷ [])

-- the line of a formula at a place: its text, its score, and the size and the bound of its ion's cover
abbrev pub place_line : ℕ × RankedEntry → List ℕ
place_line at =
    line (codes "place" ∷ decimal at.0 ∷ printed_text at.1.formula ∷ decimal at.1.score ∷ decimal at.1.size
    ∷ decimal at.1.bound ∷ [])

-- the lines of formulas that stand in their places, from 1 on
abbrev pub place_lines : List RankedEntry → List ℕ
place_lines order = flat_map place_line (enumerate_from 1 order)

-- the lines of a job, whose formulas have their places by rising score, ties in their order
abbrev pub rank_text : ℕ → ℕ → Bool → List RankedEntry → List ℕ
rank_text peak mz done found = job_line peak mz done (length found) ++ place_lines (by_score found)
