-- The reports of ranked peaks: as lines, and in JSON, of the same entries.
use Rattle.std.specs.Prelude.{ℕ, ◌+◌, List, [], ◌∷◌, ◌++◌, codes, map}
use Rattle.std.specs.Fmt.{decimal}
use Rattle.std.specs.List.{enumerate_from, flat_map}
use Rattle.peak_generator.specs.MadeFormulas.{made_formulas}
use Rattle.prediction_score.specs.Matches.{mz_at}
use Rattle.peak_ranking.specs.RankQueries.{RankQuery}
use Rattle.peak_ranking.specs.RankedJobs.{RankedJob, ranked_jobs}
use Rattle.peak_ranking.specs.Tallies.{candidate_count, first_count, found_count, member_count}
use Rattle.report_lines.specs.ReportLines.{line}
use Rattle.report_text.specs.RankLines.{rank_head, rank_text}
use Rattle.report_text.specs.JsonReports.{job_entry, json_text}
use Rattle.report_text.specs.declared.rank_entries.JobEntry.{JobEntry}
use Rattle.report_text.specs.declared.report.Report.TheVariants.{Rank}
use Rattle.ranking_reports.specs.Queries.{GenerateQuery}
use Rattle.ranking_reports.specs.declared.generation.TheConstants.{MADE_PEAKS}

-- the lines of the job of the peak at a place
abbrev pub job_lines : RankQuery → ℕ × RankedJob → List ℕ
job_lines query job =
    rank_text (job.0 + 1) (mz_at query.peaks job.0) job.1.finished job.1.found

-- the report of ranked peaks
unfoldable pub rank_report : RankQuery → List ℕ
rank_report query =
    rank_head query.jobs ++ flat_map (job_lines query) (enumerate_from query.first (ranked_jobs query))

-- a line of a word and a number
abbrev pub count_line : List ℕ → ℕ → List ℕ
count_line word number = line (word ∷ decimal number ∷ [])

-- the report of made peaks: how many candidates and members of covers there are in all, and at how many peaks the
-- formula made is found and has place 1
unfoldable pub generate_report : GenerateQuery → List ℕ
generate_report query =
    let jobs = ranked_jobs query.ranking in
    let formulas = made_formulas query.number MADE_PEAKS in
    count_line (codes "generate") query.number
    ++ count_line (codes "peaks") MADE_PEAKS
    ++ count_line (codes "candidates") (candidate_count jobs)
    ++ count_line (codes "members") (member_count jobs)
    ++ count_line (codes "found") (found_count formulas jobs)
    ++ count_line (codes "first") (first_count formulas jobs)

-- the entry of that job
abbrev pub job_in : RankQuery → ℕ × RankedJob → JobEntry
job_in query job = job_entry (job.0 + 1) (mz_at query.peaks job.0) job.1.finished job.1.found

-- the report of ranked peaks in JSON
unfoldable pub rank_json : RankQuery → List ℕ
rank_json query = json_text (Rank (map (job_in query) (enumerate_from query.first (ranked_jobs query))))
