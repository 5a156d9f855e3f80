use Rattle.std.proofs.Common.{◌≡◌, map, take}
use Rattle.std.specs.List.{enumerate_from}
use Rattle.report_text.specs.declared.report.Report.TheVariants.{Rank}
use Rattle.ranking_reports.specs.Reports.{job_in}
use Rattle.ranking_reports.proofs.rank.job_entries.Given as goal

-- the entries of the first jobs were appended
abbrev pub invariant-loop-job : goal.invariant-loop-job
invariant-loop-job l = l.report ≡ Rank (map (job_in l.ranking) (take l.job (enumerate_from l.ranking.first l.ranked)))
