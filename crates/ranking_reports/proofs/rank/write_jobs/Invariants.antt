use Rattle.std.proofs.Common.{take}
use Rattle.std.specs.Prelude.{Ok}
use Rattle.std.specs.List.{enumerate_from, flat_map}
use Rattle.command_io.specs.Parts.{Puts}
use Rattle.ranking_reports.specs.Reports.{job_lines}
use Rattle.ranking_reports.proofs.rank.write_jobs.Given as goal

-- the lines of the first jobs were put
abbrev pub invariant-loop-job : goal.invariant-loop-job
invariant-loop-job g l = Puts (flat_map (job_lines l.ranking) (take l.job (enumerate_from l.ranking.first l.ranked)))
    (g.O.Sink.written l.initial.out) (g.O.Sink.written l.out)
    (g.O.Sink.faults l.initial.out) (g.O.Sink.faults l.out) (Ok tt)
