use Rattle.std.proofs.Common.{take}
use Rattle.std.specs.Prelude.{Ok}
use Rattle.std.specs.List.{flat_map}
use Rattle.report_lines.specs.ReportLines.{cover_members, isotopologue_line}
use Rattle.command_io.specs.Parts.{Puts}
use Rattle.cover_reports.proofs.envelope.put_members.Given as goal

-- the lines of the members so far were put
abbrev pub invariant-loop-place : goal.invariant-loop-place
invariant-loop-place g l =
    Puts (flat_map (isotopologue_line l.fn.shift) (take l.place (cover_members l.cover)))
    (g.O.Sink.written l.initial.out) (g.O.Sink.written l.out)
    (g.O.Sink.faults l.initial.out) (g.O.Sink.faults l.out) (Ok tt)
