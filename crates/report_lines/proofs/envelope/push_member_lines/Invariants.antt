use Rattle.std.proofs.Common.{◌≡◌, ◌++◌, take}
use Rattle.std.specs.List.{flat_map}
use Rattle.report_lines.specs.ReportLines.{isotopologue_line}
use Rattle.report_lines.proofs.envelope.push_member_lines.Given as goal

abbrev pub invariant-loop-member : goal.invariant-loop-member
invariant-loop-member l =
    l.report.items ≡ l.initial.report.items ++ flat_map (isotopologue_line l.shift) (take l.member-index l.members)
