use Rattle.std.proofs.Common.{SFits}
use Rattle.std.specs.Int.{w128}
use Rattle.std.proofs.lemmas.Int.{to_z-of_z}
use Rattle.report_lines.specs.ReportLines.{isotopologue_line}
use Rattle.report_lines.proofs.JoinedWords.{line_more}
use Rattle.report_lines.proofs.envelope.push_member_lines.Goals as goal

pub loop-member-preserved : goal.loop-member-preserved
loop-member-preserved c =
    let fits : SFits w128 c.args.shift = c.ranges.shift in
    simp to_z-of_z
    (line_more (isotopologue_line c.args.shift) c.args.report.now.items c.loop-member.report.items
    c.push_isotopologue_line.new.report.items c.args.members.now c.loop-member.member-index c.member-item.result
    c.loop-member-test.true c.member-item.is (simp to_z-of_z at c.loop-member.invariant)
    (simp to_z-of_z at c.in_ok-push_isotopologue_line.ensures.line))
