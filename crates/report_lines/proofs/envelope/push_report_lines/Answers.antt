use Rattle.report_lines.specs.ReportLines.{envelope_head}
use Rattle.report_lines.proofs.JoinedWords.{kept_from}
use Rattle.report_lines.proofs.envelope.push_report_lines.Goals as goal

pub returns-clause-kept : goal.returns-clause-kept
returns-clause-kept c =
    kept_from c.push_member_lines.result c.args.report.now.items (envelope_head c.args.cover.now)
    c.push_envelope_head.new.report.items c.push_member_lines.new.report.items
    c.in_ok-push_envelope_head.ensures.lines c.push_member_lines.ensures.kept
