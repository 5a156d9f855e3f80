use Rattle.std.proofs.Common.{rules}
use Rattle.report_text.specs.JsonReports.{json_text}
use Rattle.report_text.proofs.report.json_text.Goals as goal

pub returns : goal.returns
unfolding json_text
returns c = search rules
