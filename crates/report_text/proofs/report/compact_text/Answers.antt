use Rattle.serde_json.proofs.FreeTexts.{text_of_value}
use Rattle.report_text.specs.JsonReports.{report_data}
use Rattle.report_text.proofs.SentEntries.{report_no_float}
use Rattle.report_text.proofs.report.compact_text.Goals as goal

pub returns-in-Ok : goal.returns-in-Ok
returns-in-Ok c =
    let events = c.in-Ok.ensures.events in
    text_of_value (report_data c.args.report.now) events.0 _ events.1 events.2 (report_no_float c.args.report.now)
