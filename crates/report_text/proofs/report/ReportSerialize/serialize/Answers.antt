use Rattle.std.proofs.Common.{codes, subst, sym}
use Rattle.std.specs.Prelude.{OnOk}
use Rattle.std.proofs.lemmas.Result.{on_ok_weaker}
use Rattle.serde_json.specs.Events.{SendsValue}
use Rattle.report_text.specs.declared.report.Report.{Report}
use Rattle.report_text.specs.JsonReports.{job_data, peak_data, report_data}
use Rattle.report_text.proofs.SentEntries.{only_sent}
use Rattle.report_text.proofs.report.ReportSerialize.serialize.Goals as goal

pub returns-in-Decompose : goal.returns-in-Decompose
returns-in-Decompose g c =
    let old = g.S.Serializer.written c.args.out.now in
    let new = g.S.Serializer.written c.send_only.new.out in
    subst (λ (r : Report). OnOk c.send_only.result (SendsValue (report_data r) old new)) (sym c.in-Decompose.is)
    (on_ok_weaker c.send_only.result (only_sent (codes "peaks") peak_data c.in-Decompose.peaks old new)
    c.send_only.ensures)

pub returns-in-Rank : goal.returns-in-Rank
returns-in-Rank g c =
    let old = g.S.Serializer.written c.args.out.now in
    let new = g.S.Serializer.written c.send_only-in-Rank.new.out in
    subst (λ (r : Report). OnOk c.send_only-in-Rank.result (SendsValue (report_data r) old new)) (sym c.in-Rank.is)
    (on_ok_weaker c.send_only-in-Rank.result (only_sent (codes "jobs") job_data c.in-Rank.jobs old new)
    c.send_only-in-Rank.ensures)
