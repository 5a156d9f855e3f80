use Rattle.std.proofs.lemmas.Result.{on_ok_weaker}
use Rattle.report_text.specs.JsonReports.{formula_data}
use Rattle.report_text.proofs.SentEntries.{list_sent}
use Rattle.report_text.proofs.decompose_entries.PeakEntrySerialize.serialize.Goals as goal

pub returns : goal.returns
returns g c =
    let formulas = c.in_ok-send_member.ensures in
    let mz = c.in_ok-send_member-2.ensures in
    let peak = c.in_ok-send_member-3.ensures in
    let sent = list_sent formula_data c.args.self.now.formulas formulas.0 _ formulas.2 in
    on_ok_weaker c.end_map.result (λ ended. (
      _,
      c.in_ok-begin_map.ensures,
      (
        formulas.0,
        _,
        formulas.1,
        sent,
        (
          mz.0,
          _,
          mz.1,
          mz.2,
          (peak.0, _, peak.1, peak.2, ended),
        ),
      ),
    )) c.end_map.ensures
