use Rattle.std.proofs.lemmas.Result.{on_ok_weaker}
use Rattle.report_text.specs.JsonReports.{isotopologue_data}
use Rattle.report_text.proofs.SentEntries.{list_sent}
use Rattle.report_text.proofs.envelope_entries.CoverEntrySerialize.serialize.Goals as goal

pub returns : goal.returns
returns g c =
    let bound = c.in_ok-send_member.ensures in
    let coverage = c.in_ok-send_member-2.ensures in
    let formula = c.in_ok-send_member-3.ensures in
    let members = c.in_ok-send_member-4.ensures in
    let size = c.in_ok-send_member-5.ensures in
    let threshold = c.in_ok-send_member-6.ensures in
    let sent = list_sent isotopologue_data c.args.self.now.isotopologues members.0 _ members.2 in
    on_ok_weaker c.end_map.result (λ ended. (
      _,
      c.in_ok-begin_map.ensures,
      (
        bound.0,
        _,
        bound.1,
        bound.2,
        (
          coverage.0,
          _,
          coverage.1,
          coverage.2,
          (
            formula.0,
            _,
            formula.1,
            formula.2,
            (
              members.0,
              _,
              members.1,
              sent,
              (
                size.0,
                _,
                size.1,
                size.2,
                (threshold.0, _, threshold.1, threshold.2, ended),
              ),
            ),
          ),
        ),
      ),
    )) c.end_map.ensures
