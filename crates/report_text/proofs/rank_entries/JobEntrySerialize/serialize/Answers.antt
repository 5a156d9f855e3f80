use Rattle.std.proofs.lemmas.Result.{on_ok_weaker}
use Rattle.report_text.specs.JsonReports.{place_data}
use Rattle.report_text.proofs.SentEntries.{list_sent}
use Rattle.report_text.proofs.rank_entries.JobEntrySerialize.serialize.Goals as goal

pub returns : goal.returns
returns g c =
    let count = c.in_ok-send_member.ensures in
    let done = c.in_ok-send_member-2.ensures in
    let mz = c.in_ok-send_member-3.ensures in
    let peak = c.in_ok-send_member-4.ensures in
    let places = c.in_ok-send_member-5.ensures in
    let sent = list_sent place_data c.args.self.now.places places.0 _ places.2 in
    on_ok_weaker c.end_map.result (λ ended. (
      _,
      c.in_ok-begin_map.ensures,
      (
        count.0,
        _,
        count.1,
        count.2,
        (
          done.0,
          _,
          done.1,
          done.2,
          (
            mz.0,
            _,
            mz.1,
            mz.2,
            (
              peak.0,
              _,
              peak.1,
              peak.2,
              (places.0, _, places.1, sent, ended),
            ),
          ),
        ),
      ),
    )) c.end_map.ensures
