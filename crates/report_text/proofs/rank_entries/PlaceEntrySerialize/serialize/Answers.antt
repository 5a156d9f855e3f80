use Rattle.std.proofs.lemmas.Result.{on_ok_weaker}
use Rattle.report_text.proofs.rank_entries.PlaceEntrySerialize.serialize.Goals as goal

pub returns : goal.returns
returns g c =
    let bound = c.in_ok-send_member.ensures in
    let formula = c.in_ok-send_member-2.ensures in
    let place = c.in_ok-send_member-3.ensures in
    let score = c.in_ok-send_member-4.ensures in
    let size = c.in_ok-send_member-5.ensures in
    on_ok_weaker c.end_map.result (λ ended. (
      _,
      c.in_ok-begin_map.ensures,
      (
        bound.0,
        _,
        bound.1,
        bound.2,
        (
          formula.0,
          _,
          formula.1,
          formula.2,
          (
            place.0,
            _,
            place.1,
            place.2,
            (
              score.0,
              _,
              score.1,
              score.2,
              (size.0, _, size.1, size.2, ended),
            ),
          ),
        ),
      ),
    )) c.end_map.ensures
