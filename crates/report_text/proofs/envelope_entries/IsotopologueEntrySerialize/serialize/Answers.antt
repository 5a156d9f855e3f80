use Rattle.std.proofs.lemmas.Result.{on_ok_weaker}
use Rattle.report_text.proofs.envelope_entries.IsotopologueEntrySerialize.serialize.Goals as goal

pub returns : goal.returns
returns g c =
    let hi = c.in_ok-send_member.ensures in
    let isotopologue = c.in_ok-send_member-2.ensures in
    let lo = c.in_ok-send_member-3.ensures in
    let mass = c.in_ok-send_member-4.ensures in
    on_ok_weaker c.end_map.result (λ ended. (
      _,
      c.in_ok-begin_map.ensures,
      (
        hi.0,
        _,
        hi.1,
        hi.2,
        (
          isotopologue.0,
          _,
          isotopologue.1,
          isotopologue.2,
          (
            lo.0,
            _,
            lo.1,
            lo.2,
            (mass.0, _, mass.1, mass.2, ended),
          ),
        ),
      ),
    )) c.end_map.ensures
