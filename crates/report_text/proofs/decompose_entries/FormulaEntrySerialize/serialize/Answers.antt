use Rattle.std.proofs.lemmas.Result.{on_ok_weaker}
use Rattle.report_text.proofs.decompose_entries.FormulaEntrySerialize.serialize.Goals as goal

pub returns : goal.returns
returns g c =
    let delta = c.in_ok-send_member.ensures in
    let formula = c.in_ok-send_member-2.ensures in
    let ion = c.in_ok-send_member-3.ensures in
    let mass = c.in_ok-send_member-4.ensures in
    on_ok_weaker c.end_map.result (λ ended. (
      _,
      c.in_ok-begin_map.ensures,
      (
        delta.0,
        _,
        delta.1,
        delta.2,
        (
          formula.0,
          _,
          formula.1,
          formula.2,
          (
            ion.0,
            _,
            ion.1,
            ion.2,
            (mass.0, _, mass.1, mass.2, ended),
          ),
        ),
      ),
    )) c.end_map.ensures
