use Rattle.std.proofs.Common.{◌++◌, take}
use Rattle.std.proofs.KnownBytes.{Appends-trans, Appends-kept}
use Rattle.outside_ports.proofs.PassedPieces.{first_bytes, moves_front}
use Rattle.outside_ports.proofs.stream_sink.StreamSinkSink.put.Goals as goal

pub loop-rest-preserved : goal.loop-rest-preserved
loop-rest-preserved g c =
    let (same, passed) = c.loop-rest.invariant in
    let (done, split, appended) = passed in
    let rest = c.loop-rest.rest.now in
    let n = c.in-Ok.taken in (
      same,
      (
        done ++ take n rest,
        moves_front _ done rest n split,
        Appends-trans _ _ _ _ _ appended c.in-Ok.ensures.bytes,
      ),
    )

pub returns-in-Ok-eq0-clause-passed_on : goal.returns-in-Ok-eq0-clause-passed_on
returns-in-Ok-eq0-clause-passed_on g c =
    let (same, passed) = c.loop-rest.invariant in
    let (done, split, appended) = passed in
    let rest = c.loop-rest.rest.now in
    let n = c.in-Ok-eq0.field-0 in
    rw (← c.self.view_is) (first_bytes _ _ _ (done ++ take n rest) _ (moves_front _ done rest n split)
    (Appends-trans _ _ _ _ _ appended c.in-Ok-eq0.ensures.bytes))

pub returns-in-Err-clause-passed_on : goal.returns-in-Err-clause-passed_on
returns-in-Err-clause-passed_on g c =
    let (same, passed) = c.loop-rest.invariant in
    let (done, split, appended) = passed in
    rw (← c.self.view_is) (first_bytes _ _ _ done c.loop-rest.rest.now split
    (Appends-kept _ _ _ _ appended c.in-Err.ensures.bytes))
