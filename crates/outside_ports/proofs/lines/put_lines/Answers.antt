use Rattle.std.proofs.Common.{◌++◌, ◌∙◌}
use Rattle.std.proofs.lemmas.Result.{err_from_is_err_and}
use Rattle.outside_ports.proofs.PutParts.{put_more, put_some, parts_more, two_parts}
use Rattle.outside_ports.proofs.lines.put_lines.Goals as goal

pub returns-in_err-put-clause-written : goal.returns-in_err-put-clause-written
returns-in_err-put-clause-written g c =
    let rest = c.loop-rest.rest.now in
    let line = c.split_at.result.0.now in
    let others = c.split_at.result.1.now in
    let split = two_parts rest line others c.first_line_len.result c.split_at.ensures.front c.split_at.ensures.back in
    let some = c.in_err-put.ensures.written in
    let given = err_from_is_err_and c.from_residual.result c.from_residual.ensures.1 in
    rw given.1
    (put_some _ _ _ c.loop-rest.invariant.0 rest c.args.text.now line others some.0
    c.loop-rest.invariant.1 split c.loop-rest.invariant.2 some.1 some.2)

pub loop-rest-preserved : goal.loop-rest-preserved
loop-rest-preserved g c =
    let rest = c.loop-rest.rest.now in
    let line = c.split_at.result.0.now in
    let others = c.split_at.result.1.now in
    let split = two_parts rest line others c.first_line_len.result c.split_at.ensures.front c.split_at.ensures.back in (
      c.loop-rest.invariant.0 ++ line,
      parts_more c.loop-rest.invariant.0 rest c.args.text.now line others c.loop-rest.invariant.1 split,
      put_more _ _ _ c.loop-rest.invariant.0 line c.loop-rest.invariant.2 c.in_ok-put.ensures.written,
      c.in_ok-put.ensures.faults ∙ c.loop-rest.invariant.3,
    )
