use Rattle.std.proofs.Common.{arith, get_or}
use Rattle.std.proofs.lemmas.List.{get_or_default}
use Rattle.std.proofs.lemmas.Result.{err_from_is_err_and}
use Rattle.layered_envelope.proofs.LoweredLists.{any_too_long, cutoff_at, lowered_kinds, lowered_at_least, lowered_at_most, lowered_to}
use Rattle.layered_envelope.proofs.lists.lower_lists.Goals as goal

pub returns-in_err-lower_list-clause-too_long : goal.returns-in_err-lower_list-clause-too_long
returns-in_err-lower_list-clause-too_long c =
    let p = err_from_is_err_and c.from_residual.result c.from_residual.ensures.1 in
    rw (p.1, p.2)
    (any_too_long c.args.lists.now c.loop-place.lists c.args.threshold c.loop-place.place
    (get_or c.loop-place.lists c.loop-place.place c.index-lists-place.result)
    c.in_err-lower_list.field-0.0 c.loop-place.invariant.kinds (omega arith)
    (get_or_default c.loop-place.lists c.loop-place.place c.index-lists-place.result _ (omega arith))
    c.in_err-lower_list.ensures.too_many)

pub lower_list-requires-clause-cutoff : goal.lower_list-requires-clause-cutoff
lower_list-requires-clause-cutoff c =
    let now = c.loop-place.lists in
    let item = get_or now c.loop-place.place c.index-lists-place.result in
    let is = get_or_default now c.loop-place.place c.index-lists-place.result item (omega arith) in
    cutoff_at c.args.lists.now now c.args.threshold c.loop-place.place item c.args.cutoffs.now
    c.loop-place.invariant.kinds (omega arith) is c.requires.lists c.requires.cutoffs

pub loop-place-preserved : goal.loop-place-preserved
loop-place-preserved c =
    let old = c.args.lists.now in
    let now = c.loop-place.lists in
    let t = c.args.threshold in
    let place = c.loop-place.place in
    let l = c.lower_list.new.list in
    let item = get_or now place c.index-lists-place.result in
    let inv = c.loop-place.invariant in
    let is = get_or_default now place c.index-lists-place.result item (omega arith) in
    let made = c.in_ok-lower_list.ensures.ok in
    record {
      kinds = lowered_kinds old now t place l item inv.kinds (omega arith) is made;
      at_least = lowered_at_least old now t place l item inv.kinds (omega arith) is made inv.at_least;
      at_most = lowered_at_most old now t place l item inv.kinds (omega arith) is made inv.at_least inv.at_most;
      lower = lowered_to old now t place l item inv.kinds (omega arith) is made inv.lower;
    }
