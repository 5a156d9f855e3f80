use Rattle.layered_envelope.proofs.StartedLists.{modes_more}
use Rattle.layered_envelope.proofs.lists.modes_of.Goals as goal

pub loop-list-preserved : goal.loop-list-preserved
loop-list-preserved c =
    rw c.in_ok-push.ensures.items
    (modes_more c.args.lists.now c.loop-list.list-index c.list-item.result c.loop-list.modes.items c.mode.result.hi
    c.loop-list-test.true c.list-item.is c.mode.ensures.hi c.loop-list.invariant)
