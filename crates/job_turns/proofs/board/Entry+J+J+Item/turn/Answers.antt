use Rattle.std.proofs.Common.{◌≡◌, false, true, Ok, Err, rules}
use Rattle.job_turns.specs.Steps.{TakesItem}
use Rattle.job_turns.specs.Boards.{progress_of}
use Rattle.job_turns.proofs.ProgressLaws.{one_more, ends_finished, ends_at_fault}
use Rattle.job_turns.proofs.board.Entry+J+J+Item.turn.Goals as goal

pub returns-in_err-take_next : goal.returns-in_err-take_next
returns-in_err-take_next g c =
    let view = progress_of g.J.Job.left g.J.Job.stop in
    let fault = c.in_err-take_next.field-0.0 in
    let refused : c.from_residual.result ≡ Err fault = search rules in
    rw refused (ends_at_fault c.args.place c.loop-gave.gave c.args.allow (view c.args.self.now)
    (view c.loop-gave.self) (view c.take_next.new.self) fault
    c.loop-gave.invariant.1 c.loop-gave.invariant.0 c.loop-gave-test.true c.in_err-take_next.ensures)

pub returns-then-not-branch : goal.returns-then-not-branch
returns-then-not-branch g c =
    let view = progress_of g.J.Job.left g.J.Job.stop in
    ends_finished c.args.place c.loop-gave.gave c.args.allow (view c.args.self.now) (view c.loop-gave.self)
    (view c.take_next.new.self)
    c.loop-gave.invariant.1 c.loop-gave.invariant.0 c.loop-gave-test.true
    (rw c.if-not-branch.true at c.in_ok-take_next.ensures)

pub loop-gave-preserved : goal.loop-gave-preserved
loop-gave-preserved g c =
    let view = progress_of g.J.Job.left g.J.Job.stop in
    let item : TakesItem c.args.place (view c.loop-gave.self) (Ok true) (view c.take_next.new.self) =
    rw c.if-not-branch.false at c.in_ok-take_next.ensures in
    one_more c.loop-gave.gave (view c.args.self.now) (view c.loop-gave.self) (view c.take_next.new.self)
    c.loop-gave.invariant.1 c.loop-gave.invariant.0 item.0 item.1
