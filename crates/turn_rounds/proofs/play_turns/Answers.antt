use Rattle.std.proofs.Common.{◌≡◌, ◌%◌, ap, Err, rules, arith}
use Rattle.job_turns.specs.Boards.{jobs_of}
use Rattle.job_turns.specs.declared.board.BoardFault.TheVariants.{Job}
use Rattle.turn_rounds.proofs.RoundLaws.{Gave, gave_none, gave_more, plays_to_fault, ends_within, ends_with_turns}
use Rattle.turn_rounds.proofs.play_turns.Goals as goal

pub loop-number-init : goal.loop-number-init
loop-number-init g c = gave_none c.args.allow (jobs_of g.J.Job.left g.J.Job.stop c.args.board.now)

pub loop-number-preserved : goal.loop-number-preserved
loop-number-preserved g c =
    let jobs = jobs_of g.J.Job.left g.J.Job.stop in
    gave_more c.args.allow c.loop-number.number _ (jobs c.args.board.now) (jobs c.loop-number.board)
    (jobs c.turn.new.self) c.in_ok-turn.field-0 (ap (λ n. c.loop-number.number % n) c.job_count-jobs.ensures)
    c.loop-number.invariant c.in_ok-turn.ensures.turn c.in_ok-turn.ensures.kept

pub returns-in_err-turn-clause-play : goal.returns-in_err-turn-clause-play
returns-in_err-turn-clause-play g c =
    let jobs = jobs_of g.J.Job.left g.J.Job.stop in
    let fault = c.in_err-turn.field-0.0 in
    let refused : c.from_residual.result ≡ Err fault = search rules in
    rw refused (plays_to_fault c.args.allow c.loop-number.number c.args.count _ (jobs c.args.board.now)
    (jobs c.loop-number.board) (jobs c.turn.new.self) fault c.loop-number-test.true
    (ap (λ n. c.loop-number.number % n) c.job_count-jobs.ensures) c.loop-number.invariant c.in_err-turn.ensures.turn)

pub returns-in_err-turn-clause-ends : goal.returns-in_err-turn-clause-ends
returns-in_err-turn-clause-ends g c =
    let jobs = jobs_of g.J.Job.left g.J.Job.stop in
    let fault = c.in_err-turn.field-0.0 in
    let refused : c.from_residual.result ≡ Err fault = search rules in
    rw refused (ends_within c.args.allow c.loop-number.number c.args.count _ (jobs c.args.board.now)
    (jobs c.loop-number.board) (jobs c.turn.new.self) fault c.requires c.loop-number-test.true
    (ap (λ n. c.loop-number.number % n) c.job_count-jobs.ensures) c.loop-number.invariant c.in_err-turn.ensures.turn)

pub returns-in_err-turn-clause-stop : goal.returns-in_err-turn-clause-stop
returns-in_err-turn-clause-stop g c =
    let refused : c.from_residual.result ≡ Err c.in_err-turn.field-0.0 = search rules in
    λ place fault is. (let same : c.in_err-turn.field-0.0 ≡ Job place fault = cc in
    c.in_err-turn.ensures.stop place fault (ap Err same))

pub returns-clause-play : goal.returns-clause-play
returns-clause-play g c =
    let jobs = jobs_of g.J.Job.left g.J.Job.stop in
    let all : c.loop-number.number ≡ c.args.count = omega arith in
    let state : Gave c.args.allow c.args.count (jobs c.args.board.now) (jobs c.loop-number.board) =
    rw all at c.loop-number.invariant in
    (state.no_stop, state.given)

pub returns-clause-ends : goal.returns-clause-ends
returns-clause-ends g c =
    let jobs = jobs_of g.J.Job.left g.J.Job.stop in
    let all : c.loop-number.number ≡ c.args.count = omega arith in
    ends_with_turns c.args.allow c.args.count (jobs c.args.board.now) (jobs c.loop-number.board) c.requires
    (rw all at c.loop-number.invariant)
