use Rattle.std.proofs.Common.{◌≡◌, ◌+◌, ◌*◌, ap, subst, Err, None, refl, rules, arith}
use Rattle.job_turns.specs.Boards.{jobs_of}
use Rattle.job_turns.specs.declared.board.BoardFault.TheVariants.{Job}
use Rattle.turn_rounds.proofs.RoundLaws.{HaveEnded, before_rounds, plays_to_fault, ends_at_fault, ends_with_all}
use Rattle.turn_rounds.proofs.RoundLaws.{its_place, round_goes_on, round_ends}
use Rattle.turn_rounds.proofs.play_until_finished.Goals.{in-Full, in_default}
use Rattle.turn_rounds.proofs.play_until_finished.Goals as goal

pub loop-is_open-init : goal.loop-is_open-init
loop-is_open-init g c =
    let start = before_rounds c.args.allow c.job_count-jobs.result
    (jobs_of g.J.Job.left g.J.Job.stop c.args.board.now) in
    (0, start.0, start.1)

pub loop-is_open-preserved : goal.loop-is_open-preserved
loop-is_open-preserved g c =
    let jobs = jobs_of g.J.Job.left g.J.Job.stop in
    let state = c.loop-place.invariant in
    let ends = round_ends c.args.allow state.0 c.job_count-jobs.result c.loop-place.place c.loop-place.is_open
    (jobs c.args.board.now) (jobs c.loop-is_open.board) (jobs c.loop-place.board) (omega arith) state.1 in
    (state.0 + 1, ends.0, ends.1)

pub loop-place-preserved : goal.loop-place-preserved
loop-place-preserved g c =
    let jobs = jobs_of g.J.Job.left g.J.Job.stop in
    let state = c.loop-place.invariant in (
      state.0,
      round_goes_on c.args.allow state.0 c.job_count-jobs.result c.loop-place.place c.loop-place.is_open
          c.match-branch-2.is_open (jobs c.args.board.now) (jobs c.loop-is_open.board) (jobs c.loop-place.board)
          (jobs c.turn.new.self) c.in_ok-turn.field-0 c.requires c.job_count-jobs.ensures c.loop-place-test.true state.1
          c.in_ok-turn.ensures.turn c.in_ok-turn.ensures.kept
          (λ full. elim c.match-branch-2.branch [
            | in-Full w ↦ w.is_open-is
            | in_default w ↦ absurd (w.in_default.not-Full full)
          ])
          (λ gave finished. elim c.match-branch-2.branch [
            | in-Full w ↦ (let is = w.in-Full.is in absurd (cc))
            | in_default w ↦ w.is_open-is
          ]),
    )

pub returns-in_err-turn-clause-play : goal.returns-in_err-turn-clause-play
returns-in_err-turn-clause-play g c =
    let jobs = jobs_of g.J.Job.left g.J.Job.stop in
    let state = c.loop-place.invariant in
    let given = state.0 * c.job_count-jobs.result + c.loop-place.place in
    let fault = c.in_err-turn.field-0.0 in
    let refused : c.from_residual.result ≡ Err fault = search rules in
    rw refused (
      given + 1,
      plays_to_fault c.args.allow given (given + 1) _ (jobs c.args.board.now)
          (jobs c.loop-place.board) (jobs c.turn.new.self) fault (omega arith)
          (its_place state.0 c.job_count-jobs.result c.loop-place.place (jobs c.args.board.now) c.job_count-jobs.ensures
          c.loop-place-test.true) state.1.gave c.in_err-turn.ensures.turn,
    )

pub returns-in_err-turn-clause-ends : goal.returns-in_err-turn-clause-ends
returns-in_err-turn-clause-ends g c =
    let jobs = jobs_of g.J.Job.left g.J.Job.stop in
    let state = c.loop-place.invariant in
    let given = state.0 * c.job_count-jobs.result + c.loop-place.place in
    let fault = c.in_err-turn.field-0.0 in
    let refused : c.from_residual.result ≡ Err fault = search rules in
    rw refused (ends_at_fault c.args.allow given None _ (jobs c.args.board.now)
    (jobs c.loop-place.board) (jobs c.turn.new.self) fault c.requires refl
    (its_place state.0 c.job_count-jobs.result c.loop-place.place (jobs c.args.board.now) c.job_count-jobs.ensures
    c.loop-place-test.true) state.1.gave c.in_err-turn.ensures.turn)

pub returns-in_err-turn-clause-stop : goal.returns-in_err-turn-clause-stop
returns-in_err-turn-clause-stop g c =
    let refused : c.from_residual.result ≡ Err c.in_err-turn.field-0.0 = search rules in
    λ place fault is. (let same : c.in_err-turn.field-0.0 ≡ Job place fault = cc in
    c.in_err-turn.ensures.stop place fault (ap Err same))

pub returns-clause-play : goal.returns-clause-play
returns-clause-play g c =
    let state = c.loop-is_open.invariant in
    (state.0 * c.job_count-jobs.result, (state.1.no_stop, state.1.given))

pub returns-clause-ends : goal.returns-clause-ends
returns-clause-ends g c =
    let jobs = jobs_of g.J.Job.left g.J.Job.stop in
    let state = c.loop-is_open.invariant in
    let turns = state.0 * c.job_count-jobs.result in
    ends_with_all c.args.allow turns (jobs c.args.board.now) (jobs c.loop-is_open.board) state.1
    (subst (λ n. HaveEnded c.args.allow turns n (jobs c.args.board.now)) c.job_count-jobs.ensures
    (state.2 c.loop-is_open-test.false))
