use Rattle.std.proofs.Common.{◌≡◌, take, Ok, Err, ap, ◌∙◌, sym, subst, rules, length}
use Rattle.std.proofs.lemmas.List.{take_all}
use Rattle.job_turns.specs.Boards.{jobs_of}
use Rattle.job_turns.specs.Turns.{MeetsNoStop, KeepsItems, TurnOnBoard, board_after}
use Rattle.job_turns.proofs.BoardLaws.{keeps_none, keeps_both, same_count}
use Rattle.job_turns.proofs.PlayLaws.{board_after-none, no_stop_in_none, play_more, play_ends}
use Rattle.job_turns.proofs.board.JobBoard+J+J+Item.play.Goals as goal

pub loop-turn-init : goal.loop-turn-init
loop-turn-init g c =
    let jobs = jobs_of g.J.Job.left g.J.Job.stop c.args.self.now in
    record { no_stop = no_stop_in_none jobs; given = sym (board_after-none jobs); kept = keeps_none jobs }

pub loop-turn-preserved : goal.loop-turn-preserved
loop-turn-preserved g c =
    let jobs = jobs_of g.J.Job.left g.J.Job.stop in
    let before = jobs c.args.self.now in
    let now = jobs c.loop-turn.self in
    let next = jobs c.turn.new.self in
    let state = c.loop-turn.invariant in
    let more = play_more c.args.turns.now c.loop-turn.turn-index _ before now next c.in_ok-turn.field-0
    c.loop-turn-test.true state.no_stop state.given c.in_ok-turn.ensures.turn in
    record {
      no_stop = more.0;
      given = more.1;
      kept = keeps_both before now next state.kept c.in_ok-turn.ensures.kept;
    }

pub returns-in_err-turn-clause-play : goal.returns-in_err-turn-clause-play
returns-in_err-turn-clause-play g c =
    let jobs = jobs_of g.J.Job.left g.J.Job.stop in
    let state = c.loop-turn.invariant in
    let fault = c.in_err-turn.field-0.0 in
    let refused : c.from_residual.result ≡ Err fault = search rules in
    rw refused (play_ends c.args.turns.now c.loop-turn.turn-index _ (jobs c.args.self.now) (jobs c.loop-turn.self)
    (jobs c.turn.new.self) fault c.loop-turn-test.true state.no_stop state.given c.in_err-turn.ensures.turn)

pub returns-clause-play : goal.returns-clause-play
returns-clause-play g c =
    let jobs = jobs_of g.J.Job.left g.J.Job.stop in
    let turns = c.args.turns.now in
    let before = jobs c.args.self.now in
    let state = c.loop-turn.invariant in
    let all : take c.loop-turn.turn-index turns ≡ turns =
    take_all c.loop-turn.turn-index turns c.loop-turn-test.false in
    (rw all at state.no_stop, state.given ∙ ap (λ t. board_after t before) all)

pub returns-in_err-turn-clause-count : goal.returns-in_err-turn-clause-count
returns-in_err-turn-clause-count g c =
    let jobs = jobs_of g.J.Job.left g.J.Job.stop in
    same_count (jobs c.args.self.now) (jobs c.turn.new.self)
    (keeps_both (jobs c.args.self.now) (jobs c.loop-turn.self) (jobs c.turn.new.self) c.loop-turn.invariant.kept
    c.in_err-turn.ensures.kept)

pub returns-clause-count : goal.returns-clause-count
returns-clause-count g c =
    let jobs = jobs_of g.J.Job.left g.J.Job.stop in
    same_count (jobs c.args.self.now) (jobs c.loop-turn.self) c.loop-turn.invariant.kept
