use Rattle.std.proofs.Common.{◌≡◌, List, Vec, Global, rules, sym, subst}
use Rattle.std.specs.Prelude.{Err}
use Rattle.reader_answers.specs.Answers.{GivesAs}
use Rattle.ranking.specs.Rankings.{RankTask, is_memory, ranked_list, stop_of, unless_stopped}
use Rattle.std.proofs.lemmas.Fn.{always_returns_same}
use Rattle.ranking.specs.declared.ranked.Ranked.{Ranked}
use Rattle.ranking.specs.Places.{RankedEntry, by_score}
use Rattle.ranking.proofs.StableOrder.{stable-by_score}
use Rattle.ranking.proofs.WholeRankings.{stop_met, whole_given}
use Rattle.ranking.proofs.whole.rank.Goals as goal

pub returns : goal.returns
returns c =
    let ended = rw c.in_default.is at c.in_ok-ranked.ensures.next in
    let sorted : c.sort_by_key.new.self.items ≡ by_score c.loop-found.found.items =
    stable-by_score c.loop-found.found.items c.sort_by_key.new.self.items
    (c.in_ok-sort_by_key.ensures.sorted (λ (e : RankedEntry). e.score) (always_returns_same _ _ _ (λ a r g h. search rules)))
    (c.in_ok-sort_by_key.ensures.stable (λ (e : RankedEntry). e.score) (always_returns_same _ _ _ (λ a r g h. search rules))) in
    whole_given _ _ c.loop-found.found.items _ c.sort_by_key.new.self.items c.loop-found.invariant.0 ended.0
    (search (rules, c.loop-found.invariant.1, ended.2)) sorted

pub returns-in_err-ranked : goal.returns-in_err-ranked
returns-in_err-ranked c =
    let task : RankTask = record {
      premises = c.args.premises.now;
      peaks = c.args.peaks.now;
      place = c.args.peak;
      coverage = c.args.coverage;
    } in
    let fault = c.in_err-ranked.field-0.0 in
    let is : c.from_residual-in_err-ranked.result ≡ Err fault = search rules in
    let items : Vec Ranked Global → List RankedEntry = λ found. found.items in
    subst (λ r. GivesAs items is_memory r (unless_stopped (stop_of task) (ranked_list task))) (sym is)
    (stop_met items (stop_of task) _ (ranked_list task) _ fault c.loop-found.invariant.1
    c.in_err-ranked.ensures.next.1)
