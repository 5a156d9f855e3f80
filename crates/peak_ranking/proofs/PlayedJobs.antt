-- What comes of the turns of the jobs.
use Rattle.std.proofs.Common.{◌≡◌, Bool, true, false, List, sym, ap, ◌∙◌, subst}
use Rattle.std.specs.Prelude.{Option, Some, None, option_map, Ok, Err, MatchBool, ⊤}
use Rattle.reader_answers.specs.Answers.{unless_fault}
use Rattle.ranking.specs.declared.fault.RankFault.{RankFault}
use Rattle.turn_rounds.specs.Rounds.{board_after_rounds}
use Rattle.turn_rounds.specs.Stops.{Stop, first_stop}
use Rattle.peak_text.specs.PeakLists.{ArePeaks}
use Rattle.peak_ranking.specs.RankClaims.{AreRankedParts}
use Rattle.peak_ranking.specs.RankQueries.{IsRankQuery, RankQuery}
use Rattle.peak_ranking.specs.RankedJobs.{AreFewJobs, RankedJob, begun_jobs, met_fault, played, ranked_jobs}
use Rattle.peak_ranking.proofs.FewJobs.{few-ranked}
use Rattle.peak_ranking.proofs.RankedParts.{ranked-parts}

abbrev stop_of_turns : RankQuery → List RankedJob → Option (Stop RankFault)
stop_of_turns query jobs = first_stop query.turn query.turns jobs

met-is : (query : RankQuery) (before : List RankedJob) (stop : Option (Stop RankFault)) → before ≡ begun_jobs query →
    stop_of_turns query before ≡ stop → met_fault query ≡ option_map (λ s. s.fault) stop
unfolding met_fault
met-is query before stop jobs is =
    ap (λ (js : List RankedJob). option_map (λ s. s.fault) (stop_of_turns query js)) (sym jobs)
    ∙ ap (λ (o : Option (Stop RankFault)). option_map (λ s. s.fault) o) is

ranked-is : (query : RankQuery) (before after : List RankedJob) → before ≡ begun_jobs query →
    after ≡ board_after_rounds query.turn query.turns before → ranked_jobs query ≡ after
unfolding ranked_jobs
ranked-is query before after jobs is =
    ap (λ (js : List RankedJob). board_after_rounds query.turn query.turns js) (sym jobs) ∙ sym is

-- no stop was met
pub played-ok : (query : RankQuery) (before after : List RankedJob) → before ≡ begun_jobs query →
    first_stop query.turn query.turns before ≡ None → after ≡ board_after_rounds query.turn query.turns before →
    played query ≡ Ok after
played-ok query before after jobs none is =
    ap (λ (o : Option RankFault). unless_fault o (Ok (ranked_jobs query))) (met-is query before None jobs none)
    ∙ ap Ok (ranked-is query before after jobs is)

-- so the jobs are few
pub few-after : (query : RankQuery) (before after : List RankedJob) → IsRankQuery query → ArePeaks query.peaks →
    before ≡ begun_jobs query → after ≡ board_after_rounds query.turn query.turns before → AreFewJobs after
few-after query before after sound peaks jobs is =
    subst AreFewJobs (ranked-is query before after jobs is) (few-ranked query sound peaks.few)

-- and have found the first parts of their lists
pub parts-after : (query : RankQuery) (before : List RankedJob) → IsRankQuery query → before ≡ begun_jobs query →
    first_stop query.turn query.turns before ≡ None → AreRankedParts query
parts-after query before sound jobs none = ranked-parts query sound (met-is query before None jobs none)

unless_memory : (b : Bool) (P : Type 0) → P → MatchBool b ⊤ P
unless_memory true P h = tt
unless_memory false P h = h

-- a stop was met
pub played-stop : (query : RankQuery) (before : List RankedJob) (stop : Stop RankFault) (is_memory : Bool) →
    before ≡ begun_jobs query → first_stop query.turn query.turns before ≡ Some stop →
    MatchBool is_memory ⊤ (played query ≡ Err stop.fault)
played-stop query before stop is_memory jobs is =
    unless_memory is_memory (played query ≡ Err stop.fault)
    (ap (λ (o : Option RankFault). unless_fault o (Ok (ranked_jobs query))) (met-is query before (Some stop) jobs is))
