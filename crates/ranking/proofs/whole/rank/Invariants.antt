use Rattle.std.proofs.Common.{◌≡◌, ◌++◌, length}
use Rattle.ranking.specs.Rankings.{RankTask, ranked_list, stop_of}
use Rattle.ranking.specs.RankJobs.{list_left, stop_left}
use Rattle.ranking.proofs.whole.rank.Given as goal

-- the candidates so far and those that are left are the list, and the stop behind them stays
abbrev pub invariant-loop-found : goal.invariant-loop-found
invariant-loop-found l =
    let task : RankTask = record { premises = l.premises; peaks = l.peaks; place = l.peak; coverage = l.coverage } in
    (l.found.items ++ list_left l.job ≡ ranked_list task) × (stop_left l.job ≡ stop_of task)

-- how many are left
abbrev pub decreases-loop-found : goal.decreases-loop-found
decreases-loop-found l = length (list_left l.job)
