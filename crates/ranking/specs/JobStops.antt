-- What a job promises of its stop.
use Rattle.std.proofs.Common.{◌≡◌, ℕ, Bool, true, false, List, length, take, ltb, sym, ap}
use Rattle.std.specs.Prelude.{Option, Some, None, find}
use Rattle.written_items.specs.declared.item.Item.{Item}
use Rattle.ranking.specs.declared.fault.RankFault.{RankFault}
use Rattle.ranking.specs.declared.fault.RankFault.TheVariants.{TooMany, Layer}
use Rattle.ranking.specs.Rankings.{RankTask, ion_in, is_over_limit, is_memory, number_of, stop_with}
use Rattle.ranking.specs.RankJobs.{RankState, stop_left}

-- a stop is never want of memory
stop_with-not_free : (task : RankTask) (many : Bool) (first : Option (List (Item × ℕ))) (fault : RankFault) →
    stop_with task many first ≡ Some fault → is_memory fault ≡ false
stop_with-not_free task many (Some formula) fault is =
    let same : Layer (number_of task) (ion_in task formula) ≡ fault = cc in
    ap is_memory (sym same)
stop_with-not_free task true None fault is =
    let same : TooMany (number_of task) ≡ fault = cc in
    ap is_memory (sym same)
stop_with-not_free task false None fault is = cc

pub stop-not_free : (job : RankState) (fault : RankFault) → stop_left job ≡ Some fault → is_memory fault ≡ false
stop-not_free job fault is =
    stop_with-not_free job.task (ltb job.room (length job.formulas))
    (find (is_over_limit job.task) (take job.room job.formulas)) fault is
