-- A job that ranks the candidates of a peak: how far it has come.
use Rattle.std.specs.Prelude.{ℕ, ◌≡◌, ◌≤◌, ◌<◌, ◌*◌, ◌^◌, true, List, length, All, is_some, Option}
use Rattle.peak_text.specs.PeakLists.{ArePeaks}
use Rattle.written_items.specs.declared.item.Item.{Item}
use Rattle.formula_text.specs.Masses.{HasItems}
use Rattle.adducts.specs.Ions.{ion_of}
use Rattle.ranking.specs.declared.fault.RankFault.{RankFault}
use Rattle.ranking.specs.Places.{RankedEntry}
use Rattle.ranking.specs.Rankings.{RankTask, candidates_of, max_candidates, ranked_among, stop_among}

-- its task, the candidates that are left in their order, and how many more it may give
pub record RankState : Type 0 where
  pub task : RankTask
  pub formulas : List (List (Item × ℕ))
  pub room : ℕ

-- a job at its beginning
abbrev pub begun : RankTask → RankState
begun task = record { task = task; formulas = candidates_of task; room = max_candidates }

-- what is left of its list, and the stop behind it
abbrev pub list_left : RankState → List RankedEntry
list_left job = ranked_among job.task job.room job.formulas

abbrev pub stop_left : RankState → Option RankFault
stop_left job = stop_among job.task job.room job.formulas

-- the candidate has an ion, and the table has its items
pub record HasIon (task : RankTask) (formula : List (Item × ℕ)) : Type 0 where
  pub ion : is_some (ion_of task.premises.adduct formula) ≡ true
  pub known : HasItems task.premises.table formula

-- a peak of a peak list, and a coverage in its limits
pub record IsTask (task : RankTask) : Type 0 where
  pub peaks : ArePeaks task.peaks
  pub inside : task.place < length task.peaks
  pub some : 1 ≤ task.coverage
  pub below_one : task.coverage ≤ 999999 * 10 ^ 12

pub record IsState (job : RankState) : Type 0 where
  pub task : IsTask job.task
  pub ions : All (HasIon job.task) job.formulas
