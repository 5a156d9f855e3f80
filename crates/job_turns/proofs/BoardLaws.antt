-- What turns do to the jobs of a board.
use Rattle.std.proofs.Common.{◌≡◌, ℕ, ◌+◌, ◌-◌, ◌<◌, ◌≤◌, zero, suc, List, [], ◌∷◌, ◌++◌, length, map, take, drop}
use Rattle.std.proofs.Common.{set, get_or, refl, sym, ap, ◌∙◌, arith}
use Rattle.std.specs.Prelude.{Option, Some, Result, Ok, Err, slice_get}
use Rattle.std.proofs.lemmas.List.{map-set, length-map}
use Rattle.std.proofs.lemmas.Option.{slice_get-map, slice_get_read, get_or_from_slice_get}
use Rattle.std.specs.Option.{option_map}
use Rattle.std.proofs.Math.Seq.{map-set_same}
use Rattle.job_turns.specs.Turns.{Progress, progress_after, items_of, TakesTurn, TurnOnBoard, KeepsItems}
use Rattle.job_turns.specs.declared.board.TurnEnd.{TurnEnd}
use Rattle.job_turns.specs.declared.board.BoardFault.{BoardFault}
use Rattle.job_turns.proofs.ProgressLaws.{comes_to, items_of-progress_after}

-- a turn of one entry is one of the board
pub turn_on_board : {E Item Fault : Type 0} (view : E → Progress Item Fault) (entries : List E) (place allow : ℕ)
    (old new : E) (answer : Result TurnEnd (BoardFault Fault))
    → place < length entries → old ≡ get_or entries place old → TakesTurn place allow (view old) answer (view new)
    → TurnOnBoard place allow (map view entries) answer (map view (set entries place new))
turn_on_board view entries place allow old new answer within is turn = record {
  old = view old;
  new = view new;
  at = slice_get-map view entries place ∙ ap (option_map view)
      (slice_get_read entries (length entries) place old refl within is);
  turn = turn;
  others = map-set view entries place new;
}

-- a turn keeps the items and the stop of each job
pub keeps_items : {Item Fault : Type 0} (place allow : ℕ) (before after : List (Progress Item Fault))
    (answer : Result TurnEnd (BoardFault Fault))
    → TurnOnBoard place allow before answer after → KeepsItems before after
keeps_items {Item} {Fault} place allow before after answer turn =
    let come = comes_to place allow turn.old turn.new answer turn.turn in
    let old_is : get_or before place turn.old ≡ turn.old =
    get_or_from_slice_get before place turn.old turn.old turn.at in
    let items : items_of turn.new ≡ items_of (get_or before place turn.old) =
    ap items_of come.1 ∙ items_of-progress_after come.0 turn.old ∙ ap items_of (sym old_is) in
    let stop_of : Progress Item Fault → Option Fault = λ job. job.stop in
    let stop : stop_of turn.new ≡ stop_of (get_or before place turn.old) = ap stop_of come.1
    ∙ ap stop_of (sym old_is) in
    record {
      items = ap (map items_of) turn.others ∙ map-set_same items_of before place turn.new turn.old items;
      stops = ap (map stop_of) turn.others ∙ map-set_same stop_of before place turn.new turn.old stop;
    }

pub keeps_none : {Item Fault : Type 0} (jobs : List (Progress Item Fault)) → KeepsItems jobs jobs
keeps_none jobs = record { items = refl; stops = refl }

pub keeps_both : {Item Fault : Type 0} (first second third : List (Progress Item Fault)) → KeepsItems first second
    → KeepsItems second third → KeepsItems first third
keeps_both first second third a b = record { items = b.items ∙ a.items; stops = b.stops ∙ a.stops }

-- so there are as many jobs as before
pub same_count : {Item Fault : Type 0} (before after : List (Progress Item Fault)) → KeepsItems before after
    → length after ≡ length before
same_count before after kept = sym (length-map after items_of) ∙ ap length kept.items ∙ length-map before items_of
