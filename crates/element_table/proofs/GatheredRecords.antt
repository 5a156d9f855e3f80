-- One more record, gathered behind the earlier ones.
use Rattle.std.proofs.Common.{◌≡◌, ℕ, ◌+◌, ◌<◌, drop, drop-cons, get_or, length, add-one, List, [], Result, Ok, Err}
use Rattle.std.proofs.Common.{MatchBool, refl, sym, ◌∙◌}
use Rattle.std.specs.Prelude.{⊤}
use Rattle.reader_answers.specs.Answers.{Gives, unless_fault}
use Rattle.element_table.specs.Elements.{TableEntries}
use Rattle.element_table.specs.Gathering.{GatheredEntries, fault_in, gather_from, with_row}
use Rattle.element_table.specs.TableFaults.{is_memory}
use Rattle.element_table.specs.TableRows.{Row}
use Rattle.element_table.specs.TableText.{row_of}
use Rattle.element_table.specs.declared.fault.TableFault.{TableFault}
use Rattle.element_table.specs.declared.fault.TableFault.TheVariants as fault
use Rattle.element_table.proofs.FaultSteps.{from_err, from_ok}

module _ (decimals index : ℕ) (gathered : GatheredEntries) (records : List (List (List ℕ))) (row : Row)
    (expected : Result TableEntries TableFault) (within : index < length records)
    (invariant : gather_from decimals (index + 1) gathered (drop index records) ≡ expected)
    (read : row_of decimals (index + 1) (get_or records index []) ≡ Ok row) where
  -- what is gathered from the record and those behind it
  from_record : expected ≡ unless_fault (fault_in (index + 1) gathered row)
      (gather_from decimals (index + 1 + 1) (with_row gathered row) (drop (index + 1) records))
  from_record = sym invariant ∙ rw (drop-cons records index [] within, read, add-one index) refl

  -- a fault of the row is that of all records
  pub Gives-fault : (changed : GatheredEntries) (f : TableFault)
      → MatchBool (is_memory f) ⊤ (unless_fault (fault_in (index + 1) gathered row) (Ok changed) ≡ Err f)
      → Gives is_memory (Err f) expected
  Gives-fault changed (fault.Memory e) h = tt
  Gives-fault changed f h = from_record ∙ rw (from_err _ changed f h) refl

  -- and without one the others are gathered behind it
  pub gather_from-step : (new : GatheredEntries)
      → unless_fault (fault_in (index + 1) gathered row) (Ok (with_row gathered row)) ≡ Ok new
      → gather_from decimals (index + 1 + 1) new (drop (index + 1) records) ≡ expected
  gather_from-step new h =
      let step = from_ok _ (with_row gathered row) new h in
      sym (from_record ∙ rw (step.0, ← step.1) refl)
