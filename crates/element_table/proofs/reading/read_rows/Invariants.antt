use Rattle.std.proofs.Common.{◌≡◌, ◌+◌, drop}
use Rattle.element_table.specs.Gathering.{gather_from, nothing_gathered}
use Rattle.element_table.specs.ReadRow.{decimals_of}
use Rattle.element_table.proofs.reading.read_rows.Given as goal

-- what is gathered and the records that are left give the table that all records give
abbrev pub invariant-loop-index : goal.invariant-loop-index
invariant-loop-index l =
    gather_from (decimals_of l.version) (l.index + 1) l.gathered (drop l.index l.records)
    ≡ gather_from (decimals_of l.version) 2 nothing_gathered (drop 1 l.records)
