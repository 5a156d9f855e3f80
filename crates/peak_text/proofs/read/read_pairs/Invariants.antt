use Rattle.std.proofs.Common.{◌≡◌, ◌+◌, [], drop}
use Rattle.reader_answers.specs.RecordRows.{rows_after}
use Rattle.peak_text.specs.PeakLists.{ArePeaks}
use Rattle.peak_text.specs.PeakText.{peak_of, too_many_after}
use Rattle.peak_text.proofs.read.read_pairs.Given as goal

-- the peaks read and those of the records that are left are the peaks that all records give
abbrev pub invariant-loop-index : goal.invariant-loop-index
invariant-loop-index l = record {
  all : rows_after peak_of too_many_after (l.index + 1) l.pairs.items (drop l.index l.records)
      ≡ rows_after peak_of too_many_after 2 [] (drop 1 l.records);
  within : ArePeaks l.pairs.items;
}
