use Rattle.std.proofs.Common.{◌≡◌, ◌≤◌, ◌-◌, length, drop}
use Rattle.written_items.specs.RowReading.{row_of}
use Rattle.alphabet_text.specs.AlphabetAnswers.{range_tail}
use Rattle.alphabet_text.specs.WrittenEntries.{entries_at}
use Rattle.alphabet_text.proofs.ReadRows.{with_front}
use Rattle.alphabet_text.proofs.written.read_entries.Given as goal

abbrev pub invariant-loop-at : goal.invariant-loop-at
invariant-loop-at l = record {
  within : l.at ≤ length l.text;
  read : entries_at 0 (row_of range_tail l.text)
      ≡ with_front l.entries.items (entries_at l.at (row_of range_tail (drop l.at l.text)));
}

abbrev pub decreases-loop-at : goal.decreases-loop-at
decreases-loop-at l = length l.text - l.at
