use Rattle.std.proofs.Common.{◌≡◌, ◌<◌, [], drop}
use Rattle.element_table.specs.Elements.{IsTable}
use Rattle.alphabet_text.specs.Alphabets.{AreEntries}
use Rattle.alphabet_text.specs.WrittenEntries.{entries_behind}
use Rattle.alphabet_text.proofs.entries.entries_behind.Given as goal

abbrev pub invariant-loop-part : goal.invariant-loop-part
invariant-loop-part l = record {
  read : entries_behind l.table [] l.written ≡ entries_behind l.table l.entries.items (drop l.part-index l.written);
  sound : AreEntries l.entries.items;
  table : 0 < l.part-index → IsTable l.table;
}
