use Rattle.std.proofs.Common.{◌≡◌, drop}
use Rattle.alphabet_text.specs.WrittenEntries.{first_high_place}
use Rattle.alphabet_text.proofs.written.first_high_place.Given as goal

abbrev pub invariant-loop-entry : goal.invariant-loop-entry
invariant-loop-entry l = first_high_place l.entries ≡ first_high_place (drop l.entry-index l.entries)
