use Rattle.std.proofs.Common.{◌≡◌, map, take}
use Rattle.alphabet_text.specs.declared.entries.AlphabetEntry.{AlphabetEntry}
use Rattle.alphabet_text.proofs.alphabet.Alphabet.of.Given as goal

abbrev pub invariant-loop-entry : goal.invariant-loop-entry
invariant-loop-entry l = record {
  items : l.items.items ≡ map (λ (e : AlphabetEntry). e.item) (take l.entry-index l.entries);
  masses : l.masses.items ≡ map (λ (e : AlphabetEntry). e.mass) (take l.entry-index l.entries);
  limits : l.limits.items ≡ map (λ (e : AlphabetEntry). e.limit) (take l.entry-index l.entries);
}
