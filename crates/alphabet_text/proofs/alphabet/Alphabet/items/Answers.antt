use Rattle.std.proofs.Common.{map, ap, ◌∙◌}
use Rattle.alphabet_text.specs.declared.entries.AlphabetEntry.{AlphabetEntry}
use Rattle.alphabet_text.proofs.AlphabetLists.{map-items}
use Rattle.alphabet_text.proofs.alphabet.Alphabet.items.Goals as goal

pub returns-clause-items : goal.returns-clause-items
returns-clause-items c =
    let held = c.self.invariant in
    c.deref.ensures.value ∙ map-items _ _ _ held.one_mass_each held.one_limit_each
    ∙ ap (map (λ (e : AlphabetEntry). e.item)) c.self.view_is
