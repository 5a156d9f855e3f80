use Rattle.std.proofs.Common.{map, ap, ◌∙◌}
use Rattle.alphabet_text.specs.declared.entries.AlphabetEntry.{AlphabetEntry}
use Rattle.alphabet_text.proofs.AlphabetLists.{map-masses}
use Rattle.alphabet_text.proofs.alphabet.Alphabet.masses.Goals as goal

pub returns-clause-masses : goal.returns-clause-masses
returns-clause-masses c =
    let held = c.self.invariant in
    c.deref.ensures.value ∙ map-masses _ _ _ held.one_mass_each held.one_limit_each
    ∙ ap (map (λ (e : AlphabetEntry). e.mass)) c.self.view_is
