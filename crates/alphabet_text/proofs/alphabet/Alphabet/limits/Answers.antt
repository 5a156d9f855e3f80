use Rattle.std.proofs.Common.{map, ap, ◌∙◌}
use Rattle.alphabet_text.specs.declared.entries.AlphabetEntry.{AlphabetEntry}
use Rattle.alphabet_text.proofs.AlphabetLists.{map-limits}
use Rattle.alphabet_text.proofs.alphabet.Alphabet.limits.Goals as goal

pub returns-clause-limits : goal.returns-clause-limits
returns-clause-limits c =
    let held = c.self.invariant in
    c.deref.ensures.value ∙ map-limits _ _ _ held.one_mass_each held.one_limit_each
    ∙ ap (map (λ (e : AlphabetEntry). e.limit)) c.self.view_is
