use Rattle.std.proofs.Common.{◌≡◌, ◌++◌, ◌∷◌, [], map, rules, ap, ◌∙◌}
use Rattle.alphabet_text.specs.declared.entries.AlphabetEntry.{AlphabetEntry}
use Rattle.alphabet_text.proofs.AlphabetLists.{entries_of-maps, holds, mapped-more, take-long}
use Rattle.alphabet_text.proofs.alphabet.Alphabet.of.Goals as goal

pub loop-entry-preserved : goal.loop-entry-preserved
loop-entry-preserved c =
    let es = c.args.entries.now in
    let entry = c.entry-item.result in
    let i = c.loop-entry.entry-index in
    let held = c.loop-entry.invariant in
    let within = c.loop-entry-test.true in
    let items : c.push.new.self.items ≡ c.loop-entry.items.items ++ entry.item ∷ [] = search rules in
    let masses : c.push-in-loop-entry.new.self.items ≡ c.loop-entry.masses.items ++ entry.mass ∷ [] = search rules in
    let limits : c.push-in-loop-entry-2.new.self.items ≡ c.loop-entry.limits.items ++ entry.limit ∷ [] = search rules in
    record {
      items =
          items ∙ ap (λ l. l ++ entry.item ∷ []) held.items
          ∙ mapped-more (λ (e : AlphabetEntry). e.item) es i entry within c.entry-item.is;
      masses =
          masses ∙ ap (λ l. l ++ entry.mass ∷ []) held.masses
          ∙ mapped-more (λ (e : AlphabetEntry). e.mass) es i entry within c.entry-item.is;
      limits =
          limits ∙ ap (λ l. l ++ entry.limit ∷ []) held.limits
          ∙ mapped-more (λ (e : AlphabetEntry). e.limit) es i entry within c.entry-item.is;
    }

pub invariant_of-result : goal.invariant_of-result
invariant_of-result c =
    let es = c.args.entries.now in
    let held = c.loop-entry.invariant in
    let all = take-long es c.loop-entry.entry-index c.loop-entry-test.false in
    let items = held.items ∙ ap (map (λ (e : AlphabetEntry). e.item)) all in
    let masses = held.masses ∙ ap (map (λ (e : AlphabetEntry). e.mass)) all in
    let limits = held.limits ∙ ap (map (λ (e : AlphabetEntry). e.limit)) all in
    rw (items, masses, limits) (holds es c.requires)

pub returns : goal.returns
returns c =
    let es = c.args.entries.now in
    let held = c.loop-entry.invariant in
    let all = take-long es c.loop-entry.entry-index c.loop-entry-test.false in
    let items = held.items ∙ ap (map (λ (e : AlphabetEntry). e.item)) all in
    let masses = held.masses ∙ ap (map (λ (e : AlphabetEntry). e.mass)) all in
    let limits = held.limits ∙ ap (map (λ (e : AlphabetEntry). e.limit)) all in
    rw (items, masses, limits) (entries_of-maps es)
