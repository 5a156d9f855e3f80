use Rattle.std.proofs.Common.{length, ℕ, List, sym, ap, ◌∙◌}
use Rattle.candidates.proofs.KeptCounts.{length-lists_in}
use Rattle.candidates.proofs.count_lists.CountLists.len.Goals as goal

pub returns : goal.returns
returns c =
    sym (length-lists_in c.self.inside.many c.self.inside.width c.self.inside.counts.items)
    ∙ ap (λ (ls : List (List ℕ)). length ls) c.self.view_is
