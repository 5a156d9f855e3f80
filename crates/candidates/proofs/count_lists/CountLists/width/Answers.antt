use Rattle.std.proofs.Common.{◌≡◌, ℕ, List, length, get_or, subst, arith}
use Rattle.std.specs.Prelude.{All}
use Rattle.candidates.proofs.KeptCounts.{length-lists_in, lists_in-length}
use Rattle.candidates.proofs.count_lists.CountLists.width.Goals as goal

pub returns : goal.returns
returns c =
    let lists = c.self.inside in
    subst (λ (ls : List (List ℕ)). All (λ counts. length counts ≡ lists.width) ls) c.self.view_is
    (λ k d h. lists_in-length lists.many lists.width k lists.counts.items d c.self.invariant
    (omega (arith, h, length-lists_in lists.many lists.width lists.counts.items)))
