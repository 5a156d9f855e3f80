use Rattle.std.proofs.Common.{◌≡◌, ℕ, List, map, subst, ◌∙◌, rules}
use Rattle.std.specs.List.Sorted.{IsPermutation}
use Rattle.ranking.proofs.RankingOrder.{keys-places}
use Rattle.ranking.proofs.places.in_places.Goals as goal

pub returns : goal.returns
returns c =
    let sorted : List (ℕ × ℕ) = c.sort_unstable.new.self.items in
    let are : c.in_ok-places.places.items ≡ map (λ (key : ℕ × ℕ). key.1) sorted = search rules in
    are
    ∙ keys-places c.args.found.now sorted
    (subst (λ keys. IsPermutation keys sorted) c.in_ok-keys.ensures c.sort_unstable.ensures.permutation)
    c.sort_unstable.ensures.sorted
