use Rattle.std.proofs.Common.{ℕ, List, ◌+◌, ◌-◌, ◌*◌, length, take, sum, ap, ◌∙◌}
use Rattle.isotopologue_neighbours.specs.Closed.{greatest_total}
use Rattle.cover_claims.proofs.totals.greatest_total.Goals as goal

pub returns : goal.returns
unfolding greatest_total
returns c =
    c.total_of_first.ensures
    ∙ ap (λ (xs : List ℕ). sum (take c.args.number xs) + (c.args.number - length xs) * c.args.threshold)
    (c.deref.ensures.value ∙ c.in_ok-greatest.ensures)
