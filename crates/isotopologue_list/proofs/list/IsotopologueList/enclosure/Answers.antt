-- The enclosures that are kept are those of the isotopologues.
use Rattle.std.proofs.Common.{◌≡◌, ℕ, get_or, map, ◌∙◌, ap}
use Rattle.isotopologue_sets.specs.Covers.{Member}
use Rattle.isotopologue_list.proofs.ProductLemmas.{same_at}
use Rattle.isotopologue_list.proofs.list.IsotopologueList.enclosure.Goals as goal
use Rattle.isotopologue_list.proofs.list.IsotopologueList.enclosure.Goals.{After-index}

same_ends : (c : After-index) (d : Member) →
    let e : ℕ × ℕ = (c.index.result.now.lo, c.index.result.now.hi) in
    e ≡ ((get_or c.args.self.now c.args.place d).lo, (get_or c.args.self.now c.args.place d).hi)
same_ends c d =
    ap (λ e. let p : ℕ × ℕ = (e.lo, e.hi) in p) c.index.ensures
    ∙ same_at (λ e. e.lo) (λ e. e.hi) c.self.inside.enclosures.items c.args.self.now c.args.place c.index.result.now d
    (c.self.invariant ∙ ap (λ is. map {B = ℕ × ℕ} (λ i. (i.lo, i.hi)) is) c.self.view_is) c.requires

pub returns-clause-lo : goal.returns-clause-lo
returns-clause-lo c d = ap (λ (e : ℕ × ℕ). e.0) (same_ends (goal.at.returns-clause-lo c).After-index d)

pub returns-clause-hi : goal.returns-clause-hi
returns-clause-hi c d = ap (λ (e : ℕ × ℕ). e.1) (same_ends (goal.at.returns-clause-hi c).After-index d)
