-- The mode's bounds are those that the steps to it give.
use Rattle.std.proofs.Common.{◌∙◌, ap}
use Rattle.multinomial_bounds.specs.Bounds.{floor_of, ceiling_of}
use Rattle.multinomial_bounds.specs.Mode.{mode_bound}
use Rattle.sub_isotopologues.specs.Growth.{Grown}
use Rattle.sub_isotopologues.proofs.KeptLists.{mode-lo, mode-hi}
use Rattle.sub_isotopologues.proofs.grown.GrownItems.mode.Goals as goal

pub returns-clause-lo : goal.returns-clause-lo
returns-clause-lo c =
    c.enclosure.ensures.lo
    ∙ mode-lo _ _ _ _ c.self.invariant
    ∙ ap (λ (g : Grown). mode_bound floor_of g.element.weights g.element.atoms) c.self.view_is

pub returns-clause-hi : goal.returns-clause-hi
returns-clause-hi c =
    c.enclosure.ensures.hi
    ∙ mode-hi _ _ _ _ c.self.invariant
    ∙ ap (λ (g : Grown). mode_bound ceiling_of g.element.weights g.element.atoms) c.self.view_is
