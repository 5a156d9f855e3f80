use Rattle.std.proofs.Common.{◌-◌, ◌∙◌, ap}
use Rattle.isotopologue_sets.specs.Layers.{threshold_at}
use Rattle.layered_envelope.proofs.Thresholds.{number_is}
use Rattle.layered_envelope.proofs.layers.Layers.threshold_of.Goals as goal

pub returns : goal.returns
returns c =
    let s = c.self.inside in
    number_is s.lists.items s.modes.items s.mode_hi s.given c.self.invariant.0 c.args.number c.requires.some
    ∙ ap (λ l. threshold_at l.elements (c.args.number - 1)) c.self.view_is
