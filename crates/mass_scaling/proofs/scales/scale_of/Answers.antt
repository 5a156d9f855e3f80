use Rattle.std.proofs.Common.{◌≡◌, rules}
use Rattle.mass_scaling.specs.Scales.{scaled_of}
use Rattle.mass_scaling.proofs.ScaledMasses.{are_scaled}
use Rattle.mass_scaling.proofs.scales.scale_of.Goals as goal

pub returns-clause-scaled : goal.returns-clause-scaled
returns-clause-scaled c =
    let is : c.in_ok-scaled.scaled.items ≡ scaled_of c.args.masses.now = search rules in
    rw is (are_scaled c.args.masses.now c.requires c.if-base-gt-MAX_BASE_MASS.false)
