use Rattle.std.proofs.Common.{◌≡◌, ◌*◌, get_or, arith}
use Rattle.std.specs.Int.{div_ceil}
use Rattle.mass_scaling.specs.Masses.{mass_of}
use Rattle.mass_scaling.specs.Scales.{scaled_of}
use Rattle.mass_scaling.proofs.RatioLemmas.{swapped}
use Rattle.mass_scaling.proofs.ScaledMasses.{ratios}
use Rattle.mass_scaling.proofs.ScaledWindows.{between, hi_in_grains, lo_fits, loses_nothing}
use Rattle.mass_scaling.proofs.scales.ends_of.Goals as goal

pub least_ratio-heaviest-requires : goal.least_ratio-heaviest-requires
least_ratio-heaviest-requires c =
    rw c.requires.scaled (swapped c.args.masses.now (scaled_of c.args.masses.now)
    (ratios c.args.masses.now c.requires.masses))

pub least_ratio-lightest-requires : goal.least_ratio-lightest-requires
least_ratio-lightest-requires c = rw c.requires.scaled (ratios c.args.masses.now c.requires.masses)

pub returns-clause-exact : goal.returns-clause-exact
returns-clause-exact c mass =
    let greatest = rw c.requires.scaled at c.least_ratio-heaviest.ensures in
    let least = rw c.requires.scaled at c.least_ratio-lightest.ensures in
    between c.args.masses.now c.requires.masses c.args.window _ _ least greatest _ _ (cc) (cc) mass

pub returns-clause-loses_nothing : goal.returns-clause-loses_nothing
returns-clause-loses_nothing c counts h =
    let greatest = rw c.requires.scaled at c.least_ratio-heaviest.ensures in
    let least = rw c.requires.scaled at c.least_ratio-lightest.ensures in
    rw c.requires.scaled
    ((returns-clause-exact c (mass_of (scaled_of c.args.masses.now) counts)).0
    (loses_nothing c.args.masses.now c.requires.masses c.args.window _ _ least greatest counts h))

pub returns-clause-in_grains : goal.returns-clause-in_grains
returns-clause-in_grains c =
    let greatest = rw c.requires.scaled at c.least_ratio-heaviest.ensures in
    let least = rw c.requires.scaled at c.least_ratio-lightest.ensures in
    hi_in_grains c.args.masses.now c.requires.masses c.args.window _ _ least greatest _ (cc)

pub overflow_cast-result : goal.overflow_cast-result
overflow_cast-result c =
    let greatest = rw c.requires.scaled at c.least_ratio-heaviest.ensures in
    let least = rw c.requires.scaled at c.least_ratio-lightest.ensures in
    let bound = lo_fits c.args.masses.now c.requires.masses c.args.window _ _ least greatest in
    let is : c.div_ceil.result
    ≡ div_ceil
    (c.args.window.lo * get_or (scaled_of c.args.masses.now) c.least_ratio-heaviest.result 0)
    (get_or c.args.masses.now c.least_ratio-heaviest.result 0) = cc in
    omega (arith, is, bound)
