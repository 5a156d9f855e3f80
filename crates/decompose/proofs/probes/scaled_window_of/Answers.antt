use Rattle.std.proofs.Common.{arith}
use Rattle.decompose.proofs.ScaledEnds.{scaled_exact, scaled_keeps}
use Rattle.decompose.proofs.probes.scaled_window_of.Goals as goal
use Rattle.decompose.proofs.probes.scaled_window_of.Goals.{After-scaled_window}
use Rattle.decompose.specs.Probes.{AreTables}

module _ (c : After-scaled_window) where
  tables_ok : AreTables c.args.tables.now c.tables.inside.scale c.tables.inside.residues
  tables_ok = rw c.tables.view_is at c.tables.invariant

pub returns-clause-exact : goal.returns-clause-exact
returns-clause-exact c =
    let found = rw (c.deref.ensures.value, c.tables.view_is) at c.scaled_window.ensures in
    scaled_exact c.args.tables.now c.tables.inside.scale.scaled c.args.window (tables_ok c).scale_is.scaled
    (omega arith) c.scaled_window.result found.exact found.none.0 found.not_empty

pub returns-clause-loses_nothing : goal.returns-clause-loses_nothing
returns-clause-loses_nothing c =
    let found = rw (c.deref.ensures.value, c.tables.view_is) at c.scaled_window.ensures in
    scaled_keeps c.args.tables.now c.tables.inside.scale.scaled c.args.window (tables_ok c).scale_is.scaled
    (omega arith) c.scaled_window.result (returns-clause-exact c) found.loses_nothing found.in_grains
