use Rattle.std.proofs.Common.{arith}
use Rattle.std.proofs.lemmas.Int.{ints}
use Rattle.mass_scaling.proofs.CopiedMasses.{some_window, no_window}
use Rattle.mass_scaling.proofs.windows.window_of.Goals as goal

pub returns-clause-exact : goal.returns-clause-exact
returns-clause-exact c =
    some_window _ _ _ _ _ _ _ (omega (arith, ints)) (omega (arith, ints)) c.ions_within-ions.ensures.exact _
    c.masses_between.ensures.window c.masses_between.ensures.exact

pub returns-clause-none : goal.returns-clause-none
returns-clause-none c =
    no_window _ _ _ _ _ _ _ (omega (arith, ints)) (omega (arith, ints)) c.ions_within-ions.ensures.exact _
    c.masses_between.ensures.window c.masses_between.ensures.exact c.masses_between.ensures.none
