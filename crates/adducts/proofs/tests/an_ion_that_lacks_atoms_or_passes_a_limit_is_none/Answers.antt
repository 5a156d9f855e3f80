use Rattle.std.proofs.Common.{sym, subst}
use Rattle.adducts.specs.Ions.{AreCounts}
use Rattle.adducts.proofs.IonCounts.{formula-AreCounts}
use Rattle.adducts.proofs.tests.an_ion_that_lacks_atoms_or_passes_a_limit_is_none.Goals as goal

pub has_ion-requires : goal.has_ion-requires
has_ion-requires g c =
    subst AreCounts (sym c.items.ensures.items) (formula-AreCounts c.in_ok-formula.formula c.items.ensures.formula)
