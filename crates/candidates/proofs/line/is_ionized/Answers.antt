use Rattle.adducts.proofs.IonCounts.{formula-AreCounts}
use Rattle.candidates.proofs.line.is_ionized.Goals as goal

pub has_ion-requires : goal.has_ion-requires
has_ion-requires c = formula-AreCounts c.args.formula.now c.requires
