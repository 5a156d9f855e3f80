-- The law is a lemma on the definitions.
use Rattle.peak_formulas.proofs.PeakLists.{all_of_peak}
use Rattle.peak_formulas.proofs.laws.peak_laws.Goals as goal

pub returns : goal.returns
returns c = all_of_peak
