use Rattle.peak_text.proofs.PeakColumns.{AreColumns-pairs, zip-columns}
use Rattle.peak_text.proofs.peaks.Peaks.of_pairs.Goals as goal

pub invariant_of-result : goal.invariant_of-result
invariant_of-result c = rw (c.in_ok-mz.ensures, c.in_ok-intensity.ensures) (AreColumns-pairs _ c.requires)

pub returns : goal.returns
returns c = rw (c.in_ok-mz.ensures, c.in_ok-intensity.ensures) (zip-columns _)
