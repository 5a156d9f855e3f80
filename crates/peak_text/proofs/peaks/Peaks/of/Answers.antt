use Rattle.peak_text.proofs.PeakColumns.{ArePeaks-are_peaks}
use Rattle.peak_text.proofs.peaks.Peaks.of.Goals as goal

pub returns-else-are_peaks-clause-some : goal.returns-else-are_peaks-clause-some
returns-else-are_peaks-clause-some c = (λ no. absurd (cc), λ peaks. let yes = ArePeaks-are_peaks _ peaks in cc)
