use Rattle.peak_text.proofs.PeakRecords.{peak_of-count}
use Rattle.peak_text.proofs.read.read_pair.Goals as goal

pub returns-in-None-clause-pair : goal.returns-in-None-clause-pair
returns-in-None-clause-pair c = peak_of-count _ _ c.in-None.ensures
