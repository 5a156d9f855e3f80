use Rattle.std.proofs.Common.{◌∙◌, sym, ap, map}
use Rattle.std.proofs.lemmas.Slice.Zip.{seconds-zip}
use Rattle.peak_text.proofs.peaks.Peaks.intensity.Goals as goal

pub returns-clause-intensity : goal.returns-clause-intensity
returns-clause-intensity c = c.deref.ensures.value ∙ sym (seconds-zip _ _ c.self.invariant.as_long)
    ∙ ap (map (λ peak. peak.1)) c.self.view_is
