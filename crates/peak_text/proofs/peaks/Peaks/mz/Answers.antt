use Rattle.std.proofs.Common.{◌∙◌, sym, ap, map}
use Rattle.std.proofs.lemmas.Slice.Zip.{firsts-zip}
use Rattle.peak_text.proofs.peaks.Peaks.mz.Goals as goal

pub returns-clause-mz : goal.returns-clause-mz
returns-clause-mz c = c.deref.ensures.value ∙ sym (firsts-zip _ _ c.self.invariant.as_long)
    ∙ ap (map (λ peak. peak.0)) c.self.view_is
