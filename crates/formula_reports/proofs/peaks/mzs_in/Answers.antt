use Rattle.std.proofs.Common.{ℕ, ◌<◌, List, length, map, sym, ◌∙◌, subst, arith}
use Rattle.std.specs.Prelude.{All}
use Rattle.std.proofs.lemmas.List.{length-map, get_or-map}
use Rattle.peak_text.specs.PeakLists.{IsPeak}
use Rattle.formula_reports.specs.Inputs.{IsMz}
use Rattle.formula_reports.proofs.peaks.mzs_in.Goals as goal

-- the m/z of peaks are in their range
in_range : (peaks : List (ℕ × ℕ)) → All IsPeak peaks → All IsMz (map (λ peak. peak.0) peaks)
in_range peaks each = λ k d h.
    let here : k < length peaks = omega (arith, h, length-map peaks (λ (p : ℕ × ℕ). p.0)) in
    let is = each k (0, 0) here in
    subst IsMz (sym (get_or-map (λ (p : ℕ × ℕ). p.0) peaks k (0, 0) d here))
    (record { above_zero = is.mz_from; in_range = is.mz_to })

pub returns-clause-in_range : goal.returns-clause-in_range
returns-clause-in_range c =
    subst (All IsMz) (sym (c.in_ok-from_slice.ensures.items ∙ c.mz.ensures.mz))
    (in_range c.in_ok-peaks.peaks c.mz.ensures.peaks.each)
