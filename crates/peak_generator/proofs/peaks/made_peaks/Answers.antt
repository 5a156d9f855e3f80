use Rattle.std.proofs.Common.{◌≡◌, ℕ, ◌+◌, List, length, sym, ap, ◌∙◌}
use Rattle.std.specs.Prelude.{Option, Some, Ok, option_map}
use Rattle.std.specs.List.{filter_map}
use Rattle.reader_answers.specs.Answers.{unless_fault}
use Rattle.peak_text.specs.PeakLists.{peaks_in}
use Rattle.peak_text.specs.declared.fault.PeakFault.TheVariants as fault
use Rattle.peak_generator.specs.MadePeaks.{made_peak, made_peaks}
use Rattle.peak_generator.proofs.PeakPairs.{length-made, none-left, peaks_in-made}
use Rattle.peak_generator.proofs.peaks.made_peaks.Goals as goal

pub returns-in-Some-clause-peaks : goal.returns-in-Some-clause-peaks
unfolding made_peaks
returns-in-Some-clause-peaks c =
    let pairs : List (ℕ × ℕ) =
    filter_map (made_peak c.args.table.now c.args.adduct.now) c.args.formulas.now in
    ap (λ (o : Option ℕ). unless_fault (option_map (λ place. fault.Mz (place + 2)) o) (Ok pairs))
    (sym c.place_without.ensures ∙ c.in-Some.is)

pub unreachable-requires : goal.unreachable-requires
unreachable-requires c =
    let pairs : List (ℕ × ℕ) =
    filter_map (made_peak c.args.table.now c.args.adduct.now) c.args.formulas.now in
    let some : c.in_ok-peaks.field-0 ≡ Some pairs =
    c.in_ok-peaks.ensures.peaks ∙ ap peaks_in (c.deref.ensures.value ∙ c.in_ok-pairs.ensures)
    ∙ peaks_in-made c.args.table.now c.args.adduct.now c.args.formulas.now c.requires.few in
    cc (some, c.in-None.is)

pub returns-clause-peaks : goal.returns-clause-peaks
unfolding made_peaks
returns-clause-peaks c =
    let pairs : List (ℕ × ℕ) =
    filter_map (made_peak c.args.table.now c.args.adduct.now) c.args.formulas.now in
    let some : c.in_ok-peaks.field-0 ≡ Some pairs =
    c.in_ok-peaks.ensures.peaks ∙ ap peaks_in (c.deref.ensures.value ∙ c.in_ok-pairs.ensures)
    ∙ peaks_in-made c.args.table.now c.args.adduct.now c.args.formulas.now c.requires.few in
    let same : pairs ≡ c.in-Some-2.peaks = cc (some, c.in-Some-2.is) in
    ap (λ (o : Option ℕ). unless_fault (option_map (λ place. fault.Mz (place + 2)) o) (Ok pairs))
    (sym c.place_without.ensures ∙ none-left c.place_without.result c.in_default.not-Some)
    ∙ ap Ok same

pub returns-clause-count : goal.returns-clause-count
returns-clause-count c =
    let pairs : List (ℕ × ℕ) =
    filter_map (made_peak c.args.table.now c.args.adduct.now) c.args.formulas.now in
    let some : c.in_ok-peaks.field-0 ≡ Some pairs =
    c.in_ok-peaks.ensures.peaks ∙ ap peaks_in (c.deref.ensures.value ∙ c.in_ok-pairs.ensures)
    ∙ peaks_in-made c.args.table.now c.args.adduct.now c.args.formulas.now c.requires.few in
    let same : c.in-Some-2.peaks ≡ pairs = cc (some, c.in-Some-2.is) in
    ap length same
    ∙ length-made c.args.table.now c.args.adduct.now c.args.formulas.now
    (sym c.place_without.ensures ∙ none-left c.place_without.result c.in_default.not-Some)
