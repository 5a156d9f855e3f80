use Rattle.std.proofs.Common.{◌≡◌, ℕ, List, length, ap, ◌∙◌, arith}
use Rattle.written_items.specs.declared.item.Item.{Item}
use Rattle.peak_generator.proofs.MadeStates.{length-made_formulas}
use Rattle.ranking_reports.proofs.generation.peaks_of_made.Goals as goal

pub made_peaks-requires-clause-few : goal.made_peaks-requires-clause-few
made_peaks-requires-clause-few c =
    let count : length c.args.formulas.now ≡ 200 =
    ap (λ (fs : List (List (Item × ℕ))). length fs) c.requires.made ∙ length-made_formulas c.args.number 200 in
    omega (arith, count)

pub returns-clause-count : goal.returns-clause-count
returns-clause-count c =
    c.in_ok-made_peaks.ensures.count ∙ ap (λ (fs : List (List (Item × ℕ))). length fs) c.requires.made
    ∙ length-made_formulas c.args.number 200
