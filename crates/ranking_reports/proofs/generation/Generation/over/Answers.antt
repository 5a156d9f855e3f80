use Rattle.std.proofs.Common.{◌≡◌, ℕ, List, [], length, refl, sym, ap, ◌∙◌, subst}
use Rattle.std.specs.Prelude.{All, None, Result, Ok, Err}
use Rattle.std.proofs.lemmas.List.{length-map}
use Rattle.std.proofs.lemmas.Result.{err_from_is_err_and}
use Rattle.reader_answers.specs.Answers.{◌>>=◌}
use Rattle.element_table.specs.Elements.{TableEntries}
use Rattle.alphabet_text.specs.declared.entries.AlphabetEntry.{AlphabetEntry}
use Rattle.adducts.specs.Adducts.{AdductValue}
use Rattle.candidates.specs.Grounds.{GroundValue}
use Rattle.command_words.specs.declared.options.TheConstants.{DEFAULT_TURN}
use Rattle.formula_text.specs.Masses.{HasItems}
use Rattle.golden_rules.specs.declared.rule.Rule.{Rule}
use Rattle.mass_scaling.specs.declared.tolerances.Tolerance.TheVariants.{Ppm}
use Rattle.peak_ranking.specs.RankQueries.{RankQuery}
use Rattle.written_items.specs.declared.item.Item.{Item}
use Rattle.command_io.specs.Steps.{adduct_step, alphabet_step}
use Rattle.command_io.specs.declared.input_fault.InputFault.{InputFault}
use Rattle.command_io.specs.declared.refusal.Refusal.{Refusal}
use Rattle.command_io.proofs.GivenSteps.{gives_next, gives_stop}
use Rattle.ranking_reports.specs.Answers.{generation_of, made_adduct, made_alphabet, made_step}
use Rattle.ranking_reports.specs.Queries.{GenerateQuery}
use Rattle.ranking_reports.specs.declared.generation.TheConstants.{MADE_COVERAGE, MADE_PPM}
use Rattle.ranking_reports.proofs.generation.Generation.over.Goals as goal

-- what follows the peaks, the adduct, and the alphabet
abbrev behind_peaks : ℕ → TableEntries → List AlphabetEntry → AdductValue → List (ℕ × ℕ) →
    Result GenerateQuery InputFault
behind_peaks number table alphabet adduct peaks = Ok (generation_of table alphabet adduct number peaks)

abbrev behind_adduct : ℕ → TableEntries → List AlphabetEntry → AdductValue → Result GenerateQuery InputFault
behind_adduct number table alphabet adduct =
    made_step table adduct number >>= λ peaks. behind_peaks number table alphabet adduct peaks

abbrev behind_alphabet : ℕ → TableEntries → List AlphabetEntry → Result GenerateQuery InputFault
behind_alphabet number table alphabet =
    adduct_step table made_adduct >>= λ adduct. behind_adduct number table alphabet adduct

pub returns-in_err-alphabet : goal.returns-in_err-alphabet
returns-in_err-alphabet c =
    let a = c.args in
    let given = err_from_is_err_and c.from_residual.result c.from_residual.ensures.1 in
    rw (given.1, given.2) (gives_stop (λ x. x) (λ g. g) (alphabet_step a.table made_alphabet)
    (behind_alphabet a.number a.table) _ c.in_err-alphabet.ensures.alphabet)

pub returns-in_err-adduct : goal.returns-in_err-adduct
returns-in_err-adduct c =
    let a = c.args in
    let alphabet = c.in_ok-alphabet.alphabet in
    let given = err_from_is_err_and c.from_residual-in_err-adduct.result c.from_residual-in_err-adduct.ensures.1 in
    rw (given.1, given.2) (gives_next (λ g. g) (alphabet_step a.table made_alphabet)
    (behind_alphabet a.number a.table) alphabet (Err c.in_err-adduct.field-0.0) c.in_ok-alphabet.ensures.alphabet
    (gives_stop (λ x. x) (λ g. g) (adduct_step a.table made_adduct) (behind_adduct a.number a.table alphabet) _
    c.in_err-adduct.ensures.adduct))

pub returns-in_err-peaks : goal.returns-in_err-peaks
returns-in_err-peaks c =
    let a = c.args in
    let alphabet = c.in_ok-alphabet.alphabet in
    let adduct = c.in_ok-adduct.adduct in
    let given = err_from_is_err_and c.from_residual-in_err-peaks.result c.from_residual-in_err-peaks.ensures.1 in
    rw (given.1, given.2) (gives_next (λ g. g) (alphabet_step a.table made_alphabet)
    (behind_alphabet a.number a.table) alphabet (Err c.in_err-peaks.field-0.0) c.in_ok-alphabet.ensures.alphabet
    (gives_next (λ g. g) (adduct_step a.table made_adduct) (behind_adduct a.number a.table alphabet) adduct
    (Err c.in_err-peaks.field-0.0) c.in_ok-adduct.ensures.adduct
    (gives_stop (λ x. x) (λ g. g) (made_step a.table adduct a.number)
    (behind_peaks a.number a.table alphabet adduct) _ c.in_err-peaks.ensures.peaks)))

-- the ranking of made peaks, so many of them
abbrev ranking_over : GroundValue → List (ℕ × ℕ) → ℕ → RankQuery
ranking_over premises peaks jobs = record {
  premises = premises;
  peaks = peaks;
  first = 0;
  jobs = jobs;
  coverage = MADE_COVERAGE;
  turn = DEFAULT_TURN;
  turns = None;
}

pub returns : goal.returns
returns c =
    let a = c.args in
    let alphabet = c.in_ok-alphabet.alphabet in
    let adduct = c.in_ok-adduct.adduct in
    let peaks = c.in_ok-peaks.peaks in
    let jobs : ℕ = length c.mz.result.now in
    let count : jobs ≡ length peaks = ap length c.mz.ensures.mz ∙ length-map peaks (λ (p : ℕ × ℕ). p.0) in
    let ground : List Rule → GroundValue = λ rules. record {
      table = a.table;
      alphabet = alphabet;
      adduct = adduct;
      tolerance = Ppm MADE_PPM;
      rules = rules;
    } in
    let made : RankQuery → Result GenerateQuery InputFault = λ ranking. Ok (record { number = a.number; ranking = ranking }) in
    let answered : Result GenerateQuery Refusal = Ok (record { number = a.number; ranking = c.of-2.result }) in
    gives_next (λ g. g) (alphabet_step a.table made_alphabet) (behind_alphabet a.number a.table) alphabet answered
    c.in_ok-alphabet.ensures.alphabet
    (gives_next (λ g. g) (adduct_step a.table made_adduct) (behind_adduct a.number a.table alphabet) adduct answered
    c.in_ok-adduct.ensures.adduct
    (gives_next (λ g. g) (made_step a.table adduct a.number) (behind_peaks a.number a.table alphabet adduct) peaks
    answered c.in_ok-peaks.ensures.peaks
    (ap (λ n. made (ranking_over (ground []) peaks n)) (sym count)
    ∙ ap (λ rules. made (ranking_over (ground rules) peaks jobs)) (sym c.none-rules.ensures)
    ∙ ap (λ premises. made (ranking_over premises peaks jobs)) (sym c.in_ok-premises.ensures.made)
    ∙ ap made (sym c.of-2.ensures))))

pub peaks_of_made-requires-clause-known : goal.peaks_of_made-requires-clause-known
peaks_of_made-requires-clause-known c =
    subst (λ (fs : List (List (Item × ℕ))). All (HasItems c.args.table) fs) (sym c.deref.ensures.value)
    (c.in_ok-formulas.ensures.known c.args.table (c.in_ok-alphabet.ensures.known refl))
