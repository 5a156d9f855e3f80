use Rattle.std.proofs.Common.{SFits, subst}
use Rattle.std.specs.Prelude.{ℤ, Result, Err}
use Rattle.std.proofs.lemmas.Result.{err_from_is_err_and}
use Rattle.reader_answers.specs.Answers.{◌>>=◌}
use Rattle.element_table.specs.Elements.{TableEntries}
use Rattle.adducts.specs.Adducts.{AdductValue}
use Rattle.std.specs.Int.{w128}
use Rattle.std.proofs.lemmas.Int.{to_z-of_z}
use Rattle.command_io.specs.Refusals.{GivesInput}
use Rattle.command_io.specs.Steps.{adduct_step}
use Rattle.command_io.specs.declared.input_fault.InputFault.{InputFault}
use Rattle.command_io.proofs.GivenSteps.{gives_next, gives_stop}
use Rattle.cover_reports.specs.Answers.{cover_query, electron_shift}
use Rattle.cover_reports.specs.Queries.{CoverQuery}
use Rattle.cover_reports.specs.Steps.{ion_step}
use Rattle.cover_reports.specs.declared.envelope.EnvelopeOptions.{EnvelopeOptions}
use Rattle.cover_reports.proofs.PrintedMasses.{fits_small}
use Rattle.cover_reports.proofs.envelope.Envelope.over.Goals as goal

-- what follows the adduct
abbrev behind_adduct : EnvelopeOptions → TableEntries → AdductValue → Result CoverQuery InputFault
behind_adduct options table adduct =
    ion_step table adduct options.formula >>= λ ion. cover_query table ion (electron_shift table adduct) options.coverage

pub returns-in_err-adduct : goal.returns-in_err-adduct
returns-in_err-adduct c =
    let o = c.args.options.now in
    let given = err_from_is_err_and c.from_residual.result c.from_residual.ensures.1 in
    rw (given.1, given.2) (gives_stop (λ a. a) (λ e. e) (adduct_step c.args.table o.adduct)
    (behind_adduct o c.args.table) _ c.in_err-adduct.ensures.adduct)

pub returns-in_err-ion : goal.returns-in_err-ion
returns-in_err-ion c =
    let o = c.args.options.now in
    let adduct = c.in_ok-adduct.adduct in
    let given = err_from_is_err_and c.from_residual-in_err-ion.result c.from_residual-in_err-ion.ensures.1 in
    rw (given.1, given.2) (gives_next (λ e. e) (adduct_step c.args.table o.adduct) (behind_adduct o c.args.table)
    adduct (Err c.in_err-ion.field-0.0) c.in_ok-adduct.ensures.adduct
    (gives_stop (λ i. i) (λ e. e) (ion_step c.args.table adduct o.formula)
    (λ ion. cover_query c.args.table ion (electron_shift c.args.table adduct) o.coverage) _ c.in_err-ion.ensures.ion))

pub returns : goal.returns
returns c =
    let o = c.args.options.now in
    let adduct = c.in_ok-adduct.adduct in
    let ion = c.in_ok-ion.ion in
    let fits : SFits w128 c.electron_shift-shift.result =
    fits_small c.electron_shift-shift.result c.electron_shift-shift.ensures.small in
    gives_next (λ e. e) (adduct_step c.args.table o.adduct) (behind_adduct o c.args.table)
    adduct c.of_ion.result c.in_ok-adduct.ensures.adduct
    (gives_next (λ e. e) (ion_step c.args.table adduct o.formula)
    (λ ion. cover_query c.args.table ion (electron_shift c.args.table adduct) o.coverage) ion c.of_ion.result
    c.in_ok-ion.ensures.ion
    (subst (λ (s : ℤ). GivesInput (λ e. e) (cover_query c.args.table ion s o.coverage) c.of_ion.result)
    c.electron_shift-shift.ensures.shift (simp to_z-of_z at c.of_ion.ensures)))
