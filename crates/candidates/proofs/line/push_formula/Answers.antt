use Rattle.std.proofs.Common.{◌≡◌, true, sym, ap, subst, ◌∙◌, rules, SFits}
use Rattle.std.specs.Int.{w128}
use Rattle.std.specs.Prelude.{ℤ, is_some}
use Rattle.std.proofs.lemmas.Int.{to_z-of_z}
use Rattle.adducts.specs.Ions.{ion_of}
use Rattle.adducts.specs.Adducts.{divisor_of}
use Rattle.report_lines.specs.ReportLines.{IsPrintedMass, formula_line}
use Rattle.candidates.proofs.LineTexts.{ion-printed, ion-line, line-told}
use Rattle.candidates.proofs.line.push_formula.Goals as goal

pub push_items_line-requires : goal.push_items_line-requires
push_items_line-requires c =
    let premises = c.args.premises.now in
    let is = c.adduct.ensures.premises in
    let fits : SFits w128 c.ion_mass-ion_mass.result = search rules in
    let defined : is_some (ion_of premises.adduct c.args.formula.now) ≡ true =
    sym (ap (λ a. is_some (ion_of a c.args.formula.now)) c.adduct.ensures.adduct) ∙ sym c.is_ionized.ensures
    ∙ c.if-not-is_ionized.false in
    subst IsPrintedMass (sym (to_z-of_z w128 c.ion_mass-ion_mass.result fits))
    (ion-printed premises.table premises.adduct c.args.formula.now c.args.mass c.ion_mass-ion_mass.result is.is_table
    is.is_adduct c.requires.formula defined c.requires.mass c.ion_mass-ion_mass.ensures)

pub returns-clause-line : goal.returns-clause-line
returns-clause-line c =
    let premises = c.args.premises.now in
    let is = c.adduct.ensures.premises in
    let fits : SFits w128 c.ion_mass-ion_mass.result = search rules in
    let defined : is_some (ion_of premises.adduct c.args.formula.now) ≡ true =
    sym (ap (λ a. is_some (ion_of a c.args.formula.now)) c.adduct.ensures.adduct) ∙ sym c.is_ionized.ensures
    ∙ c.if-not-is_ionized.false in
    line-told c.push_items_line.result c.args.report.now.items c.push_items_line.new.report.items _ _
    c.push_items_line.ensures.line
    (ap (λ (z : ℤ). formula_line c.args.formula.now c.args.mass z c.args.mz c.divisor.result)
    (to_z-of_z w128 c.ion_mass-ion_mass.result fits)
    ∙ ion-line premises.table premises.adduct c.args.formula.now c.args.mz c.args.mass c.divisor.result
    c.ion_mass-ion_mass.result is.is_table is.is_adduct c.requires.formula defined c.requires.mass
    c.ion_mass-ion_mass.ensures (c.divisor.ensures.divisor ∙ ap divisor_of c.adduct-2.ensures.adduct))
