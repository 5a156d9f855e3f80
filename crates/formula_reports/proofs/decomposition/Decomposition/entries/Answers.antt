use Rattle.std.proofs.Common.{◌≡◌, ℕ, ◌+◌, ◌<◌, true, List, length, map, take, get_or, sym, ap, ◌∙◌, subst, All, arith}
use Rattle.std.specs.Prelude.{is_some}
use Rattle.std.proofs.lemmas.List.{take_all}
use Rattle.std.proofs.lemmas.List.FromFn.{length-enumerate_from}
use Rattle.element_table.specs.Elements.{TableEntries}
use Rattle.written_items.specs.declared.item.Item.{Item}
use Rattle.formula_text.specs.Masses.{HasItems}
use Rattle.adducts.specs.Adducts.{AdductValue}
use Rattle.adducts.specs.Ions.{ion_of}
use Rattle.candidates.specs.Grounds.{IsGround}
use Rattle.report_text.specs.JsonReports.{with_peak}
use Rattle.report_text.specs.declared.report.Report.{Report}
use Rattle.report_text.specs.declared.report.Report.TheVariants.{Decompose}
use Rattle.formula_reports.specs.Reports.{asked_formulas, peak_in}
use Rattle.formula_reports.specs.PageFormulas.{numbered}
use Rattle.formula_reports.specs.Queries.{FormulaQuery}
use Rattle.formula_reports.proofs.JsonEntries.{page_ions, page_known, peak_added}
use Rattle.formula_reports.proofs.decomposition.Decomposition.entries.Goals as goal

pub add_peak-requires-clause-known : goal.add_peak-requires-clause-known
add_peak-requires-clause-known c =
    let query = c.args.self.now in
    let mz : ℕ = get_or c.deref-mz-items.result.now c.loop-mz.mz-index 0 in
    let ground : IsGround query.premises =
    subst (λ (q : FormulaQuery). IsGround q.premises) c.self.view_is c.self.invariant.2 in
    let table : c.table-table.result.now ≡ query.premises.table =
    c.table-table.ensures.table ∙ ap (λ (q : FormulaQuery). q.premises.table) c.self.view_is in
    let page : c.deref.result.now ≡ asked_formulas query mz = c.deref.ensures.value ∙ c.in_ok-formulas.ensures in
    subst (λ (t : TableEntries). All (HasItems t) c.deref.result.now) (sym table)
    (subst (λ (fs : List (List (Item × ℕ))). All (HasItems query.premises.table) fs) (sym page)
    (page_known query mz ground))

pub add_peak-requires-clause-defined : goal.add_peak-requires-clause-defined
add_peak-requires-clause-defined c =
    let query = c.args.self.now in
    let mz : ℕ = get_or c.deref-mz-items.result.now c.loop-mz.mz-index 0 in
    let adduct : c.adduct-adduct.result.now ≡ query.premises.adduct =
    c.adduct-adduct.ensures.adduct ∙ ap (λ (q : FormulaQuery). q.premises.adduct) c.self.view_is in
    let page : c.deref.result.now ≡ asked_formulas query mz = c.deref.ensures.value ∙ c.in_ok-formulas.ensures in
    subst (λ (a : AdductValue). All (λ (f : List (Item × ℕ)). is_some (ion_of a f) ≡ true) c.deref.result.now) (sym adduct)
    (subst (λ (fs : List (List (Item × ℕ))). All (λ (f : List (Item × ℕ)).
    is_some (ion_of query.premises.adduct f) ≡ true) fs) (sym page) (page_ions query mz))

pub loop-mz-preserved : goal.loop-mz-preserved
loop-mz-preserved c =
    let query = c.args.self.now in
    let own_table = query.premises.table in
    let own_adduct = query.premises.adduct in
    let i = c.loop-mz.mz-index in
    let items = c.deref-mz-items.result.now in
    let mz : ℕ = get_or items i 0 in
    let mzs : items ≡ query.mzs =
    c.deref-mz-items.ensures.value ∙ ap (λ (q : FormulaQuery). q.mzs) c.self.view_is in
    let inside : i < length query.mzs = omega (arith, ap length mzs, c.loop-mz-test.true) in
    let table : c.table-table.result.now ≡ query.premises.table =
    c.table-table.ensures.table ∙ ap (λ (q : FormulaQuery). q.premises.table) c.self.view_is in
    let adduct : c.adduct-adduct.result.now ≡ query.premises.adduct =
    c.adduct-adduct.ensures.adduct ∙ ap (λ (q : FormulaQuery). q.premises.adduct) c.self.view_is in
    let page : c.deref.result.now ≡ asked_formulas query mz = c.deref.ensures.value ∙ c.in_ok-formulas.ensures in
    let so_far : Report = Decompose (map (peak_in query) (take i (numbered query.mzs))) in
    c.in_ok-add_peak.ensures.added
    ∙ ap (λ (t : TableEntries). with_peak t c.adduct-adduct.result.now mz c.deref.result.now c.loop-mz.report) table
    ∙ ap (λ (a : AdductValue). with_peak own_table a mz c.deref.result.now c.loop-mz.report) adduct
    ∙ ap (λ (fs : List (List (Item × ℕ))). with_peak own_table own_adduct mz fs c.loop-mz.report) page
    ∙ ap (λ (r : Report). with_peak own_table own_adduct mz (asked_formulas query mz) r) c.loop-mz.invariant
    ∙ ap (λ (xs : List ℕ). with_peak own_table own_adduct (get_or xs i 0) (asked_formulas query (get_or xs i 0)) so_far) mzs
    ∙ peak_added query i inside

pub returns : goal.returns
returns c =
    let query = c.args.self.now in
    let i = c.loop-mz.mz-index in
    let mzs : c.deref-mz-items.result.now ≡ query.mzs =
    c.deref-mz-items.ensures.value ∙ ap (λ (q : FormulaQuery). q.mzs) c.self.view_is in
    c.loop-mz.invariant
    ∙ ap (λ (ps : List (ℕ × ℕ)). Decompose (map (peak_in query) ps)) (take_all i (numbered query.mzs)
    (omega (arith, ap length mzs, c.loop-mz-test.false, length-enumerate_from 1 query.mzs)))
