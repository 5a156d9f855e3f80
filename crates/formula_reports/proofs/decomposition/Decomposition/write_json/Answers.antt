use Rattle.std.proofs.Common.{◌≡◌, ℕ, List, map, refl, ap, ◌∙◌, subst}
use Rattle.candidates.specs.Grounds.{IsGround}
use Rattle.report_text.specs.JsonReports.{json_text}
use Rattle.report_text.specs.declared.report.Report.TheVariants.{Decompose}
use Rattle.command_io.specs.Parts.{Puts}
use Rattle.formula_reports.specs.Reports.{formulas_json, peak_in}
use Rattle.formula_reports.specs.PageFormulas.{numbered}
use Rattle.formula_reports.specs.Queries.{FormulaQuery}
use Rattle.formula_reports.proofs.PageLists.{prints_all}
use Rattle.formula_reports.proofs.decomposition.Decomposition.write_json.Goals as goal

-- the line of the entries of the peaks is their report
whole : (query : FormulaQuery) →
    json_text (Decompose (map (peak_in query) (numbered query.mzs))) ≡ formulas_json query
unfolding formulas_json
whole query = refl

pub returns-in_err-report-clause-holds : goal.returns-in_err-report-clause-holds
returns-in_err-report-clause-holds g c =
    prints_all c.args.self.now (subst (λ (q : FormulaQuery). IsGround q.premises) c.self.view_is c.self.invariant.2)

pub returns-in_err-json_text-clause-holds : goal.returns-in_err-json_text-clause-holds
returns-in_err-json_text-clause-holds g c =
    prints_all c.args.self.now (subst (λ (q : FormulaQuery). IsGround q.premises) c.self.view_is c.self.invariant.2)

pub returns-clause-puts : goal.returns-clause-puts
returns-clause-puts g c =
    let query = c.args.self.now in
    let text : c.deref.result.now ≡ formulas_json query =
    c.deref.ensures.value ∙ c.in_ok-json_text.ensures ∙ ap json_text c.in_ok-report.ensures ∙ whole query in
    subst (λ (t : List ℕ). Puts t (g.O.Sink.written c.args.out.now) (g.O.Sink.written c.put_line.new.out)
    (g.O.Sink.faults c.args.out.now) (g.O.Sink.faults c.put_line.new.out) c.put_line.result) text c.put_line.ensures

pub returns-clause-holds : goal.returns-clause-holds
returns-clause-holds g c =
    prints_all c.args.self.now (subst (λ (q : FormulaQuery). IsGround q.premises) c.self.view_is c.self.invariant.2)
