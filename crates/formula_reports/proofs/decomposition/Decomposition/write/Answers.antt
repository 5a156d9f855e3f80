use Rattle.std.proofs.Common.{◌≡◌, ℕ, List, ◌++◌, length, refl, ap, ◌∙◌, subst}
use Rattle.std.specs.Prelude.{Err}
use Rattle.std.specs.List.{flat_map}
use Rattle.std.proofs.lemmas.Result.{err_from_is_err_and}
use Rattle.candidates.specs.Grounds.{IsGround}
use Rattle.report_lines.specs.ReportLines.{decompose_head}
use Rattle.command_io.specs.Parts.{Puts}
use Rattle.command_io.proofs.Puts.{puts_next, puts_stop}
use Rattle.formula_reports.specs.PageFormulas.{numbered}
use Rattle.formula_reports.specs.Queries.{FormulaQuery}
use Rattle.formula_reports.specs.Reports.{formulas_report, peak_lines}
use Rattle.formula_reports.proofs.PageLists.{prints_all}
use Rattle.formula_reports.proofs.decomposition.Decomposition.write.Goals as goal

-- a head and the lines behind it are the report
whole : (query : FormulaQuery) →
    decompose_head (length query.mzs) ++ flat_map (peak_lines query) (numbered query.mzs) ≡ formulas_report query
unfolding formulas_report
whole query = refl

pub returns-in_err-push_decompose_head-clause-holds : goal.returns-in_err-push_decompose_head-clause-holds
returns-in_err-push_decompose_head-clause-holds g c =
    prints_all c.args.self.now (subst (λ (q : FormulaQuery). IsGround q.premises) c.self.view_is c.self.invariant.2)

pub returns-in_err-put_text-clause-puts : goal.returns-in_err-put_text-clause-puts
returns-in_err-put_text-clause-puts g c =
    let query = c.args.self.now in
    let lines : List ℕ = flat_map (peak_lines query) (numbered query.mzs) in
    let given = err_from_is_err_and c.from_residual-in_err-put_text.result c.from_residual-in_err-put_text.ensures.1 in
    let head : c.deref.result.now ≡ decompose_head (length query.mzs) =
    c.deref.ensures.value ∙ c.in_ok-push_decompose_head.ensures.line
    ∙ ap (λ (t : List ℕ). t ++ decompose_head (length c.as_slice-mzs.result.now)) c.new-line.ensures.items
    ∙ ap (λ (ms : List ℕ). decompose_head (length ms)) (c.as_slice-mzs.ensures.value
    ∙ ap (λ (q : FormulaQuery). q.mzs) c.self.view_is) in
    rw (given.1, given.2)
    (subst (λ (t : List ℕ). Puts t (g.O.Sink.written c.args.out.now) (g.O.Sink.written c.put_text.new.out)
    (g.O.Sink.faults c.args.out.now) (g.O.Sink.faults c.put_text.new.out) (Err c.in_err-put_text.field-0.0))
    (ap (λ t. t ++ lines) head ∙ whole query)
    (puts_stop c.deref.result.now lines _ _ _ _ _ c.in_err-put_text.ensures))

pub returns-in_err-put_text-clause-holds : goal.returns-in_err-put_text-clause-holds
returns-in_err-put_text-clause-holds g c =
    prints_all c.args.self.now (subst (λ (q : FormulaQuery). IsGround q.premises) c.self.view_is c.self.invariant.2)

pub returns-clause-puts : goal.returns-clause-puts
returns-clause-puts g c =
    let query = c.args.self.now in
    let lines : List ℕ = flat_map (peak_lines query) (numbered query.mzs) in
    let head : c.deref.result.now ≡ decompose_head (length query.mzs) =
    c.deref.ensures.value ∙ c.in_ok-push_decompose_head.ensures.line
    ∙ ap (λ (t : List ℕ). t ++ decompose_head (length c.as_slice-mzs.result.now)) c.new-line.ensures.items
    ∙ ap (λ (ms : List ℕ). decompose_head (length ms)) (c.as_slice-mzs.ensures.value
    ∙ ap (λ (q : FormulaQuery). q.mzs) c.self.view_is) in
    subst (λ (t : List ℕ). Puts t (g.O.Sink.written c.args.out.now) (g.O.Sink.written c.write_peaks.new.out)
    (g.O.Sink.faults c.args.out.now) (g.O.Sink.faults c.write_peaks.new.out) c.write_peaks.result)
    (ap (λ t. t ++ lines) head ∙ whole query)
    (puts_next c.deref.result.now lines _ _ _ _ _ _ _ c.in_ok-put_text.ensures c.write_peaks.ensures)

pub returns-clause-holds : goal.returns-clause-holds
returns-clause-holds g c =
    prints_all c.args.self.now (subst (λ (q : FormulaQuery). IsGround q.premises) c.self.view_is c.self.invariant.2)
