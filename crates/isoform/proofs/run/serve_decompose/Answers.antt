use Rattle.std.proofs.Common.{true, false, refl}
use Rattle.std.proofs.lemmas.Result.{err_from_is_err_and}
use Rattle.formula_reports.specs.Answers.{decompose_names, decompose_query}
use Rattle.formula_reports.specs.Reports.{formulas_json}
use Rattle.formula_reports.specs.Reports.{formulas_report}
use Rattle.isoform.specs.Answer.{formulas_in}
use Rattle.isoform.proofs.Endings.{unread_serves, written_serves}
use Rattle.isoform.proofs.run.serve_decompose.Goals as goal

pub returns-in_err-decomposition : goal.returns-in_err-decomposition
returns-in_err-decomposition g c =
    let o = c.args.options.now in
    let given = err_from_is_err_and c.from_residual.result c.from_residual.ensures.1 in
    rw (given.1, given.2)
    (unread_serves (formulas_in c.args.json) (λ x. x) (decompose_names o) (decompose_query o) _ _ _ _ _
    c.in_err-decomposition.ensures)

pub returns : goal.returns
returns g c =
    let o = c.args.options.now in
    let query = c.in_ok-decomposition.decomposition in
    rw c.if-json.false
    (written_serves (formulas_in false) (λ x. x) (decompose_names o) (decompose_query o) _ _ query
    (formulas_report query) _ _ _ _ _ c.in_ok-decomposition.ensures c.write.ensures.holds refl c.write.ensures.puts)

pub returns-then-json : goal.returns-then-json
returns-then-json g c =
    let o = c.args.options.now in
    let query = c.in_ok-decomposition.decomposition in
    rw c.if-json.true
    (written_serves (formulas_in true) (λ x. x) (decompose_names o) (decompose_query o) _ _ query
    (formulas_json query) _ _ _ _ _ c.in_ok-decomposition.ensures c.write_json.ensures.holds refl
    c.write_json.ensures.puts)
