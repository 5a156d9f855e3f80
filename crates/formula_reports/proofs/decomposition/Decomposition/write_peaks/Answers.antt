use Rattle.std.proofs.Common.{◌≡◌, ℕ, ◌+◌, ◌<◌, List, [], ◌∷◌, ◌++◌, length, take, drop, get_or, refl, ap, ◌∙◌, subst, arith}
use Rattle.std.specs.Prelude.{Ok, Err}
use Rattle.std.specs.List.{flat_map}
use Rattle.std.proofs.lemmas.List.{take_all}
use Rattle.std.proofs.lemmas.List.FromFn.{length-enumerate_from}
use Rattle.std.proofs.lemmas.Result.{err_from_is_err_and}
use Rattle.command_io.specs.Parts.{Puts}
use Rattle.command_io.proofs.PutLines.{line_not_put, line_put}
use Rattle.formula_reports.specs.PageFormulas.{numbered}
use Rattle.formula_reports.specs.Queries.{FormulaQuery}
use Rattle.formula_reports.specs.Reports.{peak_lines}
use Rattle.formula_reports.proofs.PageLines.{numbered_more, numbered_parts}
use Rattle.formula_reports.proofs.decomposition.Decomposition.write_peaks.Goals as goal

pub returns-in_err-write_peak : goal.returns-in_err-write_peak
returns-in_err-write_peak g c =
    let query = c.args.self.now in
    let i = c.loop-i.i in
    let all : List (ℕ × ℕ) = numbered query.mzs in
    let items = c.deref-mz-items.result.now in
    let mzs : items ≡ query.mzs =
    c.deref-mz-items.ensures.value ∙ ap (λ (q : FormulaQuery). q.mzs) c.self.view_is in
    let inside : i < length query.mzs = omega (arith, ap length mzs, c.loop-i-test.true) in
    let given = err_from_is_err_and c.from_residual.result c.from_residual.ensures.1 in
    rw (given.1, given.2)
    (subst (λ (ps : List (ℕ × ℕ)). Puts (flat_map (peak_lines query) ps) (g.O.Sink.written c.args.out.now)
    (g.O.Sink.written c.write_peak.new.out) (g.O.Sink.faults c.args.out.now) (g.O.Sink.faults c.write_peak.new.out)
    (Err c.in_err-write_peak.field-0.0))
    (ap (λ (xs : List ℕ). take i all ++ (i + 1, get_or xs i 0) ∷ drop (i + 1) all) mzs
    ∙ numbered_parts query.mzs i inside)
    (line_not_put (peak_lines query) (take i all) (drop (i + 1) all) (i + 1, get_or items i 0)
    (peak_lines query (i + 1, get_or items i 0)) _ _ _ _ _ _ _ refl c.loop-i.invariant c.in_err-write_peak.ensures))

pub loop-i-preserved : goal.loop-i-preserved
loop-i-preserved g c =
    let query = c.args.self.now in
    let i = c.loop-i.i in
    let all : List (ℕ × ℕ) = numbered query.mzs in
    let items = c.deref-mz-items.result.now in
    let mzs : items ≡ query.mzs =
    c.deref-mz-items.ensures.value ∙ ap (λ (q : FormulaQuery). q.mzs) c.self.view_is in
    let inside : i < length query.mzs = omega (arith, ap length mzs, c.loop-i-test.true) in
    subst (λ (ps : List (ℕ × ℕ)). Puts (flat_map (peak_lines query) ps) (g.O.Sink.written c.args.out.now)
    (g.O.Sink.written c.write_peak.new.out) (g.O.Sink.faults c.args.out.now) (g.O.Sink.faults c.write_peak.new.out)
    (Ok tt))
    (ap (λ (xs : List ℕ). take i all ++ (i + 1, get_or xs i 0) ∷ []) mzs ∙ numbered_more query.mzs i inside)
    (line_put (peak_lines query) (take i all) (i + 1, get_or items i 0)
    (peak_lines query (i + 1, get_or items i 0)) _ _ _ _ _ _ refl c.loop-i.invariant c.in_ok-write_peak.ensures)

pub returns : goal.returns
returns g c =
    let query = c.args.self.now in
    let i = c.loop-i.i in
    let mzs : c.deref-mz-items.result.now ≡ query.mzs =
    c.deref-mz-items.ensures.value ∙ ap (λ (q : FormulaQuery). q.mzs) c.self.view_is in
    subst (λ (ps : List (ℕ × ℕ)). Puts (flat_map (peak_lines query) ps) (g.O.Sink.written c.args.out.now)
    (g.O.Sink.written c.loop-i.out) (g.O.Sink.faults c.args.out.now) (g.O.Sink.faults c.loop-i.out) (Ok tt))
    (take_all i (numbered query.mzs)
    (omega (arith, ap length mzs, c.loop-i-test.false, length-enumerate_from 1 query.mzs)))
    c.loop-i.invariant
