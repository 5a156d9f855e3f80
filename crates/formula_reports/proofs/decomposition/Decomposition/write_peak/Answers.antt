use Rattle.std.proofs.Common.{◌≡◌, ℕ, List, ◌++◌, sym, ap, ◌∙◌, subst}
use Rattle.std.specs.Prelude.{All, Err}
use Rattle.std.specs.List.{flat_map}
use Rattle.std.proofs.lemmas.Result.{err_from_is_err_and}
use Rattle.candidates.specs.Enumeration.{counts_left}
use Rattle.candidates.specs.Grounds.{GroundValue}
use Rattle.candidates.specs.Lines.{line_at}
use Rattle.candidates.specs.Standings.{IsToken}
use Rattle.report_lines.specs.ReportLines.{peak_line}
use Rattle.command_io.specs.Parts.{Puts}
use Rattle.command_io.specs.declared.refusal.Refusal.TheVariants.{Memory}
use Rattle.command_io.proofs.Puts.{puts_next, puts_none, puts_stop}
use Rattle.formula_reports.specs.PageFormulas.{asked_counts, counts_after, first_of}
use Rattle.formula_reports.specs.Queries.{FormulaQuery}
use Rattle.formula_reports.specs.Reports.{formula_lines}
use Rattle.formula_reports.proofs.KeptFormulas.{page-tokens}
use Rattle.formula_reports.proofs.decomposition.Decomposition.write_peak.Goals as goal

pub returns-in_err-put_text : goal.returns-in_err-put_text
returns-in_err-put_text g c =
    let query = c.args.self.now in
    let head = peak_line c.args.number c.args.mz in
    let given = err_from_is_err_and c.from_residual-in_err-put_text.result c.from_residual-in_err-put_text.ensures.1 in
    let text : c.deref.result.now ≡ head =
    c.deref.ensures.value ∙ c.in_ok-push_peak_line.ensures.line ∙ ap (λ (t : List ℕ). t ++ head) c.clear.ensures.items in
    rw (given.1, given.2)
    (subst (λ (t : List ℕ). Puts (t ++ formula_lines query c.args.mz) (g.O.Sink.written c.args.out.now)
    (g.O.Sink.written c.put_text.new.out) (g.O.Sink.faults c.args.out.now) (g.O.Sink.faults c.put_text.new.out)
    (Err c.in_err-put_text.field-0.0)) text
    (puts_stop c.deref.result.now (formula_lines query c.args.mz) _ _ _ _ _ c.in_err-put_text.ensures))

pub returns-in_err-candidates : goal.returns-in_err-candidates
returns-in_err-candidates g c =
    let head = peak_line c.args.number c.args.mz in
    let lines = formula_lines c.args.self.now c.args.mz in
    let given = err_from_is_err_and c.from_residual-in_err-candidates.result c.from_residual-in_err-candidates.ensures.1 in
    let text : c.deref.result.now ≡ head =
    c.deref.ensures.value ∙ c.in_ok-push_peak_line.ensures.line ∙ ap (λ (t : List ℕ). t ++ head) c.clear.ensures.items in
    rw (given.1, given.2)
    (subst (λ (t : List ℕ). Puts (t ++ lines) (g.O.Sink.written c.args.out.now) (g.O.Sink.written c.put_text.new.out)
    (g.O.Sink.faults c.args.out.now) (g.O.Sink.faults c.put_text.new.out) (Err Memory)) text
    (puts_next c.deref.result.now lines _ _ _ _ _ _ (Err Memory) c.in_ok-put_text.ensures
    (puts_none lines (g.O.Sink.written c.put_text.new.out) (g.O.Sink.faults c.put_text.new.out))))

pub put_kept-requires : goal.put_kept-requires
put_kept-requires g c =
    let query = c.args.self.now in
    let same : c.in-Some.lists.now ≡ asked_counts query c.args.mz = rw c.in-Some.is at c.requires.kept in
    record {
      tokens =
          subst (All (IsToken c.self.inside.premises)) (sym same)
          (subst (λ (q : FormulaQuery). All (IsToken q.premises) (asked_counts query c.args.mz)) (sym c.self.view_is)
          (page-tokens query c.args.mz));
    }

pub returns-in-Some : goal.returns-in-Some
returns-in-Some g c =
    let query = c.args.self.now in
    let mz = c.args.mz in
    let head = peak_line c.args.number mz in
    let same : c.in-Some.lists.now ≡ asked_counts query mz = rw c.in-Some.is at c.requires.kept in
    let text : c.deref.result.now ≡ head =
    c.deref.ensures.value ∙ c.in_ok-push_peak_line.ensures.line ∙ ap (λ (t : List ℕ). t ++ head) c.clear.ensures.items in
    let lines : flat_map (line_at c.self.inside.premises mz) c.in-Some.lists.now ≡ formula_lines query mz =
    ap (flat_map (line_at c.self.inside.premises mz)) same
    ∙ ap (λ (q : FormulaQuery). flat_map (line_at q.premises mz) (asked_counts query mz)) c.self.view_is in
    subst (λ (t : List ℕ). Puts (t ++ formula_lines query mz) (g.O.Sink.written c.args.out.now)
    (g.O.Sink.written c.put_kept.new.out) (g.O.Sink.faults c.args.out.now)
    (g.O.Sink.faults c.put_kept.new.out) c.put_kept.result) text
    (subst (λ (t : List ℕ). Puts (c.deref.result.now ++ t) (g.O.Sink.written c.args.out.now)
    (g.O.Sink.written c.put_kept.new.out) (g.O.Sink.faults c.args.out.now)
    (g.O.Sink.faults c.put_kept.new.out) c.put_kept.result) lines
    (puts_next c.deref.result.now _ _ _ _ _ _ _ _ c.in_ok-put_text.ensures c.put_kept.ensures))

pub returns : goal.returns
returns g c =
    let query = c.args.self.now in
    let mz = c.args.mz in
    let head = peak_line c.args.number mz in
    let found = c.in_ok-candidates.candidates in
    let text : c.deref.result.now ≡ head =
    c.deref.ensures.value ∙ c.in_ok-push_peak_line.ensures.line ∙ ap (λ (t : List ℕ). t ++ head) c.clear.ensures.items in
    let lines : flat_map (line_at found.premises found.mz) (first_of c.self.inside.limit (counts_left found))
    ≡ formula_lines query mz =
    ap (λ (p : GroundValue). flat_map (line_at p found.mz) (first_of c.self.inside.limit (counts_left found)))
    c.in_ok-candidates.ensures.premises
    ∙ ap (λ (m : ℕ). flat_map (line_at query.premises m) (first_of c.self.inside.limit (counts_left found)))
    c.in_ok-candidates.ensures.peak
    ∙ ap (λ (ls : List (List ℕ)). flat_map (line_at query.premises mz) (first_of c.self.inside.limit ls))
    c.in_ok-candidates.ensures.left
    ∙ ap (λ (q : FormulaQuery). flat_map (line_at query.premises mz) (first_of q.limit
    (counts_after query.premises query.after mz))) c.self.view_is in
    subst (λ (t : List ℕ). Puts (t ++ formula_lines query mz) (g.O.Sink.written c.args.out.now)
    (g.O.Sink.written c.put_formulas.new.out) (g.O.Sink.faults c.args.out.now)
    (g.O.Sink.faults c.put_formulas.new.out) c.put_formulas.result) text
    (subst (λ (t : List ℕ). Puts (c.deref.result.now ++ t) (g.O.Sink.written c.args.out.now)
    (g.O.Sink.written c.put_formulas.new.out) (g.O.Sink.faults c.args.out.now)
    (g.O.Sink.faults c.put_formulas.new.out) c.put_formulas.result) lines
    (puts_next c.deref.result.now _ _ _ _ _ _ _ _ c.in_ok-put_text.ensures c.put_formulas.ensures))
