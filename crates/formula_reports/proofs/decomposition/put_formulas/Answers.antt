use Rattle.std.proofs.Common.{◌≡◌, ℕ, List, ◌++◌, ◌∷◌, [], ap, ◌∙◌, subst, refl}
use Rattle.std.specs.Prelude.{Err}
use Rattle.std.specs.List.{flat_map}
use Rattle.std.proofs.lemmas.Result.{err_from_is_err_and}
use Rattle.candidates.specs.Enumeration.{counts_left}
use Rattle.candidates.specs.Lines.{given_line, line_at}
use Rattle.command_io.specs.Parts.{Puts}
use Rattle.command_io.proofs.Puts.{puts_nil}
use Rattle.command_io.proofs.PutLines.{line_not_put, line_put, lines_memory}
use Rattle.formula_reports.specs.PageFormulas.{first_of, one_less}
use Rattle.formula_reports.proofs.PageLines.{given_line-is, page_next, page_parts, there}
use Rattle.formula_reports.proofs.decomposition.put_formulas.Goals as goal

pub formulas-init : goal.formulas-init
formulas-init g c =
    ([], refl, puts_nil (g.O.Sink.written c.args.out.now) (g.O.Sink.faults c.args.out.now), refl, refl)

pub returns-in_err-push_line : goal.returns-in_err-push_line
returns-in_err-push_line g c =
    let old = c.args.candidates.now in
    let given = err_from_is_err_and c.from_residual.result c.from_residual.ensures.1 in
    rw (given.1, given.2)
    (lines_memory (line_at old.premises old.mz) c.formulas.invariant.0
    (first_of c.formulas.most (counts_left c.formulas.candidates)) (first_of c.args.limit (counts_left old)) _ _ _ _
    c.formulas.invariant.1 c.formulas.invariant.2)

pub returns-in_err-put_line : goal.returns-in_err-put_line
returns-in_err-put_line g c =
    let old = c.args.candidates.now in
    let line = line_at old.premises old.mz in
    let new = c.advance.new.self in
    let done = c.formulas.invariant.0 in
    let most = c.formulas.most in
    let next = there new.given _ c.if-advance.ensures.next in
    let text : c.deref.result.now ≡ line next.0 =
    c.deref.ensures.value ∙ c.in_ok-push_line.ensures.line ∙ ap (λ (t : List ℕ). t ++ given_line new) c.clear.ensures.items
    ∙ given_line-is new old.premises old.mz next.0 (c.advance.ensures.premises ∙ c.formulas.invariant.3)
    (c.advance.ensures.peak ∙ c.formulas.invariant.4) next.1 in
    let given = err_from_is_err_and c.from_residual-in_err-put_line.result c.from_residual-in_err-put_line.ensures.1 in
    rw (given.1, given.2)
    (subst (λ (ls : List (List ℕ)). Puts (flat_map line ls) (g.O.Sink.written c.args.out.now)
    (g.O.Sink.written c.put_line.new.out) (g.O.Sink.faults c.args.out.now) (g.O.Sink.faults c.put_line.new.out)
    (Err c.in_err-put_line.field-0.0))
    (page_parts done (counts_left c.formulas.candidates) (counts_left new) (first_of c.args.limit (counts_left old))
    most next.0 next.2 (c.formulas-test.ensures.0 refl) c.formulas.invariant.1)
    (line_not_put line done (first_of (one_less most) (counts_left new)) next.0 c.deref.result.now
    _ _ _ _ _ _ _ text c.formulas.invariant.2 c.in_err-put_line.ensures))

pub formulas-preserved : goal.formulas-preserved
formulas-preserved g c =
    let old = c.args.candidates.now in
    let line = line_at old.premises old.mz in
    let new = c.advance.new.self in
    let done = c.formulas.invariant.0 in
    let most = c.formulas.most in
    let next = there new.given _ c.if-advance.ensures.next in
    let text : c.deref.result.now ≡ line next.0 =
    c.deref.ensures.value ∙ c.in_ok-push_line.ensures.line ∙ ap (λ (t : List ℕ). t ++ given_line new) c.clear.ensures.items
    ∙ given_line-is new old.premises old.mz next.0 (c.advance.ensures.premises ∙ c.formulas.invariant.3)
    (c.advance.ensures.peak ∙ c.formulas.invariant.4) next.1 in (
      done ++ next.0 ∷ [],
      ap (λ m. (done ++ next.0 ∷ []) ++ first_of m (counts_left new)) c.one_less-most.ensures
          ∙ page_next done (counts_left c.formulas.candidates) (counts_left new)
          (first_of c.args.limit (counts_left old)) most next.0 next.2 (c.formulas-test.ensures.0 refl)
          c.formulas.invariant.1,
      line_put line done next.0 c.deref.result.now _ _ _ _ _ _ text c.formulas.invariant.2 c.in_ok-put_line.ensures,
      c.advance.ensures.premises ∙ c.formulas.invariant.3,
      c.advance.ensures.peak ∙ c.formulas.invariant.4,
    )
