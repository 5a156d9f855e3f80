-- The lines are read in turn.
use Rattle.std.proofs.Common.{◌≡◌, ◌<◌, ◌≤◌, length, sym, ◌∙◌, arith, ⊎_elim}
use Rattle.std.proofs.lemmas.Bool.{cases_lt}
use Rattle.cover_claims.proofs.FindLemmas.{found-here, not-here}
use Rattle.certificate_check.specs.Judgements.{is_unnamed}
use Rattle.certificate_check.proofs.LineMembers.{line-unnamed, line-has, line-meaning}
use Rattle.certificate_check.proofs.lines.first_unnamed.Goals as goal

pub returns-then-not-branch-clause-place : goal.returns-then-not-branch-clause-place
returns-then-not-branch-clause-place c =
    sym
    (sym c.loop-place.invariant.rest
    ∙ found-here (is_unnamed c.args.table.now c.args.certificate.now) c.loop-place.place (length c.args.certificate.now.lines)
    (rw c.lines-lines.ensures at c.loop-place-test.true)
    (line-unnamed c.args.table.now c.args.certificate.now c.loop-place.place c.index-lines-place.result
    (rw c.lines-lines.ensures at c.loop-place-test.true) (rw c.lines-lines.ensures at c.index-lines-place.is)
    c.formula.result.now c.formula.ensures c.text-text.result.now c.text-text.ensures
    c.in_ok-isotopologue_into.field-0 _ c.if-not-branch.true c.in_ok-isotopologue_into.ensures.value))

pub loop-place-preserved : goal.loop-place-preserved
loop-place-preserved c = record {
  rest =
      sym
      (not-here (is_unnamed c.args.table.now c.args.certificate.now) c.loop-place.place (length c.args.certificate.now.lines)
      (rw c.lines-lines.ensures at c.loop-place-test.true)
      (line-has c.args.table.now c.args.certificate.now c.loop-place.place c.index-lines-place.result
      (rw c.lines-lines.ensures at c.loop-place-test.true) (rw c.lines-lines.ensures at c.index-lines-place.is)
      c.formula.result.now c.formula.ensures c.text-text.result.now c.text-text.ensures
      c.in_ok-isotopologue_into.field-0 _ c.if-not-branch.false c.in_ok-isotopologue_into.ensures.value))
      ∙ c.loop-place.invariant.rest;
  meaning = λ k d before within.
      ⊎_elim
      (λ (earlier : k < c.loop-place.place). c.loop-place.invariant.meaning k d earlier within)
      (λ (at : c.loop-place.place ≤ k).
      let e : k ≡ c.loop-place.place = omega arith in
      rw e
      (line-meaning c.args.table.now c.args.certificate.now c.loop-place.place c.index-lines-place.result
      (rw c.lines-lines.ensures at c.loop-place-test.true) (rw c.lines-lines.ensures at c.index-lines-place.is)
      c.formula.result.now c.formula.ensures c.text-text.result.now c.text-text.ensures
      c.in_ok-isotopologue_into.ensures.meaning d))
      (cases_lt k c.loop-place.place);
}
