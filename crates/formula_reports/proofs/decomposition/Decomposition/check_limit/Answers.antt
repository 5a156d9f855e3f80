use Rattle.std.proofs.Common.{◌≡◌, ◌<◌, ℕ, false, List, [], ◌∷◌, ◌++◌, length, get_or, below_more, sym, ap, ◌∙◌, subst, arith}
use Rattle.std.specs.Prelude.{Option, is_some}
use Rattle.std.proofs.lemmas.List.{length-append}
use Rattle.formula_reports.specs.PageFormulas.{AreKept}
use Rattle.formula_reports.specs.Queries.{FormulaQuery}
use Rattle.formula_reports.proofs.CrowdedPeaks.{crowded_at, crowded_none, is_crowded}
use Rattle.formula_reports.proofs.KeptFormulas.{kept-more}
use Rattle.formula_reports.proofs.decomposition.Decomposition.check_limit.Goals as goal

pub returns-then-count-clause-limit : goal.returns-then-count-clause-limit
returns-then-count-clause-limit c =
    let query = c.args.self.now in
    let i = c.loop-i.i in
    let none : is_some query.limit ≡ false =
    sym (ap (λ (q : FormulaQuery). is_some q.limit) c.self.view_is) ∙ sym c.is_some.ensures ∙ c.if-is_some.false in
    let mzs : c.deref-mz-items.result.now ≡ query.mzs =
    c.deref-mz-items.ensures.value ∙ ap (λ (q : FormulaQuery). q.mzs) c.self.view_is in
    crowded_at query i none (omega (arith, ap length mzs, c.loop-i-test.true)) c.loop-i.invariant.none
    (ap (λ (xs : List ℕ). is_crowded query (get_or xs i 0)) (sym mzs) ∙ sym c.in_ok-count.ensures.crowded ∙ c.if-count.true)

pub loop-i-preserved : goal.loop-i-preserved
loop-i-preserved c =
    let query = c.args.self.now in
    let i = c.loop-i.i in
    let kept = c.loop-i.kept.items in
    let lists = c.in_ok-count.count.lists in
    let mz : ℕ = get_or c.deref-mz-items.result.now i 0 in
    let none : is_some query.limit ≡ false =
    sym (ap (λ (q : FormulaQuery). is_some q.limit) c.self.view_is) ∙ sym c.is_some.ensures ∙ c.if-is_some.false in
    let mzs : c.deref-mz-items.result.now ≡ query.mzs =
    c.deref-mz-items.ensures.value ∙ ap (λ (q : FormulaQuery). q.mzs) c.self.view_is in
    let few : is_crowded query (get_or query.mzs i 0) ≡ false =
    ap (λ (xs : List ℕ). is_crowded query (get_or xs i 0)) (sym mzs) ∙ sym c.in_ok-count.ensures.crowded ∙ c.if-count.false in
    let place : mz ≡ get_or query.mzs (length kept) 0 =
    ap (λ (xs : List ℕ). get_or xs i 0) mzs ∙ ap (λ (n : ℕ). get_or query.mzs n 0) (sym c.loop-i.invariant.peaks) in
    let items : c.push_lists.new.kept.items ≡ kept ++ lists ∷ [] = c.in_ok-push_lists.ensures in
    let longer : length c.push_lists.new.kept.items ≡ length (kept ++ lists ∷ []) =
    ap (λ (ks : List (Option (List (List ℕ)))). length ks) items in
    record {
      none = below_more (λ k. is_crowded query (get_or query.mzs k 0) ≡ false) i c.loop-i.invariant.none few;
      room = omega (arith, c.room_beside-room.ensures, c.loop-i.invariant.room);
      peaks = omega (arith, longer, length-append kept (lists ∷ []), c.loop-i.invariant.peaks);
      kept =
          subst (AreKept query) (sym items)
          (kept-more query kept lists mz none c.loop-i.invariant.kept place c.in_ok-count.ensures.lists);
    }

pub returns-clause-kept : goal.returns-clause-kept
returns-clause-kept c = c.loop-i.invariant.kept

pub returns-clause-limit : goal.returns-clause-limit
returns-clause-limit c =
    let query = c.args.self.now in
    let none : is_some query.limit ≡ false =
    sym (ap (λ (q : FormulaQuery). is_some q.limit) c.self.view_is) ∙ sym c.is_some.ensures ∙ c.if-is_some.false in
    let mzs : c.deref-mz-items.result.now ≡ query.mzs =
    c.deref-mz-items.ensures.value ∙ ap (λ (q : FormulaQuery). q.mzs) c.self.view_is in
    crowded_none query none
    (λ k h. c.loop-i.invariant.none k (omega (arith, h, ap length mzs, c.loop-i-test.false)))
