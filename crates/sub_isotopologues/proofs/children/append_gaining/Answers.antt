-- The children so far are those that the isotopes so far lose an atom for.
use Rattle.std.proofs.Common.{◌+◌, ◌<◌, ◌++◌, ◌∷◌, [], length, sym, ◌∙◌, ap, arith, append_assoc, length-append}
use Rattle.std.proofs.lemmas.List.{append-nil}
use Rattle.std.proofs.lemmas.Result.{err_from_is_err_and}
use Rattle.sub_isotopologues.specs.Children.{wanted_of, children_gaining, moved}
use Rattle.sub_isotopologues.proofs.ChildLists.{children_gaining-none}
use Rattle.sub_isotopologues.proofs.FaultLemmas.{OnlyTooMany-weaker}
use Rattle.sub_isotopologues.proofs.WantedItems.{wanted_of-none, gaining-moves, gaining-stays, gaining-le}
use Rattle.sub_isotopologues.proofs.children.append_gaining.Goals as goal
use Rattle.sub_isotopologues.proofs.children.append_gaining.Goals.{then-is_child_move+in_ok-append_child, else-is_child_move}

pub loop-lose-init : goal.loop-lose-init
loop-lose-init c = record {
  appended =
      sym (append-nil c.args.found.now.items)
      ∙ ap (λ ys. c.args.found.now.items ++ ys)
      (sym (wanted_of-none c.args.node.weights.now c.args.wanted.above c.args.wanted.up_to)
      ∙ ap (wanted_of c.args.node.weights.now c.args.wanted.above c.args.wanted.up_to)
      (sym (children_gaining-none c.args.node.mode.now c.args.node.counts.now c.args.gain)));
  fits = λ h. h;
}

pub loop-lose-preserved : goal.loop-lose-preserved
loop-lose-preserved c =
    let ws = c.args.node.weights.now in
    let a = c.args.wanted.above in
    let u = c.args.wanted.up_to in
    let m = c.args.node.mode.now in
    let x = c.args.node.counts.now in
    let i = c.args.gain in
    let j = c.loop-lose.lose in
    elim c.if-is_child_move.branch [
      | then-is_child_move+in_ok-append_child w ↦ record {
        appended =
            ap (λ v. v.items) w.found-is
            ∙ w.in_ok-append_child.ensures.appended
            ∙ ap (λ ys. ys ++ wanted_of ws a u (moved x i j ∷ [])) c.loop-lose.invariant.appended
            ∙ append_assoc c.args.found.now.items (wanted_of ws a u (children_gaining m x i j))
            (wanted_of ws a u (moved x i j ∷ []))
            ∙ ap (λ ys. c.args.found.now.items ++ ys)
            (sym (gaining-moves ws a u m x i j (sym c.is_child_move.ensures ∙ w.if-is_child_move.true)));
        fits = λ h. rw w.found-is (w.in_ok-append_child.ensures.fits (c.loop-lose.invariant.fits h));
      }
      | else-is_child_move w ↦ record {
        appended =
            ap (λ v. v.items) w.found-is
            ∙ c.loop-lose.invariant.appended
            ∙ ap (λ ys. c.args.found.now.items ++ ys)
            (sym (gaining-stays ws a u m x i j (sym c.is_child_move.ensures ∙ w.if-is_child_move.false)));
        fits = λ h. rw w.found-is (c.loop-lose.invariant.fits h);
      }
    ]

pub returns-in_err-append_child-clause-cause : goal.returns-in_err-append_child-clause-cause
returns-in_err-append_child-clause-cause c =
    let p = err_from_is_err_and c.from_residual.result c.from_residual.ensures.1 in
    let ws = c.args.node.weights.now in
    let a = c.args.wanted.above in
    let u = c.args.wanted.up_to in
    let m = c.args.node.mode.now in
    let x = c.args.node.counts.now in
    let i = c.args.gain in
    let j = c.loop-lose.lose in
    rw (p.1, p.2)
    (OnlyTooMany-weaker _ _ _
    (λ (many : c.args.wanted.most < length c.loop-lose.found.items + length (wanted_of ws a u (moved x i j ∷ []))).
    omega (
      arith,
      ap length c.loop-lose.invariant.appended,
      length-append c.args.found.now.items (wanted_of ws a u (children_gaining m x i j)),
      ap length (gaining-moves ws a u m x i j (sym c.is_child_move.ensures ∙ c.if-is_child_move.true)),
      length-append (wanted_of ws a u (children_gaining m x i j)) (wanted_of ws a u (moved x i j ∷ [])),
      gaining-le ws a u m x i (j + 1) (length x) (omega arith),
    ))
    c.in_err-append_child.ensures.cause)
