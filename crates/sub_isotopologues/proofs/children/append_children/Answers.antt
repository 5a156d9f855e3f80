-- The children so far are those of the isotopes so far.
use Rattle.std.proofs.Common.{◌+◌, ◌<◌, ◌++◌, length, sym, ◌∙◌, ap, arith, append_assoc, length-append}
use Rattle.std.proofs.lemmas.List.{append-nil}
use Rattle.std.proofs.lemmas.Result.{err_from_is_err_and}
use Rattle.sub_isotopologues.specs.Children.{wanted_of, children_first, children_gaining}
use Rattle.sub_isotopologues.proofs.ChildLists.{children_first-none}
use Rattle.sub_isotopologues.proofs.FaultLemmas.{OnlyTooMany-weaker}
use Rattle.sub_isotopologues.proofs.WantedItems.{wanted_of-none, first-more, first-le}
use Rattle.sub_isotopologues.proofs.children.append_children.Goals as goal

pub loop-gain-init : goal.loop-gain-init
loop-gain-init c = record {
  appended =
      sym (append-nil c.args.found.now.items)
      ∙ ap (λ ys. c.args.found.now.items ++ ys)
      (sym (wanted_of-none c.args.node.weights.now c.args.wanted.above c.args.wanted.up_to)
      ∙ ap (wanted_of c.args.node.weights.now c.args.wanted.above c.args.wanted.up_to)
      (sym (children_first-none c.args.node.mode.now c.args.node.counts.now)));
  fits = λ h. h;
}

pub loop-gain-preserved : goal.loop-gain-preserved
loop-gain-preserved c =
    let ws = c.args.node.weights.now in
    let a = c.args.wanted.above in
    let u = c.args.wanted.up_to in
    let m = c.args.node.mode.now in
    let x = c.args.node.counts.now in
    record {
      appended =
          c.in_ok-append_gaining.ensures.appended
          ∙ ap (λ ys. ys ++ wanted_of ws a u (children_gaining m x c.loop-gain.gain (length x)))
          c.loop-gain.invariant.appended
          ∙ append_assoc c.args.found.now.items (wanted_of ws a u (children_first m x c.loop-gain.gain))
          (wanted_of ws a u (children_gaining m x c.loop-gain.gain (length x)))
          ∙ ap (λ ys. c.args.found.now.items ++ ys) (sym (first-more ws a u m x c.loop-gain.gain));
      fits = λ h. c.in_ok-append_gaining.ensures.fits (c.loop-gain.invariant.fits h);
    }

pub returns-in_err-append_gaining-clause-cause : goal.returns-in_err-append_gaining-clause-cause
returns-in_err-append_gaining-clause-cause c =
    let p = err_from_is_err_and c.from_residual.result c.from_residual.ensures.1 in
    let ws = c.args.node.weights.now in
    let a = c.args.wanted.above in
    let u = c.args.wanted.up_to in
    let m = c.args.node.mode.now in
    let x = c.args.node.counts.now in
    rw (p.1, p.2)
    (OnlyTooMany-weaker _ _ _
    (λ (many : c.args.wanted.most < length c.loop-gain.found.items + length
    (wanted_of ws a u (children_gaining m x c.loop-gain.gain (length x)))).
    omega (
      arith,
      ap length c.loop-gain.invariant.appended,
      length-append c.args.found.now.items (wanted_of ws a u (children_first m x c.loop-gain.gain)),
      ap length (first-more ws a u m x c.loop-gain.gain),
      length-append (wanted_of ws a u (children_first m x c.loop-gain.gain))
          (wanted_of ws a u (children_gaining m x c.loop-gain.gain (length x))),
      first-le ws a u m x (c.loop-gain.gain + 1) (length x) (omega arith),
    ))
    c.in_err-append_gaining.ensures.cause)
