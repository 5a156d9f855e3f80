-- The atoms above are counted place by place.
use Rattle.std.proofs.Common.{◌≡◌, length, sym, ◌∙◌, ap, arith}
use Rattle.std.proofs.lemmas.List.Sums.{sum_by_more, sum_by_more_le}
use Rattle.isotopologue_list.proofs.ParentLemmas.{above_first, above_first-none, above_first-more, above_first-all}
use Rattle.isotopologue_list.proofs.enclosures.atoms_above.Goals as goal

pub loop-place-init : goal.loop-place-init
loop-place-init c = record {
  value = sym (above_first-none c.args.fewer.now c.args.more.now);
  small = omega arith;
}

pub overflow_add-above : goal.overflow_add-above
overflow_add-above c =
    omega (arith, c.loop-place.invariant.small, sum_by_more_le (λ x. x) c.args.more.now c.loop-place.place 0 (omega arith))

pub loop-place-preserved : goal.loop-place-preserved
loop-place-preserved c = record {
  value = omega (arith, c.loop-place.invariant.value, above_first-more c.args.fewer.now c.args.more.now c.loop-place.place);
  small = omega (arith, c.loop-place.invariant.small, sum_by_more (λ x. x) c.args.more.now c.loop-place.place 0 (omega arith));
}

pub returns : goal.returns
returns c =
    let all : c.loop-place.place ≡ length c.args.more.now = omega arith in
    c.loop-place.invariant.value
    ∙ ap (above_first c.args.fewer.now c.args.more.now) all
    ∙ above_first-all c.args.fewer.now c.args.more.now
