-- No upper bound is above 1, so there are no items at first.
use Rattle.std.proofs.Common.{◌≡◌, ◌∙◌, sym, arith, rules}
use Rattle.multinomial_bounds.specs.Mode.{mode_of_atoms}
use Rattle.sub_isotopologues.specs.SubIsotopologues.{sub_isotopologue_of}
use Rattle.sub_isotopologues.proofs.KeptLists.{items_over-certainty, mode_item}
use Rattle.sub_isotopologues.proofs.grown.GrownItems.start.Goals as goal

pub invariant_of-result : goal.invariant_of-result
invariant_of-result c =
    let weights : c.in_ok-to_vec.field-0.items ≡ c.args.weights.now = search rules in
    let mode : c.new.result ≡ sub_isotopologue_of c.args.weights.now (mode_of_atoms c.args.weights.now c.args.atoms) =
    c.new.ensures
    ∙ mode_item c.args.weights.now c.args.atoms c.counts.result.now c.in_ok-mode.enclosure.lo c.in_ok-mode.enclosure.hi
    c.requires.weights_in_range (c.counts.ensures ∙ c.in_ok-mode.ensures.mode) c.in_ok-mode.ensures.lo
    c.in_ok-mode.ensures.hi in
    rw (weights, c.new-2.ensures.items, c.new-3.ensures.items)
    (record {
      weights = c.requires.weights_in_range;
      few_atoms = c.requires.few_atoms;
      few = omega arith;
      mode_is = mode;
      items_are = sym (items_over-certainty c.args.weights.now c.args.atoms c.requires.weights_in_range);
      searched = record { few = omega arith; bounds = λ k within. absurd (omega arith) };
    })
