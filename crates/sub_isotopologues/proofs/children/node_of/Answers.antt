-- The mode has a count for each weight.
use Rattle.std.proofs.Common.{length, sum, sym, ◌∙◌, ap}
use Rattle.multinomial_bounds.proofs.ModeLemmas.{length-mode_of_atoms}
use Rattle.sub_isotopologues.proofs.children.node_of.Goals as goal

pub first_above-requires : goal.first_above-requires
first_above-requires c =
    ap length c.requires.mode ∙ length-mode_of_atoms c.args.weights.now (sum c.args.counts.now)
    ∙ sym c.requires.same_places

pub first_above-requires-2 : goal.first_above-requires-2
first_above-requires-2 c =
    sym (ap length c.requires.mode ∙ length-mode_of_atoms c.args.weights.now (sum c.args.counts.now)
    ∙ sym c.requires.same_places)

pub returns-clause-node : goal.returns-clause-node
returns-clause-node c = record {
  weights_in_range = c.requires.weights_in_range;
  few_atoms = c.requires.few_atoms;
  places = c.requires.same_places;
  mode_places =
      ap length c.requires.mode ∙ length-mode_of_atoms c.args.weights.now (sum c.args.counts.now)
      ∙ sym c.requires.same_places;
  mode_is = c.requires.mode;
  above_is = c.first_above.ensures;
  below_is = c.first_above-2.ensures;
  lo_is = c.requires.lo;
  hi_is = c.requires.hi;
}
