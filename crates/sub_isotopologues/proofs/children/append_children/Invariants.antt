use Rattle.std.proofs.Common.{◌≡◌, ◌≤◌, ◌++◌, length}
use Rattle.sub_isotopologues.specs.Children.{wanted_of, children_first}
use Rattle.sub_isotopologues.proofs.children.append_children.Given as goal

-- the children that the isotopes so far gain an atom for are appended
abbrev pub invariant-loop-gain : goal.invariant-loop-gain
invariant-loop-gain l = record {
  appended : l.found.items ≡ l.initial.found.items
      ++ wanted_of l.node.weights.now l.wanted.above l.wanted.up_to
      (children_first l.node.mode.now l.node.counts.now l.gain);
  fits : length l.initial.found.items ≤ l.wanted.most → length l.found.items ≤ l.wanted.most;
}
