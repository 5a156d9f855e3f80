use Rattle.std.proofs.Common.{◌≡◌, ◌≤◌, ◌++◌, length}
use Rattle.sub_isotopologues.specs.Children.{wanted_of, children_gaining}
use Rattle.sub_isotopologues.proofs.children.append_gaining.Given as goal

-- the children by the isotopes so far are appended
abbrev pub invariant-loop-lose : goal.invariant-loop-lose
invariant-loop-lose l = record {
  appended : l.found.items ≡ l.initial.found.items
      ++ wanted_of l.node.weights.now l.wanted.above l.wanted.up_to
      (children_gaining l.node.mode.now l.node.counts.now l.gain l.lose);
  fits : length l.initial.found.items ≤ l.wanted.most → length l.found.items ≤ l.wanted.most;
}
