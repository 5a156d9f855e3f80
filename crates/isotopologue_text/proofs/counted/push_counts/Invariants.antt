use Rattle.std.proofs.Common.{◌≡◌, ◌++◌, length}
use Rattle.isotopologue_text.specs.Labels.{labels_text}
use Rattle.isotopologue_text.proofs.counted.push_counts.Given as goal

-- the isotopes so far, and those that are left
abbrev pub invariant-loop-rest : goal.invariant-loop-rest
invariant-loop-rest l = record {
  as_many : length l.left ≡ length l.rest;
  text : l.text.items ++ labels_text l.rest l.left ≡ l.initial.text.items ++ labels_text l.labels l.counts;
}

abbrev pub decreases-loop-rest : goal.decreases-loop-rest
decreases-loop-rest l = length l.rest
