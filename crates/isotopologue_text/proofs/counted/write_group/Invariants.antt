use Rattle.std.proofs.Common.{◌≡◌, ◌*◌, ◌≤◌, length, drop}
use Rattle.isotopologue_text.specs.Labels.{labels_text}
use Rattle.isotopologue_text.proofs.counted.write_group.Given as goal

-- the isotopes from the place on
abbrev pub invariant-loop-place : goal.invariant-loop-place
invariant-loop-place l = record {
  within : l.place ≤ length l.labels;
  room : 26 * l.place ≤ l.at;
  to : l.at ≤ length l.room;
  text : drop l.at l.room ≡ labels_text (drop l.place l.labels) (drop l.place l.counts);
}

abbrev pub decreases-loop-place : goal.decreases-loop-place
decreases-loop-place l = l.place
