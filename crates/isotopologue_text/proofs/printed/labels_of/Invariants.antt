use Rattle.std.proofs.Common.{take}
use Rattle.isotopologue_text.specs.Labels.{AreLabels}
use Rattle.isotopologue_text.proofs.printed.labels_of.Given as goal

-- the texts so far
abbrev pub invariant-loop-item : goal.invariant-loop-item
invariant-loop-item l = AreLabels (take l.item-index l.items) l.labels.items
