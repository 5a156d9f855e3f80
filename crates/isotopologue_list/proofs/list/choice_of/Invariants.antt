use Rattle.std.proofs.Common.{◌≡◌, ◌+◌, ◌≤◌, ◌/◌, length, drop}
use Rattle.multinomial_bounds.specs.Compositions.{choices}
use Rattle.isotopologue_list.proofs.list.choice_of.Given as goal

-- the place over the number of choices of the later elements so far
abbrev pub invariant-loop-later : goal.invariant-loop-later
invariant-loop-later l = record {
  behind : l.element + 1 ≤ l.later;
  choice : l.choice ≡ l.place / length (choices (drop l.later l.elements));
}
