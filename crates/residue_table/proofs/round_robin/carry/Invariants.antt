use Rattle.std.proofs.Common.{◌≡◌, ◌<◌, length, get_or}
use Rattle.residue_table.specs.Rows.{AreLimited}
use Rattle.residue_table.specs.Strides.{IsCarried, IsLowered, KeepsSound, residue_after}
use Rattle.residue_table.proofs.round_robin.carry.Given as goal

abbrev pub invariant-loop-turn : goal.invariant-loop-turn
invariant-loop-turn l = record {
  within : l.place < length l.initial.entries;
  place_is : l.place ≡ residue_after (length l.initial.entries) l.start l.step l._turn;
  least_is : l.least ≡ get_or l.entries l.place 0;
  limited : AreLimited l.entries;
  lowered : IsLowered l.initial.entries l.entries;
  carried : IsCarried (length l.initial.entries) l.start l.step l.mass l._turn l.initial.entries l.entries;
  sound : KeepsSound l.mass l.initial.entries l.entries;
}
