use Rattle.std.proofs.Common.{◌≡◌, sum}
use Rattle.multinomial_bounds.specs.Bounds.{floor_of, ceiling_of}
use Rattle.multinomial_bounds.specs.Path.{atoms_above, bound_at}
use Rattle.multinomial_bounds.proofs.PathLemmas.{IsOnPath}
use Rattle.multinomial_bounds.proofs.path.along_path.Given as goal

-- the enclosure is that of the counts reached, which are on the path from the mode
abbrev pub invariant-loop-from : goal.invariant-loop-from
invariant-loop-from l = record {
  same_atoms : sum l.current ≡ sum l.counts;
  path : IsOnPath l.fn.current l.counts l.current;
  lo : l.enclosure.lo ≡ bound_at floor_of l.weights l.fn.current l.fn.start.lo (atoms_above l.fn.current l.current) l.current;
  hi : l.enclosure.hi ≡ bound_at ceiling_of l.weights l.fn.current l.fn.start.hi (atoms_above l.fn.current l.current) l.current;
}

-- the atoms that still have to move
abbrev pub decreases-loop-from : goal.decreases-loop-from
decreases-loop-from l = atoms_above l.counts l.current
