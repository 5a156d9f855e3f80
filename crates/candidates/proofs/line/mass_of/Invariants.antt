use Rattle.std.proofs.Common.{◌≡◌, ◌+◌, drop}
use Rattle.decompose.specs.Masses.{mass_of}
use Rattle.candidates.proofs.line.mass_of.Given as goal

-- what is summed up, and what is left
abbrev pub invariant-loop-place : goal.invariant-loop-place
invariant-loop-place l = l.mass + mass_of (drop l.place l.masses) (drop l.place l.counts) ≡ mass_of l.masses l.counts
