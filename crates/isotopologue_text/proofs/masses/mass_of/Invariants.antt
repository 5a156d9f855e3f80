use Rattle.std.proofs.Common.{◌≡◌, ◌*◌, ◌≤◌, take}
use Rattle.std.specs.Prelude.{sum}
use Rattle.isotopologue_text.specs.Isotopologues.{counts_mass}
use Rattle.isotopologue_text.proofs.masses.mass_of.Given as goal

-- the masses so far
abbrev pub invariant-loop-place : goal.invariant-loop-place
invariant-loop-place l = record {
  mass : l.mass ≡ counts_mass (take l.place l.isotopes) (take l.place l.counts);
  bound : l.mass ≤ sum (take l.place l.counts) * 400000000000000;
}
