use Rattle.std.proofs.Common.{◌≡◌, ◌-◌, ◌≤◌, ◌++◌, ℕ, List, length}
use Rattle.std.specs.Io.KnownBytes.{Consumes}
use Rattle.outside_ports.proofs.file_shelf.read_up_to.Given as goal

-- there are at most so many bytes, and what was appended was read
abbrev pub invariant-loop-into : goal.invariant-loop-into
invariant-loop-into g l =
    (length l.into.items ≤ l.most)
    × ((read : List ℕ) × (l.into.items ≡ l.initial.into.items ++ read)
    × Consumes (g.F.Read.remaining l.initial.file) (g.F.Read.remaining l.file) read)

abbrev pub decreases-loop-into : goal.decreases-loop-into
decreases-loop-into g l = l.most - length l.into.items
