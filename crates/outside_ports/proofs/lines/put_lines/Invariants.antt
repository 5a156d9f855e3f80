use Rattle.std.proofs.Common.{◌≡◌, ◌++◌, List, ℕ, length}
use Rattle.std.specs.Io.KnownBytes.{append_known}
use Rattle.outside_ports.proofs.lines.put_lines.Given as goal

-- what was put and what is left are the text
abbrev pub invariant-loop-rest : goal.invariant-loop-rest
invariant-loop-rest g l =
    (put : List ℕ)
    × (put ++ l.rest ≡ l.text)
    × (g.O.Sink.written l.out ≡ append_known (g.O.Sink.written l.initial.out) put)
    × (g.O.Sink.faults l.out ≡ g.O.Sink.faults l.initial.out)

abbrev pub decreases-loop-rest : goal.decreases-loop-rest
decreases-loop-rest g l = length l.rest
