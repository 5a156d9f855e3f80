use Rattle.std.proofs.Common.{◌≡◌, ◌++◌, ℕ, List, length}
use Rattle.std.specs.Io.KnownBytes.{Appends}
use Rattle.outside_ports.proofs.stream_sink.StreamSinkSink.put.Given as goal

-- no fault has come yet, and what is gone from the piece was appended
abbrev pub invariant-loop-rest : goal.invariant-loop-rest
invariant-loop-rest g l =
    (l.self-inside.faults ≡ l.initial.self-inside.faults)
    × ((done : List ℕ) × (l.fn.piece ≡ done ++ l.rest)
    × Appends (g.W.Write.contents l.initial.self-inside.to) (g.W.Write.contents l.self-inside.to) done)

abbrev pub decreases-loop-rest : goal.decreases-loop-rest
decreases-loop-rest g l = length l.rest
