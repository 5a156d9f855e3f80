use Rattle.std.proofs.Common.{◌≡◌, length, take}
use Rattle.std.specs.Prelude.{All, Ok}
use Rattle.std.specs.List.{flat_map}
use Rattle.candidates.specs.Lines.{line_at}
use Rattle.command_io.specs.Parts.{Puts}
use Rattle.formula_reports.proofs.decomposition.put_kept.Given as goal

-- the lines of the first lists were put, and there is room for the counts of each
abbrev pub invariant-loop-place : goal.invariant-loop-place
invariant-loop-place g l = record {
  puts : Puts (flat_map (line_at l.premises l.mz) (take l.place l.lists))
      (g.O.Sink.written l.initial.out) (g.O.Sink.written l.out)
      (g.O.Sink.faults l.initial.out) (g.O.Sink.faults l.out) (Ok tt);
  room : All (λ counts. length counts ≡ length l.counts.items) l.lists;
}
