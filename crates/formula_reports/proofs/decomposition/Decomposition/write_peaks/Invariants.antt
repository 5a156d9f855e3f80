use Rattle.std.proofs.Common.{take}
use Rattle.std.specs.Prelude.{Ok}
use Rattle.std.specs.List.{flat_map}
use Rattle.command_io.specs.Parts.{Puts}
use Rattle.formula_reports.specs.PageFormulas.{numbered}
use Rattle.formula_reports.specs.Reports.{peak_lines}
use Rattle.formula_reports.proofs.decomposition.Decomposition.write_peaks.Given as goal

-- the lines of the first peaks were put
abbrev pub invariant-loop-i : goal.invariant-loop-i
invariant-loop-i g l = Puts (flat_map (peak_lines l.self) (take l.i (numbered l.self.mzs)))
    (g.O.Sink.written l.initial.out) (g.O.Sink.written l.out)
    (g.O.Sink.faults l.initial.out) (g.O.Sink.faults l.out) (Ok tt)
