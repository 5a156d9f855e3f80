use Rattle.std.proofs.Common.{◌≡◌, ℕ, List, ◌++◌, length}
use Rattle.std.specs.Prelude.{Ok}
use Rattle.std.specs.List.{flat_map}
use Rattle.candidates.specs.Enumeration.{counts_left}
use Rattle.candidates.specs.Lines.{line_at}
use Rattle.command_io.specs.Parts.{Puts}
use Rattle.formula_reports.specs.PageFormulas.{first_of}
use Rattle.formula_reports.proofs.decomposition.put_formulas.Given as goal

-- the lines of the lists done were put, and these lists and those left of the page are all of it
abbrev pub invariant-formulas : goal.invariant-formulas
invariant-formulas g l =
    (done : List (List ℕ))
    × (done ++ first_of l.most (counts_left l.candidates) ≡ first_of l.fn.limit (counts_left l.initial.candidates))
    × Puts (flat_map (line_at l.initial.candidates.premises l.initial.candidates.mz) done)
    (g.O.Sink.written l.initial.out) (g.O.Sink.written l.out)
    (g.O.Sink.faults l.initial.out) (g.O.Sink.faults l.out) (Ok tt)
    × (l.candidates.premises ≡ l.initial.candidates.premises)
    × (l.candidates.mz ≡ l.initial.candidates.mz)

abbrev pub decreases-formulas : goal.decreases-formulas
decreases-formulas g l = length (counts_left l.candidates)
