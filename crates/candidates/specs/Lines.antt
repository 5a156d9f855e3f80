-- The lines of candidates in a report.
use Rattle.std.specs.Prelude.{ℕ, List, []}
use Rattle.std.specs.Option.{option_map_or}
use Rattle.report_lines.specs.ReportLines.{decompose_line}
use Rattle.candidates.specs.Grounds.{GroundValue}
use Rattle.candidates.specs.PeakFormulas.{formula_at}
use Rattle.candidates.specs.Enumeration.{CandidateEnumeration}

-- the line of the formula of a count list, over its ion; nothing where the ion isn't defined
abbrev pub line_at : GroundValue → ℕ → List ℕ → List ℕ
line_at premises mz counts =
    decompose_line premises.table (formula_at premises.alphabet counts) premises.adduct mz

-- the line of the candidate given last; nothing where none was given
abbrev pub given_line : CandidateEnumeration → List ℕ
given_line e = option_map_or (line_at e.premises e.mz) e.given []
