use Rattle.std.proofs.Common.{◌≡◌, ◌++◌, map, take}
use Rattle.std.specs.List.{enumerate_from, flat_map}
use Rattle.report_text.specs.RankLines.{place_line}
use Rattle.report_text.proofs.rank.push_place_lines.Given as goal

-- the lines of the places so far were appended
abbrev pub invariant-loop-i : goal.invariant-loop-i
invariant-loop-i l = l.report.items
    ≡ l.initial.report.items ++ flat_map place_line (take l.i (enumerate_from 1 (map (λ r. r.now) l.order)))
