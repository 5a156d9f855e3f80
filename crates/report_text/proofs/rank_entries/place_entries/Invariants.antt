use Rattle.std.proofs.Common.{◌≡◌, map, take}
use Rattle.std.specs.List.{enumerate_from}
use Rattle.report_text.specs.JsonReports.{place_entry}
use Rattle.report_text.proofs.rank_entries.place_entries.Given as goal

-- the entries of the places so far were appended
abbrev pub invariant-loop-i : goal.invariant-loop-i
invariant-loop-i l = l.entries ≡ map place_entry (take l.i (enumerate_from 1 (map (λ r. r.now) l.order)))
