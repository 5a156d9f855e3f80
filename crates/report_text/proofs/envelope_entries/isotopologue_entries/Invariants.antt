use Rattle.std.proofs.Common.{◌≡◌, map, take}
use Rattle.report_text.specs.JsonReports.{isotopologue_entry}
use Rattle.report_text.proofs.envelope_entries.isotopologue_entries.Given as goal

-- the entries of the members so far were appended
abbrev pub invariant-loop-member : goal.invariant-loop-member
invariant-loop-member l = l.entries ≡ map (isotopologue_entry l.shift) (take l.member-index l.members)
