use Rattle.std.proofs.Common.{◌≡◌, take}
use Rattle.certificate_check.proofs.LineMembers.{rows_of}
use Rattle.certificate_check.proofs.lines.rows_of.Given as goal

abbrev pub invariant-loop-line : goal.invariant-loop-line
invariant-loop-line l = l.rows.items ≡ rows_of l.table l.certificate (take l.line-index l.certificate.lines)
