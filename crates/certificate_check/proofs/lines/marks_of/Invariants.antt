use Rattle.std.proofs.Common.{◌≡◌, take}
use Rattle.certificate_check.proofs.LineMembers.{marks_of}
use Rattle.certificate_check.proofs.lines.marks_of.Given as goal

abbrev pub invariant-loop-line : goal.invariant-loop-line
invariant-loop-line l = l.marks.items ≡ marks_of (take l.line-index l.lines)
