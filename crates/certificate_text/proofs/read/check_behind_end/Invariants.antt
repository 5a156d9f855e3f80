use Rattle.std.proofs.Common.{◌≡◌, ◌+◌, ◌≤◌, length}
use Rattle.std.specs.Str.Lines.{lines}
use Rattle.certificate_text.specs.CertificateReader.{fault_behind_end}
use Rattle.certificate_text.proofs.read.check_behind_end.Given as goal

-- the fault of the lines left is that of all lines
abbrev pub invariant-loop-left : goal.invariant-loop-left
invariant-loop-left l = record {
  all : fault_behind_end (l.last + 1) (lines l.left) ≡ fault_behind_end (l.number + 1) (lines l.bytes);
  numbered : l.last + length l.left ≤ l.number + length l.bytes;
}

abbrev pub decreases-loop-left : goal.decreases-loop-left
decreases-loop-left l = length l.left
