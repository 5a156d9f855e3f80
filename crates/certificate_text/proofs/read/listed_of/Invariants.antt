use Rattle.std.proofs.Common.{◌≡◌, ◌+◌, ◌≤◌, [], length}
use Rattle.std.specs.Str.Lines.{lines}
use Rattle.certificate_text.specs.CertificateReader.{listed_after}
use Rattle.certificate_text.proofs.read.listed_of.Given as goal

-- what was listed, and what the lines left list, are what all lines list
abbrev pub invariant-loop-left : goal.invariant-loop-left
invariant-loop-left l = record {
  all : listed_after (l.number + 1) l.listed.items (lines l.left) ≡ listed_after 7 [] (lines l.bytes);
  numbered : l.number + length l.left ≤ 6 + length l.bytes;
}

abbrev pub decreases-loop-left : goal.decreases-loop-left
decreases-loop-left l = length l.left
