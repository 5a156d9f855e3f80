use Rattle.std.proofs.Common.{◌≡◌, ◌≤◌, ◌+◌, length, take}
use Rattle.std.specs.Prelude.{sum_by}
use Rattle.cover_certificate.specs.CoverCertificates.{max_length}
use Rattle.cover_certificate.proofs.certificate.is_too_long.Given as goal

-- the length with the lines of the members so far
abbrev pub invariant-loop-member : goal.invariant-loop-member
invariant-loop-member l = record {
  length : l.length ≡ l.head + sum_by (λ m. length m.text + 7) (take l.member-index l.members);
  within : l.length ≤ max_length;
}
