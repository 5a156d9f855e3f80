use Rattle.std.proofs.Common.{◌≡◌, ◌++◌, take}
use Rattle.std.specs.List.{flat_map}
use Rattle.certificate_text.specs.WrittenCertificates.{ended}
use Rattle.cover_certificate.proofs.certificate.push_members.Given as goal

-- the lines of the members so far were appended
abbrev pub invariant-loop-member : goal.invariant-loop-member
invariant-loop-member l =
    l.text.items ≡ l.initial.text.items ++ flat_map (λ m. ended (l.word ++ m.text)) (take l.member-index l.members)
