-- The certificate of a cover, and its text.
use Rattle.std.specs.Prelude.{ℕ, ◌≤◌, Bool, true, false, nat_lt, List, ◌++◌, length, map, take, drop, All, IsTrue}
use Rattle.std.specs.Prelude.{Result}
use Rattle.std.specs.Prelude.{Ok, Err, if◌then◌else◌}
use Rattle.certificate_text.specs.Certificates.{CertLineEntry, CertificateEntries}
use Rattle.certificate_text.specs.CertificateLines.{most_number}
use Rattle.certificate_text.specs.WrittenCertificates.{is_plain_text, written_text}
use Rattle.cover_certificate.specs.FormulaCovers.{CoverEntries, MemberEntry}
use Rattle.cover_certificate.specs.declared.certificate.CertificateWrite.{CertificateWrite}
use Rattle.cover_certificate.specs.declared.certificate.CertificateWrite.TheVariants.{TooLong, Memory}
use Rattle.cover_certificate.specs.declared.certificate.TheConstants.{MAX_LENGTH}

-- the text of a member with a mark
abbrev pub entry_of : Bool → MemberEntry → CertLineEntry
entry_of marked member = record { marked = marked; text = member.text }

-- the certificate of a cover lists the members of its layer, and marks those of the cover
abbrev pub certificate_of_cover : CoverEntries → CertificateEntries
certificate_of_cover cover =
    record {
      formula = cover.formula;
      coverage = cover.coverage;
      size = cover.size;
      bound = cover.bound;
      threshold = cover.threshold;
      lines = map (entry_of true) (take cover.size cover.layer) ++ map (entry_of false) (drop cover.size cover.layer);
    }

-- the greatest length of a text, in bytes
abbrev pub max_length : ℕ
max_length = MAX_LENGTH

-- whether it is want of memory
abbrev pub is_memory : CertificateWrite → Bool
is_memory TooLong = false
is_memory Memory = true

-- the text of the certificate of a cover, unless it is longer
abbrev pub cover_certificate : CoverEntries → Result (List ℕ) CertificateWrite
cover_certificate cover =
    if nat_lt max_length (length (written_text (certificate_of_cover cover))) then Err TooLong
    else Ok (written_text (certificate_of_cover cover))

-- no number of a cover is above 10^18, and no text of a member has control characters
pub record IsReadable (cover : CoverEntries) : Type 0 where
  pub coverage : cover.coverage ≤ most_number
  pub size : cover.size ≤ most_number
  pub bound : cover.bound ≤ most_number
  pub threshold : cover.threshold ≤ most_number
  pub texts : All (λ member. IsTrue (is_plain_text member.text)) cover.layer
