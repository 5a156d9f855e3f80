-- The reports of covers: as lines, in JSON of the same entries, and as certificates; and that of a certificate which is
-- accepted.
use Rattle.std.specs.Prelude.{ℕ, List}
use Rattle.certificate_text.specs.Certificates.{CertificateEntries}
use Rattle.certificate_text.specs.WrittenCertificates.{written_text}
use Rattle.cover_certificate.specs.CoverCertificates.{certificate_of_cover}
use Rattle.cover_certificate.specs.FormulaCovers.{CoverEntries, cover_of}
use Rattle.report_lines.specs.ReportLines.{accepted_line, envelope_text}
use Rattle.report_text.specs.JsonReports.{cover_entry, json_text}
use Rattle.report_text.specs.declared.report.Report.TheVariants.{Envelope}
use Rattle.cover_reports.specs.Queries.{CoverQuery}

-- the cover that a query asks for, and its report
abbrev pub asked_cover : CoverQuery → CoverEntries
asked_cover query = cover_of query.table query.ion query.coverage

abbrev pub cover_report : CoverQuery → List ℕ
cover_report query = envelope_text query.shift (asked_cover query)

-- the text of the certificate of this cover
abbrev pub certificate_report : CoverQuery → List ℕ
certificate_report query = written_text (certificate_of_cover (asked_cover query))

-- the report of a certificate that is accepted
abbrev pub accepted_report : CertificateEntries → List ℕ
accepted_report certificate = accepted_line certificate.size certificate.bound

-- the report of a cover in JSON
unfoldable pub cover_json : CoverQuery → List ℕ
cover_json query = json_text (Envelope (cover_entry query.shift (asked_cover query)))
