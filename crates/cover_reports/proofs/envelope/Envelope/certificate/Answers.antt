use Rattle.std.proofs.Common.{◌≡◌, ℕ, List, ap, sym, ◌∙◌}
use Rattle.std.specs.Prelude.{Result, Ok, Err}
use Rattle.cover_certificate.specs.CoverCertificates.{cover_certificate}
use Rattle.cover_certificate.specs.FormulaCovers.{CoverEntries}
use Rattle.cover_certificate.specs.declared.certificate.CertificateWrite.{CertificateWrite}
use Rattle.command_io.specs.Refusals.{or_fault_as}
use Rattle.command_io.specs.declared.input_fault.InputFault.TheVariants.{CertificateLimit}
use Rattle.cover_reports.specs.Reports.{asked_cover}
use Rattle.cover_reports.proofs.envelope.Envelope.certificate.Goals as goal

pub returns-in-Ok-clause-text : goal.returns-in-Ok-clause-text
returns-in-Ok-clause-text c =
    let covered : c.self.inside.cover ≡ asked_cover c.args.self.now = c.self.invariant.0 ∙ ap asked_cover c.self.view_is in
    ap (λ (r : Result (List ℕ) CertificateWrite). or_fault_as (λ fault. CertificateLimit) r)
    (ap cover_certificate (sym (c.in_ok-cover.ensures ∙ covered)) ∙ c.in-Ok.ensures.text)

pub returns-in-Err-TooLong-clause-text : goal.returns-in-Err-TooLong-clause-text
returns-in-Err-TooLong-clause-text c =
    let covered : c.self.inside.cover ≡ asked_cover c.args.self.now = c.self.invariant.0 ∙ ap asked_cover c.self.view_is in
    ap (λ (r : Result (List ℕ) CertificateWrite). or_fault_as (λ fault. CertificateLimit) r)
    (ap cover_certificate (sym (c.in_ok-cover.ensures ∙ covered)) ∙ (rw c.in-Err-TooLong.field-0-is at c.in-Err-TooLong.ensures.text))
