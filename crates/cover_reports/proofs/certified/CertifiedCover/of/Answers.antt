use Rattle.std.proofs.Common.{Vec, Global, ◌≡◌, ℕ, Bool, true, false, cond, List, ap}
use Rattle.std.specs.Prelude.{Result, Ok, Err, nat_lt, length}
use Rattle.std.proofs.lemmas.Result.{err_from_is_err_and}
use Rattle.reader_answers.specs.Answers.{◌>>=◌}
use Rattle.cover_certificate.specs.declared.certificate.CertificateWrite.{CertificateWrite}
use Rattle.cover_certificate.specs.declared.certificate.CertificateWrite.TheVariants.{TooLong}
use Rattle.command_io.specs.Refusals.{or_fault_as}
use Rattle.command_io.specs.declared.input_fault.InputFault.{InputFault}
use Rattle.command_io.specs.declared.input_fault.InputFault.TheVariants.{CertificateLimit}
use Rattle.command_io.proofs.GivenSteps.{gives_stop}
use Rattle.cover_reports.specs.Answers.{certificate_text}
use Rattle.cover_reports.specs.Queries.{CoverQuery}
use Rattle.cover_reports.specs.Reports.{certificate_report}
use Rattle.cover_reports.proofs.certified.CertifiedCover.of.Goals as goal

-- a text that is given is the one
given_text : (long : Bool) (text given : List ℕ) →
    or_fault_as (λ fault. CertificateLimit) (let answer : Result (List ℕ) CertificateWrite = cond long (Err TooLong) (Ok text) in answer)
    ≡ Ok given → given ≡ text
given_text true text given is =
    absurd (let both : ◌≡◌ {A = Result (List ℕ) InputFault} (Err CertificateLimit) (Ok given) = is in cc)
given_text false text given is =
    let both : ◌≡◌ {A = Result (List ℕ) InputFault} (Ok text) (Ok given) = is in cc

pub returns-in_err-text : goal.returns-in_err-text
returns-in_err-text c =
    let given = err_from_is_err_and c.from_residual.result c.from_residual.ensures.1 in
    rw (given.1, given.2) (gives_stop (λ (v : Vec ℕ Global). v.items) (λ e. e) (certificate_text c.args.envelope)
    (λ text. Ok c.args.envelope) _ c.in_err-text.ensures.text)

pub invariant_of-result : goal.invariant_of-result
invariant_of-result c =
    let query : CoverQuery = c.args.envelope in (
      given_text (nat_lt 268435456 (length (certificate_report query))) (certificate_report query)
          c.in_ok-text.text.items c.in_ok-text.ensures.text,
      c.in_ok-text.ensures.holds,
      c.in_ok-text.ensures.passes,
    )

pub returns : goal.returns
returns c =
    ap (λ (r : Result (List ℕ) InputFault). r >>= λ text. Ok c.args.envelope) c.in_ok-text.ensures.text
