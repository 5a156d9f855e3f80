-- What a run that wrote its report says of certificates.
use Rattle.std.proofs.Common.{◌≡◌, ℕ, true, false, List, refl, sym, ap, ◌∙◌, subst}
use Rattle.std.specs.Prelude.{Result, Ok, Err, IfOk, IsOkAnd}
use Rattle.outside_ports.specs.Files.{Files}
use Rattle.command_words.specs.WordReading.{request_of}
use Rattle.command_words.specs.declared.fault.WordsFault.{WordsFault}
use Rattle.command_words.specs.declared.request.Request.{Request}
use Rattle.command_words.specs.declared.request.Request.TheVariants.{Check, Decompose, Envelope, Generate, Rank}
use Rattle.command_io.specs.declared.refusal.Refusal.{Refusal}
use Rattle.cover_reports.specs.Answers.{certified_query, check_query}
use Rattle.cover_reports.specs.Claims.{SaysTrue, PassesCheck}
use Rattle.cover_reports.specs.Queries.{CheckQuery, CoverQuery}
use Rattle.cover_reports.specs.Reports.{asked_cover, certificate_report}
use Rattle.cover_reports.specs.declared.check.CheckOptions.{CheckOptions}
use Rattle.cover_reports.specs.declared.envelope.EnvelopeOptions.{EnvelopeOptions}
use Rattle.cover_reports.proofs.CheckedCertificates.{accepted_later, true_check}
use Rattle.isoform.specs.Answer.{Certified, Checked, Outcome, IsReport, answer, answer_if, answer_of_request, result_as}
use Rattle.isoform.specs.CertificateClaims.{IsAcceptedLater, IsTrueCheck, PassesFor}
use Rattle.isoform.specs.Claims.{Holds}
use Rattle.isoform.specs.Outside.{status_of_answer, status_of_result}

-- ---- a certificate that is accepted

from_check : (options : CheckOptions) (files : Files) (P : Outcome → Type 0) (r : Result CheckQuery Refusal) →
    (check_query options files).result ≡ r → IsOkAnd (result_as Checked r) (λ outcome. P outcome × Holds outcome) →
    SaysTrue options.table options.tracer options.certificate files
from_check options files P (Ok query) is holds = true_check options files query is holds.1
from_check options files P (Err refusal) is holds = absurd holds

check_holds : (request : Request) (files : Files) (P : Outcome → Type 0) →
    IsOkAnd (answer_of_request request files).result (λ outcome. P outcome × Holds outcome) → IsTrueCheck request files
check_holds (Decompose table mass peaks tolerance alphabet adduct rules limit after json) files P holds = tt
check_holds (Envelope table tracer adduct formula coverage certificate json) files P holds = tt
check_holds (Rank table tracer peaks tolerance alphabet adduct rules coverage peak turn turns json) files P holds = tt
check_holds (Generate table number) files P holds = tt
check_holds (Check table tracer certificate) files P holds =
    let options : CheckOptions = record { table = table; tracer = tracer; certificate = certificate } in
    from_check options files P (check_query options files).result refl holds

pub run_checks : (words : List (List ℕ)) (files : Files) (P : Outcome → Type 0) →
    IsOkAnd (answer words files).result (λ outcome. P outcome × Holds outcome) →
    IfOk (request_of words) (λ request. IsTrueCheck request files)
unfolding answer
run_checks words files P holds = go (request_of words) holds
  where
    go : (r : Result Request WordsFault) →
        IsOkAnd (answer_if r files).result (λ outcome. P outcome × Holds outcome) →
        IfOk r (λ request. IsTrueCheck request files)
    go (Ok request) holds = check_holds request files P holds
    go (Err fault) holds = tt

-- ---- a certificate that was printed

passes_for : (options : EnvelopeOptions) (files : Files) (query : CoverQuery) →
    (certified_query options files).result ≡ Ok query → PassesCheck query.table (asked_cover query) →
    PassesFor options.table options.tracer (certificate_report query) files
unfolding answer
passes_for options files query is passes = λ others name words same there asks.
    ap (λ (r : Result Request WordsFault). status_of_answer (answer_if r others)) asks
    ∙ ap (λ (r : Result CheckQuery Refusal). status_of_result (result_as Checked r))
    (accepted_later options files query is passes others name same there)

from_envelope : (options : EnvelopeOptions) (files : Files) (P : Outcome → Type 0) (r : Result CoverQuery Refusal) →
    (certified_query options files).result ≡ r → IsOkAnd (result_as Certified r) (λ outcome. P outcome × Holds outcome) →
    IsOkAnd (result_as Certified r) (λ outcome. (bytes : List ℕ) → IsReport outcome bytes →
    PassesFor options.table options.tracer bytes files)
from_envelope options files P (Ok query) is holds = λ bytes report.
    subst (λ (b : List ℕ). PassesFor options.table options.tracer b files) (sym report)
    (passes_for options files query is holds.1.1)
from_envelope options files P (Err refusal) is holds = absurd holds

-- what holds of any outcome, holds of the one that there is
any_outcome : (r : Result Outcome Refusal) (P Q : Outcome → Type 0) → ((outcome : Outcome) → Q outcome) → IsOkAnd r P →
    IsOkAnd r Q
any_outcome (Ok outcome) P Q each holds = each outcome
any_outcome (Err refusal) P Q each holds = absurd holds

envelope_holds : (request : Request) (files : Files) (P : Outcome → Type 0) →
    IsOkAnd (answer_of_request request files).result (λ outcome. P outcome × Holds outcome) →
    IsOkAnd (answer_of_request request files).result (λ outcome. (bytes : List ℕ) → IsReport outcome bytes →
    IsAcceptedLater request files bytes)
envelope_holds (Decompose table mass peaks tolerance alphabet adduct rules limit after json) files P holds =
    any_outcome _ (λ outcome. P outcome × Holds outcome) _ (λ outcome bytes report. tt) holds
envelope_holds (Check table tracer certificate) files P holds =
    any_outcome _ (λ outcome. P outcome × Holds outcome) _ (λ outcome bytes report. tt) holds
envelope_holds (Rank table tracer peaks tolerance alphabet adduct rules coverage peak turn turns json) files P holds =
    any_outcome _ (λ outcome. P outcome × Holds outcome) _ (λ outcome bytes report. tt) holds
envelope_holds (Generate table number) files P holds =
    any_outcome _ (λ outcome. P outcome × Holds outcome) _ (λ outcome bytes report. tt) holds
envelope_holds (Envelope table tracer adduct formula coverage false json) files P holds =
    any_outcome _ (λ outcome. P outcome × Holds outcome) _ (λ outcome bytes report. tt) holds
envelope_holds (Envelope table tracer adduct formula coverage true json) files P holds =
    let options : EnvelopeOptions = record {
      table = table;
      tracer = tracer;
      adduct = adduct;
      formula = formula;
      coverage = coverage;
    } in
    from_envelope options files P (certified_query options files).result refl holds

pub run_certifies : (words : List (List ℕ)) (files : Files) (P : Outcome → Type 0) →
    IsOkAnd (answer words files).result (λ outcome. P outcome × Holds outcome) →
    IfOk (request_of words) (λ request. IsOkAnd (answer words files).result (λ outcome.
    (bytes : List ℕ) → IsReport outcome bytes → IsAcceptedLater request files bytes))
unfolding answer
run_certifies words files P holds = go (request_of words) holds
  where
    go : (r : Result Request WordsFault) →
        IsOkAnd (answer_if r files).result (λ outcome. P outcome × Holds outcome) →
        IfOk r (λ request. IsOkAnd (answer_if r files).result (λ outcome.
        (bytes : List ℕ) → IsReport outcome bytes → IsAcceptedLater request files bytes))
    go (Ok request) holds = envelope_holds request files P holds
    go (Err fault) holds = tt
