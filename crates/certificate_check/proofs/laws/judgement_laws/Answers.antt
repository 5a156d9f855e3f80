-- The laws are lemmas on the definitions.
use Rattle.std.proofs.Common.{get_or}
use Rattle.isotopologue_text.proofs.ReadIsotopologues.{text-reading}
use Rattle.certificate_check.proofs.CertificateTruth.{certificate-true}
use Rattle.certificate_check.proofs.CoverAccepted.{certificate-accepted}
use Rattle.certificate_check.proofs.laws.judgement_laws.Goals as goal

pub returns-clause-sound : goal.returns-clause-sound
returns-clause-sound c table certificate is form known ok accepted =
    certificate-true table certificate ok
    (λ k d within. text-reading table certificate.formula is form known (get_or certificate.lines k d).text) accepted

pub returns-clause-complete : goal.returns-clause-complete
returns-clause-complete c = certificate-accepted
