-- What an accepted certificate claims is true.
use Rattle.std.proofs.Common.{◌≡◌, ℕ, Bool, true, false, cond, eqb, ltb, length, Some, None, refl, sym, ◌∙◌, ap, All}
use Rattle.std.specs.Prelude.{Option, ◌||◌}
use Rattle.std.proofs.lemmas.Bool.{false≢true}
use Rattle.isotopologue_sets.specs.Layers.{AreElements, max_members}
use Rattle.isotopologue_sets.specs.Coverage.{max_coverage}
use Rattle.element_table.specs.Elements.{TableEntries}
use Rattle.isotopologue_text.specs.Isotopologues.{formula_elements, IsOfText}
use Rattle.isotopologue_text.specs.ReadCounts.{counts_of_text}
use Rattle.certificate_text.specs.Certificates.{CertificateEntries}
use Rattle.cover_claims.specs.Claims.{claim_fault}
use Rattle.cover_claims.specs.ClaimMeaning.{IsTrueClaim}
use Rattle.cover_claims.specs.declared.fault.ClaimFault.{ClaimFault}
use Rattle.cover_claims.specs.declared.fault.ClaimFault.TheVariants as fault
use Rattle.cover_claims.proofs.ClaimTruth.{claim-true}
use Rattle.certificate_check.specs.declared.judgement.Judgement.{Judgement}
use Rattle.certificate_check.specs.declared.judgement.Judgement.TheVariants as said
use Rattle.certificate_check.specs.Judgements.{first_unnamed, claimed_by, numbers_of, judgement_of, judgement_of_lines, judgement}
use Rattle.certificate_check.specs.CertificateMeaning.{CertificateMeans}
use Rattle.certificate_check.proofs.LineMembers.{lines-texts, members-are}

-- whether a judgement is the first one
abbrev is_accepted : Judgement → Bool
is_accepted said.Accepted = true
is_accepted (said.CoverageRange said) = false
is_accepted (said.TooManyMembers found) = false
is_accepted (said.NotOfFormula line) = false
is_accepted (said.OutOfOrder line) = false
is_accepted said.ModeAbsent = false
is_accepted (said.OpenBoundary line neighbour hi) = false
is_accepted (said.SizeDiffers said found) = false
is_accepted (said.CoverShort total) = false
is_accepted (said.BoundTooHigh total) = false

no_fault : (table : TableEntries) (certificate : CertificateEntries) (o : Option ClaimFault) →
    is_accepted (judgement_of table certificate o) ≡ true → o ≡ None
no_fault table certificate None held = refl
no_fault table certificate (Some (fault.OutOfOrder place)) held = absurd (false≢true held)
no_fault table certificate (Some fault.ModeAbsent) held = absurd (false≢true held)
no_fault table certificate (Some (fault.OpenBoundary place neighbour hi)) held = absurd (false≢true held)
no_fault table certificate (Some (fault.SizeDiffers found)) held = absurd (false≢true held)
no_fault table certificate (Some (fault.CoverShort total)) held = absurd (false≢true held)
no_fault table certificate (Some (fault.BoundTooHigh total)) held = absurd (false≢true held)

all_named : (table : TableEntries) (certificate : CertificateEntries) (o : Option ℕ) →
    is_accepted (judgement_of_lines table certificate o) ≡ true →
    (o ≡ None) × (claim_fault (claimed_by table certificate) (numbers_of certificate) ≡ None)
all_named table certificate None held =
    (refl, no_fault table certificate (claim_fault (claimed_by table certificate) (numbers_of certificate)) held)
all_named table certificate (Some place) held = absurd (false≢true held)

otherwise : (b : Bool) (x y : Judgement) → is_accepted x ≡ false → is_accepted (cond b x y) ≡ true → is_accepted y ≡ true
otherwise true x y refused held = absurd (false≢true (sym refused ∙ held))
otherwise false x y refused held = held

pub certificate-true : (table : TableEntries) (certificate : CertificateEntries) →
    AreElements (formula_elements table certificate.formula) →
    All (λ l. IsOfText table certificate.formula l.text (counts_of_text table certificate.formula l.text))
    certificate.lines →
    judgement table certificate ≡ said.Accepted → CertificateMeans table certificate
unfolding judgement
certificate-true table certificate ok meaning accepted =
    let held : is_accepted (judgement table certificate) ≡ true = ap is_accepted accepted in
    let many = otherwise ((eqb certificate.coverage 0) || ltb max_coverage certificate.coverage) _ _ refl held in
    let lines = otherwise (ltb max_members (length certificate.lines)) _ _ refl many in
    let both = all_named table certificate (first_unnamed table certificate) lines in
    let claim : IsTrueClaim (claimed_by table certificate) (numbers_of certificate) =
    claim-true (claimed_by table certificate) (numbers_of certificate) ok
    (members-are table certificate meaning both.0) both.1 in
    record {
      texts = lines-texts table certificate meaning both.0;
      reached = claim.reached;
      size_is = claim.size_is;
      least = claim.least;
    }
