-- The tests are taken in turn.
use Rattle.std.proofs.Common.{◌≡◌, length, sym, ap, ◌∙◌, arith, None, refl}
use Rattle.cover_claims.specs.MemberRows.{member_rows}
use Rattle.std.specs.Prelude.{Result, Ok, Err, IfOk}
use Rattle.std.proofs.lemmas.List.{length-map}
use Rattle.certificate_text.specs.Certificates.{CertificateEntries}
use Rattle.isotopologue_text.specs.Isotopologues.{formula_elements}
use Rattle.cover_claims.specs.declared.claim.ClaimNumbers.{ClaimNumbers}
use Rattle.cover_claims.specs.Claims.{Claimed, claim_fault}
use Rattle.cover_claims.proofs.OpenNeighbours.{fault-names}
use Rattle.certificate_check.specs.Judgements.{first_unnamed, claimed_by, numbers_of, judgement_of, judgement_of_lines, judgement}
use Rattle.certificate_check.proofs.LineMembers.{has-text, members-are, rows-long, rows-members, marks_of}
use Rattle.certificate_check.proofs.CertificateTruth.{certificate-true}
use Rattle.certificate_check.proofs.JudgementSteps.{coverage-zero, coverage-high, many-members, of-lines}
use Rattle.certificate_check.proofs.judging.check.Goals as goal
use Rattle.certificate_check.proofs.judging.check.Goals.{After-claim_fault, In_default, In_ok-marks, In_ok-fault}
use Rattle.certificate_check.proofs.judging.check.Goals.{then-said-eq0-via-then-said-eq0}
use Rattle.certificate_check.proofs.judging.check.Goals.{then-said-eq0-via-else-said-eq0+then-said-gt-MAX_COVERAGE}

pub returns-then-said-eq0-clause-judgement : goal.returns-then-said-eq0-clause-judgement
returns-then-said-eq0-clause-judgement c =
    elim c.then-said-eq0.branch [
      | then-said-eq0-via-then-said-eq0 w ↦ rw c.coverage-said.ensures (sym (coverage-zero c.args.table.now c.args.certificate.now (omega (arith, c.coverage-said.ensures, w.if-said-eq0.true))))
      | then-said-eq0-via-else-said-eq0+then-said-gt-MAX_COVERAGE w ↦ rw c.coverage-said.ensures (sym (coverage-high c.args.table.now c.args.certificate.now (λ e. w.if-said-eq0.false (c.coverage-said.ensures ∙ e)) (omega (arith, c.coverage-said.ensures, w.if-said-gt-MAX_COVERAGE.true))))
    ]

pub returns-then-found-gt-MAX_MEMBERS-clause-judgement : goal.returns-then-found-gt-MAX_MEMBERS-clause-judgement
returns-then-found-gt-MAX_MEMBERS-clause-judgement c =
    rw c.lines.ensures
    (sym (many-members c.args.table.now c.args.certificate.now (λ e. c.if-said-eq0.false (c.coverage-said.ensures ∙ e))
    (omega (arith, c.coverage-said.ensures, c.if-said-gt-MAX_COVERAGE.false))
    (omega (arith, ap length c.lines.ensures, c.if-found-gt-MAX_MEMBERS.true))))

pub returns-in-Some-clause-judgement : goal.returns-in-Some-clause-judgement
returns-in-Some-clause-judgement c =
    sym
    (of-lines c.args.table.now c.args.certificate.now (λ e. c.if-said-eq0.false (c.coverage-said.ensures ∙ e))
    (omega (arith, c.coverage-said.ensures, c.if-said-gt-MAX_COVERAGE.false))
    (omega (arith, ap length c.lines.ensures, c.if-found-gt-MAX_MEMBERS.false))
    ∙ ap (judgement_of_lines c.args.table.now c.args.certificate.now) (sym c.in_ok-place.ensures.place ∙ c.in-Some.is))

weaker : {A E : Type 0} (P Q : A → Type 0) (r : Result A E) → ((a : A) → P a → Q a) → IfOk r P → IfOk r Q
weaker P Q (Ok a) each holds = each a holds
weaker P Q (Err e) each holds = holds

none : (c : In_default) → first_unnamed c.args.table.now c.args.certificate.now ≡ None
none c = sym c.in_ok-place.ensures.place ∙ c.in_default.is

pub of-requires-clause-rows : goal.of-requires-clause-rows
of-requires-clause-rows c =
    let d = (goal.at.of-requires-clause-rows c).In_default in
    let t = c.args.table.now in
    let cert = c.args.certificate.now in
    let marks = c.in_ok-marks.ensures ∙ ap marks_of c.lines-2.ensures in
    rw (c.in_ok-rows.ensures, marks, c.in_ok-elements.ensures.elements, c.formula.ensures)
    (rows-long t cert cert.lines (has-text t cert (c.in_ok-place.ensures.meaning c.in_default.is) (none d)))

same_numbers : (n : ClaimNumbers) (cert : CertificateEntries) → n.coverage ≡ cert.coverage → n.size ≡ cert.size →
    n.bound ≡ cert.bound → n.threshold ≡ cert.threshold → n ≡ numbers_of cert
same_numbers n cert a b d e = rw (← a, ← b, ← d, ← e) refl

listed : (c : In_ok-marks) →
    member_rows c.in_ok-elements.elements.items c.in_ok-rows.rows.items c.in_ok-marks.marks.items
    ≡ (claimed_by c.args.table.now c.args.certificate.now).members
listed c =
    let t = c.args.table.now in
    let cert = c.args.certificate.now in
    let marks = c.in_ok-marks.ensures ∙ ap marks_of c.lines-2.ensures in
    rw (c.in_ok-rows.ensures, marks, c.in_ok-elements.ensures.elements, c.formula.ensures)
    (rows-members t cert cert.lines
    (has-text t cert (c.in_ok-place.ensures.meaning c.in_default.is) (sym c.in_ok-place.ensures.place ∙ c.in_default.is)))

elements-are : (c : In_ok-marks) →
    c.in_ok-elements.elements.items ≡ formula_elements c.args.table.now c.args.certificate.now.formula
elements-are c = c.in_ok-elements.ensures.elements ∙ ap (formula_elements c.args.table.now) c.formula.ensures

pub of-requires-clause-isotopologues : goal.of-requires-clause-isotopologues
of-requires-clause-isotopologues c =
    let d = (goal.at.of-requires-clause-isotopologues c).In_ok-marks in
    rw (listed d, elements-are d)
    (members-are c.args.table.now c.args.certificate.now (c.in_ok-place.ensures.meaning c.in_default.is)
    (sym c.in_ok-place.ensures.place ∙ c.in_default.is))

fault-is : (c : In_ok-fault) →
    c.in_ok-fault.fault ≡ claim_fault (claimed_by c.args.table.now c.args.certificate.now) (numbers_of c.args.certificate.now)
fault-is c =
    let d = (goal.at.In_ok-fault c).In_ok-marks in
    let claimed : c.in_ok-claimed.claimed ≡ claimed_by c.args.table.now c.args.certificate.now =
    c.in_ok-claimed.ensures ∙ rw (listed d, elements-are d) refl in
    c.in_ok-fault.ensures.fault
    ∙ ap (λ (m : Claimed). claim_fault m c.numbers_of.result) claimed
    ∙ ap (claim_fault (claimed_by c.args.table.now c.args.certificate.now))
    (same_numbers c.numbers_of.result c.args.certificate.now c.numbers_of.ensures.coverage c.numbers_of.ensures.size
    c.numbers_of.ensures.bound c.numbers_of.ensures.threshold)

pub judgement_of-requires-clause-names : goal.judgement_of-requires-clause-names
judgement_of-requires-clause-names c =
    let t = c.args.table.now in
    let cert = c.args.certificate.now in
    let names = fault-names (claimed_by t cert) (numbers_of cert)
    (members-are t cert (c.in_ok-place.ensures.meaning c.in_default.is)
    (sym c.in_ok-place.ensures.place ∙ c.in_default.is)) in
    rw (fault-is (goal.at.judgement_of-requires-clause-names c).In_ok-fault) (rw length-map at names)

final : (c : In_ok-fault) →
    judgement_of c.args.table.now c.args.certificate.now c.in_ok-fault.fault
    ≡ judgement c.args.table.now c.args.certificate.now
final c =
    let t = c.args.table.now in
    let cert = c.args.certificate.now in
    ap (judgement_of t cert) (fault-is c)
    ∙ ap (judgement_of_lines t cert) (sym (sym c.in_ok-place.ensures.place ∙ c.in_default.is))
    ∙ sym
    (of-lines t cert (λ e. c.if-said-eq0.false (c.coverage-said.ensures ∙ e))
    (omega (arith, c.coverage-said.ensures, c.if-said-gt-MAX_COVERAGE.false))
    (omega (arith, ap length c.lines.ensures, c.if-found-gt-MAX_MEMBERS.false)))

pub returns-clause-judgement : goal.returns-clause-judgement
returns-clause-judgement c =
    weaker _ _ c.judgement_of.result (λ j is. is ∙ final (goal.at.returns-clause-judgement c).In_ok-fault) c.judgement_of.ensures

pub returns-clause-sound : goal.returns-clause-sound
returns-clause-sound c =
    let a = (goal.at.returns-clause-sound c).In_ok-fault in
    let d = (goal.at.returns-clause-sound c).In_ok-marks in
    weaker _ _ c.judgement_of.result
    (λ j is accepted.
    certificate-true c.args.table.now c.args.certificate.now (rw (elements-are d) at c.in_ok-elements.ensures.within_limits)
    (c.in_ok-place.ensures.meaning c.in_default.is) (sym (is ∙ final a) ∙ accepted))
    c.judgement_of.ensures
