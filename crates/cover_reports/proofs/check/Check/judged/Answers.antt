use Rattle.std.proofs.Common.{◌≡◌, refl, sym, ap, ◌∙◌}
use Rattle.std.specs.Prelude.{Result, Ok, Err}
use Rattle.element_table.specs.Elements.{TableEntries}
use Rattle.certificate_text.specs.Certificates.{CertificateEntries}
use Rattle.certificate_check.specs.Judgements.{judgement}
use Rattle.certificate_check.specs.declared.judgement.Judgement.{Judgement}
use Rattle.certificate_check.specs.declared.judgement.Judgement.TheVariants.{Accepted}
use Rattle.command_io.specs.declared.input_fault.InputFault.TheVariants.{Rejected}
use Rattle.cover_reports.specs.Queries.{CheckQuery}
use Rattle.cover_reports.specs.Steps.{if_accepted, judged_step}
use Rattle.cover_reports.proofs.check.Check.judged.Goals as goal

rejected : (judged : Judgement) (query : CheckQuery) → (judged ≡ Accepted → ⊥) →
    if_accepted judged query ≡ Err (Rejected judged)
rejected Accepted query other = absurd (other refl)
rejected judged query other = refl

accepted_step : (table : TableEntries) (certificate : CertificateEntries) (judged : Judgement) →
    judged ≡ judgement table certificate → judged ≡ Accepted →
    judged_step table certificate ≡ Ok (record { table = table; certificate = certificate })
accepted_step table certificate judged is accepted =
    ap (λ (j : Judgement). if_accepted j (record { table = table; certificate = certificate })) (sym is ∙ accepted)

rejected_step : (table : TableEntries) (certificate : CertificateEntries) (judged : Judgement) →
    judged ≡ judgement table certificate → (judged ≡ Accepted → ⊥) →
    judged_step table certificate ≡ Err (Rejected judged)
rejected_step table certificate judged is other =
    ap (λ (j : Judgement). if_accepted j (record { table = table; certificate = certificate })) (sym is)
    ∙ rejected judged (record { table = table; certificate = certificate }) other

pub invariant_of-result : goal.invariant_of-result
invariant_of-result c = c.in_ok-judgement.ensures.sound c.in-Accepted.is

pub returns-in-Accepted : goal.returns-in-Accepted
returns-in-Accepted c =
    accepted_step c.args.table c.args.certificate c.in_ok-judgement.judgement c.in_ok-judgement.ensures.judgement c.in-Accepted.is

pub returns-in_default : goal.returns-in_default
returns-in_default c =
    rejected_step c.args.table c.args.certificate c.in_ok-judgement.judgement c.in_ok-judgement.ensures.judgement
    c.in_default.not-Accepted
