use Rattle.std.proofs.Common.{◌≡◌, ◌∙◌, ℕ, List, ap, subst}
use Rattle.command_io.specs.Parts.{Puts}
use Rattle.cover_reports.specs.Reports.{certificate_report}
use Rattle.cover_reports.proofs.certified.CertifiedCover.write.Goals as goal

pub returns-clause-puts : goal.returns-clause-puts
returns-clause-puts g c =
    subst (λ (t : List ℕ). Puts t (g.O.Sink.written c.args.out.now) (g.O.Sink.written c.put_text.new.out)
    (g.O.Sink.faults c.args.out.now) (g.O.Sink.faults c.put_text.new.out) c.put_text.result)
    (c.deref.ensures.value ∙ c.self.invariant.0 ∙ ap certificate_report c.self.view_is) c.put_text.ensures
