use Rattle.std.proofs.Common.{SFits, ◌≡◌, ℕ, List, ◌++◌, ap, sym, ◌∙◌, subst, refl}
use Rattle.std.specs.Prelude.{ℤ, All, Err}
use Rattle.std.proofs.lemmas.Result.{err_from_is_err_and}
use Rattle.std.specs.List.{flat_map}
use Rattle.cover_certificate.specs.FormulaCovers.{CoverEntries, MemberEntry}
use Rattle.report_lines.specs.ReportLines.{IsPrintedWith, cover_members, envelope_head, envelope_text}
use Rattle.report_lines.specs.ReportLines.{isotopologue_line}
use Rattle.std.specs.Int.{w128}
use Rattle.std.proofs.lemmas.Int.{to_z-of_z}
use Rattle.command_io.specs.Parts.{Puts}
use Rattle.command_io.proofs.Puts.{puts_next, puts_stop}
use Rattle.cover_reports.specs.Reports.{cover_report}
use Rattle.cover_reports.proofs.PrintedMasses.{fits_small}
use Rattle.cover_reports.proofs.envelope.Envelope.write.Goals as goal

-- a head and the lines behind it are the report
whole : (shift : ℤ) (cover : CoverEntries) →
    envelope_head cover ++ flat_map (isotopologue_line shift) (cover_members cover) ≡ envelope_text shift cover
whole shift cover = refl

pub returns-in_err-put_text-clause-puts : goal.returns-in_err-put_text-clause-puts
returns-in_err-put_text-clause-puts g c =
    let cover = c.self.inside.cover in
    let shift = c.self.inside.shift in
    let lines : List ℕ = flat_map (isotopologue_line shift) (cover_members cover) in
    let given = err_from_is_err_and c.from_residual-in_err-put_text.result c.from_residual-in_err-put_text.ensures.1 in
    let head : c.deref.result.now ≡ envelope_head cover = c.deref.ensures.value ∙ c.in_ok-numbered_head.ensures in
    rw (given.1, given.2)
    (subst (λ (t : List ℕ). Puts t (g.O.Sink.written c.args.out.now) (g.O.Sink.written c.put_text.new.out)
    (g.O.Sink.faults c.args.out.now) (g.O.Sink.faults c.put_text.new.out) (Err c.in_err-put_text.field-0.0))
    (ap (λ t. t ++ lines) head ∙ whole shift cover ∙ ap (envelope_text shift) c.self.invariant.0
    ∙ ap cover_report c.self.view_is)
    (puts_stop c.deref.result.now lines _ _ _ _ _ c.in_err-put_text.ensures))

pub put_members-requires : goal.put_members-requires
put_members-requires g c =
    let fits : SFits w128 c.self.inside.shift = fits_small c.self.inside.shift c.self.invariant.3 in
    simp to_z-of_z c.self.invariant.2

pub returns-clause-puts : goal.returns-clause-puts
returns-clause-puts g c =
    let fits : SFits w128 c.self.inside.shift = fits_small c.self.inside.shift c.self.invariant.3 in
    let cover = c.self.inside.cover in
    let shift = c.self.inside.shift in
    let lines : List ℕ = flat_map (isotopologue_line shift) (cover_members cover) in
    let head : c.deref.result.now ≡ envelope_head cover = c.deref.ensures.value ∙ c.in_ok-numbered_head.ensures in
    subst (λ (t : List ℕ). Puts t (g.O.Sink.written c.args.out.now) (g.O.Sink.written c.put_members.new.out)
    (g.O.Sink.faults c.args.out.now) (g.O.Sink.faults c.put_members.new.out) c.put_members.result)
    (ap (λ t. t ++ lines) head
    ∙ whole shift cover ∙ ap (envelope_text shift) c.self.invariant.0 ∙ ap cover_report c.self.view_is)
    (puts_next c.deref.result.now lines _ _ _ _ _ _ _ c.in_ok-put_text.ensures
    (simp to_z-of_z at c.put_members.ensures))
