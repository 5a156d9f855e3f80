use Rattle.std.proofs.Common.{SFits, ◌≡◌, ℕ, List, refl, ap, sym, ◌∙◌, subst}
use Rattle.std.specs.Prelude.{ℤ, All}
use Rattle.std.specs.Int.{w128}
use Rattle.std.proofs.lemmas.Int.{to_z-of_z}
use Rattle.std.proofs.lemmas.Result.{err_from_is_err_and}
use Rattle.element_table.specs.Elements.{TableEntries}
use Rattle.written_items.specs.declared.item.Item.{Item}
use Rattle.cover_certificate.specs.FormulaCovers.{CoverEntries, cover_of}
use Rattle.report_lines.specs.ReportLines.{IsPrintedWith, cover_members}
use Rattle.report_text.specs.JsonReports.{cover_entry, json_text}
use Rattle.report_text.specs.declared.report.Report.TheVariants.{Envelope}
use Rattle.command_io.specs.Parts.{Puts}
use Rattle.command_io.proofs.Puts.{puts_none}
use Rattle.cover_reports.specs.Reports.{cover_json}
use Rattle.cover_reports.proofs.PrintedMasses.{fits_small}
use Rattle.cover_reports.proofs.envelope.Envelope.write_json.Goals as goal

-- the line of a cover's entry is its report
whole : (table : TableEntries) (ion : List (Item × ℕ)) (shift : ℤ) (coverage : ℕ) →
    json_text (Envelope (cover_entry shift (cover_of table ion coverage)))
    ≡ cover_json (record { table = table; ion = ion; shift = shift; coverage = coverage })
unfolding cover_json
whole table ion shift coverage = refl

pub envelope-requires : goal.envelope-requires
envelope-requires g c =
    let shift = c.self.inside.shift in
    let fits : SFits w128 shift = fits_small shift c.self.invariant.3 in
    simp to_z-of_z (subst (λ (cover : CoverEntries). All (IsPrintedWith shift) (cover_members cover))
    (sym c.in_ok-cover.ensures) c.self.invariant.2)

pub returns-in_err-report-clause-puts : goal.returns-in_err-report-clause-puts
returns-in_err-report-clause-puts g c =
    let given = err_from_is_err_and c.from_residual-in_err-report.result c.from_residual-in_err-report.ensures.1 in
    rw (given.1, given.2)
    (puts_none (cover_json c.args.self.now) (g.O.Sink.written c.args.out.now) (g.O.Sink.faults c.args.out.now))

pub returns-in_err-json_text-clause-puts : goal.returns-in_err-json_text-clause-puts
returns-in_err-json_text-clause-puts g c =
    let given = err_from_is_err_and c.from_residual-in_err-json_text.result c.from_residual-in_err-json_text.ensures.1 in
    rw (given.1, given.2)
    (puts_none (cover_json c.args.self.now) (g.O.Sink.written c.args.out.now) (g.O.Sink.faults c.args.out.now))

pub returns-clause-puts : goal.returns-clause-puts
returns-clause-puts g c =
    let table = c.self.inside.table in
    let cover = c.self.inside.cover in
    let shift = c.self.inside.shift in
    let fits : SFits w128 shift = fits_small shift c.self.invariant.3 in
    let text : c.deref.result.now ≡ cover_json c.args.self.now =
    c.deref.ensures.value ∙ c.in_ok-json_text.ensures ∙ ap json_text (simp to_z-of_z at c.in_ok-report.ensures)
    ∙ ap (λ (cover : CoverEntries). json_text (Envelope (cover_entry shift cover)))
    (c.in_ok-cover.ensures ∙ c.self.invariant.0)
    ∙ whole table cover.formula shift cover.coverage ∙ ap cover_json c.self.view_is in
    subst (λ (t : List ℕ). Puts t (g.O.Sink.written c.args.out.now) (g.O.Sink.written c.put_line.new.out)
    (g.O.Sink.faults c.args.out.now) (g.O.Sink.faults c.put_line.new.out) c.put_line.result) text c.put_line.ensures
