use Rattle.std.proofs.Common.{◌≡◌, ℕ, List, refl, sym, ap, ◌∙◌}
use Rattle.written_items.specs.declared.item.Item.{Item}
use Rattle.peak_generator.specs.MadeFormulas.{made_formulas}
use Rattle.peak_ranking.specs.RankedJobs.{RankedJob, ranked_jobs}
use Rattle.ranking_reports.specs.Queries.{GenerateQuery}
use Rattle.ranking_reports.proofs.GeneratedReports.{as-many, report-is, report_by, six-lines}
use Rattle.ranking_reports.proofs.generation.Generation.report.Goals as goal

pub found_count-found-requires : goal.found_count-found-requires
found_count-found-requires c =
    let own = c.self.inside in
    as-many own.number own.ranking own.formulas.items c.deref.result.now c.args.ranked.now c.deref.ensures.value
    c.self.invariant.0 c.self.invariant.2
    (c.requires ∙ ap (λ (q : GenerateQuery). ranked_jobs q.ranking) (sym c.self.view_is))

pub first_count-requires : goal.first_count-requires
first_count-requires c =
    let own = c.self.inside in
    as-many own.number own.ranking own.formulas.items c.deref-2.result.now c.args.ranked.now c.deref-2.ensures.value
    c.self.invariant.0 c.self.invariant.2
    (c.requires ∙ ap (λ (q : GenerateQuery). ranked_jobs q.ranking) (sym c.self.view_is))

pub returns : goal.returns
returns c =
    let query = c.args.self.now in
    let jobs : List RankedJob = c.args.ranked.now in
    let same = ap (λ (q : GenerateQuery). q.number) c.self.view_is in
    let made = c.self.invariant.0 ∙ ap (λ (n : ℕ). made_formulas n 200) same in
    six-lines c.new-text.result.items c.push_count.new.text.items c.push_count-2.new.text.items
    c.push_count-3.new.text.items c.push_count-4.new.text.items c.push_count-5.new.text.items c.push_count-6.new.text.items
    _ _ _ _ _ _ c.new-text.ensures.items c.in_ok-push_count.ensures c.in_ok-push_count-2.ensures
    c.in_ok-push_count-3.ensures c.in_ok-push_count-4.ensures c.in_ok-push_count-5.ensures c.in_ok-push_count-6.ensures
    ∙ report-is query c.deref.result.now c.deref-2.result.now jobs c.from.result c.from-2.result c.candidate_count.result
    c.member_count.result c.from-3.result c.from-4.result (c.deref.ensures.value ∙ made) (c.deref-2.ensures.value ∙ made)
    c.requires (c.from.ensures ∙ same) c.from-2.ensures c.candidate_count.ensures c.member_count.ensures
    (c.from-3.ensures ∙ c.found_count-found.ensures) (c.from-4.ensures ∙ c.in_ok-first.ensures)
