use Rattle.std.proofs.Common.{◌+◌, ◌<◌, ◌≤◌, length, sym, ap, ◌∙◌, arith}
use Rattle.std.proofs.lemmas.Option.{slice_get_read}
use Rattle.ranking.specs.Places.{by_score}
use Rattle.peak_ranking.specs.Tallies.{leads}
use Rattle.peak_ranking.proofs.TallySteps.{byte-of, byte-small, leading-all, leading-next, leading_first}
use Rattle.peak_ranking.proofs.ranked.RankedPeaks.first_count.Goals as goal

pub loop-job-preserved : goal.loop-job-preserved
loop-job-preserved c =
    let jobs = c.args.self.now in
    let formulas = c.args.formulas.now in
    let job = c.loop-job.job in
    let formula = c.index-formulas-job.result in
    let within : job < length jobs = omega (arith, c.loop-job-test.true, c.job_count-job-end.ensures.count) in
    let there = slice_get_read formulas (length jobs) job formula (sym c.requires) within c.index-formulas-job.is in
    record {
      count = ap (λ n. n + c.from.result) c.loop-job.invariant.count
          ∙ ap (λ n. leading_first job formulas jobs + n)
          (c.from.ensures ∙ byte-of c.in_ok-leads.field-0 (leads formula (by_score c.found.result.now)) c.in_ok-leads.ensures)
          ∙ sym (leading-next formulas jobs job formula c.found.result.now there within c.found.ensures.found);
      small = let byte = byte-small c.in_ok-leads.field-0 in omega (arith, c.loop-job.invariant.small, c.from.ensures, byte);
    }

pub returns : goal.returns
returns c =
    let jobs = c.args.self.now in
    let end : length jobs ≤ c.loop-job.job = omega (arith, c.loop-job-test.false, c.job_count-job-end.ensures.count) in
    c.loop-job.invariant.count ∙ leading-all c.loop-job.job c.args.formulas.now jobs c.requires end
