use Rattle.std.proofs.Common.{◌+◌, ◌<◌, ◌≤◌, length, sym, ap, ◌∙◌, arith}
use Rattle.std.proofs.lemmas.Option.{slice_get_read}
use Rattle.peak_ranking.specs.Tallies.{stands_in}
use Rattle.peak_ranking.proofs.TallySteps.{byte-of, byte-small, found-all, found-next, found_first}
use Rattle.peak_ranking.proofs.ranked.RankedPeaks.found_count.Goals as goal

pub loop-job-preserved : goal.loop-job-preserved
loop-job-preserved c =
    let jobs = c.args.self.now in
    let formulas = c.args.formulas.now in
    let job = c.loop-job.job in
    let formula = c.index-formulas-job.result in
    let within : job < length jobs = omega (arith, c.loop-job-test.true, c.job_count-job-end.ensures.count) in
    let there = slice_get_read formulas (length jobs) job formula (sym c.requires) within c.index-formulas-job.is in
    record {
      count = ap (λ n. n + c.from-count.result) c.loop-job.invariant.count
          ∙ ap (λ n. found_first job formulas jobs + n)
          (c.from-count.ensures ∙ byte-of c.stands_in.result (stands_in formula c.found.result.now) c.stands_in.ensures)
          ∙ sym (found-next formulas jobs job formula c.found.result.now there within c.found.ensures.found);
      small = let byte = byte-small c.stands_in.result in omega (arith, c.loop-job.invariant.small, c.from-count.ensures, byte);
    }

pub returns : goal.returns
returns c =
    let jobs = c.args.self.now in
    let end : length jobs ≤ c.loop-job.job = omega (arith, c.loop-job-test.false, c.job_count-job-end.ensures.count) in
    c.loop-job.invariant.count ∙ found-all c.loop-job.job c.args.formulas.now jobs c.requires end
