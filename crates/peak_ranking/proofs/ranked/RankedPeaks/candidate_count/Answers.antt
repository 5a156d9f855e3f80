use Rattle.std.proofs.Common.{◌+◌, ◌<◌, length, sym, ap, ◌∙◌, arith}
use Rattle.peak_ranking.proofs.TallySteps.{candidates-next}
use Rattle.peak_ranking.proofs.ranked.RankedPeaks.candidate_count.Goals as goal

pub loop-job-preserved : goal.loop-job-preserved
loop-job-preserved c =
    let jobs = c.args.self.now in
    let within : c.loop-job.job < length jobs = omega (arith, c.loop-job-test.true, c.job_count-job-end.ensures.count) in
    record {
      count = ap (λ n. n + length c.found.result.now) c.loop-job.invariant.count
          ∙ sym (candidates-next jobs c.loop-job.job c.found.result.now within c.found.ensures.found);
      small = omega (arith, c.loop-job.invariant.small, c.found.ensures.few);
    }
