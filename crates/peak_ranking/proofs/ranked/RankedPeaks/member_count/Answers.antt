use Rattle.std.proofs.Common.{◌+◌, ◌<◌, length, sym, ap, ◌∙◌, arith}
use Rattle.peak_ranking.specs.Tallies.{member_count}
use Rattle.std.proofs.Common.{take}
use Rattle.peak_ranking.proofs.TallySteps.{members-next}
use Rattle.peak_ranking.proofs.ranked.RankedPeaks.member_count.Goals as goal

pub loop-job-preserved : goal.loop-job-preserved
loop-job-preserved c =
    let jobs = c.args.self.now in
    let within : c.loop-job.job < length jobs = omega (arith, c.loop-job-test.true, c.job_count-job-end.ensures.count) in
    record {
      count = ap (λ n. n + c.size_sum-count.result) c.loop-job.invariant.count
          ∙ ap (λ n. member_count (take c.loop-job.job jobs) + n) c.size_sum-count.ensures.sum
          ∙ sym (members-next jobs c.loop-job.job c.found.result.now within c.found.ensures.found);
      small = omega (arith, c.loop-job.invariant.small, c.size_sum-count.ensures.small);
    }
