use Rattle.std.proofs.Common.{◌∙◌, ap, subst}
use Rattle.peak_text.specs.PeakLists.{ArePeaks}
use Rattle.candidates.specs.Enumeration.{CandidateEnumeration}
use Rattle.ranking.specs.Ratings.{task_of}
use Rattle.ranking.proofs.PeakCandidates.{all-HasIon, mz-in_limits}
use Rattle.ranking.proofs.job.RankJob.of.Goals as goal

pub start-requires-clause-some_mz : goal.start-requires-clause-some_mz
start-requires-clause-some_mz c =
    (mz-in_limits _ c.peaks.result.now c.mz.result.now c.args.peak (c.peaks.ensures ∙ c.get.ensures) c.mz.ensures.peaks
    c.mz.ensures.mz c.requires.inside).0

pub start-requires-clause-few_mz : goal.start-requires-clause-few_mz
start-requires-clause-few_mz c =
    (mz-in_limits _ c.peaks.result.now c.mz.result.now c.args.peak (c.peaks.ensures ∙ c.get.ensures) c.mz.ensures.peaks
    c.mz.ensures.mz c.requires.inside).1

pub invariant_of-result : goal.invariant_of-result
invariant_of-result c =
    record {
      task = record {
        peaks = subst ArePeaks (c.peaks.ensures ∙ c.get.ensures) c.mz.ensures.peaks;
        inside = c.requires.inside;
        some = c.requires.some;
        below_one = c.requires.below_one;
      };
      ions =
          all-HasIon
          (task_of (record { premises = c.args.premises; order = c.args.order; place = c.args.peak; coverage = c.args.coverage }))
          c.in_ok-candidates.candidates _ c.table-table.ensures.premises
          (ap (λ (e : CandidateEnumeration). e.premises) c.in_ok-candidates.ensures.start) c.in_ok-candidates.ensures.all_left;
    }
