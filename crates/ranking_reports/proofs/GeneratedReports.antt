-- The report of made peaks, line behind line.
use Rattle.std.proofs.Common.{◌≡◌, ℕ, List, [], ◌++◌, length, refl, sym, ap, ◌∙◌}
use Rattle.std.specs.Prelude.{codes}
use Rattle.written_items.specs.declared.item.Item.{Item}
use Rattle.peak_generator.specs.MadeFormulas.{made_formulas}
use Rattle.peak_generator.proofs.MadeStates.{length-made_formulas}
use Rattle.peak_ranking.specs.RankQueries.{RankQuery}
use Rattle.peak_ranking.specs.RankedJobs.{RankedJob, ranked_jobs}
use Rattle.peak_ranking.specs.Tallies.{candidate_count, first_count, found_count, member_count}
use Rattle.peak_ranking.proofs.JobCounts.{length-ranked_jobs}
use Rattle.ranking_reports.specs.Queries.{GenerateQuery}
use Rattle.ranking_reports.specs.Reports.{count_line, generate_report}

-- the formulas made are as many as the jobs
pub as-many : (number : ℕ) (ranking : RankQuery) (formulas given : List (List (Item × ℕ))) (jobs : List RankedJob) →
    given ≡ formulas → formulas ≡ made_formulas number 200 → ranking.jobs ≡ 200 → jobs ≡ ranked_jobs ranking →
    length given ≡ length jobs
as-many number ranking formulas given jobs lent made count ranked =
    ap (λ (fs : List (List (Item × ℕ))). length fs) (lent ∙ made) ∙ length-made_formulas number 200 ∙ sym count
    ∙ sym (length-ranked_jobs ranking) ∙ ap (λ (js : List RankedJob). length js) (sym ranked)

-- texts that begin with the empty one, each a line longer than the one before
pub six-lines : (t u v w x y z a b c d e f : List ℕ) → t ≡ [] → u ≡ t ++ a → v ≡ u ++ b → w ≡ v ++ c → x ≡ w ++ d →
    y ≡ x ++ e → z ≡ y ++ f → z ≡ a ++ b ++ c ++ d ++ e ++ f
six-lines t u v w x y z a b c d e f none one two three four five all =
    all
    ∙ ap (λ s. s ++ f) (five
    ∙ ap (λ s. s ++ e) (four
    ∙ ap (λ s. s ++ d) (three
    ∙ ap (λ s. s ++ c) (two
    ∙ ap (λ s. s ++ b) (one
    ∙ ap (λ s. s ++ a) none)))))

-- the report, by its six numbers
abbrev pub report_by : ℕ → ℕ → ℕ → ℕ → ℕ → ℕ → List ℕ
report_by number peaks candidates members found first =
    count_line (codes "generate") number ++ count_line (codes "peaks") peaks ++ count_line (codes "candidates") candidates
    ++ count_line (codes "members") members ++ count_line (codes "found") found ++ count_line (codes "first") first

-- the numbers of a query
abbrev report_on : GenerateQuery → List (List (Item × ℕ)) → List (List (Item × ℕ)) → List RankedJob → List ℕ
report_on query formulas others jobs =
    report_by query.number 200 (candidate_count jobs) (member_count jobs) (found_count formulas jobs) (first_count others jobs)

whole : (query : GenerateQuery) →
    report_on query (made_formulas query.number 200) (made_formulas query.number 200) (ranked_jobs query.ranking)
    ≡ generate_report query
unfolding generate_report
whole query = refl

pub report-is : (query : GenerateQuery) (formulas others : List (List (Item × ℕ))) (jobs : List RankedJob)
    (number peaks candidates members found first : ℕ) →
    formulas ≡ made_formulas query.number 200 → others ≡ made_formulas query.number 200 →
    jobs ≡ ranked_jobs query.ranking → number ≡ query.number → peaks ≡ 200 → candidates ≡ candidate_count jobs →
    members ≡ member_count jobs → found ≡ found_count formulas jobs → first ≡ first_count others jobs →
    report_by number peaks candidates members found first ≡ generate_report query
report-is query formulas others jobs number peaks candidates members found first one other ranked n p c m f l =
    ap (λ (k : ℕ). report_by k peaks candidates members found first) n
    ∙ ap (λ (k : ℕ). report_by query.number k candidates members found first) p
    ∙ ap (λ (k : ℕ). report_by query.number 200 k members found first) c
    ∙ ap (λ (k : ℕ). report_by query.number 200 (candidate_count jobs) k found first) m
    ∙ ap (λ (k : ℕ). report_by query.number 200 (candidate_count jobs) (member_count jobs) k first) f
    ∙ ap (λ (k : ℕ). report_by query.number 200 (candidate_count jobs) (member_count jobs) (found_count formulas jobs) k) l
    ∙ ap (λ (fs : List (List (Item × ℕ))). report_on query fs others jobs) one
    ∙ ap (λ (fs : List (List (Item × ℕ))). report_on query (made_formulas query.number 200) fs jobs) other
    ∙ ap (λ (js : List RankedJob). report_on query (made_formulas query.number 200) (made_formulas query.number 200) js) ranked
    ∙ whole query
