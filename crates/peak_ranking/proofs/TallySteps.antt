-- The tallies of the first jobs, with the next one.
use mir.Val.{bool_byte}
use Rattle.std.proofs.Common.{◌≡◌, ℕ, zero, suc, ◌+◌, ◌<◌, ◌≤◌, Bool, true, false, cond, List, [], ◌∷◌, length, take, refl, sym, ap, ◌∙◌, arith}
use Rattle.std.specs.Prelude.{IfSome, Some, slice_get, sum_by}
use Rattle.std.specs.List.{zip}
use Rattle.std.proofs.lemmas.List.{take_all}
use Rattle.std.proofs.lemmas.List.Sums.{sum_by_more}
use Rattle.std.proofs.lemmas.Option.{get_or_from_slice_get, slice_get_within}
use Rattle.std.proofs.lemmas.Slice.Zip.{length-zip}
use Rattle.written_items.specs.declared.item.Item.{Item}
use Rattle.ranking.specs.Places.{RankedEntry, by_score}
use Rattle.peak_ranking.specs.RankedJobs.{RankedJob}
use Rattle.peak_ranking.specs.Tallies.{candidate_count, first_count, found_count, leads, member_count, stands_in}

pub job-there : (jobs : List RankedJob) (place : ℕ) → place < length jobs →
    (job : RankedJob) × (slice_get jobs place ≡ Some job)
job-there [] place within = absurd (omega (arith, within))
job-there (job ∷ jobs) zero within = (job, refl)
job-there (job ∷ jobs) (suc place) within = job-there jobs place (omega (arith, within))

found-is : (jobs : List RankedJob) (place : ℕ) (job : RankedJob) (found : List RankedEntry) →
    slice_get jobs place ≡ Some job → IfSome (slice_get jobs place) (λ its. found ≡ its.found) → found ≡ job.found
found-is jobs place job found there is = rw there at is

sum-next : {X : Type 0} (f : X → ℕ) (xs : List X) (place : ℕ) (x : X) → slice_get xs place ≡ Some x →
    sum_by f (take (place + 1) xs) ≡ sum_by f (take place xs) + f x
sum-next f xs place x there =
    sum_by_more f xs place x (slice_get_within xs place x there)
    ∙ ap (λ y. sum_by f (take place xs) + f y) (get_or_from_slice_get xs place x x there)

pub candidates-next : (jobs : List RankedJob) (place : ℕ) (found : List RankedEntry) → place < length jobs →
    IfSome (slice_get jobs place) (λ its. found ≡ its.found) →
    candidate_count (take (place + 1) jobs) ≡ candidate_count (take place jobs) + length found
candidates-next jobs place found within is =
    let at = job-there jobs place within in
    sum-next (λ job. length job.found) jobs place at.0 at.1
    ∙ ap (λ l. candidate_count (take place jobs) + length l) (sym (found-is jobs place at.0 found at.1 is))

pub members-next : (jobs : List RankedJob) (place : ℕ) (found : List RankedEntry) → place < length jobs →
    IfSome (slice_get jobs place) (λ its. found ≡ its.found) →
    member_count (take (place + 1) jobs) ≡ member_count (take place jobs) + sum_by (λ entry. entry.size) found
members-next jobs place found within is =
    let at = job-there jobs place within in
    sum-next (λ job. sum_by (λ entry. entry.size) job.found) jobs place at.0 at.1
    ∙ ap (λ (l : List RankedEntry). member_count (take place jobs) + sum_by (λ entry. entry.size) l)
    (sym (found-is jobs place at.0 found at.1 is))

-- ---- formulas beside the jobs

zip-there : (formulas : List (List (Item × ℕ))) (jobs : List RankedJob) (place : ℕ) (formula : List (Item × ℕ))
    (job : RankedJob) → slice_get formulas place ≡ Some formula → slice_get jobs place ≡ Some job →
    slice_get (zip formulas jobs) place ≡ Some (formula, job)
zip-there [] jobs place formula job first second = absurd (cc)
zip-there (f ∷ fs) [] place formula job first second = absurd (cc)
zip-there (f ∷ fs) (j ∷ js) zero formula job first second =
    let same : f ≡ formula = cc in let own : j ≡ job = cc in cc
zip-there (f ∷ fs) (j ∷ js) (suc place) formula job first second = zip-there fs js place formula job first second

count-next : (test : List (Item × ℕ) × RankedJob → Bool) (formulas : List (List (Item × ℕ))) (jobs : List RankedJob)
    (place : ℕ) (formula : List (Item × ℕ)) (job : RankedJob) → slice_get formulas place ≡ Some formula →
    slice_get jobs place ≡ Some job → sum_by (λ made. cond (test made) 1 0) (take (place + 1) (zip formulas jobs))
    ≡ sum_by (λ made. cond (test made) 1 0) (take place (zip formulas jobs)) + cond (test (formula, job)) 1 0
count-next test formulas jobs place formula job first second =
    sum-next (λ made. cond (test made) 1 0) (zip formulas jobs) place (formula, job)
    (zip-there formulas jobs place formula job first second)

-- a test in a sum
byte-is : (b : Bool) → bool_byte b ≡ cond b 1 0
byte-is true = refl
byte-is false = refl

pub byte-of : (b test : Bool) → b ≡ test → bool_byte b ≡ cond test 1 0
byte-of b test same = ap bool_byte same ∙ byte-is test

pub byte-small : (b : Bool) → bool_byte b ≤ 1
byte-small true = omega arith
byte-small false = omega arith

-- how many formulas stand among the candidates of the first jobs
abbrev pub found_first : ℕ → List (List (Item × ℕ)) → List RankedJob → ℕ
found_first place formulas jobs =
    sum_by (λ (made : List (Item × ℕ) × RankedJob). cond (stands_in made.0 made.1.found) 1 0)
    (take place (zip formulas jobs))

-- how many have place 1 among them
abbrev pub leading_first : ℕ → List (List (Item × ℕ)) → List RankedJob → ℕ
leading_first place formulas jobs =
    sum_by (λ (made : List (Item × ℕ) × RankedJob). cond (leads made.0 (by_score made.1.found)) 1 0)
    (take place (zip formulas jobs))

pub found-next : (formulas : List (List (Item × ℕ))) (jobs : List RankedJob) (place : ℕ) (formula : List (Item × ℕ))
    (found : List RankedEntry) → slice_get formulas place ≡ Some formula → place < length jobs →
    IfSome (slice_get jobs place) (λ its. found ≡ its.found) →
    found_first (place + 1) formulas jobs ≡ found_first place formulas jobs + cond (stands_in formula found) 1 0
found-next formulas jobs place formula found there within is =
    let at = job-there jobs place within in
    count-next (λ made. stands_in made.0 made.1.found) formulas jobs place formula at.0 there at.1
    ∙ ap (λ (l : List RankedEntry). found_first place formulas jobs + cond (stands_in formula l) 1 0)
    (sym (found-is jobs place at.0 found at.1 is))

pub leading-next : (formulas : List (List (Item × ℕ))) (jobs : List RankedJob) (place : ℕ) (formula : List (Item × ℕ))
    (found : List RankedEntry) → slice_get formulas place ≡ Some formula → place < length jobs →
    IfSome (slice_get jobs place) (λ its. found ≡ its.found) →
    leading_first (place + 1) formulas jobs
    ≡ leading_first place formulas jobs + cond (leads formula (by_score found)) 1 0
leading-next formulas jobs place formula found there within is =
    let at = job-there jobs place within in
    count-next (λ made. leads made.0 (by_score made.1.found)) formulas jobs place formula at.0 there at.1
    ∙ ap (λ (l : List RankedEntry). leading_first place formulas jobs + cond (leads formula (by_score l)) 1 0)
    (sym (found-is jobs place at.0 found at.1 is))

-- ---- after the last job

all-pairs : (place : ℕ) (formulas : List (List (Item × ℕ))) (jobs : List RankedJob) → length formulas ≡ length jobs →
    length jobs ≤ place → take place (zip formulas jobs) ≡ zip formulas jobs
all-pairs place formulas jobs same end =
    let pairs = length-zip formulas jobs in take_all place (zip formulas jobs) (omega (arith, pairs, same, end))

pub found-all : (place : ℕ) (formulas : List (List (Item × ℕ))) (jobs : List RankedJob) →
    length formulas ≡ length jobs → length jobs ≤ place →
    found_first place formulas jobs ≡ found_count formulas jobs
found-all place formulas jobs same end =
    ap (sum_by (λ (made : List (Item × ℕ) × RankedJob). cond (stands_in made.0 made.1.found) 1 0))
    (all-pairs place formulas jobs same end)

pub leading-all : (place : ℕ) (formulas : List (List (Item × ℕ))) (jobs : List RankedJob) →
    length formulas ≡ length jobs → length jobs ≤ place →
    leading_first place formulas jobs ≡ first_count formulas jobs
leading-all place formulas jobs same end =
    ap (sum_by (λ (made : List (Item × ℕ) × RankedJob). cond (leads made.0 (by_score made.1.found)) 1 0))
    (all-pairs place formulas jobs same end)
