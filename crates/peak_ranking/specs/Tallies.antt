-- What is found of peaks that are made of formulas.
use Rattle.std.specs.Prelude.{ℕ, Bool, false, ◌&&◌, ◌==◌, List, [], ◌∷◌, length, sum_by}
use Rattle.std.specs.List.{count_by, list_any, zip}
use Rattle.std.specs.Cmp.Lexicographic.{pointwise}
use Rattle.written_items.specs.declared.item.Item.{Item}
use Rattle.written_items.specs.Items.{item_eq}
use Rattle.ranking.specs.Places.{RankedEntry, by_score}
use Rattle.peak_ranking.specs.RankedJobs.{RankedJob}

-- whether two formulas are one
abbrev pub formula_eq : List (Item × ℕ) → List (Item × ℕ) → Bool
formula_eq a b = pointwise (λ p q. item_eq p.0 q.0 && (p.1 == q.1)) a b

-- how many candidates are found of all peaks
abbrev pub candidate_count : List RankedJob → ℕ
candidate_count jobs = sum_by (λ job. length job.found) jobs

-- the sum of the sizes of their covers
abbrev pub member_count : List RankedJob → ℕ
member_count jobs = sum_by (λ job. sum_by (λ entry. entry.size) job.found) jobs

-- whether a formula stands among the candidates that are found of a peak
abbrev pub stands_in : List (Item × ℕ) → List RankedEntry → Bool
stands_in formula found = list_any (λ entry. formula_eq entry.formula formula) found

-- whether a formula is the first of candidates
abbrev pub leads : List (Item × ℕ) → List RankedEntry → Bool
leads formula [] = false
leads formula (entry ∷ entries) = formula_eq entry.formula formula

-- among the candidates of how many peaks the formula made stands, and of how many it has place 1
abbrev pub found_count : List (List (Item × ℕ)) → List RankedJob → ℕ
found_count formulas jobs = count_by (λ made. stands_in made.0 made.1.found) (zip formulas jobs)

abbrev pub first_count : List (List (Item × ℕ)) → List RankedJob → ℕ
first_count formulas jobs = count_by (λ made. leads made.0 (by_score made.1.found)) (zip formulas jobs)
