-- The first peak that has too many formulas.
use Rattle.std.proofs.Common.{◌≡◌, ℕ, zero, suc, ◌+◌, ◌<◌, Bool, true, false, cond, List, [], ◌∷◌, length, get_or, refl, ap, ◌∙◌, arith}
use Rattle.std.specs.Prelude.{Option, Some, None, option_map, Ok, Err, find, is_some, nat_lt}
use Rattle.std.specs.List.{enumerate_from}
use Rattle.reader_answers.specs.Answers.{unless_fault}
use Rattle.command_io.specs.declared.input_fault.InputFault.TheVariants.{CandidateLimit}
use Rattle.formula_reports.specs.PageFormulas.{counts_after, within_limit}
use Rattle.formula_reports.specs.Queries.{FormulaQuery}

-- whether a peak has too many
abbrev pub is_crowded : FormulaQuery → ℕ → Bool
is_crowded query mz = nat_lt 1048576 (length (counts_after query.premises query.after mz))

find_none : (p : ℕ → Bool) (n : ℕ) (xs : List ℕ) → ((k : ℕ) → k < length xs → p (get_or xs k 0) ≡ false) →
    find (λ (q : ℕ × ℕ). p q.1) (enumerate_from n xs) ≡ None
find_none p n [] none = refl
find_none p n (x ∷ xs) none =
    ap (λ b. cond b (Some (n, x)) (find (λ (q : ℕ × ℕ). p q.1) (enumerate_from (n + 1) xs))) (none 0 (omega arith))
    ∙ find_none p (n + 1) xs (λ k h. none (suc k) (omega (arith, h)))

find_at : (p : ℕ → Bool) (n : ℕ) (xs : List ℕ) (i : ℕ) → i < length xs →
    ((k : ℕ) → k < i → p (get_or xs k 0) ≡ false) → p (get_or xs i 0) ≡ true →
    find (λ (q : ℕ × ℕ). p q.1) (enumerate_from n xs) ≡ Some (n + i, get_or xs i 0)
find_at p n [] i inside none is = absurd (omega (arith, inside))
find_at p n (x ∷ xs) zero inside none is =
    ap (λ b. cond b (Some (n, x)) (find (λ (q : ℕ × ℕ). p q.1) (enumerate_from (n + 1) xs))) is
    ∙ ap (λ (m : ℕ). Some (m, x)) (omega arith)
find_at p n (x ∷ xs) (suc i) inside none is =
    ap (λ b. cond b (Some (n, x)) (find (λ (q : ℕ × ℕ). p q.1) (enumerate_from (n + 1) xs))) (none 0 (omega arith))
    ∙ find_at p (n + 1) xs i (omega (arith, inside)) (λ k h. none (suc k) (omega (arith, h))) is
    ∙ ap (λ (m : ℕ). Some (m, get_or xs i 0)) (omega arith)

-- the first peak with too many is told, where no limit is asked for
pub crowded_at : (query : FormulaQuery) (i : ℕ) → is_some query.limit ≡ false → i < length query.mzs →
    ((k : ℕ) → k < i → is_crowded query (get_or query.mzs k 0) ≡ false) →
    is_crowded query (get_or query.mzs i 0) ≡ true → within_limit query ≡ Err (CandidateLimit (i + 1))
crowded_at query i none inside before is =
    ap (λ b. cond b (Ok query) (unless_fault (option_map (λ (p : ℕ × ℕ). CandidateLimit p.0)
    (find (λ (p : ℕ × ℕ). is_crowded query p.1) (enumerate_from 1 query.mzs))) (Ok query))) none
    ∙ ap (λ (o : Option (ℕ × ℕ)). unless_fault (option_map (λ (p : ℕ × ℕ). CandidateLimit p.0) o) (Ok query))
    (find_at (is_crowded query) 1 query.mzs i inside before is)
    ∙ ap (λ (n : ℕ). Err (CandidateLimit n)) (omega arith)

-- and where none has, all are within the limit
pub crowded_none : (query : FormulaQuery) → is_some query.limit ≡ false →
    ((k : ℕ) → k < length query.mzs → is_crowded query (get_or query.mzs k 0) ≡ false) →
    within_limit query ≡ Ok query
crowded_none query none each =
    ap (λ b. cond b (Ok query) (unless_fault (option_map (λ (p : ℕ × ℕ). CandidateLimit p.0)
    (find (λ (p : ℕ × ℕ). is_crowded query p.1) (enumerate_from 1 query.mzs))) (Ok query))) none
    ∙ ap (λ (o : Option (ℕ × ℕ)). unless_fault (option_map (λ (p : ℕ × ℕ). CandidateLimit p.0) o) (Ok query))
    (find_none (is_crowded query) 1 query.mzs each)
