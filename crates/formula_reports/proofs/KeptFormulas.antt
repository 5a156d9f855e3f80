-- The formulas that are kept of the first peaks.
use Rattle.std.proofs.Common.{◌≡◌, ℕ, zero, suc, false, true, List, [], ◌∷◌, ◌++◌, length, get_or, refl, sym, ap, ◌∙◌, subst}
use Rattle.std.specs.Prelude.{Option, Some, None, IfSome, All, is_some}
use Rattle.std.proofs.lemmas.List.Elements.{All-take}
use Rattle.decompose.specs.Enumeration.{after_given}
use Rattle.candidates.specs.PeakFormulas.{formulas_of_peak}
use Rattle.candidates.specs.Standings.{IsToken}
use Rattle.candidates.proofs.LeftTokens.{left-tokens}
use Rattle.formula_reports.specs.PageFormulas.{AreKept, asked_counts, counts_after, first_of, token_counts}
use Rattle.formula_reports.specs.Queries.{FormulaQuery}

-- one more behind a list
at-more : {X : Type 0} (P : ℕ → X → Type 0) (d : X) (xs : List X) (x : X) → ((k : ℕ) → P k (get_or xs k d)) →
    P (length xs) x → ((k : ℕ) → P k d) → (k : ℕ) → P k (get_or (xs ++ x ∷ []) k d)
at-more P d [] x each last none zero = last
at-more P d [] x each last none (suc k) = none (suc k)
at-more P d (y ∷ ys) x each last none zero = each 0
at-more P d (y ∷ ys) x each last none (suc k) =
    at-more (λ n. P (suc n)) d ys x (λ n. each (suc n)) last (λ n. none (suc n)) k

-- without a limit the page is all
all-asked : (limit : Option ℕ) (xs : List (List ℕ)) → is_some limit ≡ false → first_of limit xs ≡ xs
all-asked None xs none = refl
all-asked (Some n) xs none = cc

page-kept : (query : FormulaQuery) (mz : ℕ) (lists : Option (List (List ℕ))) → is_some query.limit ≡ false →
    IfSome lists (λ ls. ls ≡ counts_after query.premises query.after mz) → IfSome lists (λ ls. ls ≡ asked_counts query mz)
page-kept query mz None none is = tt
page-kept query mz (Some ls) none is =
    is ∙ sym (all-asked query.limit (counts_after query.premises query.after mz) none)

pub none-kept : (query : FormulaQuery) → AreKept query []
none-kept query = λ k. tt

-- one more peak
pub kept-more : (query : FormulaQuery) (kept : List (Option (List (List ℕ)))) (lists : Option (List (List ℕ))) (mz : ℕ) →
    is_some query.limit ≡ false → AreKept query kept → mz ≡ get_or query.mzs (length kept) 0 →
    IfSome lists (λ ls. ls ≡ counts_after query.premises query.after mz) → AreKept query (kept ++ lists ∷ [])
kept-more query kept lists mz none each of_mz is =
    at-more (λ k (o : Option (List (List ℕ))). IfSome o (λ ls. ls ≡ asked_counts query (get_or query.mzs k 0))) None kept
    lists each
    (subst (λ (m : ℕ). IfSome lists (λ ls. ls ≡ asked_counts query m)) of_mz (page-kept query mz lists none is)) (λ k. tt)

-- those of a page are tokens
pub page-tokens : (query : FormulaQuery) (mz : ℕ) → All (IsToken query.premises) (asked_counts query mz)
page-tokens query mz = cases query.limit
  where
    all : All (IsToken query.premises) (counts_after query.premises query.after mz)
    all = left-tokens query.premises mz (token_counts query.premises query.after)

    cases : (limit : Option ℕ) →
        All (IsToken query.premises) (first_of limit (counts_after query.premises query.after mz))
    cases None = all
    cases (Some n) = All-take (IsToken query.premises) n (counts_after query.premises query.after mz) all
