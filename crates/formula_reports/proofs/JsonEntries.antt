-- The entries of a report in JSON: the formulas of a page can be printed, and peaks are appended one by one.
use Rattle.std.proofs.Common.{◌≡◌, ℕ, ◌+◌, ◌<◌, true, List, [], ◌∷◌, ◌++◌, length, map, take, get_or, refl, sym, ap}
use Rattle.std.proofs.Common.{◌∙◌, subst, All, arith}
use Rattle.std.specs.Prelude.{Option, Some, None, is_some}
use Rattle.std.specs.List.{enumerate_from}
use Rattle.std.proofs.lemmas.List.{get_or_default, length-map, length-take-le, map_push, take-map}
use Rattle.std.proofs.lemmas.List.Elements.{All-filter, All-map, All-take}
use Rattle.std.proofs.lemmas.List.FromFn.{length-enumerate_from}
use Rattle.written_items.specs.declared.item.Item.{Item}
use Rattle.formula_text.specs.Masses.{HasItems}
use Rattle.adducts.specs.Ions.{ion_of}
use Rattle.adducts.proofs.IonCounts.{formula-is_sum}
use Rattle.decompose.specs.CountLists.{comes_after}
use Rattle.decompose.specs.Enumeration.{after_given, lists_after}
use Rattle.candidates.specs.Enumeration.{CandidateEnumeration, counts_left, formulas_left}
use Rattle.candidates.specs.Grounds.{GroundValue, IsGround}
use Rattle.candidates.specs.PeakFormulas.{counts_of, formula_at, formulas_of_peak}
use Rattle.candidates.proofs.AlphabetCounts.{HasItems-at}
use Rattle.report_text.specs.JsonReports.{peak_entry, with_peak}
use Rattle.report_text.specs.declared.report.Report.TheVariants.{Decompose}
use Rattle.peak_formulas.specs.PeakClaims.{IsOfPeak}
use Rattle.peak_formulas.proofs.PeakLists.{all_of_peak}
use Rattle.formula_reports.specs.Reports.{asked_formulas, peak_in}
use Rattle.formula_reports.specs.PageFormulas.{asked_counts, counts_after, first_of, numbered, token_counts}
use Rattle.formula_reports.specs.Queries.{FormulaQuery}
use Rattle.formula_reports.proofs.PageLines.{numbered_more}

-- what holds of all count lists of a peak holds of those of a page
all_after : (P : List ℕ → Type 0) (lists : List (List ℕ)) (token : Option (List ℕ)) → All P lists →
    All P (after_given lists token)
unfolding lists_after
all_after P lists None all = all
all_after P lists (Some counts) all = All-filter (λ cs. comes_after counts cs) P lists all

all_first : (P : List ℕ → Type 0) (limit : Option ℕ) (lists : List (List ℕ)) → All P lists → All P (first_of limit lists)
all_first P None lists all = all
all_first P (Some n) lists all = All-take P n lists all

page_of_peak : (query : FormulaQuery) (mz : ℕ) → All (IsOfPeak query.premises mz) (asked_counts query mz)
page_of_peak query mz =
    let lists : List (List ℕ) = formulas_of_peak query.premises mz in
    let token = token_counts query.premises query.after in
    all_first (IsOfPeak query.premises mz) query.limit (after_given lists token)
    (all_after (IsOfPeak query.premises mz) lists token
    (λ k d h. ((all_of_peak query.premises mz).exactly (get_or lists k d)).0
    (k, h, get_or_default lists k (get_or lists k d) d h)))

-- each formula of a page has an ion
pub page_ions : (query : FormulaQuery) (mz : ℕ) →
    All (λ f. is_some (ion_of query.premises.adduct f) ≡ true) (asked_formulas query mz)
page_ions query mz =
    let premises = query.premises in
    All-map (λ (f : List (Item × ℕ)). is_some (ion_of premises.adduct f) ≡ true) (formula_at premises.alphabet)
    (asked_counts query mz)
    (λ k d h.
    let counts : List ℕ = get_or (asked_counts query mz) k d in
    let own : IsOfPeak premises mz counts = page_of_peak query mz k d h in
    subst (λ (f : List (Item × ℕ)). is_some (ion_of premises.adduct f) ≡ true)
    (formula-is_sum (counts_of premises.alphabet counts) own.formula own.is_formula).0 (ap is_some own.is_ion))

-- and the table has its items
pub page_known : (query : FormulaQuery) (mz : ℕ) → IsGround query.premises →
    All (HasItems query.premises.table) (asked_formulas query mz)
page_known query mz is =
    All-map (HasItems query.premises.table) (formula_at query.premises.alphabet) (asked_counts query mz)
    (λ k d h. HasItems-at query.premises.table query.premises.alphabet _ is.entries)

-- the page of an enumeration that has all of the page left
page_formulas : {X Y : Type 0} (f : X → Y) (limit : Option ℕ) (xs : List X) →
    first_of limit (map f xs) ≡ map f (first_of limit xs)
page_formulas f None xs = refl
page_formulas f (Some n) xs = take-map f n xs

pub page_given : (query : FormulaQuery) (mz : ℕ) (e : CandidateEnumeration) → e.premises ≡ query.premises →
    counts_left e ≡ counts_after query.premises query.after mz →
    first_of query.limit (formulas_left e) ≡ asked_formulas query mz
page_given query mz e of_premises left =
    ap (λ (p : GroundValue). first_of query.limit (map (formula_at p.alphabet) (counts_left e))) of_premises
    ∙ ap (λ (lists : List (List ℕ)). first_of query.limit (map (formula_at query.premises.alphabet) lists)) left
    ∙ page_formulas (formula_at query.premises.alphabet) query.limit (counts_after query.premises query.after mz)

-- the peaks so far and one more
pub peak_added : (query : FormulaQuery) (i : ℕ) → i < length query.mzs →
    with_peak query.premises.table query.premises.adduct (get_or query.mzs i 0) (asked_formulas query (get_or query.mzs i 0))
    (Decompose (map (peak_in query) (take i (numbered query.mzs))))
    ≡ Decompose (map (peak_in query) (take (i + 1) (numbered query.mzs)))
peak_added query i inside =
    let mz : ℕ = get_or query.mzs i 0 in
    let so_far : List (ℕ × ℕ) = take i (numbered query.mzs) in
    let count : length (map (peak_in query) so_far) ≡ i =
    length-map so_far (peak_in query)
    ∙ length-take-le i (numbered query.mzs) (omega (arith, inside, length-enumerate_from 1 query.mzs)) in
    ap (λ (n : ℕ). Decompose (map (peak_in query) so_far
    ++ peak_entry query.premises.table query.premises.adduct (n + 1) mz (asked_formulas query mz) ∷ [])) count
    ∙ ap Decompose (sym (map_push (peak_in query) so_far (i + 1, mz))
    ∙ ap (map (peak_in query)) (numbered_more query.mzs i inside))
