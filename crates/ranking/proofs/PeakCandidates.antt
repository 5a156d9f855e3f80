-- Each candidate of a peak has an ion, and the table has its items; the m/z of the peak is in its limits.
use Rattle.std.proofs.Common.{◌≡◌, ℕ, ◌<◌, ◌≤◌, Bool, true, false, cond, List, length, get_or, map, refl, ap, sym, subst, ◌∙◌, All, arith}
use Rattle.std.specs.Prelude.{Option, Some, None, is_some, option_map}
use Rattle.std.proofs.lemmas.Bool.{and_parts, false≢true}
use Rattle.std.proofs.lemmas.List.{get_or-map}
use Rattle.std.proofs.lemmas.List.Elements.{All-map, filter_passes}
use Rattle.written_items.specs.declared.item.Item.{Item}
use Rattle.formula_text.specs.Formulas.{formula_of}
use Rattle.adducts.specs.Ions.{ion_mass, ion_of, mass_of_ion}
use Rattle.adducts.proofs.IonCounts.{formula-is_sum}
use Rattle.peak_text.specs.PeakLists.{ArePeaks, IsPeak}
use Rattle.candidates.specs.Enumeration.{CandidateEnumeration, counts_left, formulas_left}
use Rattle.candidates.specs.Grounds.{GroundValue, IsGround}
use Rattle.candidates.specs.PeakFormulas.{candidate_if, counts_of, formula_at, formulas_of_peak, is_candidate, is_ion_within, meets_rules}
use Rattle.candidates.proofs.AlphabetCounts.{HasItems-at}
use Rattle.ranking.specs.Rankings.{RankTask}
use Rattle.ranking.specs.RankJobs.{HasIon}

-- an ion within tolerance is there
within-ion : (premises : GroundValue) (mz : ℕ) (o : Option (List (Item × ℕ))) →
    is_ion_within premises mz (option_map (mass_of_ion premises.table premises.adduct) o) ≡ true → is_some o ≡ true
within-ion premises mz None within = absurd (false≢true within)
within-ion premises mz (Some ion) within = refl

-- a formula that is there passed the test
passed : (f : List (Item × ℕ)) (b : Bool) → is_some (cond b (Some f) None) ≡ true → b ≡ true
passed f true there = refl
passed f false there = absurd (false≢true there)

candidate-ion : (premises : GroundValue) (mz : ℕ) (counts : List ℕ) → is_candidate premises mz counts ≡ true →
    is_some (ion_of premises.adduct (formula_at premises.alphabet counts)) ≡ true
candidate-ion premises mz counts is = cases (formula_of parts) refl is
  where
    parts : List (Item × ℕ)
    parts = counts_of premises.alphabet counts

    cases : (o : Option (List (Item × ℕ))) → formula_of parts ≡ o → is_some (candidate_if premises mz o) ≡ true →
        is_some (ion_of premises.adduct (formula_at premises.alphabet counts)) ≡ true
    cases None e there = absurd (false≢true there)
    cases (Some f) e there =
        let both = and_parts (is_ion_within premises mz (ion_mass premises.table premises.adduct f))
        (meets_rules premises f) (passed f _ there) in
        subst (λ g. is_some (ion_of premises.adduct g) ≡ true) (formula-is_sum parts f e).0
        (within-ion premises mz (ion_of premises.adduct f) both.0)

formulas-HasIon : (task : RankTask) (mz : ℕ) → IsGround task.premises →
    All (HasIon task) (map (formula_at task.premises.alphabet) (formulas_of_peak task.premises mz))
unfolding formulas_of_peak
formulas-HasIon task mz is =
    let premises = task.premises in
    All-map (HasIon task) (formula_at premises.alphabet) (formulas_of_peak premises mz)
    (λ k d h. record {
      ion = candidate-ion premises mz _ (filter_passes (is_candidate premises mz) _ k d h);
      known = HasItems-at premises.table premises.alphabet _ is.entries;
    })

-- the candidates that an enumeration of them gives
pub all-HasIon : (task : RankTask) (e : CandidateEnumeration) (mz : ℕ) → IsGround task.premises →
    e.premises ≡ task.premises → counts_left e ≡ formulas_of_peak task.premises mz → All (HasIon task) (formulas_left e)
all-HasIon task e mz is same left =
    subst (All (HasIon task))
    (sym (ap (λ (p : GroundValue). map (formula_at p.alphabet) (counts_left e)) same
    ∙ ap (map (formula_at task.premises.alphabet)) left))
    (formulas-HasIon task mz is)

-- the m/z of a peak is in its limits
pub mz-in_limits : (peaks given : List (ℕ × ℕ)) (column : List ℕ) (place : ℕ) → given ≡ peaks → ArePeaks given →
    column ≡ map (λ p. p.0) given → place < length peaks →
    (1 ≤ get_or column place 0) × (get_or column place 0 ≤ 20000000000000000)
mz-in_limits peaks given column place same are columns inside =
    let within : place < length given = omega (arith, inside, ap length same) in
    let own : IsPeak (get_or given place (0, 0)) = are.each place (0, 0) within in
    let is : get_or column place 0 ≡ (get_or given place (0, 0)).0 =
    ap (λ c. get_or c place 0) columns ∙ get_or-map (λ (p : ℕ × ℕ). p.0) given place (0, 0) 0 within in
    (omega (arith, is, own.mz_from), omega (arith, is, own.mz_to))
