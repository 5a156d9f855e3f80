-- Each candidate of a peak has its mass in the window of the peak.
use Rattle.std.proofs.Common.{◌≡◌, ℕ, zero, suc, ◌*◌, ◌<◌, ◌≤◌, ◌⊎◌, Bool, true, false, cond, List, [], ◌∷◌, length, refl, sym, ap, ◌∙◌, subst, arith, inl, inr}
use Rattle.std.specs.Prelude.{Option, Some, None, is_some, ◌&&◌, nat_le, option_map}
use Rattle.std.proofs.lemmas.Bool.{false≢true, and_parts, cases_lt, leb-true}
use Rattle.std.proofs.lemmas.Bool.Decides.{nat_tests}
use Rattle.std.proofs.lemmas.List.Elements.{recursion_from_All}
use Rattle.std.proofs.Math.Nat.{mul-le-mul_right}
use Rattle.alphabet_text.specs.declared.entries.AlphabetEntry.{AlphabetEntry}
use Rattle.alphabet_text.specs.Alphabets.{IsMassOfIsotope}
use Rattle.decompose.specs.Masses as lists
use Rattle.decompose.specs.Enumeration.{is_within}
use Rattle.mass_scaling.specs.declared.windows.Window.{Window}
use Rattle.mass_scaling.specs.Windows.{IsWindowOf, NoMassIsWithin, IsMassWithin}
use Rattle.written_items.specs.declared.item.Item.{Item}
use Rattle.formula_text.specs.Formulas.{formula_of, sum_of, atoms_of}
use Rattle.formula_text.specs.Masses.{mass_of, item_mass}
use Rattle.std.specs.List.{AllByRecursion}
use Rattle.formula_text.proofs.CountsInOrder.{atoms_of-cons}
use Rattle.formula_text.proofs.SumFolds.{HasAtoms, sum_of-atoms, sum_of-positive}
use Rattle.adducts.specs.Ions.{ion_of, ion_mass, mass_of_ion}
use Rattle.adducts.proofs.ItemLists.{Distinct, sum-Distinct}
use Rattle.adducts.proofs.IonCounts.{formula-is_sum, ion_of-shift}
use Rattle.adducts.proofs.WeighedSums.{weigh-sum_of}
use Rattle.candidates.specs.Grounds.{GroundValue, IsGround}
use Rattle.candidates.specs.StepBounds.{charged_of}
use Rattle.candidates.specs.PeakFormulas.{counts_of, candidate_if, is_candidate, is_ion_within, meets_rules, masses_of}
use Rattle.candidates.specs.Searches.{Covers, Admits}
use Rattle.candidates.proofs.AlphabetCounts.{mass-counts, heavy-counts}

record Candidate (premises : GroundValue) (mz : ℕ) (counts : List ℕ) : Type 0 where
  formula : List (Item × ℕ)
  made : formula_of (counts_of premises.alphabet counts) ≡ Some formula
  passes : is_ion_within premises mz (ion_mass premises.table premises.adduct formula) ≡ true

candidate : (premises : GroundValue) (mz : ℕ) (counts : List ℕ) → is_candidate premises mz counts ≡ true
    → Candidate premises mz counts
candidate premises mz counts h = cases (formula_of (counts_of premises.alphabet counts)) refl h
  where
    inner : (f : List (Item × ℕ)) (b : Bool) → is_some (cond b (Some f) None) ≡ true → b ≡ true
    inner f true h = refl
    inner f false h = absurd (false≢true h)

    cases : (o : Option (List (Item × ℕ))) → formula_of (counts_of premises.alphabet counts) ≡ o
        → is_some (candidate_if premises mz o) ≡ true → Candidate premises mz counts
    cases None e h = absurd (false≢true h)
    cases (Some f) e h =
        record {
          formula = f;
          made = e;
          passes =
              (and_parts (is_ion_within premises mz (ion_mass premises.table premises.adduct f)) (meets_rules premises f)
              (inner f (is_ion_within premises mz (ion_mass premises.table premises.adduct f) && meets_rules premises f) h)).0;
        }

-- the mass of a candidate's count list is one whose ion is within tolerance
candidate-within : (premises : GroundValue) (mz : ℕ) (counts : List ℕ) → IsGround premises
    → is_candidate premises mz counts ≡ true
    → (1 ≤ lists.mass_of (masses_of premises.alphabet) counts)
    × IsMassWithin mz premises.tolerance (charged_of premises) (lists.mass_of (masses_of premises.alphabet) counts)
candidate-within premises mz counts is h =
    let found = candidate premises mz counts h in
    let f = found.formula in
    let parts = counts_of premises.alphabet counts in
    let sums = formula-is_sum parts f found.made in
    let mass : mass_of premises.table f ≡ lists.mass_of (masses_of premises.alphabet) counts =
    ap (mass_of premises.table) sums.0 ∙ weigh-sum_of (item_mass premises.table) parts
    ∙ mass-counts premises.table premises.alphabet counts is.entries in
    let heavy = heavy-counts premises.alphabet counts is.is_alphabet in
    let atoms : 1 ≤ atoms_of parts =
    subst (λ n. 1 ≤ n) (ap atoms_of sums.0 ∙ sum_of-atoms parts) (some-atoms f sums.0 sums.1) in
    let distinct : Distinct f = subst Distinct (sym sums.0) (sum-Distinct parts) in (
      omega (arith, heavy, atoms),
      subst (IsMassWithin mz premises.tolerance (charged_of premises)) mass
          (ions (ion_of premises.adduct f) refl distinct found.passes),
    )
  where
    some-atoms : (f : List (Item × ℕ)) → f ≡ sum_of (counts_of premises.alphabet counts) → 0 < length f → 1 ≤ atoms_of f
    some-atoms f same some = first f some (subst (AllByRecursion HasAtoms) (sym same) (sum_of-positive (counts_of premises.alphabet counts)))
      where
        first : (l : List (Item × ℕ)) → 0 < length l → AllByRecursion HasAtoms l → 1 ≤ atoms_of l
        first [] some h = absurd (omega (arith, some))
        first (p ∷ ps) some h = let cons = atoms_of-cons p ps in omega (arith, cons, h.0)

    ions : (o : Option (List (Item × ℕ))) → ion_of premises.adduct (candidate premises mz counts h).formula ≡ o
        → Distinct (candidate premises mz counts h).formula
        → is_ion_within premises mz (ion_mass premises.table premises.adduct (candidate premises mz counts h).formula) ≡ true
        → IsMassWithin mz premises.tolerance (charged_of premises) (mass_of premises.table (candidate premises mz counts h).formula)
    ions None e distinct passes =
        absurd (false≢true (sym (ap (λ o. is_ion_within premises mz (option_map (mass_of_ion premises.table premises.adduct) o)) e)
        ∙ passes))
    ions (Some ion) e distinct passes =
        subst (λ m. is_ion_within premises mz (Some m) ≡ true)
        (ion_of-shift premises.table premises.adduct (candidate premises mz counts h).formula ion is.is_adduct distinct e)
        (sym (ap (λ o. is_ion_within premises mz (option_map (mass_of_ion premises.table premises.adduct) o)) e) ∙ passes)

inside : (window : Window) (mass : ℕ) → window.lo ≤ mass → mass ≤ window.hi → is_within window mass ≡ true
inside window mass low high = grind (arith, nat_tests, low, high)

-- the window of a peak covers its candidates
pub window-covers : (premises : GroundValue) (mz : ℕ) (window : Window) → IsGround premises
    → IsWindowOf mz premises.tolerance (charged_of premises) window → Covers premises mz window
window-covers premises mz window is of counts h =
    let mass = lists.mass_of (masses_of premises.alphabet) counts in
    let within = candidate-within premises mz counts is h in
    inside window mass
    (elim (cases_lt mass window.lo) [
      | inl below ↦ absurd (of.none_below mass within.0 below within.1)
      | inr from ↦ from
    ])
    (elim (cases_lt window.hi mass) [
      | inl above ↦ absurd (of.none_above mass above within.1)
      | inr to ↦ to
    ])

-- where no mass is within tolerance there is no candidate, so that any window covers them
pub none-covers : (premises : GroundValue) (mz : ℕ) (window : Window) → IsGround premises
    → NoMassIsWithin mz premises.tolerance (charged_of premises) → Covers premises mz window
none-covers premises mz window is none counts h =
    let within = candidate-within premises mz counts is h in
    absurd (none (lists.mass_of (masses_of premises.alphabet) counts) within.0 within.1)

-- ---- the ions of the masses of a window

-- each mass of the window of a peak has an ion within tolerance
pub window-admits : (premises : GroundValue) (mz : ℕ) (window : Window)
    → IsWindowOf mz premises.tolerance (charged_of premises) window → Admits premises mz window
window-admits premises mz window of counts h =
    let mass = lists.mass_of (masses_of premises.alphabet) counts in
    let both = and_parts (nat_le window.lo mass) (nat_le mass window.hi) h in
    of.all_between mass (leb-true window.lo mass both.0) (leb-true mass window.hi both.1)

none-or-heavy : (alphabet : List AlphabetEntry) (counts : List ℕ) → AllByRecursion (λ e. IsMassOfIsotope e.mass) alphabet
    → (lists.mass_of (masses_of alphabet) counts ≡ 0) ⊎ (1 < lists.mass_of (masses_of alphabet) counts)
none-or-heavy [] counts h = inl refl
none-or-heavy (e ∷ es) [] h = inl refl
none-or-heavy (e ∷ es) (zero ∷ cs) h =
    let none : zero * e.mass ≡ 0 = omega arith in
    elim (none-or-heavy es cs h.1) [
      | inl light ↦ inl (omega (arith, light, none))
      | inr heavy ↦ inr (omega (arith, heavy, none))
    ]
none-or-heavy (e ∷ es) (suc c ∷ cs) h =
    let from = h.0.from in
    let more : 1 * e.mass ≤ suc c * e.mass = mul-le-mul_right e.mass (omega arith) in
    inr (omega (arith, from, more))

-- no count list has the mass 1, so that this window has none
pub none-admits : (premises : GroundValue) (mz : ℕ) → IsGround premises → Admits premises mz (record { lo = 1; hi = 1 })
none-admits premises mz is counts h =
    let mass = lists.mass_of (masses_of premises.alphabet) counts in
    let both = and_parts (nat_le 1 mass) (nat_le mass 1) h in
    let low = leb-true 1 mass both.0 in
    let high = leb-true mass 1 both.1 in
    elim (none-or-heavy premises.alphabet counts
    (recursion_from_All (λ (e : AlphabetEntry). IsMassOfIsotope e.mass) premises.alphabet is.is_alphabet.sound.masses)) [
      | inl light ↦ absurd (omega (arith, low, light))
      | inr heavy ↦ absurd (omega (arith, high, heavy))
    ]
