-- A count list in the window of a peak is a candidate where its formula is within the limits, has an ion and meets the
-- rules.
use Rattle.std.proofs.Common.{◌≡◌, ℕ, ◌*◌, ◌<◌, ◌≤◌, Bool, true, false, cond, ltb, List, [], ◌∷◌, length, refl, sym, ap, ◌∙◌, arith}
use Rattle.std.specs.Prelude.{pos, ◌+ℤ◌, All, Option, Some, None, Ok, Err, is_some, ◌&&◌, ◌||◌, nat_le, not, position, option_map}
use Rattle.std.specs.List.{AllByRecursion, list_all, list_any}
use Rattle.std.proofs.lemmas.Bool.{false≢true, and_parts, leb-true, le-ltb}
use Rattle.std.proofs.lemmas.Bool.Decides.{nat_tests}
use Rattle.mass_scaling.specs.Tolerances.{within}
use Rattle.decompose.specs.Masses as lists
use Rattle.written_items.specs.declared.item.Item.{Item}
use Rattle.formula_text.specs.declared.fault.PartsFault.TheVariants.{TooManyAtoms, TooManyElements}
use Rattle.formula_text.specs.Formulas.{IsFormula, IsItem, atoms_of, formula_in, formula_of, has_many_atoms, has_many_items, sum_of, within_limits}
use Rattle.formula_text.proofs.SumLimits.{sum_of-IsParts}
use Rattle.formula_text.specs.Masses.{mass_of, item_mass}
use Rattle.adducts.specs.Adducts.{divisor_of}
use Rattle.adducts.specs.Ions.{ion_of, ion_mass, mass_of_ion, shift_of}
use Rattle.adducts.proofs.ItemLists.{sum-Distinct}
use Rattle.adducts.proofs.IonCounts.{formula-is_sum, ion_of-shift}
use Rattle.adducts.proofs.WeighedSums.{weigh-sum_of}
use Rattle.golden_rules.specs.Verdicts.{meets, meets_all, verdict_at}
use Rattle.golden_rules.proofs.MetRules.{meets_all-pass, meets_all-fails}
use Rattle.candidates.specs.Grounds.{GroundValue, IsGround}
use Rattle.candidates.specs.PeakFormulas.{counts_of, candidate_if, formula_at, is_candidate, is_ion_within, is_pass, meets_rules, masses_of}
use Rattle.candidates.specs.Searches.{is_formed}
use Rattle.candidates.proofs.AlphabetCounts.{mass-counts}

-- ---- rules

not-met : (b : Bool) → (b ≡ true → ⊥) → false ≡ b
not-met true h = absurd (h refl)
not-met false h = refl

-- the verdict is that a formula passes where it meets all rules
pub meets-all : (premises : GroundValue) (f : List (Item × ℕ)) → meets_rules premises f ≡ meets_all premises.table premises.rules f
meets-all premises f = cases (position (λ rule. not (meets premises.table f rule)) premises.rules) refl
  where
    cases : (o : Option ℕ) → position (λ rule. not (meets premises.table f rule)) premises.rules ≡ o
        → meets_rules premises f ≡ meets_all premises.table premises.rules f
    cases None e = ap (λ o. is_pass (verdict_at o)) e ∙ sym (meets_all-pass premises.table premises.rules f e)
    cases (Some place) e =
        ap (λ o. is_pass (verdict_at o)) e
        ∙ not-met (meets_all premises.table premises.rules f) (meets_all-fails premises.table premises.rules f place e)

-- ---- the limits

pub none-formed : (items : List (Item × ℕ)) → length items ≡ 0 → is_some (formula_in (within_limits items)) ≡ false
none-formed [] h = refl
none-formed (p ∷ ps) h = absurd (omega (arith, h))

big-among : (items : List (Item × ℕ)) → list_all (λ p. nat_le p.1 10000) items ≡ false
    → list_any (λ p. ltb 10000 p.1) items ≡ true
big-among [] h = absurd (false≢true (sym h))
big-among (p ∷ ps) h =
    elim (nat_le p.1 10000) as (λ b. nat_le p.1 10000 ≡ b → (b && list_all (λ r. nat_le r.1 10000) ps) ≡ false
    → (ltb 10000 p.1 || list_any (λ r. ltb 10000 r.1) ps) ≡ true) [
      | true ↦ λ _ h. or_true (ltb 10000 p.1) _ (big-among ps h)
      | false ↦ λ e _. let big : ltb 10000 p.1 ≡ true = grind (arith, nat_tests, e) in
          ap (λ b. b || list_any (λ r. ltb 10000 r.1) ps) big
    ] refl h
  where
    or_true : (a b : Bool) → b ≡ true → (a || b) ≡ true
    or_true true b h = refl
    or_true false b h = h

none-big : (items : List (Item × ℕ)) → list_all (λ p. nat_le p.1 10000) items ≡ true
    → list_any (λ p. ltb 10000 p.1) items ≡ false
none-big [] h = refl
none-big (p ∷ ps) h =
    let parts = and_parts (nat_le p.1 10000) (list_all (λ r. nat_le r.1 10000) ps) h in
    ap (λ b. b || list_any (λ r. ltb 10000 r.1) ps) (le-ltb 10000 p.1 (leb-true p.1 10000 parts.0)) ∙ none-big ps parts.1

pub few-each : (items : List (Item × ℕ)) → list_all (λ p. nat_le p.1 10000) items ≡ true → AllByRecursion (λ p. p.1 ≤ 10000) items
few-each [] h = tt
few-each (p ∷ ps) h =
    let parts = and_parts (nat_le p.1 10000) (list_all (λ r. nat_le r.1 10000) ps) h in
    (leb-true p.1 10000 parts.0, few-each ps parts.1)

pub big-formed : (items : List (Item × ℕ)) → list_all (λ p. nat_le p.1 10000) items ≡ false
    → is_some (formula_in (within_limits items)) ≡ false
big-formed items h =
    ap (λ b. is_some (formula_in (cond b (Err TooManyAtoms) (cond (has_many_items items) (Err TooManyElements) (Ok items)))))
    (many (ltb 20000 (atoms_of items)) _ (big-among items h))
  where
    many : (a b : Bool) → b ≡ true → (a || b) ≡ true
    many true b h = refl
    many false b h = h

pub few-formed : (items : List (Item × ℕ)) → length items ≤ 20 → 0 < length items
    → list_all (λ p. nat_le p.1 10000) items ≡ true
    → is_some (formula_in (within_limits items)) ≡ nat_le (atoms_of items) 20000
few-formed items few some each =
    ap (λ b. is_some (formula_in (cond (ltb 20000 (atoms_of items) || b) (Err TooManyAtoms)
    (cond (has_many_items items) (Err TooManyElements) (Ok items))))) (none-big items each)
    ∙ ap (λ b. is_some (formula_in (cond (ltb 20000 (atoms_of items) || false) (Err TooManyAtoms)
    (cond b (Err TooManyElements) (Ok items))))) (le-ltb 20 (length items) few)
    ∙ last (ltb 20000 (atoms_of items)) items some
    ∙ turned
  where
    last : (b : Bool) (items : List (Item × ℕ)) → 0 < length items
        → is_some (formula_in (cond (b || false) (Err TooManyAtoms) (Ok items))) ≡ not b
    last true items some = refl
    last false [] some = absurd (omega (arith, some))
    last false (p ∷ ps) some = refl

    turned : not (ltb 20000 (atoms_of items)) ≡ nat_le (atoms_of items) 20000
    turned = grind (arith, nat_tests)

-- what is formed is counts of which an ion is told
pub formula-counts : (parts : List (Item × ℕ)) → All (λ p. IsItem p.0) (sum_of parts)
    → is_some (formula_in (within_limits (sum_of parts))) ≡ true → IsFormula (sum_of parts)
formula-counts parts items h = cases (has_many_atoms (sum_of parts)) (has_many_items (sum_of parts)) refl refl h
  where
    some : (f : List (Item × ℕ)) → is_some (formula_in (Ok f)) ≡ true → 0 < length f
    some [] h = absurd (false≢true h)
    some (p ∷ ps) h = omega arith

    cases : (a b : Bool) → has_many_atoms (sum_of parts) ≡ a → has_many_items (sum_of parts) ≡ b
        → is_some (formula_in (cond a (Err TooManyAtoms) (cond b (Err TooManyElements) (Ok (sum_of parts))))) ≡ true
        → IsFormula (sum_of parts)
    cases true b e f h = absurd (false≢true h)
    cases false true e f h = absurd (false≢true h)
    cases false false e f h =
        record { parts = sum_of-IsParts parts items e f; some_atom = some (sum_of parts) h }

-- ---- the mass

pub mass-at : (premises : GroundValue) (counts : List ℕ) → IsGround premises
    → mass_of premises.table (formula_at premises.alphabet counts) ≡ lists.mass_of (masses_of premises.alphabet) counts
mass-at premises counts is =
    weigh-sum_of (item_mass premises.table) (counts_of premises.alphabet counts)
    ∙ mass-counts premises.table premises.alphabet counts is.entries

-- the ion of a formula is within tolerance where that of its mass is
ion-within : (premises : GroundValue) (mz : ℕ) (counts : List ℕ) → IsGround premises
    → within (pos (premises.adduct.copies * lists.mass_of (masses_of premises.alphabet) counts)
    +ℤ shift_of premises.table premises.adduct) mz premises.tolerance (divisor_of premises.adduct) ≡ true
    → is_ion_within premises mz (ion_mass premises.table premises.adduct (formula_at premises.alphabet counts))
    ≡ is_some (ion_of premises.adduct (formula_at premises.alphabet counts))
ion-within premises mz counts is h = cases (ion_of premises.adduct f) refl
  where
    f : List (Item × ℕ)
    f = formula_at premises.alphabet counts

    cases : (o : Option (List (Item × ℕ))) → ion_of premises.adduct (formula_at premises.alphabet counts) ≡ o
        → is_ion_within premises mz (ion_mass premises.table premises.adduct (formula_at premises.alphabet counts))
        ≡ is_some (ion_of premises.adduct (formula_at premises.alphabet counts))
    cases None e =
        ap (λ o. is_ion_within premises mz (option_map (mass_of_ion premises.table premises.adduct) o)) e
        ∙ sym (ap is_some e)
    cases (Some ion) e =
        ap (λ o. is_ion_within premises mz (option_map (mass_of_ion premises.table premises.adduct) o)) e
        ∙ ap (λ m. is_ion_within premises mz (Some m))
        (ion_of-shift premises.table premises.adduct (formula_at premises.alphabet counts) ion is.is_adduct
        (sum-Distinct (counts_of premises.alphabet counts)) e)
        ∙ ap (λ m. is_ion_within premises mz (Some (pos (premises.adduct.copies * m) +ℤ shift_of premises.table premises.adduct)))
        (mass-at premises counts is)
        ∙ h ∙ sym (ap is_some e)

-- ---- the test

pub candidate-formed : (premises : GroundValue) (mz : ℕ) (counts : List ℕ) → IsGround premises
    → within (pos (premises.adduct.copies * lists.mass_of (masses_of premises.alphabet) counts)
    +ℤ shift_of premises.table premises.adduct) mz premises.tolerance (divisor_of premises.adduct) ≡ true
    → is_candidate premises mz counts ≡ is_formed premises counts
candidate-formed premises mz counts is h =
    cases (formula_of (counts_of premises.alphabet counts)) refl
  where
    inner : (a b : Bool) (f : List (Item × ℕ)) → is_some (cond (a && b) (Some f) None) ≡ (a && b)
    inner true true f = refl
    inner true false f = refl
    inner false b f = refl

    cases : (o : Option (List (Item × ℕ))) → formula_of (counts_of premises.alphabet counts) ≡ o
        → is_candidate premises mz counts ≡ is_formed premises counts
    cases None e =
        ap (λ o. is_some (candidate_if premises mz o)) e
        ∙ ap (λ o. is_some o && is_some (ion_of premises.adduct (formula_at premises.alphabet counts))
        && meets_all premises.table premises.rules (formula_at premises.alphabet counts)) (sym e)
    cases (Some f) e =
        let same = (formula-is_sum (counts_of premises.alphabet counts) f e).0 in
        ap (λ o. is_some (candidate_if premises mz o)) e
        ∙ ap (λ g. is_some (candidate_if premises mz (Some g))) same
        ∙ inner (is_ion_within premises mz (ion_mass premises.table premises.adduct (formula_at premises.alphabet counts)))
        (meets_rules premises (formula_at premises.alphabet counts)) (formula_at premises.alphabet counts)
        ∙ ap (λ b. b && meets_rules premises (formula_at premises.alphabet counts)) (ion-within premises mz counts is h)
        ∙ ap (λ b. is_some (ion_of premises.adduct (formula_at premises.alphabet counts)) && b)
        (meets-all premises (formula_at premises.alphabet counts))
        ∙ ap (λ o. is_some o && is_some (ion_of premises.adduct (formula_at premises.alphabet counts))
        && meets_all premises.table premises.rules (formula_at premises.alphabet counts)) (sym e)
