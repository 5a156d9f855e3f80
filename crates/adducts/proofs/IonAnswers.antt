-- What the ion that is computed answers.
use Rattle.std.proofs.Common.{◌≡◌, ℕ, ℤ, pos, ◌+ℤ◌, ◌+◌, ◌*◌, ◌≤◌, Bool, true, false, cond, List, [], ◌∷◌, ◌++◌, map, filter, refl, sym, ap, subst, ◌∙◌}
use Rattle.std.specs.Prelude.{Option, Some, None, Result, Ok, Err, IfOk, IfSome, is_some, IsTrue, not, ◌&&◌, nat_le, option_map}
use Rattle.std.specs.List.{AllByRecursion, list_all}
use Rattle.std.proofs.lemmas.Bool.{false≢true}
use Rattle.std.proofs.lemmas.List.{map-append}
use Rattle.element_table.specs.Elements.{TableEntries, IsTable}
use Rattle.written_items.specs.declared.item.Item.{Item}
use Rattle.formula_text.specs.Formulas.{IsFormula, IsParts, count_in, parts_of, formula_in, formula_of}
use Rattle.formula_text.specs.FormulaReader as formula
use Rattle.formula_text.specs.Masses.{HasItems, mass_of}
use Rattle.formula_text.proofs.CappedCounts.{parts_of-capped_part}
use Rattle.mass_scaling.specs.Limits.{IsIonMass}
use Rattle.adducts.specs.Adducts.{AdductValue, IsAdduct}
use Rattle.adducts.specs.Ions.{AreCounts, IsIonOf, gained, has_item, has_what_is_lost, ion_counts, ion_of, ion_mass, mass_of_ion, shift_of}
use Rattle.adducts.specs.AdductReader.{capped}
use Rattle.adducts.specs.IonTests.{entry_count, other_count, kept_counts, found_count, finds_what_is_lost}
use Rattle.adducts.proofs.ItemLists.{found-count}
use Rattle.adducts.proofs.IonCounts.{distinct, others_of, formula-AreCounts, ion_of-only, ion_of-is, ion-known, ion-shift}
use Rattle.adducts.proofs.IonLimits.{by_entries, counts-by_entries}
use Rattle.adducts.proofs.MassBounds.{ion-in_range}

finds_each : (adduct : AdductValue) (formula lost : List (Item × ℕ)) → AreCounts formula
    → list_all (λ p. nat_le p.1 (adduct.copies * found_count formula p.0 + count_in adduct.added p.0)) lost
    ≡ list_all (λ p. nat_le p.1 (gained adduct formula p.0)) lost
finds_each adduct formula [] are = refl
finds_each adduct formula (p ∷ ps) are =
    ap (λ n. nat_le p.1 (adduct.copies * n + count_in adduct.added p.0)
    && list_all (λ q. nat_le q.1 (adduct.copies * found_count formula q.0 + count_in adduct.added q.0)) ps)
    (found-count p.0 formula (distinct formula are))
    ∙ ap (λ b. nat_le p.1 (gained adduct formula p.0) && b) (finds_each adduct formula ps are)

pub finds-lost : (adduct : AdductValue) (formula : List (Item × ℕ)) → AreCounts formula
    → finds_what_is_lost adduct formula ≡ has_what_is_lost adduct formula
finds-lost adduct formula are = finds_each adduct formula adduct.lost are

-- the counts that are kept have the same formula
capped-entries : (count : Item × ℕ → ℕ) (xs : List (Item × ℕ))
    → map (λ p. (p.0, capped (count p))) xs ≡ map formula.capped_part (map (λ p. (p.0, count p)) xs)
capped-entries count [] = refl
capped-entries count (x ∷ xs) = ap (λ l. (x.0, capped (count x)) ∷ l) (capped-entries count xs)

kept-formula : (adduct : AdductValue) (formula : List (Item × ℕ)) → AreCounts formula
    → formula_of (kept_counts adduct formula) ≡ formula_of (ion_counts adduct formula)
kept-formula adduct counts are =
    let own : List (Item × ℕ) = map (λ (p : Item × ℕ). (p.0, entry_count adduct p)) counts in
    let others : List (Item × ℕ) = map (λ (p : Item × ℕ). (p.0, other_count adduct p)) (others_of adduct counts) in
    ap (λ l. formula_of (l ++ map (λ (p : Item × ℕ). (p.0, capped (other_count adduct p))) (others_of adduct counts)))
    (capped-entries (entry_count adduct) counts)
    ∙ ap (λ l. formula_of (map formula.capped_part own ++ l)) (capped-entries (other_count adduct) (others_of adduct counts))
    ∙ ap formula_of (sym (map-append formula.capped_part own others))
    ∙ ap formula_in (parts_of-capped_part (own ++ others))
    ∙ ap formula_of (sym (counts-by_entries adduct counts are))

-- the ion that is made
pub made-ion : (adduct : AdductValue) (formula : List (Item × ℕ)) (found : Bool) (counts : List (Item × ℕ)) → AreCounts formula
    → found ≡ finds_what_is_lost adduct formula → found ≡ true → counts ≡ kept_counts adduct formula
    → formula_of counts ≡ ion_of adduct formula
unfolding ion_of
made-ion adduct formula found counts are is there same =
    ap formula_of same ∙ kept-formula adduct formula are
    ∙ ap (λ b. cond b (formula_of (ion_counts adduct formula)) None)
    (sym there ∙ is ∙ finds-lost adduct formula are)

pub no-ion : (adduct : AdductValue) (formula : List (Item × ℕ)) (found : Bool) → AreCounts formula
    → found ≡ finds_what_is_lost adduct formula → found ≡ false → None ≡ ion_of adduct formula
unfolding ion_of
no-ion adduct formula found are is none =
    ap (λ b. cond b (formula_of (ion_counts adduct formula)) None) (sym none ∙ is ∙ finds-lost adduct formula are)

-- ---- what is said of it

pub answer-is : {E : Type 0} (adduct : AdductValue) (formula : List (Item × ℕ)) (r : Result (Option (List (Item × ℕ))) E)
    → IsAdduct adduct → IsFormula formula → IfOk r (λ o. o ≡ ion_of adduct formula)
    → IfOk r (λ o. IfSome o (IsIonOf adduct formula))
answer-is adduct formula (Err e) is of h = tt
answer-is adduct formula (Ok None) is of h = tt
answer-is adduct formula (Ok (Some ion)) is of h =
    ion_of-is adduct formula ion is (formula-AreCounts formula of) (sym h)

pub answer-only : {E : Type 0} (adduct : AdductValue) (formula : List (Item × ℕ)) (r : Result (Option (List (Item × ℕ))) E)
    → IsAdduct adduct → IsFormula formula → IfOk r (λ o. o ≡ ion_of adduct formula)
    → IfOk r (λ o. (ion : List (Item × ℕ)) → IsIonOf adduct formula ion → o ≡ Some ion)
answer-only adduct formula (Err e) is of h = tt
answer-only adduct formula (Ok o) is of h =
    λ ion of_ion. h ∙ ion_of-only adduct formula ion is (formula-AreCounts formula of) of_ion

pub answer-known : {E : Type 0} (adduct : AdductValue) (formula : List (Item × ℕ)) (r : Result (Option (List (Item × ℕ))) E)
    → IsAdduct adduct → IsFormula formula → IfOk r (λ o. o ≡ ion_of adduct formula)
    → IfOk r (λ o. IfSome o (λ ion. (table : TableEntries) → HasItems table formula → HasItems table adduct.added → HasItems table ion))
answer-known adduct formula (Err e) is of h = tt
answer-known adduct formula (Ok None) is of h = tt
answer-known adduct formula (Ok (Some ion)) is of h =
    λ table known added. ion-known table adduct formula ion (ion_of-is adduct formula ion is (formula-AreCounts formula of) (sym h))
    is (formula-AreCounts formula of) known added

-- ---- its mass

pub record IonMass (table : TableEntries) (adduct : AdductValue) (formula : List (Item × ℕ)) (mass : ℤ) : Type 0 where
  pub exact : Some mass ≡ ion_mass table adduct formula
  pub in_range : IsIonMass mass

pub mass-is : (table : TableEntries) (adduct : AdductValue) (formula : List (Item × ℕ)) (mass : ℤ) → IsTable table
    → IsAdduct adduct → IsFormula formula → true ≡ is_some (ion_of adduct formula)
    → mass ≡ pos (adduct.copies * mass_of table formula) +ℤ shift_of table adduct → IonMass table adduct formula mass
mass-is table adduct formula mass is_table is of there e = cases (ion_of adduct formula) refl
  where
    cases : (o : Option (List (Item × ℕ))) → ion_of adduct formula ≡ o → IonMass table adduct formula mass
    cases None none = absurd (false≢true (sym (there ∙ ap is_some none)))
    cases (Some ion) some =
        let of_ion = ion_of-is adduct formula ion is (formula-AreCounts formula of) some in
        let same : mass ≡ mass_of_ion table adduct ion = e ∙ sym (ion-shift table adduct formula ion of_ion) in
        record {
          exact = ap Some same ∙ ap (option_map (mass_of_ion table adduct)) (sym some);
          in_range = subst IsIonMass (sym same) (ion-in_range table adduct ion is_table is of_ion.is_formula);
        }

pub no-mass : (table : TableEntries) (adduct : AdductValue) (formula : List (Item × ℕ))
    → false ≡ is_some (ion_of adduct formula) → None ≡ ion_mass table adduct formula
no-mass table adduct formula none = cases (ion_of adduct formula) refl
  where
    cases : (o : Option (List (Item × ℕ))) → ion_of adduct formula ≡ o → None ≡ ion_mass table adduct formula
    cases None e = ap (option_map (mass_of_ion table adduct)) (sym e)
    cases (Some ion) e = absurd (false≢true (none ∙ ap is_some e))

-- the answer of a call that sums counts up
pub answer-from : {E : Type 0} (r : Result (Option (List (Item × ℕ))) E) (counts : List (Item × ℕ)) (ion : Option (List (Item × ℕ)))
    → IfOk r (λ o. o ≡ formula_of counts) → formula_of counts ≡ ion → IfOk r (λ o. o ≡ ion)
answer-from (Err e) counts ion h same = tt
answer-from (Ok o) counts ion h same = h ∙ same
