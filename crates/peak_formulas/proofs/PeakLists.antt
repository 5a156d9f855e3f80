-- The formulas of a peak are exactly those that it has, in order.
use Rattle.std.proofs.Common.{◌≡◌, ◌≢◌, ℕ, ◌+◌, Bool, true, false, cond, List, [], ◌∷◌, get_or, refl, ap, ◌∙◌, subst}
use Rattle.std.proofs.Common.{◌↔◌}
use Rattle.std.specs.Prelude.{Option, Some, None, AllPairs, Contains, filter, is_some, not, position, option_map}
use Rattle.std.specs.Prelude.{IsTrue, ◌&&◌}
use Rattle.std.specs.List.{All}
use Rattle.std.proofs.lemmas.Bool.{and_parts, false≢true}
use Rattle.std.proofs.lemmas.List.{get_or_default}
use Rattle.std.proofs.lemmas.List.Elements.{All-contains, All-filter, filter_passes}
use Rattle.std.proofs.lemmas.List.Kept.{AllPairs-filter}
use Rattle.mass_scaling.specs.Tolerances.{within}
use Rattle.mass_scaling.specs.declared.windows.Window.{Window}
use Rattle.decompose.specs.CountLists.{IsInBox, box_of, comes_after}
use Rattle.decompose.specs.Enumeration.{vectors}
use Rattle.decompose.specs.declared.limits.Limit.{Limit}
use Rattle.decompose.proofs.EachListOnce.{contains_kept, each_list, lists_rise}
use Rattle.written_items.specs.declared.item.Item.{Item}
use Rattle.element_table.specs.Elements.{TableEntries}
use Rattle.formula_text.specs.Formulas.{formula_of}
use Rattle.adducts.specs.Adducts.{divisor_of}
use Rattle.adducts.specs.Ions.{ion_mass, ion_of, mass_of_ion}
use Rattle.golden_rules.specs.MeetsRules.{MeetsAll}
use Rattle.golden_rules.specs.Verdicts.{meets, verdict, verdict_at}
use Rattle.golden_rules.specs.declared.rule.Rule.{Rule}
use Rattle.golden_rules.specs.declared.rules.Verdict.TheVariants.{Pass, Fails}
use Rattle.golden_rules.proofs.MetRules.{IsVerdict-fails, IsVerdict-pass}
use Rattle.golden_rules.proofs.OneVerdict.{one-verdict}
use Rattle.candidates.specs.Grounds.{GroundValue}
use Rattle.candidates.specs.PeakFormulas.{candidate_if, counts_of, formulas_of_peak, is_candidate, is_ion_within}
use Rattle.candidates.specs.PeakFormulas.{is_pass, limits_of, meets_rules}
use Rattle.peak_formulas.specs.PeakClaims.{AreAllOfPeak, IsOfPeak}

-- ---- the box

filter-all : {X : Type 0} (xs : List X) → filter (λ (x : X). true) xs ≡ xs
filter-all [] = refl
filter-all (x ∷ xs) = ap (λ l. x ∷ l) (filter-all xs)

-- the whole box is a window over no masses
nowhere : Window
nowhere = record { lo = 0; hi = 0 }

vectors-box : (limits : List Limit) → vectors [] limits nowhere ≡ box_of limits
unfolding vectors nowhere
vectors-box limits = filter-all (box_of limits)

box_contains : (limits : List Limit) (counts : List ℕ) → Contains (box_of limits) counts ↔ IsInBox limits counts
unfolding nowhere
box_contains limits counts =
    subst (λ l. Contains l counts ↔ IsInBox limits counts) (vectors-box limits) (
      λ there. ((each_list [] limits nowhere counts).0 there).0,
      λ inside. (each_list [] limits nowhere counts).1 (inside, refl),
    )

box_rises : (limits : List Limit) → AllPairs (λ a b. IsTrue (comes_after a b)) (box_of limits)
box_rises limits =
    subst (AllPairs (λ a b. IsTrue (comes_after a b))) (vectors-box limits) (lists_rise [] limits nowhere)

-- those of a list that pass a test
pub contains_all : {X : Type 0} (xs : List X) → All (λ x. Contains xs x) xs
contains_all xs = λ k d h. (k, h, get_or_default xs k (get_or xs k d) d h)

contains_filter : {X : Type 0} (p : X → Bool) (xs : List X) (x : X) → Contains (filter p xs) x →
    Contains xs x × IsTrue (p x)
contains_filter p xs x there = (
  All-contains (λ y. Contains xs y) (filter p xs) x (All-filter p (λ y. Contains xs y) xs (contains_all xs)) there,
  All-contains (λ y. p y ≡ true) (filter p xs) x (filter_passes p xs) there,
)

-- ---- a candidate is of the peak

passes_all : (table : TableEntries) (rules : List Rule) (formula : List (Item × ℕ)) →
    is_pass (verdict table rules formula) ≡ true → MeetsAll table rules formula
passes_all table rules formula passes =
    cases (position (λ rule. not (meets table formula rule)) rules) refl passes
  where
    cases : (place : Option ℕ) → position (λ rule. not (meets table formula rule)) rules ≡ place →
        is_pass (verdict_at place) ≡ true → MeetsAll table rules formula
    cases None none passes = IsVerdict-pass table rules formula none
    cases (Some place) some passes = absurd (false≢true passes)

meets_pass : (table : TableEntries) (rules : List Rule) (formula : List (Item × ℕ)) →
    MeetsAll table rules formula → is_pass (verdict table rules formula) ≡ true
meets_pass table rules formula met = cases (position (λ rule. not (meets table formula rule)) rules) refl
  where
    cases : (place : Option ℕ) → position (λ rule. not (meets table formula rule)) rules ≡ place →
        is_pass (verdict_at place) ≡ true
    cases None none = refl
    cases (Some place) some =
        let same = one-verdict table rules formula Pass (Fails (place + 1)) met
        (IsVerdict-fails table rules formula place some) in cc

ion_there : (premises : GroundValue) (mz : ℕ) (formula : List (Item × ℕ)) (o : Option (List (Item × ℕ))) →
    ion_of premises.adduct formula ≡ o →
    is_ion_within premises mz (option_map (mass_of_ion premises.table premises.adduct) o) ≡ true →
    (ion : List (Item × ℕ)) × (ion_of premises.adduct formula ≡ Some ion)
    × IsTrue (within (mass_of_ion premises.table premises.adduct ion) mz premises.tolerance (divisor_of premises.adduct))
ion_there premises mz formula None none passes = absurd (false≢true passes)
ion_there premises mz formula (Some ion) some passes = (ion, some, passes)

formula_passes : (premises : GroundValue) (mz : ℕ) (formula : List (Item × ℕ)) (b : Bool) →
    is_some (cond b (Some formula) None) ≡ true → b ≡ true
formula_passes premises mz formula true passes = refl
formula_passes premises mz formula false passes = absurd (false≢true passes)

of_candidate : (premises : GroundValue) (mz : ℕ) (counts : List ℕ) → IsInBox (limits_of premises.alphabet) counts →
    (o : Option (List (Item × ℕ))) → formula_of (counts_of premises.alphabet counts) ≡ o →
    is_some (candidate_if premises mz o) ≡ true → IsOfPeak premises mz counts
of_candidate premises mz counts inside None none passes = absurd (false≢true passes)
of_candidate premises mz counts inside (Some formula) some passes =
    let both = and_parts (is_ion_within premises mz (ion_mass premises.table premises.adduct formula))
    (meets_rules premises formula) (formula_passes premises mz formula _ passes) in
    let ion = ion_there premises mz formula (ion_of premises.adduct formula) refl both.0 in
    record {
      in_box = inside;
      formula = formula;
      is_formula = some;
      ion = ion.0;
      is_ion = ion.1;
      within = ion.2;
      meets = passes_all premises.table premises.rules formula both.1;
    }

both_true : (a b : Bool) → a ≡ true → b ≡ true → (a && b) ≡ true
both_true true true e f = refl
both_true true false e f = f
both_true false b e f = e

to_candidate : (premises : GroundValue) (mz : ℕ) (counts : List ℕ) → IsOfPeak premises mz counts →
    is_candidate premises mz counts ≡ true
to_candidate premises mz counts is =
    ap (λ o. is_some (candidate_if premises mz o)) is.is_formula
    ∙ ap (λ b. is_some (cond b (Some is.formula) None))
    (both_true (is_ion_within premises mz (ion_mass premises.table premises.adduct is.formula))
    (meets_rules premises is.formula)
    (ap (λ o. is_ion_within premises mz (option_map (mass_of_ion premises.table premises.adduct) o)) is.is_ion ∙ is.within)
    (meets_pass premises.table premises.rules is.formula is.meets))

pub all_of_peak : (premises : GroundValue) (mz : ℕ) → AreAllOfPeak premises mz (formulas_of_peak premises mz)
unfolding formulas_of_peak
all_of_peak premises mz =
    let limits : List Limit = limits_of premises.alphabet in
    record {
      exactly = λ counts. (
        λ there.
            let kept = contains_filter (is_candidate premises mz) (box_of limits) counts there in
            of_candidate premises mz counts ((box_contains limits counts).0 kept.0)
            (formula_of (counts_of premises.alphabet counts)) refl kept.1,
        λ is. contains_kept (is_candidate premises mz) (box_of limits) counts (to_candidate premises mz counts is)
            ((box_contains limits counts).1 is.in_box),
      );
      rising = AllPairs-filter (λ a b. IsTrue (comes_after a b)) (is_candidate premises mz) (box_of limits)
          (box_rises limits);
    }
