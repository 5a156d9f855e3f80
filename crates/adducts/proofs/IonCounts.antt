-- The counts that are computed are those of the ion: the one formula that the adduct makes of the counts.
use Rattle.std.proofs.Common.{◌≡◌, ℕ, ℤ, pos, ◌+ℤ◌, ◌-ℤ◌, ◌*ℤ◌, ◌+◌, ◌-◌, ◌*◌, ◌<◌, ◌≤◌, Bool, true, false, cond, ltb}
use Rattle.std.proofs.Common.{List, [], ◌∷◌, ◌++◌, length, map, filter, sum_by, refl, sym, ap, subst, ◌∙◌, arith}
use Rattle.std.proofs.Common.{append-nil}
use Rattle.std.specs.Prelude.{Option, Some, None, Result, Ok, Err, IsTrue, IfSome, All, is_some, not, ◌&&◌, ◌||◌, nat_le, option_map}
use Rattle.std.specs.List.{AllByRecursion, list_any, list_all}
use Rattle.std.proofs.lemmas.Bool.{false≢true, and_parts, and_from, leb-true, ltb-true, ltb-false, lt-ltb, le-ltb}
use Rattle.std.proofs.lemmas.Bool.Decides.{nat_tests}
use Rattle.std.proofs.lemmas.List.Elements.{All-from_recursion, recursion_from_All, filter-append}
use Rattle.std.proofs.lemmas.List.Folds.{list_any-append}
use Rattle.element_table.specs.Elements.{TableEntries}
use Rattle.written_items.specs.declared.item.Item.{Item}
use Rattle.formula_text.specs.declared.fault.PartsFault.{PartsFault}
use Rattle.formula_text.specs.declared.fault.PartsFault.TheVariants as limit
use Rattle.formula_text.specs.Formulas.{IsItem, IsParts, IsFormula, IsSumOf, count_in, atoms_of, sum_of, within_limits}
use Rattle.formula_text.specs.Formulas.{has_many_atoms, has_many_items, formula_in, formula_of}
use Rattle.formula_text.specs.Masses.{HasItems, item_isotope, item_mass, mass_of}
use Rattle.formula_text.proofs.CountsInOrder.{atoms_of-cons}
use Rattle.formula_text.proofs.SumFolds.{with_atoms, sum_of-items, sum_of-atoms, sum_of-counts}
use Rattle.formula_text.proofs.KnownItems.{HasItems-sum}
use Rattle.std.proofs.lemmas.Int.{ints}
use Rattle.formula_text.proofs.SumLimits.{sum_of-IsParts, formula_of-only}
use Rattle.adducts.specs.Adducts.{AdductValue, IsAdduct}
use Rattle.adducts.specs.Ions.{AreCounts, IsIonOf, gained, has_item, has_what_is_lost, ion_count, own_counts, ion_counts, ion_of, mass_of_ion, shift_of}
use Rattle.adducts.specs.IonTests.{entry_count, other_count, has_few_atoms, has_few_of_each, item_count, has_few_items, are_within_limits}
use Rattle.adducts.proofs.WeighedSums.{weigh, weigh-cons, weigh-append, equal-weights, times, weigh-times, count_in-times, count_in-append}
use Rattle.adducts.proofs.ItemLists.{Distinct, Distinct-AllPairs, AllPairs-Distinct, parts-Distinct, count_in-absent}
use Rattle.adducts.proofs.ItemLists.{own-counts, each-within, at-most, counted-anew, has_item-filter, Distinct-filter}
use Rattle.adducts.proofs.ItemLists.{Distinct-anew, Distinct-append, has_item-anew_at, sum-entries, SameEntries}

-- ---- what is lost is there

-- where an ion is, no more atoms are lost than there are
each_lost : (adduct : AdductValue) (formula ion lost : List (Item × ℕ)) → IsIonOf adduct formula ion
    → AllByRecursion (λ p. p.1 ≤ count_in adduct.lost p.0) lost
    → list_all (λ p. nat_le p.1 (gained adduct formula p.0)) lost ≡ true
each_lost adduct formula ion [] is within = refl
each_lost adduct formula ion (p ∷ ps) is within =
    let counts = is.counts p.0 in
    let here : p.1 ≤ count_in adduct.lost p.0 = within.0 in
    let few : p.1 ≤ gained adduct formula p.0 = omega (arith, counts, here) in
    and_from (nat_le p.1 (gained adduct formula p.0)) (list_all (λ q. nat_le q.1 (gained adduct formula q.0)) ps)
    (grind (arith, nat_tests, few)) (each_lost adduct formula ion ps is within.1)

lost-there : (adduct : AdductValue) (formula ion : List (Item × ℕ)) → IsIonOf adduct formula ion
    → has_what_is_lost adduct formula ≡ true
lost-there adduct formula ion is = each_lost adduct formula ion adduct.lost is (each-within adduct.lost)

each_there : (bound : Item → ℕ) (lost : List (Item × ℕ)) → list_all (λ p. nat_le p.1 (bound p.0)) lost ≡ true
    → AllByRecursion (λ p. p.1 ≤ bound p.0) lost
each_there bound [] h = tt
each_there bound (p ∷ ps) h =
    let parts = and_parts (nat_le p.1 (bound p.0)) (list_all (λ q. nat_le q.1 (bound q.0)) ps) h in
    (leb-true p.1 (bound p.0) parts.0, each_there bound ps parts.1)

pub few-lost : (adduct : AdductValue) (formula : List (Item × ℕ)) → IsAdduct adduct → has_what_is_lost adduct formula ≡ true
    → (q : Item) → count_in adduct.lost q ≤ gained adduct formula q
few-lost adduct formula is h =
    at-most adduct.lost (gained adduct formula) (parts-Distinct adduct.lost is.lost)
    (each_there (gained adduct formula) adduct.lost h)

-- ---- the counts

abbrev pub others_of : AdductValue → List (Item × ℕ) → List (Item × ℕ)
others_of adduct formula = filter (λ p. not (has_item formula p.0)) adduct.added

pub distinct : (formula : List (Item × ℕ)) → AreCounts formula → Distinct formula
distinct formula are = Distinct-AllPairs formula are.distinct

pub distinct-counts : (adduct : AdductValue) (formula : List (Item × ℕ)) → IsAdduct adduct → Distinct formula
    → (q : Item) → count_in (ion_counts adduct formula) q ≡ ion_count adduct formula q
distinct-counts adduct formula is apart q =
    let count = ion_count adduct formula in
    let others = others_of adduct formula in
    let added_distinct = parts-Distinct adduct.added is.added in
    let first = counted-anew count formula apart q in
    let second = counted-anew count others (Distinct-filter (λ p. not (has_item formula p.0)) adduct.added added_distinct) q in
    let there = has_item-filter (λ item. not (has_item formula item)) adduct.added q in
    count_in-append (own_counts adduct formula) (map (λ (p : Item × ℕ). (p.0, count p.0)) others) q
    ∙ ap (λ n. n + count_in (map (λ (p : Item × ℕ). (p.0, count p.0)) others) q) first
    ∙ ap (λ n. cond (has_item formula q) (count q) 0 + n) (second ∙ ap (λ b. cond b (count q) 0) there)
    ∙ cases (has_item formula q) (has_item adduct.added q) refl refl
  where
    cases : (a b : Bool) → has_item formula q ≡ a → has_item adduct.added q ≡ b
        → cond a (ion_count adduct formula q) 0 + cond (b && not a) (ion_count adduct formula q) 0
        ≡ ion_count adduct formula q
    cases true true d e = omega arith
    cases true false d e = omega arith
    cases false true d e = omega arith
    cases false false d e =
        let none = count_in-absent formula q d in
        let nothing = count_in-absent adduct.added q e in
        let copies : adduct.copies * count_in formula q ≡ adduct.copies * 0 = ap (λ n. adduct.copies * n) none in
        omega arith

pub ion-counts : (adduct : AdductValue) (formula : List (Item × ℕ)) → IsAdduct adduct → AreCounts formula → (q : Item)
    → count_in (ion_counts adduct formula) q ≡ ion_count adduct formula q
ion-counts adduct formula is are q = distinct-counts adduct formula is (distinct formula are) q

-- ---- the one ion

pub ion_of-only : (adduct : AdductValue) (formula ion : List (Item × ℕ)) → IsAdduct adduct → AreCounts formula
    → IsIonOf adduct formula ion → ion_of adduct formula ≡ Some ion
unfolding ion_of
ion_of-only adduct formula ion is are of =
    ap (λ b. cond b (formula_of (ion_counts adduct formula)) None) (lost-there adduct formula ion of)
    ∙ formula_of-only (ion_counts adduct formula) ion
    (record {
      formula = of.is_formula;
      counts = λ item. let counts = of.counts item in let same = ion-counts adduct formula is are item in omega arith;
    })

all-append : {A : Type 0} (P : A → Type 0) (xs ys : List A) → AllByRecursion P xs → AllByRecursion P ys
    → AllByRecursion P (xs ++ ys)
all-append P [] ys g h = h
all-append P (x ∷ xs) ys g h = (g.0, all-append P xs ys g.1 h)

items-anew : (P : Item → Type 0) (count : Item → ℕ) (xs : List (Item × ℕ)) → AllByRecursion (λ p. P p.0) xs
    → AllByRecursion (λ (q : Item × ℕ). P q.0) (map (λ (p : Item × ℕ). (p.0, count p.0)) xs)
items-anew P count [] h = tt
items-anew P count (p ∷ ps) h = (h.0, items-anew P count ps h.1)

items-filter : (P : Item → Type 0) (test : Item × ℕ → Bool) (xs : List (Item × ℕ)) → AllByRecursion (λ p. P p.0) xs
    → AllByRecursion (λ p. P p.0) (filter test xs)
items-filter P test [] h = tt
items-filter P test (p ∷ ps) h =
    elim (test p) as (λ b. AllByRecursion (λ (q : Item × ℕ). P q.0) (cond b (p ∷ filter test ps) (filter test ps))) [
      | true ↦ (h.0, items-filter P test ps h.1)
      | false ↦ items-filter P test ps h.1
    ]

-- what holds of the items of a formula and of the added ones holds of those of its ion
ion-items : (P : Item → Type 0) (adduct : AdductValue) (formula : List (Item × ℕ))
    → AllByRecursion (λ p. P p.0) formula → AllByRecursion (λ p. P p.0) adduct.added
    → AllByRecursion (λ p. P p.0) (ion_counts adduct formula)
ion-items P adduct formula g h =
    all-append (λ (p : Item × ℕ). P p.0) (own_counts adduct formula)
    (map (λ (p : Item × ℕ). (p.0, ion_count adduct formula p.0)) (others_of adduct formula))
    (items-anew P (ion_count adduct formula) formula g)
    (items-anew P (ion_count adduct formula) (others_of adduct formula)
    (items-filter P (λ p. not (has_item formula p.0)) adduct.added h))

formula-sum : (parts f : List (Item × ℕ)) → AllByRecursion (λ p. IsItem p.0) parts → formula_of parts ≡ Some f
    → IsSumOf parts f
formula-sum parts f items e =
    elim (has_many_atoms (sum_of parts)) as (λ b. has_many_atoms (sum_of parts) ≡ b
    → formula_in (cond b (Err limit.TooManyAtoms) (cond (has_many_items (sum_of parts)) (Err limit.TooManyElements) (Ok (sum_of parts)))) ≡ Some f
    → IsSumOf parts f) [
      | true ↦ λ _ e. cc
      | false ↦ λ atoms e. elim (has_many_items (sum_of parts)) as (λ b. has_many_items (sum_of parts) ≡ b
          → formula_in (cond b (Err limit.TooManyElements) (Ok (sum_of parts))) ≡ Some f → IsSumOf parts f) [
            | true ↦ λ _ e. cc
            | false ↦ λ few e.
                let is = sum_of-IsParts parts (All-from_recursion (λ p. IsItem p.0) (sum_of parts)
                (sum_of-items IsItem parts items)) atoms few in
                let same = some_sum (sum_of parts) e in
                subst (IsSumOf parts) same.0
                (record {
                  formula = record { parts = is; some_atom = same.1 };
                  counts = sum_of-counts parts;
                })
          ] refl e
    ] refl e
  where
    some_sum : (sums : List (Item × ℕ)) → formula_in (Ok sums) ≡ Some f → (sums ≡ f) × (0 < length sums)
    some_sum [] e = cc
    some_sum (p ∷ ps) e = let same : p ∷ ps ≡ f = cc in (same, omega arith)

pub ion_of-is : (adduct : AdductValue) (formula ion : List (Item × ℕ)) → IsAdduct adduct → AreCounts formula
    → ion_of adduct formula ≡ Some ion → IsIonOf adduct formula ion
unfolding ion_of
ion_of-is adduct formula ion is are e =
    elim (has_what_is_lost adduct formula) as (λ b. has_what_is_lost adduct formula ≡ b
    → cond b (formula_of (ion_counts adduct formula)) None ≡ Some ion → IsIonOf adduct formula ion) [
      | false ↦ λ _ e. cc
      | true ↦ λ there e.
          let of =
          formula-sum (ion_counts adduct formula) ion
          (ion-items IsItem adduct formula (recursion_from_All (λ p. IsItem p.0) formula are.items)
          (recursion_from_All (λ p. IsItem p.0) adduct.added is.added.are_items)) e in
          record {
            is_formula = of.formula;
            counts =
                λ item.
                let counts = of.counts item in
                let same = ion-counts adduct formula is are item in
                let few = few-lost adduct formula is there item in
                omega arith;
          }
    ] refl e

-- a formula that is a sum of counts is their sum
pub formula-is_sum : (parts f : List (Item × ℕ)) → formula_of parts ≡ Some f → (f ≡ sum_of parts) × (0 < length f)
formula-is_sum parts f e =
    elim (has_many_atoms (sum_of parts)) as (λ b. formula_in (cond b (Err limit.TooManyAtoms)
    (cond (has_many_items (sum_of parts)) (Err limit.TooManyElements) (Ok (sum_of parts)))) ≡ Some f
    → (f ≡ sum_of parts) × (0 < length f)) [
      | true ↦ λ e. cc
      | false ↦ λ e. elim (has_many_items (sum_of parts)) as (λ b.
          formula_in (cond b (Err limit.TooManyElements) (Ok (sum_of parts))) ≡ Some f
          → (f ≡ sum_of parts) × (0 < length f)) [
            | true ↦ λ e. cc
            | false ↦ λ e. some_sum (sum_of parts) e
          ] e
    ] e
  where
    some_sum : (sums : List (Item × ℕ)) → formula_in (Ok sums) ≡ Some f → (f ≡ sums) × (0 < length f)
    some_sum [] e = cc
    some_sum (p ∷ ps) e =
        let same : p ∷ ps ≡ f = cc in
        (sym same, subst (λ (l : List (Item × ℕ)). 0 < length l) same (omega arith))

-- the counts of an ion, with those that are lost, are those gained
pub ion-balance : (adduct : AdductValue) (formula ion : List (Item × ℕ)) → IsAdduct adduct → Distinct formula
    → ion_of adduct formula ≡ Some ion
    → (item : Item) → count_in ion item + count_in adduct.lost item ≡ gained adduct formula item
unfolding ion_of
ion-balance adduct formula ion is apart e item =
    elim (has_what_is_lost adduct formula) as (λ b. has_what_is_lost adduct formula ≡ b
    → cond b (formula_of (ion_counts adduct formula)) None ≡ Some ion
    → count_in ion item + count_in adduct.lost item ≡ gained adduct formula item) [
      | false ↦ λ _ e. cc
      | true ↦ λ there e.
          let sums = (formula-is_sum (ion_counts adduct formula) ion e).0 in
          let counts : count_in ion item ≡ count_in (ion_counts adduct formula) item =
          ap (λ f. count_in f item) sums ∙ sum_of-counts (ion_counts adduct formula) item in
          let same = distinct-counts adduct formula is apart item in
          let few = few-lost adduct formula is there item in
          omega arith
    ] refl e

-- the table has the items of the ion
pub ion-known : (table : TableEntries) (adduct : AdductValue) (formula ion : List (Item × ℕ)) → IsIonOf adduct formula ion
    → IsAdduct adduct → AreCounts formula → HasItems table formula → HasItems table adduct.added → HasItems table ion
ion-known table adduct formula ion of is are known added =
    let there : Item → Type 0 = λ item. IsTrue (is_some (item_isotope table item)) in
    HasItems-sum table (ion_counts adduct formula) ion of.is_formula
    (λ item. let counts = of.counts item in let same = ion-counts adduct formula is are item in omega arith)
    (All-from_recursion (λ (p : Item × ℕ). there p.0) (ion_counts adduct formula)
    (ion-items there adduct formula (recursion_from_All (λ (p : Item × ℕ). there p.0) formula known)
    (recursion_from_All (λ (p : Item × ℕ). there p.0) adduct.added added)))

-- a formula is such counts
pub formula-AreCounts : (formula : List (Item × ℕ)) → IsFormula formula → AreCounts formula
formula-AreCounts formula is =
    record {
      few = is.parts.few_items;
      items = is.parts.are_items;
      few_of_each = is.parts.few_of_each;
      distinct = AllPairs-Distinct formula (parts-Distinct formula is.parts);
    }

-- ---- masses

pub ion-weight : (w : Item → ℕ) (adduct : AdductValue) (formula ion : List (Item × ℕ))
    → ((item : Item) → count_in ion item + count_in adduct.lost item ≡ gained adduct formula item)
    → weigh w ion + weigh w adduct.lost ≡ adduct.copies * weigh w formula + weigh w adduct.added
ion-weight w adduct formula ion counts =
    let same =
    equal-weights w (ion ++ adduct.lost) (times adduct.copies formula ++ adduct.added)
    (λ item.
    let left = count_in-append ion adduct.lost item in
    let right = count_in-append (times adduct.copies formula) adduct.added item in
    let copies = count_in-times adduct.copies formula item in
    let each = counts item in
    omega arith) in
    let left = weigh-append w ion adduct.lost in
    let right = weigh-append w (times adduct.copies formula) adduct.added in
    let copies = weigh-times w adduct.copies formula in
    omega arith

shifted : (ion lost formula added : ℕ) (electrons : ℤ) → ion + lost ≡ formula + added
    → pos ion -ℤ electrons ≡ pos formula +ℤ ((pos added -ℤ pos lost) -ℤ electrons)
shifted ion lost formula added electrons e = omega (arith, ints, e)

-- the mass of a formula's ion is that of the copies with the adduct's shift
pub ion_of-shift : (table : TableEntries) (adduct : AdductValue) (formula ion : List (Item × ℕ)) → IsAdduct adduct
    → Distinct formula → ion_of adduct formula ≡ Some ion
    → mass_of_ion table adduct ion ≡ pos (adduct.copies * mass_of table formula) +ℤ shift_of table adduct
ion_of-shift table adduct formula ion is apart e =
    shifted (mass_of table ion) (mass_of table adduct.lost) (adduct.copies * mass_of table formula)
    (mass_of table adduct.added) (adduct.charge *ℤ pos table.electron)
    (ion-weight (item_mass table) adduct formula ion (ion-balance adduct formula ion is apart e))

-- the mass of an ion is that of the copies with the adduct's shift
pub ion-shift : (table : TableEntries) (adduct : AdductValue) (formula ion : List (Item × ℕ)) → IsIonOf adduct formula ion
    → mass_of_ion table adduct ion ≡ pos (adduct.copies * mass_of table formula) +ℤ shift_of table adduct
ion-shift table adduct formula ion of =
    shifted (mass_of table ion) (mass_of table adduct.lost) (adduct.copies * mass_of table formula)
    (mass_of table adduct.added) (adduct.charge *ℤ pos table.electron)
    (ion-weight (item_mass table) adduct formula ion of.counts)
