-- The tests on an ion's counts tell whether there is an ion.
use Rattle.std.proofs.Common.{◌≡◌, ℕ, ◌+◌, ◌-◌, ◌*◌, ◌<◌, ◌≤◌, Bool, true, false, cond, ltb, List, [], ◌∷◌, ◌++◌}
use Rattle.std.proofs.Common.{length, map, filter, sum_by, refl, sym, ap, subst, ◌∙◌, arith, length-append}
use Rattle.std.specs.Prelude.{Option, Some, None, Result, Ok, Err, IsTrue, is_some, not, ◌&&◌, ◌||◌, nat_le, ◌↔◌}
use Rattle.std.specs.List.{AllByRecursion, list_any, list_all}
use Rattle.std.proofs.lemmas.Bool.{false≢true, and_parts, lt-ltb, le-ltb, ltb-true, ltb-false}
use Rattle.std.proofs.lemmas.Bool.Decides.{nat_tests}
use Rattle.std.proofs.lemmas.List.Elements.{recursion_from_All, filter-append}
use Rattle.std.proofs.lemmas.List.Folds.{list_any-append}
use Rattle.written_items.specs.declared.item.Item.{Item}
use Rattle.formula_text.specs.declared.fault.PartsFault.{PartsFault}
use Rattle.formula_text.specs.declared.fault.PartsFault.TheVariants as limit
use Rattle.formula_text.specs.Formulas.{count_in, atoms_of, sum_of, within_limits, formula_in, formula_of}
use Rattle.formula_text.proofs.CountsInOrder.{atoms_of-cons}
use Rattle.formula_text.proofs.SumFolds.{with_atoms, sum_of-atoms}
use Rattle.written_items.specs.Items.{item_eq}
use Rattle.formula_text.proofs.HillOrderLaws.{item_eq-itself}
use Rattle.adducts.specs.Adducts.{AdductValue, IsAdduct}
use Rattle.adducts.specs.Ions.{AreCounts, IsIonOf, gained, has_item, has_what_is_lost, ion_count, own_counts, ion_counts, ion_of}
use Rattle.adducts.specs.IonTests.{entry_count, other_count, has_few_atoms, has_few_of_each, item_count, has_few_items, are_within_limits}
use Rattle.adducts.proofs.WeighedSums.{weigh, weigh-cons}
use Rattle.adducts.proofs.ItemLists.{Distinct, parts-Distinct, count_in-absent, own-counts, has_item-filter}
use Rattle.adducts.proofs.ItemLists.{Distinct-filter, Distinct-anew, Distinct-append, has_item-anew_at, sum-entries}
use Rattle.adducts.proofs.IonCounts.{distinct, others_of, few-lost, ion-counts, ion-weight, ion_of-is, ion_of-only}

-- ---- a formula of items that stand once each

abbrev is_big : Item × ℕ → Bool
is_big p = ltb 10000 p.1

-- the limits, where an item has many atoms or not, and there are so many items
abbrev within_if : ℕ → Bool → ℕ → Bool
within_if atoms big items = nat_le atoms 20000 && not big && (nat_le 1 items && nat_le items 20)

any-atoms : (test : Item × ℕ → Bool) (parts : List (Item × ℕ)) → ((p : Item × ℕ) → p.1 ≡ 0 → test p ≡ false)
    → list_any test (with_atoms parts) ≡ list_any test parts
any-atoms test [] none = refl
any-atoms test (p ∷ ps) none =
    elim (ltb 0 p.1) as (λ b. ltb 0 p.1 ≡ b → list_any test (cond b (p ∷ with_atoms ps) (with_atoms ps))
    ≡ (test p || list_any test ps)) [
      | true ↦ λ _. ap (λ b. test p || b) (any-atoms test ps none)
      | false ↦ λ e.
          let zero : p.1 ≡ 0 = omega (arith, ltb-false 0 p.1 e) in
          any-atoms test ps none ∙ ap (λ b. b || list_any test ps) (sym (none p zero))
    ] refl

formula-some : (sums : List (Item × ℕ)) → is_some (formula_in (within_limits sums))
    ≡ within_if (atoms_of sums) (list_any is_big sums) (length sums)
formula-some sums = cases (ltb 20000 (atoms_of sums)) (list_any is_big sums) (ltb 20 (length sums)) refl refl refl
  where
    sums_there : (l : List (Item × ℕ)) → length l ≤ 20 → is_some (formula_in (Ok l)) ≡ (nat_le 1 (length l) && nat_le (length l) 20)
    sums_there [] h = refl
    sums_there (p ∷ ps) h = grind (arith, nat_tests, h)

    cases : (a b c : Bool) → ltb 20000 (atoms_of sums) ≡ a → list_any is_big sums ≡ b → ltb 20 (length sums) ≡ c
        → is_some (formula_in (cond (ltb 20000 (atoms_of sums) || list_any is_big sums) (Err limit.TooManyAtoms)
        (cond (ltb 20 (length sums)) (Err limit.TooManyElements) (Ok sums))))
        ≡ within_if (atoms_of sums) (list_any is_big sums) (length sums)
    cases true b c d e f =
        ap (λ t. is_some (formula_in (cond (t || list_any is_big sums) (Err limit.TooManyAtoms)
        (cond (ltb 20 (length sums)) (Err limit.TooManyElements) (Ok sums))))) d
        ∙ ap (λ t. t && not (list_any is_big sums) && (nat_le 1 (length sums) && nat_le (length sums) 20))
        (sym (many (atoms_of sums) (ltb-true 20000 (atoms_of sums) d)))
      where
        many : (n : ℕ) → 20000 < n → nat_le n 20000 ≡ false
        many n h = grind (arith, nat_tests, h)
    cases false true c d e f =
        ap (λ t. is_some (formula_in (cond (t || list_any is_big sums) (Err limit.TooManyAtoms)
        (cond (ltb 20 (length sums)) (Err limit.TooManyElements) (Ok sums))))) d
        ∙ ap (λ t. is_some (formula_in (cond t (Err limit.TooManyAtoms)
        (cond (ltb 20 (length sums)) (Err limit.TooManyElements) (Ok sums))))) e
        ∙ sym (ap (λ t. nat_le (atoms_of sums) 20000 && not t && (nat_le 1 (length sums) && nat_le (length sums) 20)) e
        ∙ none (nat_le (atoms_of sums) 20000))
      where
        none : (b : Bool) → (b && false && (nat_le 1 (length sums) && nat_le (length sums) 20)) ≡ false
        none true = refl
        none false = refl
    cases false false c d e f =
        ap (λ t. is_some (formula_in (cond (t || list_any is_big sums) (Err limit.TooManyAtoms)
        (cond (ltb 20 (length sums)) (Err limit.TooManyElements) (Ok sums))))) d
        ∙ ap (λ t. is_some (formula_in (cond t (Err limit.TooManyAtoms)
        (cond (ltb 20 (length sums)) (Err limit.TooManyElements) (Ok sums))))) e
        ∙ last c f
        ∙ sym (ap (λ t. nat_le (atoms_of sums) 20000 && not t && (nat_le 1 (length sums) && nat_le (length sums) 20)) e
        ∙ ap (λ t. t && true && (nat_le 1 (length sums) && nat_le (length sums) 20))
        (few (atoms_of sums) (ltb-false 20000 (atoms_of sums) d)))
      where
        few : (n : ℕ) → n ≤ 20000 → nat_le n 20000 ≡ true
        few n h = grind (arith, nat_tests, h)

        last : (c : Bool) → ltb 20 (length sums) ≡ c
            → is_some (formula_in (cond (ltb 20 (length sums)) (Err limit.TooManyElements) (Ok sums)))
            ≡ (nat_le 1 (length sums) && nat_le (length sums) 20)
        last true f =
            ap (λ t. is_some (formula_in (cond t (Err limit.TooManyElements) (Ok sums)))) f
            ∙ sym (too_many (length sums) (ltb-true 20 (length sums) f))
          where
            too_many : (n : ℕ) → 20 < n → (nat_le 1 n && nat_le n 20) ≡ false
            too_many n h = grind (arith, nat_tests, h)
        last false f =
            ap (λ t. is_some (formula_in (cond t (Err limit.TooManyElements) (Ok sums)))) f
            ∙ sums_there sums (ltb-false 20 (length sums) f)

distinct-formula : (parts : List (Item × ℕ)) → Distinct parts
    → is_some (formula_of parts) ≡ within_if (atoms_of parts) (list_any is_big parts) (length (with_atoms parts))
distinct-formula parts h =
    let entries = sum-entries is_big parts h in
    let each = entries.one_each in
    let size : length (sum_of parts) ≡ length (with_atoms parts) = omega (arith, each) in
    let big : list_any is_big (sum_of parts) ≡ list_any is_big parts =
    entries.tested ∙ any-atoms is_big parts (λ p zero. grind (arith, nat_tests, zero)) in
    formula-some (sum_of parts)
    ∙ ap (λ n. within_if n (list_any is_big (sum_of parts)) (length (sum_of parts))) (sum_of-atoms parts)
    ∙ ap (λ b. within_if (atoms_of parts) b (length (sum_of parts))) big
    ∙ ap (λ n. within_if (atoms_of parts) (list_any is_big parts) n) size

-- ---- the ion's counts by the entries

same_counts : {A : Type 0} (f g : Item × ℕ → A) (xs : List (Item × ℕ)) → AllByRecursion (λ p. f p ≡ g p) xs
    → map f xs ≡ map g xs
same_counts f g [] h = refl
same_counts f g (x ∷ xs) h = ap (λ y. y ∷ map f xs) h.0 ∙ ap (λ l. g x ∷ l) (same_counts f g xs h.1)

all-map : {P Q : Item × ℕ → Type 0} → ((p : Item × ℕ) → P p → Q p) → (xs : List (Item × ℕ)) → AllByRecursion P xs
    → AllByRecursion Q xs
all-map f [] h = tt
all-map f (x ∷ xs) h = (f x h.0, all-map f xs h.1)

others-absent : (formula xs : List (Item × ℕ))
    → AllByRecursion (λ p. has_item formula p.0 ≡ false) (filter (λ p. not (has_item formula p.0)) xs)
others-absent formula [] = tt
others-absent formula (p ∷ ps) =
    elim (has_item formula p.0) as (λ b. has_item formula p.0 ≡ b
    → AllByRecursion (λ (q : Item × ℕ). has_item formula q.0 ≡ false)
    (cond (not b) (p ∷ filter (λ q. not (has_item formula q.0)) ps) (filter (λ q. not (has_item formula q.0)) ps))) [
      | true ↦ λ _. others-absent formula ps
      | false ↦ λ e. (e, others-absent formula ps)
    ] refl

abbrev pub by_entries : AdductValue → List (Item × ℕ) → List (Item × ℕ)
by_entries adduct formula =
    map (λ p. (p.0, entry_count adduct p)) formula
    ++ map (λ p. (p.0, other_count adduct p)) (others_of adduct formula)

pub counts-by_entries : (adduct : AdductValue) (formula : List (Item × ℕ)) → AreCounts formula
    → ion_counts adduct formula ≡ by_entries adduct formula
counts-by_entries adduct formula are =
    let lost = λ (q : Item). count_in adduct.lost q in
    let own =
    same_counts (λ (p : Item × ℕ). (p.0, ion_count adduct formula p.0)) (λ (p : Item × ℕ). (p.0, entry_count adduct p))
    formula
    (all-map (λ p e. ap (λ n. (p.0, adduct.copies * n + count_in adduct.added p.0 - count_in adduct.lost p.0)) e) formula
    (own-counts formula (distinct formula are))) in
    let others =
    same_counts (λ (p : Item × ℕ). (p.0, ion_count adduct formula p.0)) (λ (p : Item × ℕ). (p.0, other_count adduct p))
    (others_of adduct formula)
    (all-map (λ p e. ap (λ n. (p.0, adduct.copies * n + count_in adduct.added p.0 - count_in adduct.lost p.0))
    (count_in-absent formula p.0 e)) (others_of adduct formula) (others-absent formula adduct.added)) in
    ap (λ l. l ++ map (λ (p : Item × ℕ). (p.0, ion_count adduct formula p.0)) (others_of adduct formula)) own
    ∙ ap (λ l. map (λ (p : Item × ℕ). (p.0, entry_count adduct p)) formula ++ l) others

by_entries-Distinct : (adduct : AdductValue) (formula : List (Item × ℕ)) → IsAdduct adduct → AreCounts formula
    → Distinct (by_entries adduct formula)
by_entries-Distinct adduct formula is are =
    Distinct-append (map (λ (p : Item × ℕ). (p.0, entry_count adduct p)) formula)
    (map (λ (p : Item × ℕ). (p.0, other_count adduct p)) (others_of adduct formula))
    (Distinct-anew (entry_count adduct) formula (distinct formula are))
    (Distinct-anew (other_count adduct) (others_of adduct formula)
    (Distinct-filter (λ p. not (has_item formula p.0)) adduct.added (parts-Distinct adduct.added is.added)))
    (apart formula (each-there formula))
  where
    each-there : (xs : List (Item × ℕ)) → AllByRecursion (λ (p : Item × ℕ). has_item xs p.0 ≡ true) xs
    each-there [] = tt
    each-there (p ∷ ps) = (
      ap (λ b. b || has_item ps p.0) (item_eq-itself p.0),
      later ps (each-there ps),
    )
      where
        later : (rs : List (Item × ℕ)) → AllByRecursion (λ (q : Item × ℕ). has_item ps q.0 ≡ true) rs
            → AllByRecursion (λ (q : Item × ℕ). has_item (p ∷ ps) q.0 ≡ true) rs
        later [] h = tt
        later (r ∷ rs) h = (ap (λ b. item_eq p.0 r.0 || b) h.0 ∙ or_true (item_eq p.0 r.0), later rs h.1)
          where
            or_true : (b : Bool) → (b || true) ≡ true
            or_true true = refl
            or_true false = refl

    apart : (xs : List (Item × ℕ)) → AllByRecursion (λ (p : Item × ℕ). has_item formula p.0 ≡ true) xs
        → AllByRecursion (λ (x : Item × ℕ). has_item (map (λ (p : Item × ℕ). (p.0, other_count adduct p)) (others_of adduct formula)) x.0 ≡ false)
        (map (λ (p : Item × ℕ). (p.0, entry_count adduct p)) xs)
    apart [] h = tt
    apart (x ∷ xs) h = (
      has_item-anew_at (other_count adduct) (others_of adduct formula) x.0
          ∙ has_item-filter (λ item. not (has_item formula item)) adduct.added x.0
          ∙ ap (λ b. has_item adduct.added x.0 && not b) h.0 ∙ nothing (has_item adduct.added x.0),
      apart xs h.1,
    )
      where
        nothing : (b : Bool) → (b && false) ≡ false
        nothing true = refl
        nothing false = refl

-- ---- the tests

not_big : (n : ℕ) → not (ltb 10000 n) ≡ nat_le n 10000
not_big n = grind (arith, nat_tests)

not_or : (a b : Bool) → not (a || b) ≡ (not a && not b)
not_or true b = refl
not_or false b = refl

none-big : (count : Item × ℕ → ℕ) (xs : List (Item × ℕ))
    → not (list_any is_big (map (λ p. (p.0, count p)) xs)) ≡ list_all (λ p. nat_le (count p) 10000) xs
none-big count [] = refl
none-big count (x ∷ xs) =
    not_or (ltb 10000 (count x)) (list_any is_big (map (λ (p : Item × ℕ). (p.0, count p)) xs))
    ∙ ap (λ b. b && not (list_any is_big (map (λ (p : Item × ℕ). (p.0, count p)) xs))) (not_big (count x))
    ∙ ap (λ b. nat_le (count x) 10000 && b) (none-big count xs)

others-big : (count : Item × ℕ → ℕ) (there : Item → Bool) (xs : List (Item × ℕ))
    → list_all (λ p. nat_le (count p) 10000) (filter (λ p. not (there p.0)) xs)
    ≡ list_all (λ p. there p.0 || nat_le (count p) 10000) xs
others-big count there [] = refl
others-big count there (x ∷ xs) =
    elim (there x.0) as (λ b. list_all (λ (p : Item × ℕ). nat_le (count p) 10000)
    (cond (not b) (x ∷ filter (λ p. not (there p.0)) xs) (filter (λ p. not (there p.0)) xs))
    ≡ ((b || nat_le (count x) 10000) && list_all (λ p. there p.0 || nat_le (count p) 10000) xs)) [
      | true ↦ others-big count there xs
      | false ↦ ap (λ b. nat_le (count x) 10000 && b) (others-big count there xs)
    ]

some-atoms : (count : Item × ℕ → ℕ) (xs : List (Item × ℕ))
    → length (with_atoms (map (λ p. (p.0, count p)) xs)) ≡ length (filter (λ p. ltb 0 (count p)) xs)
some-atoms count [] = refl
some-atoms count (x ∷ xs) =
    let rest = some-atoms count xs in
    elim (ltb 0 (count x)) as (λ b. length (cond b ((x.0, count x) ∷ with_atoms (map (λ (p : Item × ℕ). (p.0, count p)) xs)) (with_atoms (map (λ (p : Item × ℕ). (p.0, count p)) xs)))
    ≡ length (cond b (x ∷ filter (λ p. ltb 0 (count p)) xs) (filter (λ p. ltb 0 (count p)) xs))) [
      | true ↦ omega arith
      | false ↦ rest
    ]

others-atoms : (count : Item × ℕ → ℕ) (there : Item → Bool) (xs : List (Item × ℕ))
    → length (filter (λ p. ltb 0 (count p)) (filter (λ p. not (there p.0)) xs))
    ≡ length (filter (λ p. not (there p.0) && ltb 0 (count p)) xs)
others-atoms count there [] = refl
others-atoms count there (x ∷ xs) =
    let rest = others-atoms count there xs in
    elim (there x.0) as (λ b. length (filter (λ (p : Item × ℕ). ltb 0 (count p))
    (cond (not b) (x ∷ filter (λ p. not (there p.0)) xs) (filter (λ p. not (there p.0)) xs)))
    ≡ length (cond (not b && ltb 0 (count x)) (x ∷ filter (λ p. not (there p.0) && ltb 0 (count p)) xs)
    (filter (λ p. not (there p.0) && ltb 0 (count p)) xs))) [
      | true ↦ rest
      | false ↦ elim (ltb 0 (count x)) as (λ b. length (cond b (x ∷ filter (λ p. ltb 0 (count p)) (filter (λ p. not (there p.0)) xs)) (filter (λ p. ltb 0 (count p)) (filter (λ p. not (there p.0)) xs)))
          ≡ length (cond b (x ∷ filter (λ p. not (there p.0) && ltb 0 (count p)) xs) (filter (λ p. not (there p.0) && ltb 0 (count p)) xs))) [
            | true ↦ omega arith
            | false ↦ rest
          ]
    ]

atoms-weigh : (xs : List (Item × ℕ)) → atoms_of xs ≡ weigh (λ _. 1) xs
atoms-weigh [] = refl
atoms-weigh (x ∷ xs) =
    let rest = atoms-weigh xs in
    let old = atoms_of-cons x xs in
    let new = weigh-cons (λ _. 1) x xs in
    omega arith

few-atoms : (a l b : ℕ) → a + l ≡ b → nat_le a 20000 ≡ nat_le b (20000 + l)
few-atoms a l b e = subst (λ n. nat_le a 20000 ≡ nat_le n (20000 + l)) e (grind (arith, nat_tests))

ion-atoms : (adduct : AdductValue) (formula : List (Item × ℕ)) → IsAdduct adduct → AreCounts formula
    → has_what_is_lost adduct formula ≡ true
    → nat_le (atoms_of (ion_counts adduct formula)) 20000 ≡ has_few_atoms adduct formula
ion-atoms adduct formula is are there =
    let weights =
    ion-weight (λ _. 1) adduct formula (ion_counts adduct formula)
    (λ item.
    let same = ion-counts adduct formula is are item in
    let few = few-lost adduct formula is there item in
    omega arith) in
    let a = atoms-weigh (ion_counts adduct formula) in
    let l = atoms-weigh adduct.lost in
    let b = atoms-weigh adduct.added in
    let f = ap (λ n. adduct.copies * n) (atoms-weigh formula) in
    few-atoms (atoms_of (ion_counts adduct formula)) (atoms_of adduct.lost)
    (adduct.copies * atoms_of formula + atoms_of adduct.added) (omega arith)

ion-limits : (adduct : AdductValue) (formula : List (Item × ℕ)) → IsAdduct adduct → AreCounts formula
    → has_what_is_lost adduct formula ≡ true
    → is_some (formula_of (ion_counts adduct formula)) ≡ are_within_limits adduct formula
ion-limits adduct formula is are there =
    let parts = by_entries adduct formula in
    let own : List (Item × ℕ) = map (λ (p : Item × ℕ). (p.0, entry_count adduct p)) formula in
    let others : List (Item × ℕ) = map (λ (p : Item × ℕ). (p.0, other_count adduct p)) (others_of adduct formula) in
    let same = counts-by_entries adduct formula are in
    let big : not (list_any is_big parts) ≡ has_few_of_each adduct formula =
    ap not (list_any-append is_big own others) ∙ not_or (list_any is_big own) (list_any is_big others)
    ∙ ap (λ b. b && not (list_any is_big others)) (none-big (entry_count adduct) formula)
    ∙ ap (λ b. list_all (λ (p : Item × ℕ). nat_le (entry_count adduct p) 10000) formula && b)
    (none-big (other_count adduct) (others_of adduct formula)
    ∙ others-big (other_count adduct) (has_item formula) adduct.added) in
    let size : length (with_atoms parts) ≡ item_count adduct formula =
    ap length (filter-append (λ (p : Item × ℕ). ltb 0 p.1) own others)
    ∙ length-append (with_atoms own) (with_atoms others)
    ∙ ap (λ n. n + length (with_atoms others)) (some-atoms (entry_count adduct) formula)
    ∙ ap (λ n. length (filter (λ (p : Item × ℕ). ltb 0 (entry_count adduct p)) formula) + n)
    (some-atoms (other_count adduct) (others_of adduct formula)
    ∙ others-atoms (other_count adduct) (has_item formula) adduct.added) in
    ap (λ l. is_some (formula_of l)) same ∙ distinct-formula parts (by_entries-Distinct adduct formula is are)
    ∙ ap (λ b. nat_le (atoms_of parts) 20000 && b
    && (nat_le 1 (length (with_atoms parts)) && nat_le (length (with_atoms parts)) 20)) big
    ∙ ap (λ n. nat_le (atoms_of parts) 20000 && has_few_of_each adduct formula && (nat_le 1 n && nat_le n 20)) size
    ∙ ap (λ b. b && has_few_of_each adduct formula && has_few_items adduct formula)
    (ap (λ l. nat_le (atoms_of l) 20000) (sym same) ∙ ion-atoms adduct formula is are there)

-- the tests tell whether there is an ion
pub ion-tested : (adduct : AdductValue) (formula : List (Item × ℕ)) → IsAdduct adduct → AreCounts formula
    → is_some (ion_of adduct formula) ≡ (has_what_is_lost adduct formula && are_within_limits adduct formula)
unfolding ion_of
ion-tested adduct formula is are =
    elim (has_what_is_lost adduct formula) as (λ b. has_what_is_lost adduct formula ≡ b
    → is_some (cond b (formula_of (ion_counts adduct formula)) None) ≡ (b && are_within_limits adduct formula)) [
      | true ↦ λ there. ion-limits adduct formula is are there
      | false ↦ λ _. refl
    ] refl

some-ion : (adduct : AdductValue) (formula : List (Item × ℕ)) → IsAdduct adduct → AreCounts formula
    → (o : Option (List (Item × ℕ))) → ion_of adduct formula ≡ o → is_some o ≡ true
    → (ion : List (Item × ℕ)) × IsIonOf adduct formula ion
some-ion adduct formula is are None e h = absurd (false≢true h)
some-ion adduct formula is are (Some ion) e h = (ion, ion_of-is adduct formula ion is are e)

pub ion-defined : (adduct : AdductValue) (formula : List (Item × ℕ)) (b : Bool) → IsAdduct adduct → AreCounts formula
    → b ≡ is_some (ion_of adduct formula) → IsTrue b ↔ ((ion : List (Item × ℕ)) × IsIonOf adduct formula ion)
ion-defined adduct formula b is are same = (
  λ h. some-ion adduct formula is are (ion_of adduct formula) refl (sym same ∙ h),
  λ of. same ∙ ap is_some (ion_of-only adduct formula of.0 is are of.1),
)
