-- Isotopes by rising mass number, and the place of one more among them.
use Rattle.std.proofs.Common.{◌≡◌, ℕ, ◌+◌, ◌<◌, ◌≤◌, zero, suc, true, false, ◌==◌, List, [], ◌∷◌, length, get_or, map}
use Rattle.std.proofs.Common.{refl, sym, ap, ◌∙◌, subst, inl, inr, add-one, arith, All}
use Rattle.std.specs.List.{list_any, insert, HoldsAt}
use Rattle.std.specs.List.Sorted.{IsStrictlyIncreasing, IsPartitionPoint, IsNonDecreasingBy, IsSortedBy}
use Rattle.std.specs.Ordering.{nat_cmp, ordering_index, is_lt}
use Rattle.std.specs.declared.cmp.Ordering.TheVariants.{Less, Equal, Greater}
use Rattle.std.proofs.lemmas.Bool.{lt-ltb, le-ltb, ne_eqb, eq-eqb, cases_lt, cases_eq, cases_order, cond-true}
use Rattle.std.proofs.lemmas.Bool.{cond-false}
use Rattle.std.proofs.lemmas.Bool.Decides.{nat_tests}
use Rattle.std.proofs.lemmas.List.{get_or-map, length-map}
use Rattle.std.proofs.lemmas.List.Edits.{length-insert, get_or-insert_below, get_or-insert_at, get_or-insert_above}
use Rattle.std.proofs.lemmas.List.Sorted.{searchable_from_sorted}
use Rattle.std.proofs.lemmas.List.Folds.{list_any_none, list_any_at}
use Rattle.std.proofs.lemmas.Grind.{elements}
use Rattle.std.specs.Cmp.{nat_cmp_total}
use Rattle.sorted_lists.specs.SortedLists.{put_in_order}
use Rattle.element_table.specs.Elements.{ElementEntry, IsElement, IsIsotope, reference_place}
use Rattle.element_table.specs.TableRows.{element_with, is_lighter}
use Rattle.element_table.specs.Gathering.{with_isotope}
use Rattle.element_table.proofs.ReferencePlace.{reference_place-within}
use Rattle.element_table.specs.declared.element.Isotope.{Isotope}

-- a place among isotopes: those before it have a smaller mass number, those from it on a greater one
pub record IsGap (xs : List Isotope) (n place : ℕ) : Type 0 where
  pub within : place ≤ length xs
  pub before : (k : ℕ) (d : Isotope) → k < place → (get_or xs k d).number < n
  pub behind : (k : ℕ) (d : Isotope) → place ≤ k → k < length xs → n < (get_or xs k d).number

-- where there is a place for a mass number, no isotope has it
pub IsGap-none : {xs : List Isotope} {n place : ℕ} → IsGap xs n place → list_any (λ other. other.number == n) xs ≡ false
IsGap-none {xs} {n} {place} gap = list_any_none (λ other. other.number == n) xs each
  where
    each : (k : ℕ) (d : Isotope) → k < length xs → ((get_or xs k d).number == n) ≡ false
    each k d within =
        ne_eqb _ _ (λ same. elim (cases_lt k place) [
          | inl before ↦ omega
              (arith, gap.before k d before)
          | inr behind ↦ omega (arith, gap.behind k d behind within)
        ])

-- the isotope goes to that place
pub IsGap-insert : (xs : List Isotope) (place : ℕ) (isotope : Isotope) → IsGap xs isotope.number place
    → put_in_order is_lighter isotope xs ≡ insert xs place isotope
IsGap-insert [] zero isotope gap = refl
IsGap-insert [] (suc place) isotope gap = absurd (omega (arith, gap.within))
IsGap-insert (x ∷ xs) zero isotope gap =
    let first : isotope.number < x.number = gap.behind 0 x (omega arith) (omega arith) in
    cond-true _ _ _ (lt-ltb _ _ first)
IsGap-insert (x ∷ xs) (suc place) isotope gap =
    let first : x.number < isotope.number = gap.before 0 x (omega arith) in
    let rest : IsGap xs isotope.number place = record {
      within = omega (arith, gap.within);
      before = λ k d below. gap.before (suc k) d (omega arith);
      behind = λ k d from below. gap.behind (suc k) d (omega arith) (omega arith);
    } in
    cond-false _ _ _ (le-ltb isotope.number x.number (omega arith))
    ∙ ap (λ l. x ∷ l) (IsGap-insert xs place isotope rest)

same_number : (a n : ℕ) → nat_cmp a n ≡ Equal → a ≡ n
same_number a n same = grind (arith, nat_tests)

less_number : (a n : ℕ) → nat_cmp a n ≡ Less → a < n
less_number a n same = grind (arith, nat_tests)

greater_number : (a n : ℕ) → nat_cmp a n ≡ Greater → n < a
greater_number a n same = grind (arith, nat_tests)

not_below : (a b : ℕ) → a < b → is_lt (nat_cmp b a) ≡ false
not_below a b below = grind (arith, nat_tests)

-- each mass number is below the next
abbrev Rises : List Isotope → Type 0
Rises xs = (k : ℕ) (d : Isotope) → k + 1 < length xs → (get_or xs k d).number < (get_or xs (k + 1) d).number

Rises-from_increasing : (xs : List Isotope) → IsStrictlyIncreasing (map (λ i. i.number) xs) → Rises xs
Rises-from_increasing xs rising k d below =
    let step = rising k (rw length-map below) in
    let first = get_or-map (λ (i : Isotope). i.number) xs k d 0 (omega arith) in
    let second = get_or-map (λ (i : Isotope). i.number) xs (k + 1) d 0 below in
    omega (arith, step, first, second)

increasing_from_rises : (xs : List Isotope) → Isotope → Rises xs → IsStrictlyIncreasing (map (λ i. i.number) xs)
increasing_from_rises xs d rises k below =
    let within : k + 1 < length xs = rw length-map at below in
    let step = rises k d within in
    let first = get_or-map (λ (i : Isotope). i.number) xs k d 0 (omega arith) in
    let second = get_or-map (λ (i : Isotope). i.number) xs (k + 1) d 0 within in
    omega (arith, step, first, second)

-- behind the place of one more isotope
insert-rises_behind : (xs : List Isotope) (place : ℕ) (isotope : Isotope) → IsGap xs isotope.number place → Rises xs
    → (k : ℕ) (d : Isotope) → k + 1 < length xs + 1 → place < k + 1
    → (get_or (insert xs place isotope) k d).number < (get_or (insert xs place isotope) (k + 1) d).number
insert-rises_behind xs place isotope gap rises zero d within behind =
    let at_start : place ≡ 0 = omega arith in
    let first =
    ap (λ (i : Isotope). i.number) (subst (λ j. get_or (insert xs place isotope) j d ≡ isotope) at_start
    (get_or-insert_at xs place isotope d gap.within)) in
    let second = ap (λ (i : Isotope). i.number) (get_or-insert_above xs place isotope d 0 (omega arith) gap.within) in
    let less = gap.behind 0 d (omega arith) (omega arith) in
    omega (arith, first, second, less)
insert-rises_behind xs place isotope gap rises (suc k) d within behind =
    let second =
    ap (λ (i : Isotope). i.number) (get_or-insert_above xs place isotope d (suc k) (omega arith) gap.within) in
    elim (cases_eq place (suc k)) [
      | inl here ↦
          let first =
          ap (λ (i : Isotope). i.number) (subst (λ j. get_or (insert xs place isotope) j d ≡ isotope) here
          (get_or-insert_at xs place isotope d gap.within)) in
          let less = gap.behind (suc k) d (omega arith) (omega arith) in
          omega (arith, first, second, less)
      | inr past ↦
          let above : get_or (insert xs place isotope) (suc k) d ≡ get_or xs k d =
          rw add-one at (get_or-insert_above xs place isotope d k (omega arith) gap.within) in
          let first = ap (λ (i : Isotope). i.number) above in
          let less : (get_or xs k d).number < (get_or xs (suc k) d).number = rw add-one at (rises k d (omega arith)) in
          omega (arith, first, second, less)
    ]

-- with one more isotope at its place
insert-rises : (xs : List Isotope) (place : ℕ) (isotope : Isotope) → IsGap xs isotope.number place → Rises xs
    → Rises (insert xs place isotope)
insert-rises xs place isotope gap rises k d below =
    let within : k + 1 < length xs + 1 = rw (length-insert xs place isotope gap.within) at below in
    elim (cases_order (k + 1) place) [
      | inl here ↦
          let first =
          ap (λ (i : Isotope). i.number) (get_or-insert_below xs place isotope d k (omega arith) gap.within) in
          let second =
          ap (λ (i : Isotope). i.number) (subst (λ j. get_or (insert xs place isotope) j d ≡ isotope) (sym here)
          (get_or-insert_at xs place isotope d gap.within)) in
          let less = gap.before k d (omega arith) in
          omega (arith, first, second, less)
      | inr (inl before) ↦
          let first =
          ap (λ (i : Isotope). i.number) (get_or-insert_below xs place isotope d k (omega arith) gap.within) in
          let second =
          ap (λ (i : Isotope). i.number) (get_or-insert_below xs place isotope d (k + 1) before gap.within) in
          let less = rises k d (omega arith) in
          omega (arith, first, second, less)
      | inr (inr behind) ↦ insert-rises_behind xs place isotope gap rises k d within behind
    ]

-- and the mass numbers go on rising
pub IsGap-rising : (xs : List Isotope) (place : ℕ) (isotope : Isotope) → IsGap xs isotope.number place
    → IsStrictlyIncreasing (map (λ i. i.number) xs)
    → IsStrictlyIncreasing (map (λ i. i.number) (insert xs place isotope))
IsGap-rising xs place isotope gap rising =
    increasing_from_rises (insert xs place isotope) isotope
    (insert-rises xs place isotope gap (Rises-from_increasing xs rising))

-- what a binary search for a mass number found: an isotope that has it
pub found_by_search : (xs : List Isotope) (n k : ℕ) → k < length xs → HoldsAt (λ i. nat_cmp i.number n ≡ Equal) xs k
    → list_any (λ other. other.number == n) xs ≡ true
found_by_search [] n k within found = absurd (omega arith)
found_by_search (x ∷ xs) n k within found =
    list_any_at (λ other. other.number == n) (x ∷ xs) k x within (eq-eqb _ _ (same_number _ n (found x)))

-- or the place for it
pub IsGap-from_search : (xs : List Isotope) (n place : ℕ) → IsStrictlyIncreasing (map (λ i. i.number) xs)
    → place ≤ length xs
    → (IsNonDecreasingBy (λ i. ordering_index (nat_cmp i.number n)) xs → IsPartitionPoint
    (λ i. nat_cmp i.number n ≡ Less) (λ i. nat_cmp i.number n ≡ Greater) xs place)
    → IsGap xs n place
IsGap-from_search xs n place rising within searched =
    let sorted : IsSortedBy (λ (a b : Isotope). is_lt (nat_cmp a.number b.number)) xs =
    λ k d low high. not_below _ _ (Rises-from_increasing xs rising k d high) in
    let point = searched (searchable_from_sorted nat_cmp_total (λ (i : Isotope). i.number) xs n sorted) in
    record {
      within = within;
      before = λ k d below. less_number _ n (point.0 k d (omega arith) below);
      behind = λ k d from below. greater_number _ n (point.1 k d from below);
    }

-- an element with the isotopes of one more, and their reference place
pub with_isotope-placed : (e : ElementEntry) (isotope : Isotope) (xs : List Isotope) (place : ℕ)
    → xs ≡ put_in_order is_lighter isotope e.isotopes
    → place ≡ reference_place xs
    → record { symbol = e.symbol; valence = e.valence; isotopes = xs; reference = place } ≡ with_isotope e isotope
with_isotope-placed e isotope xs place placed first =
    ap (λ (n : ℕ). record { symbol = e.symbol; valence = e.valence; isotopes = xs; reference = n }) first
    ∙ ap (λ (is : List Isotope). element_with e.symbol e.valence is) placed

All-insert : (P : Isotope → Type 0) (xs : List Isotope) (place : ℕ) (isotope : Isotope) → place ≤ length xs → All P xs
    → P isotope → All P (insert xs place isotope)
All-insert P xs place isotope within all one = λ k d below. grind (arith, elements, all)

-- an element within the limits stays within them with one more isotope at its place
pub IsElement-insert : (e : ElementEntry) (place : ℕ) (isotope : Isotope) (reference : ℕ) → IsElement e
    → IsIsotope isotope
    → IsGap e.isotopes isotope.number place → length e.isotopes ≤ 15
    → reference ≡ reference_place (insert e.isotopes place isotope)
    → IsElement (record {
      symbol = e.symbol;
      valence = e.valence;
      isotopes =
          insert e.isotopes place isotope;
      reference = reference;
    })
IsElement-insert e place isotope reference is one gap few first =
    let long = length-insert e.isotopes place isotope gap.within in
    record {
      symbol = is.symbol;
      valence = is.valence;
      few_isotopes = omega (arith, long);
      isotopes = All-insert IsIsotope e.isotopes place isotope gap.within is.isotopes one;
      rising = IsGap-rising e.isotopes place isotope gap is.rising;
      reference = rw first (reference_place-within (insert e.isotopes place isotope) (omega (arith, long)));
    }
