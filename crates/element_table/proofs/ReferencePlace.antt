-- The reference isotope is one of the isotopes; none has a greater weight, and none before it the same.
use Rattle.std.proofs.Common.{◌≡◌, ℕ, zero, suc, ◌<◌, ◌≤◌, true, List, [], ◌∷◌, length, refl, sym, ◌∙◌, inl, inr, arith}
use Rattle.std.proofs.Common.{subst, true≢false}
use Rattle.std.specs.List.{position_or_len}
use Rattle.std.proofs.lemmas.Bool.{le-leb, lt-ltb, leb-true, cases_lt}
use Rattle.std.proofs.lemmas.List.{get_or_default}
use Rattle.std.proofs.lemmas.List.Sums.{AllPass-from_list_all, list_all-from_AllPass, fails_before_first}
use Rattle.std.proofs.lemmas.List.Sums.{passes_at_first}
use Rattle.element_table.specs.Elements.{IsReference, is_greatest, isotope_at, reference_place}
use Rattle.element_table.specs.declared.element.Isotope.{Isotope}

-- what is read where no isotope stands
abbrev none : Isotope
none = record { number = 0; mass = 0; weight = 0 }

-- at the place stands an isotope, and none has a greater weight
record IsGreatest (xs : List Isotope) (place : ℕ) : Type 0 where
  within : place < length xs
  greatest : (k : ℕ) → k < length xs → (isotope_at xs k).weight ≤ (isotope_at xs place).weight

-- where there is an isotope, there is a place of one than which none has a greater weight
some_greatest : (x : Isotope) (xs : List Isotope) → (place : ℕ) × IsGreatest (x ∷ xs) place
some_greatest x [] = (0, record { within = omega arith; greatest = alone })
  where
    alone : (k : ℕ) → k < length (x ∷ []) → (isotope_at (x ∷ []) k).weight ≤ x.weight
    alone zero below = omega arith
    alone (suc k) below = absurd (omega arith)
some_greatest x (y ∷ ys) = by (some_greatest y ys)
  where
    by : (place : ℕ) × IsGreatest (y ∷ ys) place → (place : ℕ) × IsGreatest (x ∷ y ∷ ys) place
    by (place, is) =
        elim (cases_lt x.weight (isotope_at (y ∷ ys) place).weight) [
          | inl less ↦ (suc place, behind less)
          | inr most ↦
              (0, front most)
        ]
      where
        behind : x.weight < (isotope_at (y ∷ ys) place).weight → IsGreatest (x ∷ y ∷ ys) (suc place)
        behind less =
            record { within = (let w : place < length (y ∷ ys) = is.within in omega (arith, w)); greatest = each }
          where
            each : (k : ℕ) → k < length (x ∷ y ∷ ys)
                → (isotope_at (x ∷ y ∷ ys) k).weight ≤ (isotope_at (y ∷ ys) place).weight
            each zero below = omega (arith, less)
            each (suc k) below = is.greatest k (omega arith)

        front : (isotope_at (y ∷ ys) place).weight ≤ x.weight → IsGreatest (x ∷ y ∷ ys) 0
        front most = record { within = omega arith; greatest = each }
          where
            each : (k : ℕ) → k < length (x ∷ y ∷ ys) → (isotope_at (x ∷ y ∷ ys) k).weight ≤ x.weight
            each zero below = omega arith
            each (suc k) below = (let less = is.greatest k (omega arith) in omega (arith, most, less))

-- an isotope than which none has a greater weight passes the test
is_greatest-at : (xs : List Isotope) (i : Isotope) → ((k : ℕ) → k < length xs → (isotope_at xs k).weight ≤ i.weight)
    → is_greatest xs i ≡ true
is_greatest-at xs i greatest =
    list_all-from_AllPass _ xs (λ k d below. le-leb _ _
    (subst (λ (j : Isotope). j.weight ≤ i.weight) (get_or_default xs k none d below) (greatest k below)))

-- and where one passes it, none has a greater weight
weight-within : (xs : List Isotope) (i : Isotope) → is_greatest xs i ≡ true → (k : ℕ) → k < length xs
    → (isotope_at xs k).weight ≤ i.weight
weight-within xs i passes k below = leb-true _ _ (AllPass-from_list_all _ xs passes k none below)

module _ (x : Isotope) (xs : List Isotope) where
  -- the first place that passes is within the list
  first-within : position_or_len (is_greatest (x ∷ xs)) (x ∷ xs) < length (x ∷ xs)
  first-within =
      let some = some_greatest x xs in
      elim (cases_lt some.0 (position_or_len (is_greatest (x ∷ xs)) (x ∷ xs))) [
        | inl before ↦
            let fails = fails_before_first (is_greatest (x ∷ xs)) (x ∷ xs) some.0 none before in
            absurd (true≢false (sym (is_greatest-at (x ∷ xs) (isotope_at (x ∷ xs) some.0) some.1.greatest) ∙ fails))
        | inr not_before ↦ (let within = some.1.within in omega (arith, within, not_before))
      ]

  -- and is the place of the reference isotope
  place-is : reference_place (x ∷ xs) ≡ position_or_len (is_greatest (x ∷ xs)) (x ∷ xs)
  place-is = rw (lt-ltb _ _ first-within) refl

  first-IsReference : IsReference (x ∷ xs) (position_or_len (is_greatest (x ∷ xs)) (x ∷ xs))
  first-IsReference = record { within = first-within; greatest = greatest; first = first }
    where
      greatest : (k : ℕ) → k < length (x ∷ xs)
          → (isotope_at (x ∷ xs) k).weight ≤
          (isotope_at (x ∷ xs) (position_or_len (is_greatest (x ∷ xs)) (x ∷ xs))).weight
      greatest k below =
          weight-within (x ∷ xs) (isotope_at (x ∷ xs) (position_or_len (is_greatest (x ∷ xs)) (x ∷ xs)))
          (passes_at_first (is_greatest (x ∷ xs)) (x ∷ xs) none first-within) k below

      first : (k : ℕ) → k < position_or_len (is_greatest (x ∷ xs)) (x ∷ xs)
          → (isotope_at (x ∷ xs) k).weight <
          (isotope_at (x ∷ xs) (position_or_len (is_greatest (x ∷ xs)) (x ∷ xs))).weight
      first k before =
          elim (cases_lt (isotope_at (x ∷ xs) k).weight
          (isotope_at (x ∷ xs) (position_or_len (is_greatest (x ∷ xs)) (x ∷ xs))).weight) [
            | inl less ↦ less
            | inr most ↦
                let passes =
                is_greatest-at (x ∷ xs) (isotope_at (x ∷ xs) k)
                (λ j below. let g = greatest j below in omega (arith, g, most)) in
                absurd (true≢false (sym passes ∙ fails_before_first (is_greatest (x ∷ xs)) (x ∷ xs) k none before))
          ]

-- the reference place is that of the reference isotope
pub reference_place-IsReference : (xs : List Isotope) → 0 < length xs → IsReference xs (reference_place xs)
reference_place-IsReference [] some = absurd (omega arith)
reference_place-IsReference (x ∷ xs) some = subst (IsReference (x ∷ xs)) (sym (place-is x xs)) (first-IsReference x xs)

pub reference_place-within : (xs : List Isotope) → 0 < length xs → reference_place xs < length xs
reference_place-within xs some = (reference_place-IsReference xs some).within
