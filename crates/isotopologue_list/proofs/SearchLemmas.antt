-- Rows that stand end to end, and the search for one among them, which stand in lexicographic order.
use Rattle.std.proofs.Common.{◌≡◌, ℕ, zero, suc, ◌+◌, ◌-◌, ◌*◌, ◌/◌, ◌<◌, ◌≤◌, List, [], ◌∷◌, ◌++◌, length, take, drop}
use Rattle.std.proofs.Common.{get_or, sum, refl, sym, ◌∙◌, ap, arith, All, ⊎_elim, Bool, true, false, Some}
use Rattle.std.specs.Prelude.{flat_map}
use Rattle.std.specs.Ordering.{nat_cmp, is_le, is_some_and, ordering_then, ordering_reverse, MatchOrdering}
use Rattle.std.specs.declared.cmp.Ordering.{Ordering}
use Rattle.std.specs.declared.cmp.Ordering.TheVariants.{Less, Equal, Greater}
use Rattle.std.specs.Cmp.Lexicographic.{slice_cmp, slice_partial_cmp}
use Rattle.std.proofs.lemmas.Cmp.{same_from_slice_cmp_tested, nat_list_cmp_total, tied_itself}
use Rattle.std.proofs.lemmas.Bool.{cases_lt, both_ways}
use Rattle.std.proofs.lemmas.List.{drop-drop, get_or_default}
use Rattle.std.proofs.Math.Nat.{mul-div_cancel_left, mul_comm}
use Rattle.std.proofs.Math.Seq.{take-append_seam, drop-append_seam}
use Rattle.std.proofs.lemmas.List.Elements.{All-head, All-tail}
use Rattle.multinomial_bounds.specs.Weight.{IsCounts}
use Rattle.multinomial_bounds.specs.Compositions.{compositions}
use Rattle.isotopologue_list.specs.Nearest.{composition_at}
use Rattle.multinomial_bounds.proofs.CompositionLemmas.{compositions-IsCounts, compositions_complete}
use Rattle.isotopologue_list.proofs.RowLemmas.{length-end_to_end, row_within}
use Rattle.multinomial_bounds.proofs.LexicographicOrder.{compositions_in_order}

row_of : (ws : List ℕ) (n : ℕ) (cs : List (List ℕ)) → All (IsCounts ws n) cs → (k : ℕ) → k < length cs →
    take (length ws) (drop (k * length ws) (flat_map (λ c. c) cs)) ≡ get_or cs k []
row_of ws n [] all k within = absurd (omega arith)
row_of ws n (c ∷ cs) all zero within =
    let is : IsCounts ws n c = All-head (IsCounts ws n) c cs all in
    let none : 0 * length ws ≡ 0 = omega arith in
    rw (none, ← is.places_agree) (take-append_seam c (flat_map (λ x. x) cs))
row_of ws n (c ∷ cs) all (suc k) within =
    let is : IsCounts ws n c = All-head (IsCounts ws n) c cs all in
    let more : suc k * length ws ≡ length ws + k * length ws = omega arith in
    let seam : drop (length ws) (c ++ flat_map (λ x. x) cs) ≡ flat_map (λ x. x) cs =
    ap (λ (q : ℕ). drop q (c ++ flat_map (λ x. x) cs)) (sym is.places_agree) ∙ drop-append_seam c (flat_map (λ x. x) cs) in
    rw (more, ← drop-drop (k * length ws) (length ws) (c ++ flat_map (λ x. x) cs), seam)
    (row_of ws n cs (All-tail (IsCounts ws n) c cs all) k (omega arith))

-- all counts of n atoms of these isotopes, end to end
module _ (ws flat : List ℕ) (n : ℕ) (all : flat ≡ flat_map (λ c. c) (compositions (length ws) n)) where
  pub length-all : length flat ≡ length (compositions (length ws) n) * length ws
  length-all =
      ap length all
      ∙ length-end_to_end ws n (compositions (length ws) n) (compositions-IsCounts ws n)

  pub row_count : 1 ≤ length ws → length flat / length ws ≡ length (compositions (length ws) n)
  row_count some =
      let turned : length flat ≡ length ws * length (compositions (length ws) n) = length-all ∙ mul_comm _ _ in
      ap (λ (k : ℕ). k / length ws) turned ∙ mul-div_cancel_left (length (compositions (length ws) n)) some

  pub row_inside : (k : ℕ) → k < length (compositions (length ws) n) → k * length ws + length ws ≤ length flat
  row_inside k within = rw length-all (row_within k (length (compositions (length ws) n)) (length ws) within)

  pub row_at_place : (k : ℕ) → k < length (compositions (length ws) n) →
      take (length ws) (drop (k * length ws) flat) ≡ composition_at (length ws) n k
  row_at_place k within = rw all (row_of ws n (compositions (length ws) n) (compositions-IsCounts ws n) k within)

-- the counts at each place
pub composition_at-IsCounts : (ws : List ℕ) (n k : ℕ) → k < length (compositions (length ws) n) →
    IsCounts ws n (composition_at (length ws) n k)
composition_at-IsCounts ws n k within = compositions-IsCounts ws n k [] within

-- a place of these counts is among those from `low` up to `high`
pub record IsBetween (q n : ℕ) (row : List ℕ) (low high : ℕ) : Type 0 where
  pub place : ℕ
  pub from : low ≤ place
  pub to : place < high
  pub within : high ≤ length (compositions q n)
  pub is : composition_at q n place ≡ row

pub IsBetween-start : (row : List ℕ) (high : ℕ) → high ≡ length (compositions (length row) (sum row)) →
    IsBetween (length row) (sum row) row 0 high
IsBetween-start row high all =
    let found = compositions_complete row (sum row) refl in
    record {
      place = found.0;
      from = omega arith;
      to = rw all found.1;
      within = omega arith;
      is = get_or_default (compositions (length row) (sum row)) found.0 [] row found.1 ∙ found.2;
    }

-- whether counts stand at or before others
pub upto : List ℕ → List ℕ → Bool
upto xs ys = is_le (slice_cmp nat_cmp xs ys)

pub le_upto : (xs ys : List ℕ) (r : Bool) →
    r ≡ is_some_and is_le (slice_partial_cmp (λ (x y : ℕ). Some (nat_cmp x y)) xs ys) → r ≡ upto xs ys
unfolding upto
le_upto =
    same_from_slice_cmp_tested nat_cmp is_le (λ xs ys. is_le (slice_cmp nat_cmp xs ys)) refl (λ _ _. refl) (λ _ _. refl) more
  where
    more : (x y : ℕ) (xs ys : List ℕ) (o : Ordering) → o ≡ nat_cmp x y →
        MatchOrdering o (is_le (slice_cmp nat_cmp (x ∷ xs) (y ∷ ys)) ≡ is_le Less)
        (is_le (slice_cmp nat_cmp (x ∷ xs) (y ∷ ys)) ≡ is_le (slice_cmp nat_cmp xs ys))
        (is_le (slice_cmp nat_cmp (x ∷ xs) (y ∷ ys)) ≡ is_le Greater)
    more x y xs ys Less e = ap (λ o. is_le (ordering_then o (slice_cmp nat_cmp xs ys))) (sym e)
    more x y xs ys Equal e = ap (λ o. is_le (ordering_then o (slice_cmp nat_cmp xs ys))) (sym e)
    more x y xs ys Greater e = ap (λ o. is_le (ordering_then o (slice_cmp nat_cmp xs ys))) (sym e)

-- places in order have counts in order
places_before : (q n i j : ℕ) → j < length (compositions q n) → upto (composition_at q n i) (composition_at q n j) ≡ false →
    j < i
unfolding upto
places_before q n i j within after =
    ⊎_elim
    (λ (h : i < j).
    absurd (both_ways _ after (ap is_le (compositions_in_order q n i j [] h within))))
    (λ (h : j ≤ i).
    ⊎_elim
    (λ (h : j < i). h)
    (λ (g : i ≤ j).
    let e : j ≡ i = omega arith in
    absurd (both_ways _ (rw e at after) (ap is_le (tied_itself nat_list_cmp_total (composition_at q n i)))))
    (cases_lt j i))
    (cases_lt i j)

places_upto : (q n i j : ℕ) → i < length (compositions q n) → upto (composition_at q n i) (composition_at q n j) ≡ true → i ≤ j
unfolding upto
places_upto q n i j within before =
    ⊎_elim
    (λ (h : j < i).
    let turned : slice_cmp nat_cmp (composition_at q n i) (composition_at q n j) ≡ Greater =
    nat_list_cmp_total.antisymm (composition_at q n i) (composition_at q n j)
    ∙ ap ordering_reverse (compositions_in_order q n j i [] h within) in
    absurd (both_ways _ (ap is_le turned) before))
    (λ (h : i ≤ j). h)
    (cases_lt j i)

module _ (q n : ℕ) (row : List ℕ) (low high middle : ℕ) (between : IsBetween q n row low high) (from : low ≤ middle)
    (to : middle < high) where
  pub IsBetween-upper : upto (composition_at q n middle) row ≡ true → IsBetween q n row middle high
  IsBetween-upper before =
      record {
        place = between.place;
        from = places_upto q n middle between.place (omega (arith, between.within)) (rw between.is before);
        to = between.to;
        within = between.within;
        is = between.is;
      }

  pub IsBetween-lower : upto (composition_at q n middle) row ≡ false → IsBetween q n row low middle
  IsBetween-lower after =
      record {
        place = between.place;
        from = between.from;
        to = places_before q n middle between.place (omega (arith, between.within, between.to)) (rw between.is after);
        within = omega (arith, between.within);
        is = between.is;
      }

-- one place is left
pub IsBetween-one : (q n : ℕ) (row : List ℕ) (low high : ℕ) → IsBetween q n row low high → high - low ≤ 1 →
    (low < length (compositions q n)) × (composition_at q n low ≡ row)
IsBetween-one q n row low high between one =
    let here : low ≡ between.place = omega (arith, between.from, between.to) in (
      omega (arith, between.from, between.to, between.within),
      ap (composition_at q n) here ∙ between.is,
    )
