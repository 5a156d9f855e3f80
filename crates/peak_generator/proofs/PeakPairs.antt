-- The peaks of formulas are peaks.
use Rattle.std.proofs.Common.{◌≡◌, ℕ, suc, ◌+◌, ◌≤◌, Bool, true, false, cond, ltb, List, [], ◌∷◌, length, refl, ap, ◌∙◌, arith}
use Rattle.std.specs.Prelude.{ℤ, pos, negsuc, Option, Some, None, is_none, not, ◌&&◌, nat_le}
use Rattle.std.specs.List.{cons_option, filter_map, list_all, prefix_len}
use Rattle.std.proofs.lemmas.Bool.{le-leb, ltb-false}
use Rattle.element_table.specs.Elements.{TableEntries}
use Rattle.written_items.specs.declared.item.Item.{Item}
use Rattle.adducts.specs.Adducts.{AdductValue}
use Rattle.adducts.specs.Ions.{ion_mass}
use Rattle.peak_text.specs.PeakLists.{is_peak, peaks_in}
use Rattle.peak_generator.specs.MadePeaks.{made_peak, peak_of_mass, place_without}

one-more : (mass : Option ℤ) (rest : List (ℕ × ℕ)) → list_all is_peak rest ≡ true →
    list_all is_peak (cons_option (peak_of_mass mass) rest) ≡ true
one-more None rest h = h
one-more (Some (negsuc below)) rest h = h
one-more (Some (pos mass)) rest h =
    elim (is_peak (mass, 1000000000)) as (λ b. is_peak (mass, 1000000000) ≡ b →
    list_all is_peak (cons_option (cond b (Some (mass, 1000000000)) None) rest) ≡ true) [
      | true ↦ λ e. ap (λ b. b && list_all is_peak rest) e ∙ h
      | false ↦ λ e. h
    ] refl

all-made : (table : TableEntries) (adduct : AdductValue) (fs : List (List (Item × ℕ))) →
    list_all is_peak (filter_map (made_peak table adduct) fs) ≡ true
all-made table adduct [] = refl
all-made table adduct (f ∷ fs) =
    one-more (ion_mass table adduct f) (filter_map (made_peak table adduct) fs) (all-made table adduct fs)

few-made : {X Y : Type 0} (h : X → Option Y) (xs : List X) → length (filter_map h xs) ≤ length xs
few-made h [] = omega arith
few-made h (x ∷ xs) =
    let rest = few-made h xs in
    elim (h x) as (λ o. length (cons_option o (filter_map h xs)) ≤ length (x ∷ xs)) [
      | None ↦ omega (arith, rest)
      | Some y ↦ omega (arith, rest)
    ]

-- at most 10,000 formulas make peaks
pub peaks_in-made : (table : TableEntries) (adduct : AdductValue) (fs : List (List (Item × ℕ))) → length fs ≤ 10000 →
    peaks_in (filter_map (made_peak table adduct) fs) ≡ Some (filter_map (made_peak table adduct) fs)
peaks_in-made table adduct fs few =
    let pairs : List (ℕ × ℕ) = filter_map (made_peak table adduct) fs in
    let fewer = few-made (made_peak table adduct) fs in
    let within : nat_le (length pairs) 10000 ≡ true = le-leb (length pairs) 10000 (omega (arith, fewer, few)) in
    ap (λ b. cond b (Some pairs) None)
    (both (nat_le (length pairs) 10000) (list_all is_peak pairs) within (all-made table adduct fs))
  where
    both : (a b : Bool) → a ≡ true → b ≡ true → (a && b) ≡ true
    both true b e f = f
    both false b e f = e

passed-all : {X Y : Type 0} (h : X → Option Y) (xs : List X) →
    length xs ≤ prefix_len (λ x. not (is_none (h x))) xs → length (filter_map h xs) ≡ length xs
passed-all h [] all = refl
passed-all h (x ∷ xs) all =
    elim (h x) as (λ o. length (x ∷ xs) ≤ cond (not (is_none o)) (1 + prefix_len (λ y. not (is_none (h y))) xs) 0 →
    length (cons_option o (filter_map h xs)) ≡ length (x ∷ xs)) [
      | None ↦ λ (within : length (x ∷ xs) ≤ 0). absurd (omega (arith, within))
      | Some y ↦ λ (within : length (x ∷ xs) ≤ 1 + prefix_len (λ y. not (is_none (h y))) xs).
          ap suc (passed-all h xs (omega (arith, within)))
    ] all

none-below : (a b : ℕ) → cond (ltb a b) (Some a) None ≡ None → b ≤ a
none-below a b is =
    elim (ltb a b) as (λ t. ltb a b ≡ t → cond t (Some a) None ≡ None → b ≤ a) [
      | true ↦ λ e some. absurd (cc)
      | false ↦ λ e none. ltb-false a b e
    ] refl is

-- where each formula has a peak, there are as many peaks as formulas
pub length-made : (table : TableEntries) (adduct : AdductValue) (fs : List (List (Item × ℕ))) →
    place_without table adduct fs ≡ None → length (filter_map (made_peak table adduct) fs) ≡ length fs
length-made table adduct fs none =
    passed-all (made_peak table adduct) fs (none-below _ (length fs) none)

-- none is left but none
pub none-left : (o : Option ℕ) → ((n : ℕ) → o ≡ Some n → ⊥) → o ≡ None
none-left None other = refl
none-left (Some n) other = absurd (other n refl)
