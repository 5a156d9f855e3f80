-- The neighbours of an isotopologue, one element after another, and its counts by an element.
use Rattle.std.proofs.Common.{◌≡◌, ℕ, ◌+◌, ◌<◌, ◌≤◌, List, [], ◌∷◌, ◌++◌, map, length, take, drop, get_or, refl, sym}
use Rattle.std.proofs.Common.{◌∙◌, ap, arith, All, Some, None, append_assoc, append-nil, drop-cons, add-one}
use Rattle.std.proofs.Common.{length-append, length-drop}
use Rattle.std.specs.Prelude.{find, Option}
use Rattle.std.specs.List.{concat}
use Rattle.std.proofs.Math.Seq.{take-append_seam, drop-append_seam}
use Rattle.std.proofs.lemmas.List.{map-append, map-id, take_more, drop_all, take-append-drop, take_all}
use Rattle.std.proofs.lemmas.Simd.{map-map}
use Rattle.std.proofs.lemmas.List.Folds.{concat-append}
use Rattle.multinomial_bounds.specs.Isotopologue.{Element, IsIsotopologue}
use Rattle.isotopologue_sets.specs.Layers.{AreElements, hi_of}
use Rattle.isotopologue_neighbours.specs.Moves.{counts_moved, neighbours_of}
use Rattle.cover_claims.specs.CountsInRow.{isotopes_of_all, counts_by_element}
use Rattle.cover_claims.specs.Claims.{is_left_out}
use Rattle.cover_claims.specs.Surroundings.{with_counts, IsAround, as_row, left_out_among}
use Rattle.cover_claims.proofs.RowLemmas.{concat-counts_by_element}
use Rattle.cover_claims.proofs.Surround.{counts-at, length-isotopologue, count-small}
use Rattle.cover_claims.proofs.FirstFound.{seen-append-none, seen-append-some}

-- the neighbours by moves in the elements from a place on
abbrev pub neighbours_from : List (List ℕ) → ℕ → List (List (List ℕ))
neighbours_from i k = map (λ n. take k i ++ n) (neighbours_of (drop k i))

map_same : {X Y : Type 0} (f g : X → Y) (xs : List X) → ((x : X) → f x ≡ g x) → map f xs ≡ map g xs
map_same f g [] same = refl
map_same f g (x ∷ xs) same = rw (same x, map_same f g xs same) refl

pub neighbours-all : (i : List (List ℕ)) → neighbours_from i 0 ≡ neighbours_of i
neighbours-all i = map-id (neighbours_of i)

pub neighbours-step : (i : List (List ℕ)) (k : ℕ) → k < length i →
    neighbours_from i k ≡ map (with_counts i k) (counts_moved (get_or i k [])) ++ neighbours_from i (k + 1)
unfolding neighbours_of
neighbours-step i k within =
    let c : List ℕ = get_or i k [] in
    let more : List (List ℕ) = drop (k + 1) i in
    let here : drop k i ≡ c ∷ more = drop-cons i k [] within ∙ ap (λ (n : ℕ). c ∷ drop n i) (sym (add-one k)) in
    let first : map (λ n. take k i ++ n) (map (λ x. x ∷ more) (counts_moved c)) ≡ map (with_counts i k) (counts_moved c) =
    map-map (λ n. take k i ++ n) (λ x. x ∷ more) (counts_moved c) in
    let each : (n : List (List ℕ)) → take k i ++ c ∷ n ≡ take (k + 1) i ++ n =
    λ n. sym (append_assoc (take k i) (c ∷ []) n) ∙ ap (λ (xs : List (List ℕ)). xs ++ n) (sym (take_more i k [] within)) in
    let rest : map (λ n. take k i ++ n) (map (λ n. c ∷ n) (neighbours_of more)) ≡ map (λ n. take (k + 1) i ++ n) (neighbours_of more) =
    map-map (λ n. take k i ++ n) (λ n. c ∷ n) (neighbours_of more)
    ∙ map_same (λ n. take k i ++ c ∷ n) (λ n. take (k + 1) i ++ n) (neighbours_of more) each in
    ap (λ (d : List (List ℕ)). map (λ n. take k i ++ n) (neighbours_of d)) here
    ∙ map-append (λ n. take k i ++ n) (map (λ x. x ∷ more) (counts_moved c)) (map (λ n. c ∷ n) (neighbours_of more))
    ∙ ap (λ (xs : List (List (List ℕ))). xs ++ map (λ n. take k i ++ n) (map (λ n. c ∷ n) (neighbours_of more))) first
    ∙ ap (λ (xs : List (List (List ℕ))). map (with_counts i k) (counts_moved c) ++ xs) rest

pub neighbours-end : (i : List (List ℕ)) (k : ℕ) → length i ≤ k → neighbours_from i k ≡ []
unfolding neighbours_of
neighbours-end i k past = rw (drop_all k i past) refl

-- the first one left out
module _ (es : List Element) (t : ℕ) (members : List (List (List ℕ))) (i : List (List ℕ)) where
  abbrev pub first_from : ℕ → Option (List ℕ × ℕ)
  first_from k = as_row es (find (is_left_out es t members) (neighbours_from i k))

  pub element-none : (k : ℕ) → k < length i →
      ◌≡◌ {A = Option (List ℕ × ℕ)} None (left_out_among es t members i k (counts_moved (get_or i k []))) →
      first_from k ≡ first_from (k + 1)
  element-none k within none =
      ap (λ (xs : List (List (List ℕ))). as_row es (find (is_left_out es t members) xs)) (neighbours-step i k within)
      ∙ seen-append-none (λ j. (concat j, hi_of es j)) (is_left_out es t members)
      (map (with_counts i k) (counts_moved (get_or i k []))) (neighbours_from i (k + 1)) (sym none)

  pub element-some : (k : ℕ) (r : List ℕ × ℕ) → k < length i →
      ◌≡◌ {A = Option (List ℕ × ℕ)} (Some r) (left_out_among es t members i k (counts_moved (get_or i k []))) →
      first_from k ≡ Some r
  element-some k r within some =
      ap (λ (xs : List (List (List ℕ))). as_row es (find (is_left_out es t members) xs)) (neighbours-step i k within)
      ∙ seen-append-some (λ j. (concat j, hi_of es j)) (is_left_out es t members)
      (map (with_counts i k) (counts_moved (get_or i k []))) (neighbours_from i (k + 1)) r (sym some)

  pub element-end : (k : ℕ) → length i ≤ k → first_from k ≡ None
  element-end k past =
      ap (λ (xs : List (List (List ℕ))). as_row es (find (is_left_out es t members) xs)) (neighbours-end i k past)

-- the counts of an isotopologue by one element
module _ (es : List Element) (ok : AreElements es) (i : List (List ℕ)) (is : IsIsotopologue es i) (row : List ℕ)
    (row_is : counts_by_element es row ≡ i) (long : length row ≡ isotopes_of_all es) where
  pub row-concat : row ≡ concat i
  row-concat =
      sym (take_all (isotopes_of_all es) row (omega arith)) ∙ sym (concat-counts_by_element es row) ∙ ap concat row_is

  module _ (k : ℕ) (e : Element) (within : k < length es) (e_is : e ≡ get_or es k e) (from : ℕ)
      (from_is : from ≡ length (concat (take k i))) where
    abbrev own : List ℕ
    own = get_or i k []

    inside : k < length i
    inside = omega (arith, length-isotopologue es i is)

    abbrev head : List ℕ
    head = concat (take k i)

    abbrev tail : List ℕ
    tail = concat (drop (k + 1) i)

    pub own-long : length own ≡ length e.weights
    own-long = (counts-at es i k e is within).places_agree ∙ ap (λ (d : Element). length d.weights) (sym e_is)

    parts : concat i ≡ head ++ (own ++ tail)
    parts =
        ap concat (sym (take-append-drop k i)) ∙ concat-append (take k i) (drop k i)
        ∙ ap (λ (d : List (List ℕ)). head ++ concat d)
        (drop-cons i k [] inside ∙ ap (λ (n : ℕ). own ∷ drop n i) (sym (add-one k)))

    whole : row ≡ head ++ (own ++ tail)
    whole = row-concat ∙ parts

    pub before-row : take from row ≡ head
    before-row = rw (from_is, whole) (take-append_seam head (own ++ tail))

    behind : drop from row ≡ own ++ tail
    behind = rw (from_is, whole) (drop-append_seam head (own ++ tail))

    pub own-row : take (length e.weights) (drop from row) ≡ own
    own-row = rw (behind, ← own-long) (take-append_seam own tail)

    pub after-row : drop (length e.weights) (drop from row) ≡ tail
    after-row =
        ap (drop (length e.weights)) behind
        ∙ ap (λ (n : ℕ). drop n (own ++ tail)) (sym own-long)
        ∙ drop-append_seam own tail

    long_is : length row ≡ from + (length e.weights + length tail)
    long_is =
        omega (
          arith,
          ap length whole,
          length-append head (own ++ tail),
          length-append own tail,
          own-long,
          from_is,
        )

    pub from-room : from ≤ length row
    from-room = omega (arith, long_is)

    pub own-room : length e.weights ≤ length (drop from row)
    own-room = omega (arith, long_is, length-drop from row)

    pub next-from : from + length e.weights ≡ length (concat (take (k + 1) i))
    next-from =
        omega (
          arith,
          ap (λ (xs : List (List ℕ)). length (concat xs)) (take_more i k [] inside),
          ap length (concat-append (take k i) (own ∷ [])),
          length-append head (own ++ []),
          ap length (append-nil own),
          own-long,
          from_is,
        )

    pub row-around : IsAround i k (take from row) (take (length e.weights) (drop from row)) (drop (length e.weights) (drop from row))
    row-around = record { within = inside; before_is = before-row; own_is = own-row; after_is = after-row }

    pub own-small : All (λ c. c ≤ 10000) (take (length e.weights) (drop from row))
    own-small =
        rw own-row
        (count-small own 10000
        (omega (arith, (counts-at es i k e is within).atoms_agree, ok.few_of_each k e within)))
