-- All counts by their distance from the mode, and the enclosures that are known after the nearest of them.
use Rattle.std.proofs.Common.{◌≡◌, ℕ, ◌+◌, ◌<◌, ◌≤◌, List, [], ◌∷◌, ◌++◌, map, length, get_or, set, sum, refl, sym, ◌∙◌}
use Rattle.std.proofs.Common.{ap, arith, All, ⊎_elim, get_or-set_same, get_or-set_other}
use Rattle.std.specs.Prelude.{Contains}
use Rattle.std.specs.List.{range_with_len}
use Rattle.std.specs.List.Sorted.{IsPermutation, IsNonDecreasingBy}
use Rattle.std.proofs.lemmas.Bool.{cases_lt, cases_eq}
use Rattle.std.proofs.lemmas.List.{length-map, length-set, get_or-map, same_lists, get_or_default, map-append}
use Rattle.std.proofs.lemmas.List.FromFn.{length-range_with_len, get_or-range_with_len}
use Rattle.std.proofs.lemmas.List.Sorted.{length_permutation, All-permutation, Contains-permutation}
use Rattle.multinomial_bounds.specs.Path.{atoms_above}
use Rattle.multinomial_bounds.specs.Compositions.{compositions}
use Rattle.isotopologue_list.specs.Nearest.{composition_at, moves_to_all}
use Rattle.isotopologue_list.specs.ListedParts.{ends_of_counts}
use Rattle.isotopologue_list.proofs.FlatLemmas.{range_push}
use Rattle.multinomial_bounds.proofs.CompositionLemmas.{All-range}
use Rattle.std.proofs.lemmas.List.Elements.{All-map}

-- the moves to the counts at the first places
pub moves_to_first : List ℕ → ℕ → List (ℕ × ℕ)
moves_to_first m count = map {B = ℕ × ℕ} (λ k. (atoms_above m (composition_at (length m) (sum m) k), k)) (range_with_len 0 count)

pub moves_to_first-none : (m : List ℕ) → [] ≡ moves_to_first m 0
unfolding moves_to_first
moves_to_first-none m = refl

pub moves_to_first-more : (m : List ℕ) (count : ℕ) →
    moves_to_first m count ++ (atoms_above m (composition_at (length m) (sum m) count), count) ∷ [] ≡ moves_to_first m (count + 1)
unfolding moves_to_first
moves_to_first-more m count =
    let next : 0 + count ≡ count = omega arith in
    let pushed : range_with_len 0 (count + 1) ≡ range_with_len 0 count ++ count ∷ [] = rw next at (range_push 0 count) in
    sym
    (ap (map {B = ℕ × ℕ} (λ k. (atoms_above m (composition_at (length m) (sum m) k), k))) pushed
    ∙ map-append {B = ℕ × ℕ} (λ k. (atoms_above m (composition_at (length m) (sum m) k), k)) (range_with_len 0 count) (count ∷ []))

pub moves_to_first-all : (m : List ℕ) → moves_to_first m (length (compositions (length m) (sum m))) ≡ moves_to_all m
unfolding moves_to_first
moves_to_first-all m = refl

-- an order of all places in which those nearer to the mode come first
pub record IsNearestFirst (q n : ℕ) (m : List ℕ) (order : List (ℕ × ℕ)) : Type 0 where
  pub size : length order ≡ length (compositions q n)
  pub within : (s : ℕ) → s < length order → (get_or order s (0, 0)).1 < length (compositions q n)
  pub moves : (s : ℕ) → s < length order → (get_or order s (0, 0)).0 ≡ atoms_above m (composition_at q n (get_or order s (0, 0)).1)
  pub place : (k : ℕ) → k < length (compositions q n) → ℕ
  pub place_within : (k : ℕ) (h : k < length (compositions q n)) → place k h < length order
  pub place_is : (k : ℕ) (h : k < length (compositions q n)) → (get_or order (place k h) (0, 0)).1 ≡ k
  pub in_order : (s t : ℕ) → s ≤ t → t < length order → (get_or order s (0, 0)).0 ≤ (get_or order t (0, 0)).0

IsMovesTo : (q n : ℕ) (m : List ℕ) → ℕ × ℕ → Type 0
IsMovesTo q n m p = (p.1 < length (compositions q n)) × (p.0 ≡ atoms_above m (composition_at q n p.1))

all_moves : (m : List ℕ) → All (IsMovesTo (length m) (sum m) m) (moves_to_all m)
unfolding IsMovesTo
all_moves m =
    All-map (IsMovesTo (length m) (sum m) m) (λ k. (atoms_above m (composition_at (length m) (sum m) k), k))
    (range_with_len 0 (length (compositions (length m) (sum m))))
    (All-range (λ k. IsMovesTo (length m) (sum m) m (atoms_above m (composition_at (length m) (sum m) k), k))
    (length (compositions (length m) (sum m))) (λ k h. (h, refl)))

each_place : (m : List ℕ) (k : ℕ) → k < length (compositions (length m) (sum m)) →
    Contains (moves_to_all m) (atoms_above m (composition_at (length m) (sum m) k), k)
each_place m k within =
    let f : ℕ → ℕ × ℕ = λ j. (atoms_above m (composition_at (length m) (sum m) j), j) in
    let inside : k < length (range_with_len 0 (length (compositions (length m) (sum m)))) = rw length-range_with_len within in
    let here : get_or (range_with_len 0 (length (compositions (length m) (sum m)))) k 0 ≡ k =
    get_or-range_with_len 0 (length (compositions (length m) (sum m))) k 0 within ∙ omega arith in (
      k,
      rw length-map inside,
      get_or-map {Y = ℕ × ℕ} f (range_with_len 0 (length (compositions (length m) (sum m)))) k 0 (f k) inside ∙ ap f here,
    )

pub IsNearestFirst-from : (m : List ℕ) (order : List (ℕ × ℕ)) → IsPermutation (moves_to_all m) order →
    IsNonDecreasingBy (λ p. p.0) order → IsNearestFirst (length m) (sum m) m order
unfolding IsMovesTo
IsNearestFirst-from m order permuted rising =
    let each = All-permutation (IsMovesTo (length m) (sum m) m) (moves_to_all m) order permuted (all_moves m) in
    let found = λ (k : ℕ) (h : k < length (compositions (length m) (sum m))).
    Contains-permutation (moves_to_all m) order (atoms_above m (composition_at (length m) (sum m) k), k) permuted (each_place m k h) in
    record {
      size = length_permutation (moves_to_all m) order permuted
          ∙ length-map {B = ℕ × ℕ} (range_with_len 0 (length (compositions (length m) (sum m))))
          (λ j. (atoms_above m (composition_at (length m) (sum m) j), j))
          ∙ length-range_with_len 0 (length (compositions (length m) (sum m)));
      within = λ s h. (each s (0, 0) h).0;
      moves = λ s h. (each s (0, 0) h).1;
      place = λ k h. (found k h).0;
      place_within = λ k h. (found k h).1;
      place_is = λ k h.
          ap (λ p. p.1)
          (get_or_default order (found k h).0 (0, 0) (atoms_above m (composition_at (length m) (sum m) k), k) (found k h).1
          ∙ (found k h).2);
      in_order = λ s t before within. rising s t (0, 0) before within;
    }

-- the bounds that are known of the counts at the first places of the order
pub record AreKnown (q n : ℕ) (ws : List ℕ) (order ends : List (ℕ × ℕ)) (count : ℕ) : Type 0 where
  pub one_each : length ends ≡ length (compositions q n)
  pub known : (s : ℕ) → s < count →
      get_or ends (get_or order s (0, 0)).1 (0, 0) ≡ ends_of_counts ws (composition_at q n (get_or order s (0, 0)).1)

pub AreKnown-none : (q n : ℕ) (ws : List ℕ) (order ends : List (ℕ × ℕ)) → length ends ≡ length (compositions q n) →
    AreKnown q n ws order ends 0
AreKnown-none q n ws order ends one_each = record { one_each = one_each; known = λ s h. absurd (omega arith) }

module _ (q n : ℕ) (ws m : List ℕ) (order ends : List (ℕ × ℕ)) (count : ℕ) (nearest : IsNearestFirst q n m order)
    (are : AreKnown q n ws order ends count) where
  -- all that are nearer to the mode than the next
  pub AreKnown-nearer : count < length order → (k : ℕ) → k < length (compositions q n) →
      atoms_above m (composition_at q n k) < (get_or order count (0, 0)).0 →
      get_or ends k (0, 0) ≡ ends_of_counts ws (composition_at q n k)
  AreKnown-nearer within k inside nearer =
      let s : ℕ = nearest.place k inside in
      let there : (get_or order (nearest.place k inside) (0, 0)).1 ≡ k = nearest.place_is k inside in
      let moves : (get_or order (nearest.place k inside) (0, 0)).0 ≡ atoms_above m (composition_at q n k) =
      nearest.moves (nearest.place k inside) (nearest.place_within k inside)
      ∙ ap (λ (j : ℕ). atoms_above m (composition_at q n j)) there in
      let before : nearest.place k inside < count =
      ⊎_elim
      (λ (h : nearest.place k inside < count). h)
      (λ (h : count ≤ nearest.place k inside).
      absurd (omega (arith, nearest.in_order count (nearest.place k inside) h (nearest.place_within k inside))))
      (cases_lt (nearest.place k inside) count) in
      rw there at (are.known (nearest.place k inside) before)

  pub AreKnown-more : (k : ℕ) (e : ℕ × ℕ) → count < length order → k ≡ (get_or order count (0, 0)).1 →
      e ≡ ends_of_counts ws (composition_at q n k) → AreKnown q n ws order (set ends k e) (count + 1)
  AreKnown-more k e within here is =
      let inside : k < length ends = omega (arith, nearest.within count within, are.one_each) in
      record {
        one_each = length-set ends k e ∙ are.one_each;
        known = λ s before.
            ⊎_elim
            (λ (same : (get_or order s (0, 0)).1 ≡ k). rw same (get_or-set_same ends k e (0, 0) inside ∙ is))
            (λ (other : (get_or order s (0, 0)).1 ≡ k → ⊥).
            let earlier : s < count =
            ⊎_elim
            (λ (h : s < count). h)
            (λ (h : count ≤ s).
            let now : s ≡ count = omega arith in
            absurd (other (ap (λ (t : ℕ). (get_or order t (0, 0)).1) now ∙ sym here)))
            (cases_lt s count) in
            get_or-set_other ends k (get_or order s (0, 0)).1 e (0, 0) other ∙ are.known s earlier)
            (cases_eq (get_or order s (0, 0)).1 k);
      }

  pub AreKnown-all : length order ≤ count → ends ≡ map {B = ℕ × ℕ} (ends_of_counts ws) (compositions q n)
  AreKnown-all all =
      same_lists ends (map {B = ℕ × ℕ} (ends_of_counts ws) (compositions q n))
      (are.one_each ∙ sym (length-map {B = ℕ × ℕ} (compositions q n) (ends_of_counts ws)))
      (λ k d h.
      let inside : k < length (compositions q n) = omega (arith, are.one_each) in
      let there : (get_or order (nearest.place k inside) (0, 0)).1 ≡ k = nearest.place_is k inside in
      let before : nearest.place k inside < count = omega (arith, nearest.place_within k inside) in
      get_or_default ends k d (0, 0) h
      ∙ rw there at (are.known (nearest.place k inside) before)
      ∙ sym (get_or-map {Y = ℕ × ℕ} (ends_of_counts ws) (compositions q n) k [] d inside))
