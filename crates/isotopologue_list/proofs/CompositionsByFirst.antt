-- Compositions by their first counts.
use Rattle.std.proofs.Common.{◌≡◌, ℕ, zero, suc, ◌+◌, ◌-◌, ◌<◌, ◌≤◌, length, take, set, length-set, List, [], ◌∷◌, ◌++◌}
use Rattle.std.proofs.Common.{map, refl, sym, ◌∙◌, ap, arith, append_assoc, false, eqb}
use Rattle.std.specs.Prelude.{flat_map}
use Rattle.std.proofs.lemmas.List.{append-nil, take_all, take_more_set, take-set, take-take}
use Rattle.std.specs.List.{range_with_len}
use Rattle.multinomial_bounds.specs.Compositions.{compositions}
use Rattle.isotopologue_list.proofs.FlatLemmas.{flat_map_map, flat_map_append, flat_map_same, flat_map_range_more}

-- the compositions that begin with one of the first so many counts
abbrev pub beginning_below : ℕ → ℕ → ℕ → List (List ℕ)
beginning_below q n k = flat_map (λ first. map (λ rest. first ∷ rest) (compositions q (n - first))) (range_with_len 0 k)

pub compositions_suc : (q n : ℕ) → compositions (suc q) n ≡ beginning_below q n (n + 1)
unfolding compositions
compositions_suc q n = refl

-- one first count more, behind counts that stand before
pub beginning_below_more : (front : List ℕ) (q n k : ℕ) →
    flat_map (λ rest. front ++ rest) (beginning_below q n (k + 1))
    ≡ flat_map (λ rest. front ++ rest) (beginning_below q n k)
    ++ flat_map (λ rest. (front ++ k ∷ []) ++ rest) (compositions q (n - k))
beginning_below_more front q n k =
    let whole = flat_map_range_more (λ first. map (λ rest. first ∷ rest) (compositions q (n - first))) k in
    ap (flat_map (λ rest. front ++ rest)) whole
    ∙ flat_map_append (λ rest. front ++ rest) (beginning_below q n k) (map (λ rest. k ∷ rest) (compositions q (n - k)))
    ∙ ap (λ zs. flat_map (λ rest. front ++ rest) (beginning_below q n k) ++ zs)
    (flat_map_map (λ rest. front ++ rest) (λ rest. k ∷ rest) (compositions q (n - k))
    ∙ flat_map_same (λ rest. front ++ (k ∷ rest)) (λ rest. (front ++ k ∷ []) ++ rest)
    (λ rest. sym (append_assoc front (k ∷ []) rest)) (compositions q (n - k)))

-- one isotope has all atoms
no_atom_left : ℕ → ℕ → List (List ℕ)
no_atom_left n first = map (λ rest. first ∷ rest) (compositions 0 (n - first))

not_yet : (n k : ℕ) → suc k ≤ n → no_atom_left n k ≡ []
unfolding no_atom_left compositions
not_yet n k h =
    let some : eqb (n - k) 0 ≡ false = grind arith in
    rw some refl

all_at_last : (n : ℕ) → no_atom_left n n ≡ (n ∷ []) ∷ []
unfolding no_atom_left compositions
all_at_last n = let none : n - n ≡ 0 = omega arith in rw none refl

none_before : (n k : ℕ) → k ≤ n → flat_map (no_atom_left n) (range_with_len 0 k) ≡ []
none_before n zero h = refl
none_before n (suc k) h =
    ap (λ (j : ℕ). flat_map (no_atom_left n) (range_with_len 0 j)) (let e : suc k ≡ k + 1 = omega arith in e)
    ∙ flat_map_range_more (no_atom_left n) k
    ∙ ap (λ zs. zs ++ no_atom_left n k) (none_before n k (omega arith))
    ∙ not_yet n k h

pub compositions_one : (n : ℕ) → compositions 1 n ≡ (n ∷ []) ∷ []
unfolding no_atom_left
compositions_one n =
    compositions_suc 0 n
    ∙ flat_map_range_more (no_atom_left n) n
    ∙ ap (λ zs. zs ++ no_atom_left n n) (none_before n n (omega arith))
    ∙ all_at_last n

-- the last place takes all atoms that are left
pub last_place : (counts : List ℕ) (place n : ℕ) → place + 1 ≡ length counts →
    flat_map (λ rest. take place counts ++ rest) (compositions (length counts - place) n) ≡ set counts place n
last_place counts place n last =
    let one : length counts - place ≡ 1 = omega arith in
    let within : place < length counts = omega arith in
    let whole : length (set counts place n) ≤ place + 1 = simp length-set (omega arith) in
    rw (one, compositions_one)
    (append-nil (take place counts ++ n ∷ [])
    ∙ sym (take_more_set counts place n within)
    ∙ take_all (place + 1) (set counts place n) whole)

-- one first count more at a place
pub next_first : (old start counts rows more : List ℕ) (place n first : ℕ) →
    place < length start → length counts ≡ length start → take place counts ≡ take place start →
    rows ≡ old ++ flat_map (λ rest. take place start ++ rest) (beginning_below (length start - (place + 1)) n first) →
    more ≡ rows ++ flat_map (λ rest. take (place + 1) (set counts place first) ++ rest)
    (compositions (length (set counts place first) - (place + 1)) (n - first)) →
    more ≡ old ++ flat_map (λ rest. take place start ++ rest) (beginning_below (length start - (place + 1)) n (first + 1))
next_first old start counts rows more place n first within same front before appended =
    let inside : place < length counts = omega arith in
    let places : length (set counts place first) ≡ length start = length-set counts place first ∙ same in
    let row : take (place + 1) (set counts place first) ≡ take place start ++ first ∷ [] =
    take_more_set counts place first inside ∙ ap (λ xs. xs ++ first ∷ []) front in
    let now = rw (row, places, before) at appended in
    now
    ∙ append_assoc old _ _
    ∙ ap (λ xs. old ++ xs) (sym (beginning_below_more (take place start) (length start - (place + 1)) n first))

pub all_first : (places place n first : ℕ) → place < places → n ≡ first →
    beginning_below (places - (place + 1)) n (first + 1) ≡ compositions (places - place) n
all_first places place n first within last =
    let q : places - place ≡ suc (places - (place + 1)) = omega arith in
    rw (q, ← last) (sym (compositions_suc (places - (place + 1)) n))

-- what stands before a place stays
pub same_front : (start counts new : List ℕ) (place first : ℕ) → take place counts ≡ take place start →
    take (place + 1) new ≡ take (place + 1) (set counts place first) → take place new ≡ take place start
same_front start counts new place first front kept =
    sym (take-take place (place + 1) new (omega arith))
    ∙ ap (take place) kept
    ∙ take-take place (place + 1) (set counts place first) (omega arith)
    ∙ take-set counts place first
    ∙ front
