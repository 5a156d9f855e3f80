-- What is found first among parts of a list.
use Rattle.std.proofs.Common.{◌≡◌, ◌≢◌, ℕ, suc, ◌+◌, ◌-◌, ◌<◌, ◌≤◌, Bool, true, false, cond, not, eqb, ltb, List, []}
use Rattle.std.proofs.Common.{◌∷◌, ◌++◌, map, length, get_or, Some, None, refl, sym, ◌∙◌, ap, arith}
use Rattle.std.specs.Prelude.{find, filter, flat_map, Option}
use Rattle.std.specs.List.{concat, range_with_len}
use Rattle.std.specs.Option.{option_map}
use Rattle.std.proofs.lemmas.Bool.{ne_eqb, eq-eqb, lt-ltb, le-ltb}
use Rattle.std.proofs.lemmas.List.{map-append}
use Rattle.multinomial_bounds.specs.Isotopologue.{Element}
use Rattle.isotopologue_sets.specs.Layers.{hi_of}
use Rattle.isotopologue_neighbours.specs.Moves.{moved, takers, counts_moved}
use Rattle.cover_claims.specs.Claims.{is_left_out}
use Rattle.cover_claims.specs.Surroundings.{with_counts, left_out_among}
use Rattle.cover_claims.proofs.FindLemmas.{some≢none}

find-append-none : {X : Type 0} (p : X → Bool) (xs ys : List X) → find p xs ≡ None → find p (xs ++ ys) ≡ find p ys
find-append-none p [] ys none = refl
find-append-none {X} p (x ∷ xs) ys none =
    let Goal : Bool → Type 0 =
    λ b. cond b (Some x) (find p xs) ≡ None → cond b (Some x) (find p (xs ++ ys)) ≡ find p ys in
    (elim (p x) as Goal [
      | true ↦ λ found. absurd (some≢none x found)
      | false ↦ λ rest. find-append-none p xs ys rest
    ]) none

find-append-some : {X : Type 0} (p : X → Bool) (xs ys : List X) (r : X) → find p xs ≡ Some r →
    find p (xs ++ ys) ≡ Some r
find-append-some p [] ys r some = absurd (some≢none r (sym some))
find-append-some {X} p (x ∷ xs) ys r some =
    let Goal : Bool → Type 0 =
    λ b. cond b (Some x) (find p xs) ≡ Some r → cond b (Some x) (find p (xs ++ ys)) ≡ Some r in
    (elim (p x) as Goal [
      | true ↦ λ found. found
      | false ↦ λ rest. find-append-some p xs ys r rest
    ]) some

-- the same of what is made of the first one found
pub none-of-seen : {X Y : Type 0} (f : X → Y) (o : Option X) → option_map f o ≡ None → o ≡ None
none-of-seen f None none = refl
none-of-seen f (Some x) none = absurd (some≢none (f x) none)

pub seen-append-none : {X Y : Type 0} (f : X → Y) (p : X → Bool) (xs ys : List X) → option_map f (find p xs) ≡ None →
    option_map f (find p (xs ++ ys)) ≡ option_map f (find p ys)
seen-append-none f p xs ys none = ap (option_map f) (find-append-none p xs ys (none-of-seen f (find p xs) none))

pub seen-append-some : {X Y : Type 0} (f : X → Y) (p : X → Bool) (xs ys : List X) (y : Y) →
    option_map f (find p xs) ≡ Some y → option_map f (find p (xs ++ ys)) ≡ Some y
seen-append-some {X} {Y} f p xs ys y some = cases (find p xs) refl some
  where
    cases : (o : Option X) → find p xs ≡ o → option_map f o ≡ Some y → option_map f (find p (xs ++ ys)) ≡ Some y
    cases None is seen = absurd (some≢none y (sym seen))
    cases (Some x) is seen = ap (option_map f) (find-append-some p xs ys x is) ∙ seen

-- the places from one on, by their first
pub places-step : (a n : ℕ) → a < n → range_with_len a (n - a) ≡ a ∷ range_with_len (a + 1) (n - (a + 1))
places-step a n within =
    let e : n - a ≡ suc (n - (a + 1)) = omega arith in
    rw e refl

pub places-end : (a n : ℕ) → n ≤ a → range_with_len a (n - a) ≡ []
places-end a n past =
    let e : n - a ≡ 0 = omega arith in
    rw e refl

pub kept-step : (q : ℕ → Bool) (a n : ℕ) → a < n → q a ≡ true →
    filter q (range_with_len a (n - a)) ≡ a ∷ filter q (range_with_len (a + 1) (n - (a + 1)))
kept-step q a n within is = rw (places-step a n within, is) refl

pub dropped-step : (q : ℕ → Bool) (a n : ℕ) → a < n → q a ≡ false →
    filter q (range_with_len a (n - a)) ≡ filter q (range_with_len (a + 1) (n - (a + 1)))
dropped-step q a n within is = rw (places-step a n within, is) refl

-- isotopologues left out, among choices of one element's counts
module _ (es : List Element) (t : ℕ) (members : List (List (List ℕ))) (i : List (List ℕ)) (k : ℕ) where
  abbrev among : List (List ℕ) → Option (List ℕ × ℕ)
  among choices = left_out_among es t members i k choices

  pub among-none : (xs ys : List (List ℕ)) → among xs ≡ None → among (xs ++ ys) ≡ among ys
  among-none xs ys none =
      rw (map-append (with_counts i k) xs ys)
      (seen-append-none (λ j. (concat j, hi_of es j)) (is_left_out es t members) (map (with_counts i k) xs)
      (map (with_counts i k) ys) none)

  pub among-some : (xs ys : List (List ℕ)) (r : List ℕ × ℕ) → among xs ≡ Some r → among (xs ++ ys) ≡ Some r
  among-some xs ys r some =
      rw (map-append (with_counts i k) xs ys)
      (seen-append-some (λ j. (concat j, hi_of es j)) (is_left_out es t members) (map (with_counts i k) xs)
      (map (with_counts i k) ys) r some)

  -- the moves of an atom of one isotope
  module _ (own : List ℕ) (g : ℕ) where
    abbrev other : ℕ → Bool
    other j = not (eqb j g)

    abbrev pub takers_from : ℕ → List ℕ
    takers_from a = filter other (range_with_len a (length own - a))

    pub taker-none : (a : ℕ) → a < length own → a ≢ g →
        ◌≡◌ {A = Option (List ℕ × ℕ)} None (among (moved own g a ∷ [])) →
        among (map (moved own g) (takers_from a)) ≡ among (map (moved own g) (takers_from (a + 1)))
    taker-none a within apart none =
        let passes : other a ≡ true = ap not (ne_eqb a g apart) in
        rw (kept-step other a (length own) within passes)
        (among-none (moved own g a ∷ []) (map (moved own g) (takers_from (a + 1))) (sym none))

    pub taker-some : (a : ℕ) (r : List ℕ × ℕ) → a < length own → a ≢ g →
        ◌≡◌ {A = Option (List ℕ × ℕ)} (Some r) (among (moved own g a ∷ [])) →
        among (map (moved own g) (takers_from a)) ≡ Some r
    taker-some a r within apart some =
        let passes : other a ≡ true = ap not (ne_eqb a g apart) in
        rw (kept-step other a (length own) within passes)
        (among-some (moved own g a ∷ []) (map (moved own g) (takers_from (a + 1))) r (sym some))

    pub taker-skip : (a : ℕ) → a < length own → a ≡ g →
        among (map (moved own g) (takers_from a)) ≡ among (map (moved own g) (takers_from (a + 1)))
    taker-skip a within same =
        let fails : other a ≡ false = ap not (eq-eqb a g same) in
        ap (λ xs. among (map (moved own g) xs)) (dropped-step other a (length own) within fails)

    pub taker-end : (a : ℕ) → length own ≤ a → among (map (moved own g) (takers_from a)) ≡ None
    taker-end a past = rw (places-end a (length own) past) refl

  -- the moves of an atom of any isotope
  module _ (own : List ℕ) where
    abbrev has_atom : ℕ → Bool
    has_atom j = ltb 0 (get_or own j 0)

    abbrev moves : ℕ → List (List ℕ)
    moves g = map (moved own g) (takers own g)

    abbrev pub moves_from : ℕ → List (List ℕ)
    moves_from a = flat_map moves (filter has_atom (range_with_len a (length own - a)))

    pub moves-all : counts_moved own ≡ moves_from 0
    unfolding counts_moved
    moves-all =
        let e : length own - 0 ≡ length own = omega arith in
        rw e refl

    pub giver-none : (a : ℕ) → a < length own → 0 < get_or own a 0 →
        ◌≡◌ {A = Option (List ℕ × ℕ)} None (among (moves a)) → among (moves_from a) ≡ among (moves_from (a + 1))
    giver-none a within some none =
        rw (kept-step has_atom a (length own) within (lt-ltb 0 (get_or own a 0) some))
        (among-none (moves a) (moves_from (a + 1)) (sym none))

    pub giver-some : (a : ℕ) (r : List ℕ × ℕ) → a < length own → 0 < get_or own a 0 →
        ◌≡◌ {A = Option (List ℕ × ℕ)} (Some r) (among (moves a)) → among (moves_from a) ≡ Some r
    giver-some a r within some found =
        rw (kept-step has_atom a (length own) within (lt-ltb 0 (get_or own a 0) some))
        (among-some (moves a) (moves_from (a + 1)) r (sym found))

    pub giver-skip : (a : ℕ) → a < length own → get_or own a 0 ≤ 0 → among (moves_from a) ≡ among (moves_from (a + 1))
    giver-skip a within none =
        ap (λ xs. among (flat_map moves xs)) (dropped-step has_atom a (length own) within (le-ltb 0 (get_or own a 0) none))

    pub giver-end : (a : ℕ) → length own ≤ a → among (moves_from a) ≡ None
    giver-end a past = rw (places-end a (length own) past) refl
