-- The places of ranked entries: each is that of an entry, and the entries at them stand by rising score.
use Rattle.std.proofs.Common.{◌≡◌, ℕ, ◌+◌, ◌-◌, ◌<◌, ◌≤◌, zero, suc, Bool, true, false, List, [], ◌∷◌, ◌++◌}
use Rattle.std.proofs.Common.{length, take, get_or, map, refl, sym, ap, ◌∙◌, arith, append_assoc}
use Rattle.std.specs.Prelude.{if◌then◌else◌, ⊤}
use Rattle.std.specs.List.{enumerate_from, flat_map}
use Rattle.std.proofs.lemmas.Grind.{flat_map-append}
use Rattle.std.proofs.lemmas.List.{append-nil, get_or-map, length-map, map_push, take_all, take_more}
use Rattle.std.proofs.lemmas.List.FromFn.{get_or-enumerate_from, length-enumerate_from}
use Rattle.sorted_lists.specs.SortedLists.{put_in_order, sorted_by}
use Rattle.ranking.specs.Places.{RankedEntry, by_score, placed_before, places_of, ranking}

-- one more of numbered members
pub numbered_more : {X Y : Type 0} (f : X → Y) (xs : List X) (i : ℕ) (x : X) → i < length xs → x ≡ get_or xs i x
    → take (i + 1) (enumerate_from 1 (map f xs)) ≡ take i (enumerate_from 1 (map f xs)) ++ (i + 1, f x) ∷ []
numbered_more {X} {Y} f xs i x inside is =
    let ys : List Y = map f xs in
    let all : List (ℕ × Y) = enumerate_from 1 ys in
    let number : 1 + i ≡ i + 1 = omega arith in
    let within : i < length ys = omega (arith, inside, length-map xs f) in
    let member : get_or ys i (f x) ≡ f x = get_or-map f xs i x (f x) inside ∙ ap f (sym is) in
    take_more all i (0, f x) (omega (arith, within, length-enumerate_from 1 ys))
    ∙ ap (λ (p : ℕ × Y). take i all ++ p ∷ [])
    (get_or-enumerate_from 1 ys i (0, f x) within ∙ ap (λ (n : ℕ). (n, get_or ys i (f x))) number
    ∙ ap (λ (y : Y). (i + 1, y)) member)

pub numbered_all : {X Y : Type 0} (f : X → Y) (xs : List X) (i : ℕ) → length xs ≤ i
    → take i (enumerate_from 1 (map f xs)) ≡ enumerate_from 1 (map f xs)
numbered_all f xs i long =
    take_all i (enumerate_from 1 (map f xs)) (omega (arith, long, length-map xs f, length-enumerate_from 1 (map f xs)))

-- each member of a list is such
abbrev AreAll : {X : Type 0} → (X → Type 0) → List X → Type 0
AreAll P [] = ⊤
AreAll P (x ∷ xs) = P x × AreAll P xs

-- a numbered member stands at its place behind the first number
abbrev StandsFrom : {X : Type 0} → ℕ → X → List X → ℕ × X → Type 0
StandsFrom k d xs p = (k ≤ p.0) × (p.0 - k < length xs) × (get_or xs (p.0 - k) d ≡ p.1)

stands_later : {X : Type 0} (k : ℕ) (d x : X) (xs : List X) (ps : List (ℕ × X)) → AreAll (StandsFrom (k + 1) d xs) ps
    → AreAll (StandsFrom k d (x ∷ xs)) ps
stands_later k d x xs [] all = tt
stands_later k d x xs (p ∷ ps) all =
    let at = all.0 in
    let place : p.0 - k ≡ suc (p.0 - (k + 1)) = omega (arith, at.0) in (
      (omega (arith, at.0), omega (arith, at.0, at.1), ap (λ (n : ℕ). get_or (x ∷ xs) n d) place ∙ at.2),
      stands_later k d x xs ps all.1,
    )

numbered_stand : {X : Type 0} (k : ℕ) (d : X) (xs : List X) → AreAll (StandsFrom k d xs) (enumerate_from k xs)
numbered_stand k d [] = tt
numbered_stand k d (x ∷ xs) =
    let none : k - k ≡ 0 = omega arith in (
      (omega arith, omega arith, ap (λ (n : ℕ). get_or (x ∷ xs) n d) none),
      stands_later k d x xs (enumerate_from (k + 1) xs) (numbered_stand (k + 1) d xs),
    )

put_either : {X : Type 0} (P : X → Type 0) (m x : X) (xs rest : List X) (b : Bool) → P m → AreAll P (x ∷ xs)
    → AreAll P rest → AreAll P (if b then m ∷ x ∷ xs else x ∷ rest)
put_either P m x xs rest true of_m all put = (of_m, all)
put_either P m x xs rest false of_m all put = (all.0, put)

all_put : {X : Type 0} (P : X → Type 0) (before : X → X → Bool) (m : X) (xs : List X) → P m → AreAll P xs
    → AreAll P (put_in_order before m xs)
all_put P before m [] of_m all = (of_m, tt)
all_put P before m (x ∷ xs) of_m all =
    put_either P m x xs (put_in_order before m xs) (before m x) of_m all (all_put P before m xs of_m all.1)

all_sorted : {X : Type 0} (P : X → Type 0) (before : X → X → Bool) (xs : List X) → AreAll P xs
    → AreAll P (sorted_by before xs)
all_sorted P before [] all = tt
all_sorted P before (x ∷ xs) all =
    all_put P before x (sorted_by before xs) all.0 (all_sorted P before xs all.1)

ranked_stand : (d : RankedEntry) (found : List RankedEntry) → AreAll (StandsFrom 0 d found) (ranking found)
unfolding ranking
ranked_stand d found =
    all_sorted (StandsFrom 0 d found) placed_before (enumerate_from 0 found) (numbered_stand 0 d found)

stands_at : (d : RankedEntry) (found : List RankedEntry) (ps : List (ℕ × RankedEntry)) (i e : ℕ)
    → AreAll (StandsFrom 0 d found) ps → i < length (map (λ (p : ℕ × RankedEntry). p.0) ps)
    → (get_or (map (λ (p : ℕ × RankedEntry). p.0) ps) i e < length found)
    × (get_or found (get_or (map (λ (p : ℕ × RankedEntry). p.0) ps) i e) d
    ≡ get_or (map (λ (p : ℕ × RankedEntry). p.1) ps) i d)
stands_at d found [] i e all inside = absurd (omega (arith, inside))
stands_at d found (p ∷ ps) zero e all inside =
    let at = all.0 in
    let none : p.0 - 0 ≡ p.0 = omega arith in
    (omega (arith, at.1), ap (λ (n : ℕ). get_or found n d) (sym none) ∙ at.2)
stands_at d found (p ∷ ps) (suc i) e all inside = stands_at d found ps i e all.1 (omega (arith, inside))

-- a place is one of an entry, which is the next by score
pub place_in_order : (d : RankedEntry) (found : List RankedEntry) (i e : ℕ) → i < length (places_of found)
    → (get_or (places_of found) i e < length found)
    × (get_or found (get_or (places_of found) i e) d ≡ get_or (by_score found) i d)
unfolding places_of by_score
place_in_order d found i e inside = stands_at d found (ranking found) i e (ranked_stand d found) inside

pub as_many_places : (found : List RankedEntry) → length (places_of found) ≡ length (by_score found)
unfolding places_of by_score
as_many_places found =
    length-map (ranking found) (λ (p : ℕ × RankedEntry). p.0)
    ∙ sym (length-map (ranking found) (λ (p : ℕ × RankedEntry). p.1))

-- the entries so far and the one at the next place
pub ordered_more : {R : Type 0} (now : R → RankedEntry) (found : List RankedEntry) (places : List ℕ) (rs : List R) (r : R)
    (i e : ℕ) → places ≡ places_of found → i < length places
    → now r ≡ get_or found (get_or places i e) (now r) → map now rs ≡ take i (by_score found)
    → map now (rs ++ r ∷ []) ≡ take (i + 1) (by_score found)
ordered_more now found places rs r i e are inside is so_far =
    let within : i < length (places_of found) = omega (arith, inside, ap length are) in
    let at = place_in_order (now r) found i e within in
    let same : now r ≡ get_or (by_score found) i (now r) =
    is ∙ ap (λ (ns : List ℕ). get_or found (get_or ns i e) (now r)) are ∙ at.1 in
    map_push now rs r ∙ ap (λ (l : List RankedEntry). l ++ now r ∷ []) so_far
    ∙ ap (λ (x : RankedEntry). take i (by_score found) ++ x ∷ []) same
    ∙ sym (take_more (by_score found) i (now r) (omega (arith, within, as_many_places found)))

pub ordered_all : (found : List RankedEntry) (places : List ℕ) (i : ℕ) → places ≡ places_of found → length places ≤ i
    → take i (by_score found) ≡ by_score found
ordered_all found places i are long =
    take_all i (by_score found) (omega (arith, long, ap length are, as_many_places found))

-- the line of one more numbered member
pub lines_more : {X : Type 0} (line_of : X → List ℕ) (start before after : List ℕ) (xs more : List X) (x : X)
    → more ≡ xs ++ x ∷ [] → before ≡ start ++ flat_map line_of xs → after ≡ before ++ line_of x
    → after ≡ start ++ flat_map line_of more
lines_more line_of start before after xs more x are so_far now =
    let one : flat_map line_of (x ∷ []) ≡ line_of x = append-nil (line_of x) in
    now ∙ ap (λ (t : List ℕ). t ++ line_of x) so_far
    ∙ append_assoc start (flat_map line_of xs) (line_of x)
    ∙ rw (are, flat_map-append line_of xs (x ∷ []), one) refl
