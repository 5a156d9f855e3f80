-- The choices after given places, as a filter of all: those that come after them in lexicographic order. And what is
-- next of the last lists is next of all of them.
use Rattle.std.proofs.Common.{◌≡◌, ℕ, zero, suc, ◌+◌, ◌-◌, ◌<◌, ◌≤◌, Bool, true, false, cond, ltb, List, [], ◌∷◌, ◌++◌}
use Rattle.std.proofs.Common.{map, length, get_or, take, drop, fold, refl, sym, ◌∙◌, ap, arith, ⊎_elim, append_assoc}
use Rattle.std.specs.Prelude.{flat_map, filter}
use Rattle.std.specs.List.{range_with_len}
use Rattle.std.specs.Ordering.{nat_cmp, is_lt}
use Rattle.std.specs.Cmp.Lexicographic.{slice_cmp}
use Rattle.std.proofs.lemmas.Bool.{cases_Bool, lt-ltb, le-ltb, eq-eqb, ne_eqb}
use Rattle.std.proofs.lemmas.List.Elements.{filter-append}
use Rattle.std.proofs.lemmas.List.Concat.{flat_map-append}
use Rattle.std.proofs.Math.Seq.{drop-cons, take-suc}
use Rattle.multinomial_bounds.specs.Compositions.{choices}
use Rattle.layered_envelope.specs.ChosenPlaces.{bounds_at, ArePlaces, above, above_from, above_after}

-- one range after another
pub range_split : (a m n : ℕ) → range_with_len a (m + n) ≡ range_with_len a m ++ range_with_len (a + m) n
range_split a zero n =
    let e : 0 + n ≡ n = omega arith in
    let s : a + 0 ≡ a = omega arith in
    rw (e, s) refl
range_split a (suc m) n =
    let e : suc m + n ≡ suc (m + n) = omega arith in
    let s : a + 1 + m ≡ a + suc m = omega arith in
    rw e (ap (λ xs. a ∷ xs) (range_split (a + 1) m n
    ∙ ap (λ (k : ℕ). range_with_len (a + 1) m ++ range_with_len k n) s))

-- whether places come after others in lexicographic order
abbrev pub after : List ℕ → List ℕ → Bool
after given places = is_lt (slice_cmp nat_cmp given places)

after_below : (c d : ℕ) (cs ds : List ℕ) → d < c → after (c ∷ cs) (d ∷ ds) ≡ false
after_below c d cs ds h = rw (le-ltb c d (omega arith), ne_eqb c d (omega arith)) refl

after_above : (c d : ℕ) (cs ds : List ℕ) → c < d → after (c ∷ cs) (d ∷ ds) ≡ true
after_above c d cs ds h = rw (lt-ltb c d h) refl

after_same : (c : ℕ) (cs ds : List ℕ) → after (c ∷ cs) (c ∷ ds) ≡ after cs ds
after_same c cs ds = rw (le-ltb c c (omega arith), eq-eqb c c refl) refl

filter_map_true : {X Y : Type 0} (p : Y → Bool) (g : X → Y) (xs : List X) → ((x : X) → p (g x) ≡ true) →
    filter p (map g xs) ≡ map g xs
filter_map_true p g [] all = refl
filter_map_true p g (x ∷ xs) all = rw (all x) (ap (λ ys. g x ∷ ys) (filter_map_true p g xs all))

filter_map_false : {X Y : Type 0} (p : Y → Bool) (g : X → Y) (xs : List X) → ((x : X) → p (g x) ≡ false) →
    filter p (map g xs) ≡ []
filter_map_false p g [] none = refl
filter_map_false p g (x ∷ xs) none = rw (none x) (filter_map_false p g xs none)

pub filter_map_by : {X Y : Type 0} (p : Y → Bool) (q : X → Bool) (g : X → Y) (xs : List X) → ((x : X) → p (g x) ≡ q x) →
    filter p (map g xs) ≡ map g (filter q xs)
filter_map_by p q g [] same = refl
filter_map_by p q g (x ∷ xs) same =
    ⊎_elim
    (λ (t : q x ≡ true). rw (same x, t) (ap (λ ys. g x ∷ ys) (filter_map_by p q g xs same)))
    (λ (t : q x ≡ false). rw (same x, t) (filter_map_by p q g xs same))
    (cases_Bool (q x))

-- a filter that keeps none, or all, of the choices with these first places
earlier_none : (given : List ℕ) (p a n : ℕ) (g : ℕ → List (List ℕ)) → a + n ≤ p →
    filter (after (p ∷ given)) (flat_map (λ q. map (λ more. q ∷ more) (g q)) (range_with_len a n)) ≡ []
earlier_none given p a zero g before = refl
earlier_none given p a (suc n) g before =
    filter-append (after (p ∷ given)) (map (λ more. a ∷ more) (g a)) _
    ∙ rw
    (filter_map_false (after (p ∷ given)) (λ more. a ∷ more) (g a) (λ more. after_below p a given more (omega arith)))
    (earlier_none given p (a + 1) n g (omega arith))

later_all : (given : List ℕ) (p a n : ℕ) (g : ℕ → List (List ℕ)) → p < a →
    filter (after (p ∷ given)) (flat_map (λ q. map (λ more. q ∷ more) (g q)) (range_with_len a n))
    ≡ flat_map (λ q. map (λ more. q ∷ more) (g q)) (range_with_len a n)
later_all given p a zero g later = refl
later_all given p a (suc n) g later =
    filter-append (after (p ∷ given)) (map (λ more. a ∷ more) (g a)) _
    ∙ ap (λ xs. xs ++ filter (after (p ∷ given))
    (flat_map (λ q. map (λ more. q ∷ more) (g q)) (range_with_len (a + 1) n)))
    (filter_map_true (after (p ∷ given)) (λ more. a ∷ more) (g a) (λ more. after_above p a given more later))
    ∙ ap (λ xs. map (λ more. a ∷ more) (g a) ++ xs) (later_all given p (a + 1) n g (omega arith))

filter_flat_map : {X Y : Type 0} (p : Y → Bool) (g : X → List Y) (xs : List X) →
    filter p (flat_map g xs) ≡ flat_map (λ x. filter p (g x)) xs
filter_flat_map p g [] = refl
filter_flat_map p g (x ∷ xs) =
    filter-append p (g x) (flat_map g xs) ∙ ap (λ ys. filter p (g x) ++ ys) (filter_flat_map p g xs)

pub flat_map_agree : {X Y : Type 0} (g h : X → List Y) (xs : List X) →
    ((x : X) → g x ≡ h x) → flat_map g xs ≡ flat_map h xs
flat_map_agree g h [] same = refl
flat_map_agree g h (x ∷ xs) same = ap (λ ys. ys ++ flat_map g xs) (same x)
    ∙ ap (λ ys. h x ++ ys) (flat_map_agree g h xs same)

module _ (f : ℕ → ℕ → ℕ) (t : ℕ) where
  -- the choices after given places are those that come after them
  pub above_after-filter : (ls : List (List ℕ)) (x : ℕ) (given : List ℕ) → ArePlaces ls given →
      above_after f t x ls given ≡ filter (after given) (above f t x ls)
  above_after-filter [] x [] are =
      elim (ltb t x) as (λ b. [] ≡ filter (after []) (cond b ([] ∷ []) [])) [ true ↦ refl | false ↦ refl ]
  above_after-filter [] x (p ∷ given) are = absurd are
  above_after-filter (l ∷ ls) x [] are = absurd are
  above_after-filter (l ∷ ls) x (p ∷ given) are =
      let each : ℕ → List (List ℕ) = λ q. above f t (f x (get_or l q 0)) ls in
      let tagged : ℕ → List (List ℕ) = λ q. map (λ more. q ∷ more) (each q) in
      let n : length l ≡ p + suc (length l - (p + 1)) = omega (arith, are.0) in
      let split : above f t x (l ∷ ls) ≡ flat_map tagged (range_with_len 0 p) ++
      (tagged p ++ above_from f t x l ls (p + 1)) =
      ap (λ (k : ℕ). flat_map tagged (range_with_len 0 k)) n
      ∙ ap (flat_map tagged) (range_split 0 p (suc (length l - (p + 1))))
      ∙ flat_map-append tagged (range_with_len 0 p) (range_with_len (0 + p) (suc (length l - (p + 1))))
      ∙ ap (λ (k : ℕ). flat_map tagged (range_with_len 0 p) ++ flat_map tagged
      (range_with_len k (suc (length l - (p + 1)))))
      (let z : 0 + p ≡ p = omega arith in z) in
      sym
      (ap (filter (after (p ∷ given))) split
      ∙ filter-append (after (p ∷ given)) (flat_map tagged (range_with_len 0 p))
      (tagged p ++ above_from f t x l ls (p + 1))
      ∙ ap (λ xs. xs ++ filter (after (p ∷ given)) (tagged p ++ above_from f t x l ls (p + 1)))
      (earlier_none given p 0 p each (omega arith))
      ∙ filter-append (after (p ∷ given)) (tagged p) (above_from f t x l ls (p + 1))
      ∙ ap (λ xs. xs ++ filter (after (p ∷ given)) (above_from f t x l ls (p + 1)))
      (filter_map_by (after (p ∷ given)) (after given) (λ more. p ∷ more) (each p) (λ more. after_same p given more)
      ∙ ap (map (λ more. p ∷ more)) (sym (above_after-filter ls (f x (get_or l p 0)) given are.1)))
      ∙ ap (λ xs. map (λ more. p ∷ more) (above_after f t (f x (get_or l p 0)) ls given) ++ xs)
      (later_all given p (p + 1) (length l - (p + 1)) each (omega arith)))

  -- the choices above the threshold are those of all choices whose product is
  pub above-filter : (ls : List (List ℕ)) (x : ℕ) →
      above f t x ls
      ≡ filter (λ ps. ltb t (fold f x (bounds_at ls ps))) (choices (map (λ l. range_with_len 0 (length l)) ls))
  unfolding choices
  above-filter [] x = refl
  above-filter (l ∷ ls) x =
      let others = choices (map (λ l. range_with_len 0 (length l)) ls) in
      sym
      (filter_flat_map (λ ps. ltb t (fold f x (bounds_at (l ∷ ls) ps))) (λ p. map (λ more. p ∷ more) others)
      (range_with_len 0 (length l))
      ∙ flat_map_agree _ _ (range_with_len 0 (length l))
      (λ p.
      filter_map_by (λ ps. ltb t (fold f x (bounds_at (l ∷ ls) ps)))
      (λ ps. ltb t (fold f (f x (get_or l p 0)) (bounds_at ls ps)))
      (λ more. p ∷ more) others (λ more. refl)
      ∙ ap (map (λ more. p ∷ more)) (sym (above-filter ls (f x (get_or l p 0))))))

  -- what comes next of the last lists comes next of all of them
  carried : (l : List ℕ) (ls : List (List ℕ)) (x p : ℕ) (ps s : List ℕ) →
      above_after f t (f x (get_or l p 0)) ls ps ≡ s ∷ above_after f t (f x (get_or l p 0)) ls s →
      above_after f t x (l ∷ ls) (p ∷ ps) ≡ (p ∷ s) ∷ above_after f t x (l ∷ ls) (p ∷ s)
  carried l ls x p ps s next = ap (λ cs. map (λ more. p ∷ more) cs ++ above_from f t x l ls (p + 1)) next

  module _ (ls : List (List ℕ)) (ps : List ℕ) (X : ℕ → ℕ) (all : length ls ≡ length ps)
      (steps : (i : ℕ) → i + 1 < length ps → X (i + 1) ≡ f (X i) (get_or (get_or ls i []) (get_or ps i 0) 0)) where
    lists_split : (k : ℕ) → k < length ps → drop k ls ≡ get_or ls k [] ∷ drop (suc k) ls
    lists_split k within = drop-cons ls k [] (omega (arith, all))

    places_split : (k : ℕ) → k < length ps → drop k ps ≡ get_or ps k 0 ∷ drop (suc k) ps
    places_split k within = drop-cons ps k 0 within

    pub carried_to_all : (k : ℕ) (s : List ℕ) → k < length ps →
        above_after f t (X k) (drop k ls) (drop k ps) ≡ s ∷ above_after f t (X k) (drop k ls) s →
        above_after f t (X 0) ls ps ≡ (take k ps ++ s) ∷ above_after f t (X 0) ls (take k ps ++ s)
    carried_to_all zero s within next = next
    carried_to_all (suc k) s within next =
        let one : suc k ≡ k + 1 = omega arith in
        let here : X (suc k) ≡ f (X k) (get_or (get_or ls k []) (get_or ps k 0) 0) =
        ap X one ∙ steps k (omega arith) in
        let moved : above_after f t (f (X k) (get_or (get_or ls k []) (get_or ps k 0) 0)) (drop (suc k) ls)
        (drop (suc k) ps)
        ≡ s ∷ above_after f t (f (X k) (get_or (get_or ls k []) (get_or ps k 0) 0)) (drop (suc k) ls) s =
        rw here at next in
        let up : above_after f t (X k) (drop k ls) (drop k ps)
        ≡ (get_or ps k 0 ∷ s) ∷ above_after f t (X k) (drop k ls) (get_or ps k 0 ∷ s) =
        rw (lists_split k (omega arith), places_split k (omega arith))
        (carried (get_or ls k []) (drop (suc k) ls) (X k) (get_or ps k 0) (drop (suc k) ps) s moved) in
        let joined : take k ps ++ (get_or ps k 0 ∷ s) ≡ take (suc k) ps ++ s =
        sym (append_assoc (take k ps) (get_or ps k 0 ∷ []) s)
        ∙ ap (λ xs. xs ++ s) (sym (take-suc ps k 0 (omega arith))) in
        rw (← joined) (carried_to_all k (get_or ps k 0 ∷ s) (omega arith) up)
