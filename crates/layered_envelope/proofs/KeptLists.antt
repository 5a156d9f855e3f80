-- Lists that are kept only as far as a threshold needs them have the same choices above it as the whole lists.
use Rattle.std.proofs.Common.{◌≡◌, ℕ, zero, suc, ◌+◌, ◌-◌, ◌<◌, ◌≤◌, true, false, cond, ltb, List, [], ◌∷◌, ◌++◌, map}
use Rattle.std.proofs.Common.{length, get_or, take, drop, fold, refl, sym, ◌∙◌, ap, arith, length-append, All}
use Rattle.std.specs.Prelude.{flat_map}
use Rattle.std.specs.List.{range_with_len}
use Rattle.std.proofs.lemmas.List.{append-nil, length-map}
use Rattle.std.proofs.lemmas.List.Concat.{flat_map-append}
use Rattle.std.proofs.lemmas.List.Elements.{All-nil, All-cons, All-map, All-weaker}
use Rattle.multinomial_bounds.proofs.CompositionLemmas.{All-flat_map, All-range}
use Rattle.layered_envelope.specs.ChosenPlaces.{bounds_at, ArePlaces, firsts, AllFall, above}
use Rattle.layered_envelope.proofs.NextChoice.{fold-rises, none_above, first_above, flat_map_none}
use Rattle.layered_envelope.proofs.ChoicesInOrder.{range_split}

flat_map_range_agree : {Y : Type 0} (g h : ℕ → List Y) (a n : ℕ) → ((k : ℕ) → a ≤ k → k < a + n → g k ≡ h k) →
    flat_map g (range_with_len a n) ≡ flat_map h (range_with_len a n)
flat_map_range_agree g h a zero same = refl
flat_map_range_agree g h a (suc n) same =
    ap (λ ys. ys ++ flat_map g (range_with_len (a + 1) n)) (same a (omega arith) (omega arith))
    ∙ ap (λ ys. h a ++ ys) (flat_map_range_agree g h (a + 1) n (λ k from to. same k (omega arith) (omega arith)))

-- the least length of lists that each have something, one after another
length_at_least : {Y : Type 0} (g : ℕ → List Y) (a n m : ℕ) → m ≤ n → ((k : ℕ) → a ≤ k → k < a + m → 1 ≤ length (g k)) →
    m ≤ length (flat_map g (range_with_len a n))
length_at_least g a n zero le some = omega arith
length_at_least g a zero (suc m) le some = absurd (omega arith)
length_at_least g a (suc n) (suc m) le some =
    omega (
      arith,
      length-append (g a) (flat_map g (range_with_len (a + 1) n)),
      some a (omega arith) (omega arith),
      length_at_least g (a + 1) n m (omega arith) (λ k from to. some k (omega arith) (omega arith)),
    )

module _ (f : ℕ → ℕ → ℕ) (t : ℕ) where
  -- The kept part of each list, with the product of the first bounds before it: all that is left out is not above the
  -- threshold, even with the first bounds of the others.
  pub record IsKept (before : ℕ) (kept list : List ℕ) (lists : List (List ℕ)) : Type 0 where
    pub some : 0 < length kept
    pub few : length kept ≤ length list
    pub front : (p : ℕ) → p < length kept → get_or kept p 0 ≡ get_or list p 0
    pub left_out : (p : ℕ) → length kept ≤ p → p < length list → fold f (f before (get_or list p 0)) (firsts lists) ≤ t

  abbrev pub AreKept : ℕ → List (List ℕ) → List (List ℕ) → Type 0
  AreKept before [] [] = Unit {0}
  AreKept before [] (list ∷ lists) = ⊥
  AreKept before (kept ∷ more) [] = ⊥
  AreKept before (kept ∷ more) (list ∷ lists) =
      IsKept before kept list lists × AreKept (f before (get_or list 0 0)) more lists

  module _ (rises : (x y a b : ℕ) → x ≤ y → a ≤ b → f x a ≤ f y b) where
    pub above-kept : (kept lists : List (List ℕ)) (before x : ℕ) → AreKept before kept lists → AllFall lists →
        x ≤ before →
        above f t x kept ≡ above f t x lists
    above-kept [] [] before x are fall le = refl
    above-kept [] (l ∷ ls) before x are fall le = absurd are
    above-kept (k ∷ ks) [] before x are fall le = absurd are
    above-kept (k ∷ ks) (l ∷ ls) before x are fall le =
        let n : length l ≡ length k + (length l - length k) = omega (arith, are.0.few) in
        let g : ℕ → List (List ℕ) = λ p. map (λ more. p ∷ more) (above f t (f x (get_or k p 0)) ks) in
        let h : ℕ → List (List ℕ) = λ p. map (λ more. p ∷ more) (above f t (f x (get_or l p 0)) ls) in
        let same : (p : ℕ) → 0 ≤ p → p < 0 + length k → g p ≡ h p =
        λ p from to.
        let bound : get_or k p 0 ≡ get_or l p 0 = are.0.front p (omega arith) in
        let lower : f x (get_or l p 0) ≤ f before (get_or l 0 0) =
        rises x before (get_or l p 0) (get_or l 0 0) le (fall.0.falls 0 p from (omega (arith, are.0.few))) in
        ap (λ (b : ℕ). map (λ more. p ∷ more) (above f t (f x b) ks)) bound
        ∙ ap (map (λ more. p ∷ more))
        (above-kept ks ls (f before (get_or l 0 0)) (f x (get_or l p 0)) are.1 fall.1 lower)
        in
        let none : (p : ℕ) → 0 + length k ≤ p → p < 0 + length k + (length l - length k) → h p ≡ [] =
        λ p from to.
        let lower : fold f (f x (get_or l p 0)) (firsts ls) ≤ fold f (f before (get_or l p 0)) (firsts ls) =
        fold-rises f rises (f x (get_or l p 0)) (f before (get_or l p 0)) (firsts ls)
        (rises x before (get_or l p 0) (get_or l p 0) le (omega arith)) in
        let out = are.0.left_out p (omega arith) (omega arith) in
        rw (none_above f rises t ls (f x (get_or l p 0)) fall.1 (omega arith)) refl
        in
        flat_map_range_agree g h 0 (length k) same
        ∙ sym (append-nil (flat_map h (range_with_len 0 (length k))))
        ∙ ap (λ ys. flat_map h (range_with_len 0 (length k)) ++ ys)
        (sym (flat_map_none (0 + length k) (length l - length k) h none))
        ∙ sym (flat_map-append h (range_with_len 0 (length k)) (range_with_len (0 + length k) (length l - length k)))
        ∙ ap (flat_map h) (sym (range_split 0 (length k) (length l - length k)))
        ∙ ap (λ (m : ℕ). flat_map h (range_with_len 0 m)) (sym n)

    pub firsts-kept : (kept lists : List (List ℕ)) (before : ℕ) → AreKept before kept lists → firsts kept ≡ firsts lists
    firsts-kept [] [] before are = refl
    firsts-kept [] (l ∷ ls) before are = absurd are
    firsts-kept (k ∷ ks) [] before are = absurd are
    firsts-kept (k ∷ ks) (l ∷ ls) before are =
        ap (λ (b : ℕ). b ∷ firsts ks) (are.0.front 0 are.0.some)
        ∙ ap (λ bs. get_or l 0 0 ∷ bs) (firsts-kept ks ls (f before (get_or l 0 0)) are.1)

    pub AllFall-kept : (kept lists : List (List ℕ)) (before : ℕ) → AreKept before kept lists → AllFall lists →
        AllFall kept
    AllFall-kept [] [] before are fall = tt
    AllFall-kept [] (l ∷ ls) before are fall = absurd are
    AllFall-kept (k ∷ ks) [] before are fall = absurd are
    AllFall-kept (k ∷ ks) (l ∷ ls) before are fall = (
      record {
        some = are.0.some;
        falls = λ i j le within.
            rw (are.0.front i (omega arith), are.0.front j within)
            (fall.0.falls i j le (omega (arith, are.0.few)));
      },
      AllFall-kept ks ls (f before (get_or l 0 0)) are.1 fall.1,
    )

    -- the choices above have a place of each kept list
    pub ArePlaces-above : (lists : List (List ℕ)) (x : ℕ) → All (ArePlaces lists) (above f t x lists)
    ArePlaces-above [] x =
        elim (ltb t x) as (λ b. All (ArePlaces []) (cond b ([] ∷ []) [])) [
          | true ↦ All-cons (ArePlaces []) [] [] tt (All-nil (ArePlaces []))
          | false ↦ All-nil (ArePlaces [])
        ]
    ArePlaces-above (l ∷ ls) x =
        All-flat_map (ArePlaces (l ∷ ls)) (λ p. map (λ more. p ∷ more) (above f t (f x (get_or l p 0)) ls))
        (range_with_len 0 (length l))
        (All-range
        (λ p. All (ArePlaces (l ∷ ls)) (map (λ more. p ∷ more) (above f t (f x (get_or l p 0)) ls)))
        (length l)
        (λ p within.
        All-map (ArePlaces (l ∷ ls)) (λ more. p ∷ more) (above f t (f x (get_or l p 0)) ls)
        (All-weaker (ArePlaces ls) (λ more. ArePlaces (l ∷ ls) (p ∷ more)) (λ more are. (within, are))
        (above f t (f x (get_or l p 0)) ls) (ArePlaces-above ls (f x (get_or l p 0))))))

    -- So many items of one list that are above it with the first bounds of the others: as many choices are above it.
    pub as_many_above : (ls : List (List ℕ)) (x e m : ℕ) → AllFall ls → e < length ls → m ≤ length (get_or ls e []) →
        ((p : ℕ) → p < m →
        t < fold f (f (fold f x (firsts (take e ls))) (get_or (get_or ls e []) p 0)) (firsts (drop (suc e) ls))) →
        m ≤ length (above f t x ls)
    as_many_above [] x e m fall within few over = absurd (omega arith)
    as_many_above (l ∷ ls) x zero m fall within few over =
        length_at_least (λ p. map (λ more. p ∷ more) (above f t (f x (get_or l p 0)) ls)) 0 (length l) m few
        (λ p from to.
        rw (first_above f rises t ls (f x (get_or l p 0)) fall.1 (over p (omega arith))) (omega arith))
    as_many_above (l ∷ ls) x (suc e) m fall within few over =
        let rest : m ≤ length (above f t (f x (get_or l 0 0)) ls) =
        as_many_above ls (f x (get_or l 0 0)) e m fall.1 (omega arith) few over in
        let g : ℕ → List (List ℕ) = λ p. map (λ more. p ∷ more) (above f t (f x (get_or l p 0)) ls) in
        let n : length l ≡ suc (length l - 1) = omega (arith, fall.0.some) in
        let split : length (flat_map g (range_with_len 0 (length l)))
        ≡ length (flat_map g (range_with_len 0 (suc (length l - 1)))) =
        ap (λ (k : ℕ). length (flat_map g (range_with_len 0 k))) n in
        omega (
          arith,
          split,
          length-append (g 0) (flat_map g (range_with_len 1 (length l - 1))),
          length-map (above f t (f x (get_or l 0 0)) ls) (λ more. 0 ∷ more),
        )

-- bounds at places of the kept lists are those of the whole ones
pub bounds_at-front : (kept lists : List (List ℕ)) (places : List ℕ) → ArePlaces kept places →
    ((e p : ℕ) → p < length (get_or kept e []) → get_or (get_or kept e []) p 0 ≡ get_or (get_or lists e []) p 0) →
    length kept ≡ length lists → bounds_at kept places ≡ bounds_at lists places
bounds_at-front [] [] ps are front same = refl
bounds_at-front [] (l ∷ ls) ps are front same = absurd (omega arith)
bounds_at-front (k ∷ ks) [] ps are front same = absurd (omega arith)
bounds_at-front (k ∷ ks) (l ∷ ls) [] are front same = refl
bounds_at-front (k ∷ ks) (l ∷ ls) (p ∷ ps) are front same =
    ap (λ (b : ℕ). b ∷ bounds_at ks ps) (front 0 p are.0)
    ∙ ap (λ bs. get_or l p 0 ∷ bs) (bounds_at-front ks ls ps are.1 (λ e q within. front (suc e) q within) (omega arith))

pub length-ArePlaces : (lists : List (List ℕ)) (places : List ℕ) → ArePlaces lists places → length places ≡ length lists
length-ArePlaces [] [] are = refl
length-ArePlaces [] (p ∷ ps) are = absurd are
length-ArePlaces (l ∷ ls) [] are = absurd are
length-ArePlaces (l ∷ ls) (p ∷ ps) are = ap suc (length-ArePlaces ls ps are.1)
