-- The choice after given places: the last place that can rise does, and the later ones are 0 again.
use Rattle.std.proofs.Common.{◌≡◌, ℕ, zero, suc, ◌+◌, ◌-◌, ◌<◌, ◌≤◌, List, [], ◌∷◌, ◌++◌, map, length, get_or, replicate, fold, refl, ◌∙◌, ap, arith}
use Rattle.std.specs.Prelude.{flat_map}
use Rattle.std.specs.List.{range_with_len}
use Rattle.std.proofs.lemmas.Bool.{lt-ltb, le-ltb}
use Rattle.layered_envelope.specs.ChosenPlaces.{firsts, Falls, AllFall, above, above_from, above_after}

pub flat_map_none : {Y : Type 0} (a n : ℕ) (g : ℕ → List Y) →
    ((k : ℕ) → a ≤ k → k < a + n → g k ≡ []) → flat_map g (range_with_len a n) ≡ []
flat_map_none a zero g none = refl
flat_map_none a (suc n) g none =
    rw (none a (omega arith) (omega arith))
    (flat_map_none (a + 1) n g (λ k from to. none k (omega arith) (omega arith)))

-- products rise with each factor
module _ (f : ℕ → ℕ → ℕ) (rises : (x y a b : ℕ) → x ≤ y → a ≤ b → f x a ≤ f y b) where
  pub fold-rises : (x y : ℕ) (bounds : List ℕ) → x ≤ y → fold f x bounds ≤ fold f y bounds
  fold-rises x y [] le = le
  fold-rises x y (b ∷ bounds) le = fold-rises (f x b) (f y b) bounds (rises x y b b le (omega arith))

  module _ (t : ℕ) where
    -- nothing is above the threshold where the first bounds are not
    pub none_above : (lists : List (List ℕ)) (x : ℕ) → AllFall lists → fold f x (firsts lists) ≤ t →
        above f t x lists ≡ []
    none_above [] x fall below = rw (le-ltb t x below) refl
    none_above (l ∷ ls) x fall below =
        flat_map_none 0 (length l) _
        (λ k from to.
        let first : f x (get_or l k 0) ≤ f x (get_or l 0 0) =
        rises x x (get_or l k 0) (get_or l 0 0) (omega arith) (fall.0.falls 0 k from (omega arith)) in
        let rest : fold f (f x (get_or l k 0)) (firsts ls) ≤ fold f (f x (get_or l 0 0)) (firsts ls) =
        fold-rises (f x (get_or l k 0)) (f x (get_or l 0 0)) (firsts ls) first in
        rw (none_above ls (f x (get_or l k 0)) fall.1 (omega arith)) refl)

    -- nor is any later item of a list where one is not
    pub none_from : (l : List ℕ) (ls : List (List ℕ)) (x p : ℕ) → Falls l → AllFall ls →
        (p < length l → fold f (f x (get_or l p 0)) (firsts ls) ≤ t) → above_from f t x l ls p ≡ []
    none_from l ls x p fall falls below =
        flat_map_none p (length l - p) _
        (λ k from to.
        let first : f x (get_or l k 0) ≤ f x (get_or l p 0) =
        rises x x (get_or l k 0) (get_or l p 0) (omega arith) (fall.falls p k from (omega arith)) in
        let rest : fold f (f x (get_or l k 0)) (firsts ls) ≤ fold f (f x (get_or l p 0)) (firsts ls) =
        fold-rises (f x (get_or l k 0)) (f x (get_or l p 0)) (firsts ls) first in
        let here = below (omega arith) in
        rw (none_above ls (f x (get_or l k 0)) falls (omega arith)) refl)

    pub from_first : (l : List ℕ) (ls : List (List ℕ)) (x p : ℕ) → p < length l →
        above_from f t x l ls p
        ≡ map (λ more. p ∷ more) (above f t (f x (get_or l p 0)) ls) ++ above_from f t x l ls (p + 1)
    from_first l ls x p within =
        let n : length l - p ≡ suc (length l - (p + 1)) = omega arith in
        ap (λ (k : ℕ). flat_map (λ q. map (λ more. q ∷ more) (above f t (f x (get_or l q 0)) ls))
        (range_with_len p k)) n

    pub from_start : (l : List ℕ) (ls : List (List ℕ)) (x : ℕ) → above f t x (l ∷ ls) ≡ above_from f t x l ls 0
    from_start l ls x =
        let n : length l ≡ length l - 0 = omega arith in
        ap (λ (k : ℕ). flat_map (λ q. map (λ more. q ∷ more) (above f t (f x (get_or l q 0)) ls))
        (range_with_len 0 k)) n

    -- where the first bounds are above it, they are the first choice
    pub first_above : (ls : List (List ℕ)) (x : ℕ) → AllFall ls → t < fold f x (firsts ls) →
        above f t x ls ≡ replicate (length ls) 0 ∷ above_after f t x ls (replicate (length ls) 0)
    first_above [] x fall over = rw (lt-ltb t x over) refl
    first_above (l ∷ ls) x fall over =
        from_start l ls x
        ∙ from_first l ls x 0 fall.0.some
        ∙ ap (λ cs. map (λ more. 0 ∷ more) cs ++ above_from f t x l ls (0 + 1))
        (first_above ls (f x (get_or l 0 0)) fall.1 over)

    -- a choice whose last place rises
    pub next_here : (l : List ℕ) (ls : List (List ℕ)) (x p : ℕ) (ps : List ℕ) → AllFall ls → p + 1 < length l →
        t < fold f (f x (get_or l (p + 1) 0)) (firsts ls) →
        above_after f t (f x (get_or l p 0)) ls ps ≡ [] →
        above_after f t x (l ∷ ls) (p ∷ ps)
        ≡ ((p + 1) ∷ replicate (length ls) 0) ∷ above_after f t x (l ∷ ls) ((p + 1) ∷ replicate (length ls) 0)
    next_here l ls x p ps fall within over none =
        ap (λ cs. map (λ more. p ∷ more) cs ++ above_from f t x l ls (p + 1)) none
        ∙ from_first l ls x (p + 1) within
        ∙ ap (λ cs. map (λ more. (p + 1) ∷ more) cs ++ above_from f t x l ls (p + 1 + 1))
        (first_above ls (f x (get_or l (p + 1) 0)) fall over)

    pub none_here : (l : List ℕ) (ls : List (List ℕ)) (x p : ℕ) (ps : List ℕ) → Falls l → AllFall ls →
        (p + 1 < length l → fold f (f x (get_or l (p + 1) 0)) (firsts ls) ≤ t) →
        above_after f t (f x (get_or l p 0)) ls ps ≡ [] →
        above_after f t x (l ∷ ls) (p ∷ ps) ≡ []
    none_here l ls x p ps fall falls below none =
        ap (λ cs. map (λ more. p ∷ more) cs ++ above_from f t x l ls (p + 1)) none
        ∙ none_from l ls x (p + 1) fall falls below
