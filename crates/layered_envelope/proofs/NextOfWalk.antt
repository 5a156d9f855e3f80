-- The next choice of a walk: where the last places can't rise, none is left with these first places.
use Rattle.std.proofs.Common.{◌≡◌, ℕ, zero, suc, ◌+◌, ◌-◌, ◌<◌, ◌≤◌, List, [], ◌∷◌, ◌++◌, length, get_or, take, drop}
use Rattle.std.proofs.Common.{replicate, fold, refl, sym, ◌∙◌, ap, arith}
use Rattle.std.proofs.lemmas.List.{drop_all, drop-map, length-drop}
use Rattle.std.proofs.Math.Seq.{drop-cons}
use Rattle.multinomial_bounds.specs.Bounds.{certainty}
use Rattle.layered_envelope.specs.ChosenPlaces.{firsts, Falls, AllFall, above_after}
use Rattle.layered_envelope.specs.Walks.{reached}
use Rattle.layered_envelope.proofs.NextChoice.{next_here, none_here}
use Rattle.layered_envelope.proofs.ChoicesInOrder.{carried_to_all}
use Rattle.layered_envelope.proofs.WalkSteps.{reached_none, reached_more}

pub AllFall-drop : (ls : List (List ℕ)) (k : ℕ) → AllFall ls → AllFall (drop k ls)
AllFall-drop ls zero fall = fall
AllFall-drop [] (suc k) fall = tt
AllFall-drop (l ∷ ls) (suc k) fall = AllFall-drop ls k fall.1

pub Falls-at : (ls : List (List ℕ)) (k : ℕ) → AllFall ls → k < length ls → Falls (get_or ls k [])
Falls-at [] k fall within = absurd (omega arith)
Falls-at (l ∷ ls) zero fall within = fall.0
Falls-at (l ∷ ls) (suc k) fall within = Falls-at ls k fall.1 (omega arith)

module _ (f : ℕ → ℕ → ℕ) (rises : (x y a b : ℕ) → x ≤ y → a ≤ b → f x a ≤ f y b) (t : ℕ)
    (ls : List (List ℕ)) (ps : List ℕ) (all : length ps ≡ length ls) (fall : AllFall ls) where
  -- nothing is left behind the last list
  pub none_at_end : (n x : ℕ) → length ls ≤ n → above_after f t x (drop n ls) (drop n ps) ≡ []
  none_at_end n x past = rw (drop_all n ls past) refl

  module _ (e : ℕ) (within : e < length ls)
      (later : above_after f t (reached f ls ps (e + 1)) (drop (e + 1) ls) (drop (e + 1) ps) ≡ []) where
    none_later : above_after f t (f (reached f ls ps e) (get_or (get_or ls e []) (get_or ps e 0) 0)) (drop (suc e) ls)
        (drop (suc e) ps) ≡ []
    none_later =
        let one : suc e ≡ e + 1 = omega arith in
        ap (λ (x : ℕ). above_after f t x (drop (suc e) ls) (drop (suc e) ps))
        (sym (reached_more f ls ps e within (omega (arith, all))))
        ∙ ap (λ (k : ℕ). above_after f t (reached f ls ps (e + 1)) (drop k ls) (drop k ps)) one
        ∙ later

    pub none_at : (get_or ps e 0 + 1 < length (get_or ls e []) →
        fold f (f (reached f ls ps e) (get_or (get_or ls e []) (get_or ps e 0 + 1) 0)) (firsts (drop (suc e) ls)) ≤ t) →
        above_after f t (reached f ls ps e) (drop e ls) (drop e ps) ≡ []
    none_at below =
        rw (drop-cons ls e [] within, drop-cons ps e 0 (omega (arith, all)))
        (none_here f rises t (get_or ls e []) (drop (suc e) ls) (reached f ls ps e) (get_or ps e 0) (drop (suc e) ps)
        (Falls-at ls e fall within) (AllFall-drop ls (suc e) fall) below none_later)

    pub next_at : get_or ps e 0 + 1 < length (get_or ls e []) →
        t < fold f (f (reached f ls ps e) (get_or (get_or ls e []) (get_or ps e 0 + 1) 0)) (firsts (drop (suc e) ls)) →
        let next : List ℕ = take e ps ++ ((get_or ps e 0 + 1) ∷ replicate (length ls - (e + 1)) 0) in
        above_after f t certainty ls ps ≡ next ∷ above_after f t certainty ls next
    next_at room over =
        let rest : length (drop (suc e) ls) ≡ length ls - (e + 1) = omega (arith, length-drop (suc e) ls) in
        let s : List ℕ = (get_or ps e 0 + 1) ∷ replicate (length ls - (e + 1)) 0 in
        let here : above_after f t (reached f ls ps e) (drop e ls) (drop e ps)
        ≡ s ∷ above_after f t (reached f ls ps e) (drop e ls) s =
        rw (drop-cons ls e [] within, drop-cons ps e 0 (omega (arith, all)), ← rest)
        (next_here f rises t (get_or ls e []) (drop (suc e) ls) (reached f ls ps e) (get_or ps e 0) (drop (suc e) ps)
        (AllFall-drop ls (suc e) fall) room over none_later)
        in
        let whole = carried_to_all f t ls ps (reached f ls ps) (sym all)
        (λ i h. reached_more f ls ps i (omega (arith, all)) (omega arith)) e s (omega (arith, all)) here in
        rw (reached_none f ls ps) at whole

pub firsts-drop : (ls : List (List ℕ)) (k : ℕ) → firsts (drop k ls) ≡ drop k (firsts ls)
firsts-drop ls k = sym (drop-map (λ (l : List ℕ). get_or l 0 0) k ls)

pub none_of_all : (f : ℕ → ℕ → ℕ) (t : ℕ) (ls : List (List ℕ)) (ps qs : List ℕ) (e : ℕ) → e ≤ 0 → ps ≡ qs →
    above_after f t (reached f ls ps e) (drop e ls) (drop e ps) ≡ [] → above_after f t certainty ls qs ≡ []
none_of_all f t ls ps qs e last same none =
    let zero_is : 0 ≡ e = omega arith in
    ap (λ xs. above_after f t certainty ls xs) (sym same)
    ∙ ap (λ (x : ℕ). above_after f t x ls ps) (sym (reached_none f ls ps))
    ∙ ap (λ (k : ℕ). above_after f t (reached f ls ps k) (drop k ls) (drop k ps)) zero_is
    ∙ none

-- what is known of the elements behind one, where the loop counts from the one after it
pub none_before : (ls : List (List ℕ)) (ps : List ℕ) (f : ℕ → ℕ → ℕ) (t n : ℕ) → 0 < n →
    above_after f t (reached f ls ps n) (drop n ls) (drop n ps) ≡ [] →
    above_after f t (reached f ls ps (n - 1 + 1)) (drop (n - 1 + 1) ls) (drop (n - 1 + 1) ps) ≡ []
none_before ls ps f t n some none =
    let back : n - 1 + 1 ≡ n = omega arith in
    ap (λ (k : ℕ). above_after f t (reached f ls ps k) (drop k ls) (drop k ps)) back ∙ none

-- the next choice of a function of places, where it and the places are known by other names
pub next_is : (left : List ℕ → List (List ℕ)) (old old' next next' new : List ℕ) → old' ≡ old → next ≡ next' →
    new ≡ next' →
    left old' ≡ next ∷ left next → left old ≡ new ∷ left new
next_is left old old' next next' new same is written leads =
    let ends : next ≡ new = is ∙ sym written in
    ap left (sym same) ∙ leads ∙ ap (λ ps. ps ∷ left ps) ends
