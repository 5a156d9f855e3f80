-- The draws of a peak behind those of others.
use Rattle.std.proofs.Common.{◌≡◌, ℕ, zero, suc, ◌+◌, ◌*◌, [], ◌∷◌, ◌++◌, length, refl, sym, ap, ◌∙◌, arith}
use Rattle.std.proofs.lemmas.List.FromFn.{length-map-range_with_len, map-range_with_len_more}
use Rattle.formula_text.specs.Formulas.{sum_of}
use Rattle.peak_generator.specs.Draws.{draw, drawn_at, next_state, state_after}
use Rattle.peak_generator.specs.MadeFormulas.{counts_of_draws, made_counts, made_formula, made_formulas}

pub state_after-add : (s a b : ℕ) → state_after (state_after s a) b ≡ state_after s (a + b)
unfolding state_after
state_after-add s a zero = let e : a ≡ a + zero = omega arith in ap (state_after s) e
state_after-add s a (suc b) =
    let e : suc (a + b) ≡ a + suc b = omega arith in ap next_state (state_after-add s a b) ∙ ap (state_after s) e

draw-later : (n a b k : ℕ) → a + b ≡ k → draw (state_after n a) b ≡ draw n k
draw-later n a b k is = ap (λ s. drawn_at (next_state s)) (state_after-add n a b ∙ ap (state_after n) is)

counts-later : (n i : ℕ) → made_counts (state_after n (4 * i)) 0 ≡ made_counts n i
counts-later n i =
    let s : ℕ = state_after n (4 * i) in
    ap (λ e. counts_of_draws e (draw s 1) (draw s 2) (draw s 3)) (draw-later n (4 * i) 0 (4 * i) (omega arith))
    ∙ ap (λ f. counts_of_draws (draw n (4 * i)) f (draw s 2) (draw s 3)) (draw-later n (4 * i) 1 (4 * i + 1) refl)
    ∙ ap (λ g. counts_of_draws (draw n (4 * i)) (draw n (4 * i + 1)) g (draw s 3)) (draw-later n (4 * i) 2 (4 * i + 2) refl)
    ∙ ap (λ h. counts_of_draws (draw n (4 * i)) (draw n (4 * i + 1)) (draw n (4 * i + 2)) h)
    (draw-later n (4 * i) 3 (4 * i + 3) refl)

-- the formula behind the draws of others
pub formula-later : (n i : ℕ) → made_formula (state_after n (4 * i)) 0 ≡ made_formula n i
formula-later n i = ap sum_of (counts-later n i)

pub state-later : (n i : ℕ) → state_after (state_after n (4 * i)) 4 ≡ state_after n (4 * (i + 1))
state-later n i =
    let e : 4 * i + 4 ≡ 4 * (i + 1) = omega arith in state_after-add n (4 * i) 4 ∙ ap (state_after n) e

pub state-first : (n : ℕ) → n ≡ state_after n (4 * 0)
unfolding state_after
state-first n = refl

pub formulas-none : (n : ℕ) → [] ≡ made_formulas n 0
unfolding made_formulas
formulas-none n = refl

pub formulas-more : (n i : ℕ) → made_formulas n i ++ made_formula n i ∷ [] ≡ made_formulas n (i + 1)
unfolding made_formulas
formulas-more n i = sym (map-range_with_len_more (made_formula n) 0 i i (omega arith))

pub length-made_formulas : (n count : ℕ) → length (made_formulas n count) ≡ count
unfolding made_formulas
length-made_formulas n count = length-map-range_with_len (made_formula n) 0 count

-- four draws, one after another
pub four-draws : (s : ℕ) → next_state (next_state (next_state (next_state s))) ≡ state_after s 4
unfolding state_after
four-draws s = refl

pub counts-drawn : (s : ℕ) → counts_of_draws (drawn_at (next_state s)) (drawn_at (next_state (next_state s)))
    (drawn_at (next_state (next_state (next_state s))))
    (drawn_at (next_state (next_state (next_state (next_state s))))) ≡ made_counts s 0
unfolding state_after
counts-drawn s = refl
