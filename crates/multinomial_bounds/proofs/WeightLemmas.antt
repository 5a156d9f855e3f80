-- The exact weights obey two rules: how the count of one isotope enters, and how a move of one atom
-- between two isotopes changes the weight.
use Rattle.std.proofs.Common.{replicate, ◌≡◌, ◌≢◌, ℕ, zero, suc, ◌+◌, ◌-◌, ◌*◌, ◌^◌, ◌<◌, ◌≤◌, List, [], ◌∷◌, Bool}
use Rattle.std.proofs.Common.{true, false, eqb, cond, refl, ap, sym, ◌∙◌, arith, length, get_or, sum, ⊎_elim}
use Rattle.std.proofs.Common.{get_or-set_same, get_or-set_other}
use Rattle.std.proofs.Math.Nat.{mul-le-mul_left, pow-zero, pow-suc}
use Rattle.std.specs.List.{sum_by, list_all}
use Rattle.std.proofs.lemmas.Bool.{eq-eqb, ne_eqb, eqb-true, cases_eq, cases_lt, cases_Bool, and_parts}
use Rattle.std.proofs.lemmas.List.{set_comm, set-set, get_or_past, length-set, set-get_or}
use Rattle.multinomial_bounds.specs.Weight.{places, one_less, one_more, weight_of, total_of}
use Rattle.multinomial_bounds.proofs.SumLemmas.{sum_by_same, sum_by-add, sum_by-scale, sum_by_one, sum_by_zero, sum_by_le, sum_by-places}

-- a place that has an atom is one of the list's
pub in_list : (x : List ℕ) (i : ℕ) → 1 ≤ get_or x i 0 → i < length x
in_list x i has =
    ⊎_elim (λ (h : i < length x). h) (λ (h : length x ≤ i). absurd (omega (arith, get_or_past x i 0 h))) (cases_lt i (length x))

-- the weight of the ways whose last atom was of isotope i
unfoldable pub last_drawn : List ℕ → ℕ → List ℕ → ℕ → ℕ
last_drawn ws n x i = cond (eqb (get_or x i 0) 0) 0 (get_or ws i 0 * weight_of ws n (one_less x i))

pub last_drawn-none : (ws : List ℕ) (n : ℕ) (x : List ℕ) (i : ℕ) → get_or x i 0 ≡ 0 → last_drawn ws n x i ≡ 0
unfolding last_drawn
last_drawn-none ws n x i none = rw (eq-eqb (get_or x i 0) 0 none)

pub last_drawn-some : (ws : List ℕ) (n : ℕ) (x : List ℕ) (i : ℕ) → 1 ≤ get_or x i 0 →
    last_drawn ws n x i ≡ get_or ws i 0 * weight_of ws n (one_less x i)
unfolding last_drawn
last_drawn-some ws n x i some = rw (ne_eqb (get_or x i 0) 0 (λ e. omega arith))

pub weight_of-suc : (ws : List ℕ) (n : ℕ) (x : List ℕ) → weight_of ws (suc n) x ≡ sum_by (last_drawn ws n x) (places ws)
unfolding weight_of last_drawn
weight_of-suc ws n x = refl

-- counts of no atoms that have one have weight 0
zero_counts : (x : List ℕ) (i : ℕ) → list_all (λ c. eqb c 0) x ≡ true → get_or x i 0 ≡ 0
zero_counts [] i h = refl
zero_counts (c ∷ x) zero h = eqb-true c 0 (and_parts (eqb c 0) (list_all (λ d. eqb d 0) x) h).0
zero_counts (c ∷ x) (suc i) h = zero_counts x i (and_parts (eqb c 0) (list_all (λ d. eqb d 0) x) h).1

weight_of-zero : (ws x : List ℕ) (i : ℕ) → get_or x i 0 * weight_of ws zero x ≡ 0
unfolding weight_of
weight_of-zero ws x i =
    ⊎_elim
    (λ (h : list_all (λ c. eqb c 0) x ≡ true). rw (zero_counts x i h) (omega arith))
    (λ (h : list_all (λ c. eqb c 0) x ≡ false). rw h (omega arith))
    (cases_Bool (list_all (λ c. eqb c 0) x))

-- no atoms have no counts alone
all_zero : (k : ℕ) → list_all (λ c. eqb c 0) (replicate k 0) ≡ true
all_zero zero = refl
all_zero (suc k) = all_zero k

pub weight_of-no_atoms : (ws : List ℕ) (k : ℕ) → weight_of ws zero (replicate k 0) ≡ 1
unfolding weight_of
weight_of-no_atoms ws k = rw (all_zero k)

-- two draws in either order
last_two : (ws : List ℕ) (m : ℕ) (x : List ℕ) (i k : ℕ) → 1 ≤ get_or x i 0 → 1 ≤ get_or x k 0 →
    get_or ws k 0 * last_drawn ws m (one_less x k) i ≡ get_or ws i 0 * last_drawn ws m (one_less x i) k
last_two ws m x i k has_i has_k =
    ⊎_elim
    (λ (e : i ≡ k). rw e)
    (λ (ne : i ≡ k → ⊥).
    let ik : i ≢ k = ne in
    let ki : k ≢ i = λ e. ne (sym e) in
    let at_i : get_or (one_less x k) i 0 ≡ get_or x i 0 = get_or-set_other x k i (get_or x k 0 - 1) 0 ik in
    let at_k : get_or (one_less x i) k 0 ≡ get_or x k 0 = get_or-set_other x i k (get_or x i 0 - 1) 0 ki in
    let same : one_less (one_less x k) i ≡ one_less (one_less x i) k =
    rw (at_i, at_k) (set_comm x k i (get_or x k 0 - 1) (get_or x i 0 - 1) ki) in
    rw (last_drawn-some ws m (one_less x k) i (omega arith), last_drawn-some ws m (one_less x i) k (omega arith), same) (omega arith))
    (cases_eq i k)

one_back : (a y : ℕ) → 1 ≤ a → a * y ≡ y * (a - 1) + y
one_back zero y has = absurd (omega arith)
one_back (suc b) y has = let e : suc b - 1 ≡ b = omega arith in rw e (omega arith)

-- one isotope's count times the weight of the ways whose last atom was of isotope k
count_at : (ws : List ℕ) (n : ℕ) (x : List ℕ) (i k : ℕ) → 1 ≤ get_or x i 0 →
    get_or x i 0 * last_drawn ws n x k
    ≡ last_drawn ws n x k * get_or (one_less x k) i 0 + cond (eqb k i) (get_or ws i 0 * weight_of ws n (one_less x i)) 0
count_at ws n x i k has =
    ⊎_elim
    (λ (e : k ≡ i). rw (
      e,
      eq-eqb i i refl,
      last_drawn-some ws n x i has,
      get_or-set_same x i (get_or x i 0 - 1) 0 (in_list x i has),
    ) (one_back (get_or x i 0) _ has))
    (λ (ne : k ≡ i → ⊥). let ik : i ≢ k = λ e. ne (sym e) in
    rw (ne_eqb k i ne, get_or-set_other x k i (get_or x k 0 - 1) 0 ik) (omega arith))
    (cases_eq k i)

cond_zero : (b : Bool) → cond {A = ℕ} b 0 0 ≡ zero
cond_zero true = refl
cond_zero false = refl

-- the sum of the last isotope alone
one_term : (ws : List ℕ) (n : ℕ) (x : List ℕ) (i : ℕ) →
    sum_by (λ k. cond (eqb k i) (get_or ws i 0 * weight_of ws n (one_less x i)) 0) (places ws)
    ≡ get_or ws i 0 * weight_of ws n (one_less x i)
one_term ws n x i =
    ⊎_elim
    (λ (h : i < length ws). sum_by_one i _ 0 (length ws) (omega arith) (omega arith))
    (λ (h : length ws ≤ i).
    let z : get_or ws i 0 * weight_of ws n (one_less x i) ≡ 0 = rw (get_or_past ws i 0 h) (omega arith) in
    rw z (sum_by_zero (λ k. cond (eqb k i) 0 0) (places ws) (λ k. cond_zero (eqb k i))))
    (cases_lt i (length ws))

-- the count of an isotope times the weight, where the rest of the draws is known
count_split : (ws : List ℕ) (n : ℕ) (x : List ℕ) (i : ℕ) (rest : ℕ → ℕ) → 1 ≤ get_or x i 0 →
    ((k : ℕ) → last_drawn ws n x k * get_or (one_less x k) i 0 ≡ rest k) →
    get_or x i 0 * weight_of ws (suc n) x ≡ sum_by rest (places ws) + get_or ws i 0 * weight_of ws n (one_less x i)
count_split ws n x i rest has is =
    rw (
      weight_of-suc ws n x,
      ← sum_by-scale (get_or x i 0) (last_drawn ws n x) (places ws),
      sum_by_same (λ k. get_or x i 0 * last_drawn ws n x k)
          (λ k. rest k + cond (eqb k i) (get_or ws i 0 * weight_of ws n (one_less x i)) 0) (places ws)
          (λ k. count_at ws n x i k has ∙ ap (λ r. r + cond (eqb k i) (get_or ws i 0 * weight_of ws n (one_less x i)) 0) (is k)),
      sum_by-add rest (λ k. cond (eqb k i) (get_or ws i 0 * weight_of ws n (one_less x i)) 0) (places ws),
      one_term ws n x i,
    )

rest_zero : (ws x : List ℕ) (i k : ℕ) → last_drawn ws 0 x k * get_or (one_less x k) i 0 ≡ 0
rest_zero ws x i k =
    ⊎_elim
    (λ (some : 1 ≤ get_or x k 0). rw (last_drawn-some ws 0 x k some)
    (let z : get_or (one_less x k) i 0 * weight_of ws 0 (one_less x k) ≡ 0 = weight_of-zero ws (one_less x k) i in
    nothing _ _ _ z))
    (λ (none : get_or x k 0 ≤ 0). rw (last_drawn-none ws 0 x k (omega arith)) (omega arith))
    (cases_lt 0 (get_or x k 0))
  where
    nothing : (w f c : ℕ) → c * f ≡ 0 → w * f * c ≡ 0
    nothing w f c z = let e : w * f * c ≡ w * (c * f) = omega arith in rw (e, z) (omega arith)

rest_suc : (ws : List ℕ) (m : ℕ) (x : List ℕ) (i k : ℕ) → 1 ≤ get_or x i 0 →
    ((y : List ℕ) → get_or y i 0 * weight_of ws (suc m) y ≡ (m + 1) * last_drawn ws m y i) →
    last_drawn ws (suc m) x k * get_or (one_less x k) i 0 ≡ (m + 1) * get_or ws i 0 * last_drawn ws m (one_less x i) k
rest_suc ws m x i k has fewer =
    ⊎_elim
    (λ (some : 1 ≤ get_or x k 0). rw (last_drawn-some ws (suc m) x k some)
    (swapped _ _ _ _ _ _ _ (fewer (one_less x k)) (last_two ws m x i k has some)))
    (λ (none : get_or x k 0 ≤ 0).
    let ki : k ≢ i = λ e. let f : 1 ≤ get_or x k 0 = rw e has in omega arith in
    rw (
      last_drawn-none ws (suc m) x k (omega arith),
      last_drawn-none ws m (one_less x i) k (get_or-set_other x i k (get_or x i 0 - 1) 0 ki ∙ omega arith),
    )
    (omega arith))
    (cases_lt 0 (get_or x k 0))
  where
    swapped : (w f c n d v e : ℕ) → c * f ≡ n * d → w * d ≡ v * e → w * f * c ≡ n * v * e
    swapped w f c n d v e p q =
        let a : w * f * c ≡ w * (c * f) = omega arith in
        let b : w * (n * d) ≡ n * (w * d) = omega arith in
        rw (a, p, b, q) (omega arith)

count_where : (ws : List ℕ) (n : ℕ) (x : List ℕ) (i : ℕ) →
    (1 ≤ get_or x i 0 → get_or x i 0 * weight_of ws (suc n) x ≡ (n + 1) * last_drawn ws n x i) →
    get_or x i 0 * weight_of ws (suc n) x ≡ (n + 1) * last_drawn ws n x i
count_where ws n x i if_some =
    ⊎_elim
    (λ (some : 1 ≤ get_or x i 0). if_some some)
    (λ (none : get_or x i 0 ≤ 0).
    let z : get_or x i 0 ≡ 0 = omega arith in rw (z, last_drawn-none ws n x i z) (omega arith))
    (cases_lt 0 (get_or x i 0))

-- The count of an isotope times the weight of the counts: each of the n + 1 draws may have been the
-- last, and the weight of the others is that of the counts without it.
pub count_rule : (ws : List ℕ) (n : ℕ) (x : List ℕ) (i : ℕ) →
    get_or x i 0 * weight_of ws (suc n) x ≡ (n + 1) * last_drawn ws n x i
count_rule ws zero x i =
    count_where ws 0 x i
    (λ some.
    rw (
      last_drawn-some ws 0 x i some,
      count_split ws 0 x i (λ k. 0) some (rest_zero ws x i),
      sum_by_zero (λ k. 0) (places ws) (λ k. refl),
    )
    (omega arith))
count_rule ws (suc m) x i =
    count_where ws (suc m) x i
    (λ some.
    rw (
      last_drawn-some ws (suc m) x i some,
      count_split ws (suc m) x i (λ k. (m + 1) * get_or ws i 0 * last_drawn ws m (one_less x i) k) some
          (λ k. rest_suc ws m x i k some (λ y. count_rule ws m y i)),
      sum_by-scale ((m + 1) * get_or ws i 0) (last_drawn ws m (one_less x i)) (places ws),
      ← weight_of-suc ws m (one_less x i),
    )
    (omega arith))

pub get_or-one_more : (x : List ℕ) (j : ℕ) → j < length x → get_or (one_more x j) j 0 ≡ get_or x j 0 + 1
get_or-one_more x j within = get_or-set_same x j (get_or x j 0 + 1) 0 within

pub one_less-one_more : (x : List ℕ) (j : ℕ) → j < length x → one_less (one_more x j) j ≡ x
one_less-one_more x j within =
    let at_j : get_or (one_more x j) j 0 - 1 ≡ get_or x j 0 = omega (arith, get_or-one_more x j within) in
    rw (at_j, set-set x j (get_or x j 0 + 1) (get_or x j 0)) (set-get_or x j 0)

-- one atom more of isotope i
pub growth_rule : (ws : List ℕ) (n : ℕ) (x : List ℕ) (i : ℕ) → i < length x →
    (get_or x i 0 + 1) * weight_of ws (suc n) (one_more x i) ≡ (n + 1) * (get_or ws i 0 * weight_of ws n x)
growth_rule ws n x i within =
    let at_i : get_or (one_more x i) i 0 ≡ get_or x i 0 + 1 = get_or-one_more x i within in
    let rule : get_or (one_more x i) i 0 * weight_of ws (suc n) (one_more x i) ≡ (n + 1) * last_drawn ws n (one_more x i) i =
    count_rule ws n (one_more x i) i in
    let last : last_drawn ws n (one_more x i) i ≡ get_or ws i 0 * weight_of ws n (one_less (one_more x i) i) =
    last_drawn-some ws n (one_more x i) i (omega arith) in
    ap (λ c. c * weight_of ws (suc n) (one_more x i)) (sym at_i) ∙ rule
    ∙ ap (λ r. (n + 1) * r) (last ∙ ap (λ y. get_or ws i 0 * weight_of ws n y) (one_less-one_more x i within))

-- the counts after a move of one atom from isotope i to isotope j
pub moved_to : (x : List ℕ) (i j : ℕ) → i ≢ j → j < length x → get_or (one_more (one_less x i) j) j 0 ≡ get_or x j 0 + 1
moved_to x i j apart within =
    let there : get_or (one_less x i) j 0 ≡ get_or x j 0 = get_or-set_other x i j (get_or x i 0 - 1) 0 (λ e. apart (sym e)) in
    get_or-one_more (one_less x i) j (rw (length-set x i (get_or x i 0 - 1)) within) ∙ ap (λ c. c + 1) there

-- the two counts and their draws, over plain numbers
cross_zero : (f g a b c d : ℕ) → a * f ≡ 0 → c * g ≡ 0 → f * (a * b) ≡ g * (c * d)
cross_zero f g a b c d p q =
    let l : f * (a * b) ≡ a * f * b = omega arith in
    let r : g * (c * d) ≡ c * g * d = omega arith in
    rw (l, r, p, q) (omega arith)

cross_same : (f g a b c d n e : ℕ) → a * f ≡ n * (d * e) → c * g ≡ n * (b * e) → f * (a * b) ≡ g * (c * d)
cross_same f g a b c d n e p q =
    let l : f * (a * b) ≡ a * f * b = omega arith in
    let r : g * (c * d) ≡ c * g * d = omega arith in
    rw (l, r, p, q) (omega arith)

-- The move rule: a move of one atom from isotope i to isotope j changes the weight by a quotient of
-- counts and weights of the two isotopes alone.
pub move_rule : (ws : List ℕ) (n : ℕ) (x : List ℕ) (i j : ℕ) → i ≢ j → 1 ≤ get_or x i 0 → j < length x →
    weight_of ws n x * (get_or x i 0 * get_or ws j 0)
    ≡ weight_of ws n (one_more (one_less x i) j) * ((get_or x j 0 + 1) * get_or ws i 0)
move_rule ws zero x i j apart has within =
    let there : get_or (one_more (one_less x i) j) j 0 ≡ get_or x j 0 + 1 = moved_to x i j apart within in
    let after : (get_or x j 0 + 1) * weight_of ws 0 (one_more (one_less x i) j) ≡ 0 =
    rw there at (weight_of-zero ws (one_more (one_less x i) j) j) in
    cross_zero _ _ _ _ _ _ (weight_of-zero ws x i) after
move_rule ws (suc m) x i j apart has within =
    let there : get_or (one_less x i) j 0 ≡ get_or x j 0 = get_or-set_other x i j (get_or x i 0 - 1) 0 (λ e. apart (sym e)) in
    let before : get_or x i 0 * weight_of ws (suc m) x ≡ (m + 1) * (get_or ws i 0 * weight_of ws m (one_less x i)) =
    count_rule ws m x i ∙ ap (λ r. (m + 1) * r) (last_drawn-some ws m x i has) in
    let grown : (get_or (one_less x i) j 0 + 1) * weight_of ws (suc m) (one_more (one_less x i) j)
    ≡ (m + 1) * (get_or ws j 0 * weight_of ws m (one_less x i)) =
    growth_rule ws m (one_less x i) j (rw (length-set x i (get_or x i 0 - 1)) within) in
    let after : (get_or x j 0 + 1) * weight_of ws (suc m) (one_more (one_less x i) j)
    ≡ (m + 1) * (get_or ws j 0 * weight_of ws m (one_less x i)) =
    ap (λ c. (c + 1) * weight_of ws (suc m) (one_more (one_less x i) j)) (sym there) ∙ grown in
    cross_same _ _ _ _ _ _ (m + 1) _ before after

-- the weight of some counts is at most that of all
last_drawn-le : (ws : List ℕ) (n : ℕ) (x : List ℕ) (i t : ℕ) → ((y : List ℕ) → weight_of ws n y ≤ t) →
    last_drawn ws n x i ≤ t * get_or ws i 0
last_drawn-le ws n x i t most =
    ⊎_elim
    (λ (some : 1 ≤ get_or x i 0).
    rw (last_drawn-some ws n x i some) (omega (arith, mul-le-mul_left (get_or ws i 0) (most (one_less x i)))))
    (λ (none : get_or x i 0 ≤ 0). rw (last_drawn-none ws n x i (omega arith)) (omega arith))
    (cases_lt 0 (get_or x i 0))

weight_of-zero-le : (ws x : List ℕ) → weight_of ws zero x ≤ 1
unfolding weight_of
weight_of-zero-le ws x =
    ⊎_elim
    (λ (h : list_all (λ c. eqb c 0) x ≡ true). rw h (omega arith))
    (λ (h : list_all (λ c. eqb c 0) x ≡ false). rw h (omega arith))
    (cases_Bool (list_all (λ c. eqb c 0) x))

pub weight_of-le-total_of : (ws : List ℕ) (n : ℕ) (x : List ℕ) → weight_of ws n x ≤ total_of ws n
weight_of-le-total_of ws zero x = rw (pow-zero (sum ws)) (weight_of-zero-le ws x)
weight_of-le-total_of ws (suc n) x =
    let whole : sum_by (λ i. sum ws ^ n * get_or ws i 0) (places ws) ≡ total_of ws (suc n) =
    sum_by-scale (sum ws ^ n) (λ i. get_or ws i 0) (places ws)
    ∙ ap (λ s. sum ws ^ n * s) (sum_by-places ws) ∙ sym (pow-suc (sum ws) n) in
    rw (weight_of-suc ws n x, ← whole)
    (sum_by_le (last_drawn ws n x) (λ i. sum ws ^ n * get_or ws i 0) (places ws)
    (λ i. last_drawn-le ws n x i (sum ws ^ n) (weight_of-le-total_of ws n)))
