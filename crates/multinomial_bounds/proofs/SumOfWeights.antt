-- The weights of all counts of an element's atoms sum to the power of the sum of its weights, and those of all
-- isotopologues to the product of these: each list of counts with an atom of an isotope is one without it, and
-- that atom.
use Rattle.std.proofs.Common.{◌≡◌, ℕ, zero, suc, ◌+◌, ◌-◌, ◌*◌, ◌^◌, ◌<◌, ◌≤◌, List, [], ◌∷◌, ◌++◌, cond, eqb, refl}
use Rattle.std.proofs.Common.{sym, ◌∙◌, ap, arith, zero-add, length, map, get_or, replicate, sum, ⊎_elim}
use Rattle.std.proofs.Math.Nat.{add-zero, mul_comm, pow-zero, pow-suc}
use Rattle.std.specs.List.{sum_by, range_with_len}
use Rattle.std.proofs.lemmas.Bool.{eq-eqb, ne_eqb, cases_lt}
use Rattle.std.proofs.lemmas.List.{get_or_past}
use Rattle.std.proofs.lemmas.List.Elements.{All-weaker}
use Rattle.std.proofs.lemmas.List.Sums.{sum_by-cons, get_or-le-sum_by}
use Rattle.multinomial_bounds.specs.Weight.{places, one_less, weight_of, total_of}
use Rattle.multinomial_bounds.specs.Isotopologue.{Element, isotopologue_weight, all_weight}
use Rattle.multinomial_bounds.specs.Compositions.{compositions, choices, counts_of, isotopologues_of}
use Rattle.multinomial_bounds.proofs.SumLemmas.{sum_by_same, sum_by_same_each, sum_by_zero, sum_by-scale, sum_by-places}
use Rattle.multinomial_bounds.proofs.SumLemmas.{sum_by-map, sum_by-flat_map, sum_by-exchange, sum_by-range_more}
use Rattle.multinomial_bounds.proofs.SumLemmas.{sum_by-range_from_next, sum_by-range_same}
use Rattle.multinomial_bounds.proofs.WeightLemmas.{last_drawn, weight_of-suc, weight_of-no_atoms}
use Rattle.multinomial_bounds.proofs.CompositionLemmas.{IsComposition, compositions-IsComposition}

-- a function of the counts without one atom of isotope i, where they have one
taken : (List ℕ → ℕ) → ℕ → List ℕ → ℕ
taken f i counts = cond (eqb (get_or counts i 0) 0) 0 (f (one_less counts i))

taken-none : (f : List ℕ → ℕ) (i : ℕ) (counts : List ℕ) → get_or counts i 0 ≡ 0 → taken f i counts ≡ 0
unfolding taken
taken-none f i counts none = rw (eq-eqb (get_or counts i 0) 0 none)

taken-first : (f : List ℕ → ℕ) (k : ℕ) (rest : List ℕ) → taken f 0 ((k + 1) ∷ rest) ≡ f (k ∷ rest)
unfolding taken
taken-first f k rest =
    let less : k + 1 - 1 ≡ k = omega arith in
    rw (ne_eqb (k + 1) 0 (λ e. omega arith), less)

taken-later : (f : List ℕ → ℕ) (i first : ℕ) (rest : List ℕ) →
    taken f (suc i) (first ∷ rest) ≡ taken (λ others. f (first ∷ others)) i rest
unfolding taken
taken-later f i first rest = refl

-- a sum over compositions by their first counts
sum_by-compositions : (f : List ℕ → ℕ) (q n : ℕ) →
    sum_by f (compositions (suc q) n)
    ≡ sum_by (λ first. sum_by (λ rest. f (first ∷ rest)) (compositions q (n - first))) (range_with_len 0 (n + 1))
unfolding compositions
sum_by-compositions f q n =
    sum_by-flat_map f (λ first. map (λ rest. first ∷ rest) (compositions q (n - first))) (range_with_len 0 (n + 1))
    ∙ sum_by_same (λ first. sum_by f (map (λ rest. first ∷ rest) (compositions q (n - first))))
    (λ first. sum_by (λ rest. f (first ∷ rest)) (compositions q (n - first))) (range_with_len 0 (n + 1))
    (λ first. sum_by-map f (λ rest. first ∷ rest) (compositions q (n - first)))

-- no atom is taken from counts of none
no_count : (counts : List ℕ) (i : ℕ) → sum counts ≡ 0 → get_or counts i 0 ≡ 0
no_count counts i none =
    ⊎_elim
    (λ (h : i < length counts). omega (arith, get_or-le-sum_by (λ x. x) counts i 0 h))
    (λ (h : length counts ≤ i). get_or_past counts i 0 h)
    (cases_lt i (length counts))

taken-no_atoms : (f : List ℕ → ℕ) (i q : ℕ) → sum_by (taken f i) (compositions q 0) ≡ 0
taken-no_atoms f i q =
    sum_by_same_each (taken f i) (λ counts. 0) (compositions q 0)
    (All-weaker (IsComposition q 0) (λ counts. taken f i counts ≡ 0)
    (λ counts is. taken-none f i counts (no_count counts i is.atoms))
    (compositions q 0) (compositions-IsComposition q 0))
    ∙ sum_by_zero (λ counts. 0) (compositions q 0) (λ counts. refl)

-- Each counts of n + 1 atoms with one of isotope i is counts of n atoms with one more.
taken-sum : (q n i : ℕ) (f : List ℕ → ℕ) → i < q →
    sum_by (taken f i) (compositions q (n + 1)) ≡ sum_by f (compositions q n)
taken-sum zero n i f within = absurd (omega arith)
taken-sum (suc q) n zero f within =
    let rests : ℕ → ℕ = λ first. sum_by (λ rest. taken f 0 (first ∷ rest)) (compositions q (n + 1 - first)) in
    let e : n + 1 + 1 ≡ suc (n + 1) = omega arith in
    let none : sum_by (λ rest. taken f 0 (0 ∷ rest)) (compositions q (n + 1 - 0)) ≡ 0 =
    sum_by_zero (λ rest. taken f 0 (0 ∷ rest)) (compositions q (n + 1 - 0)) (λ rest. taken-none f 0 (0 ∷ rest) refl) in
    sum_by-compositions (taken f 0) q (n + 1)
    ∙ ap (λ (k : ℕ). sum_by rests (range_with_len 0 k)) e
    ∙ sum_by-cons rests 0 (range_with_len 1 (n + 1))
    ∙ ap (λ (k : ℕ). k + sum_by rests (range_with_len 1 (n + 1))) none
    ∙ zero-add (sum_by rests (range_with_len 1 (n + 1)))
    ∙ sum_by-range_from_next rests 0 (n + 1)
    ∙ sum_by_same (λ k. rests (k + 1)) (λ k. sum_by (λ rest. f (k ∷ rest)) (compositions q (n - k)))
    (range_with_len 0 (n + 1))
    (λ k.
    let left : n + 1 - (k + 1) ≡ n - k = omega arith in
    ap (λ (m : ℕ). sum_by (λ rest. taken f 0 ((k + 1) ∷ rest)) (compositions q m)) left
    ∙ sum_by_same (λ rest. taken f 0 ((k + 1) ∷ rest)) (λ rest. f (k ∷ rest)) (compositions q (n - k))
    (taken-first f k))
    ∙ sym (sum_by-compositions f q n)
taken-sum (suc q) n (suc i) f within =
    let rests : ℕ → ℕ = λ first. sum_by (λ rest. taken f (suc i) (first ∷ rest)) (compositions q (n + 1 - first)) in
    let last : rests (n + 1) ≡ 0 =
    let left : n + 1 - (n + 1) ≡ 0 = omega arith in
    ap (λ (m : ℕ). sum_by (λ rest. taken f (suc i) ((n + 1) ∷ rest)) (compositions q m)) left
    ∙ sum_by_same (λ rest. taken f (suc i) ((n + 1) ∷ rest)) (taken (λ others. f ((n + 1) ∷ others)) i)
    (compositions q 0) (taken-later f i (n + 1))
    ∙ taken-no_atoms (λ others. f ((n + 1) ∷ others)) i q in
    sum_by-compositions (taken f (suc i)) q (n + 1)
    ∙ sum_by-range_more rests 0 (n + 1)
    ∙ ap (λ (k : ℕ). sum_by rests (range_with_len 0 (n + 1)) + rests k) (zero-add (n + 1))
    ∙ ap (λ (k : ℕ). sum_by rests (range_with_len 0 (n + 1)) + k) last
    ∙ add-zero (sum_by rests (range_with_len 0 (n + 1)))
    ∙ sum_by-range_same rests (λ k. sum_by (λ rest. f (k ∷ rest)) (compositions q (n - k))) 0 (n + 1)
    (λ k below.
    let left : n + 1 - k ≡ n - k + 1 = omega arith in
    ap (λ (m : ℕ). sum_by (λ rest. taken f (suc i) (k ∷ rest)) (compositions q m)) left
    ∙ sum_by_same (λ rest. taken f (suc i) (k ∷ rest)) (taken (λ others. f (k ∷ others)) i) (compositions q (n - k + 1))
    (taken-later f i k)
    ∙ taken-sum q (n - k) i (λ others. f (k ∷ others)) (omega arith))
    ∙ sym (sum_by-compositions f q n)

-- no atoms have one list of counts
no_atoms : (q : ℕ) → compositions q 0 ≡ replicate q 0 ∷ []
unfolding compositions
no_atoms zero = refl
no_atoms (suc q) = ap (λ rests. map (λ rest. 0 ∷ rest) rests ++ []) (no_atoms q)

-- the counts whose last atom was of isotope i
sum_by-last_drawn : (ws : List ℕ) (n i : ℕ) → i < length ws →
    sum_by (λ x. last_drawn ws n x i) (compositions (length ws) (n + 1))
    ≡ get_or ws i 0 * sum_by (weight_of ws n) (compositions (length ws) n)
unfolding last_drawn taken
sum_by-last_drawn ws n i within =
    taken-sum (length ws) n i (λ y. get_or ws i 0 * weight_of ws n y) within
    ∙ sum_by-scale (get_or ws i 0) (weight_of ws n) (compositions (length ws) n)

-- The weights of all counts of n atoms sum to the power of the sum of the weights.
pub weight_of-sum : (ws : List ℕ) (n : ℕ) → sum_by (weight_of ws n) (compositions (length ws) n) ≡ total_of ws n
weight_of-sum ws zero =
    ap (sum_by (weight_of ws 0)) (no_atoms (length ws))
    ∙ sum_by-cons (weight_of ws 0) (replicate (length ws) 0) []
    ∙ ap (λ (k : ℕ). k + 0) (weight_of-no_atoms ws (length ws))
    ∙ sym (pow-zero (sum ws))
weight_of-sum ws (suc n) =
    let e : suc n ≡ n + 1 = omega arith in
    let all : List (List ℕ) = compositions (length ws) (n + 1) in
    ap (λ (k : ℕ). sum_by (weight_of ws (suc n)) (compositions (length ws) k)) e
    ∙ sum_by_same (weight_of ws (suc n)) (λ x. sum_by (last_drawn ws n x) (places ws)) all (weight_of-suc ws n)
    ∙ sum_by-exchange (last_drawn ws n) all (places ws)
    ∙ sum_by-range_same (λ i. sum_by (λ x. last_drawn ws n x i) all) (λ i. sum ws ^ n * get_or ws i 0) 0 (length ws)
    (λ i within.
    sum_by-last_drawn ws n i (omega arith)
    ∙ ap (λ (k : ℕ). get_or ws i 0 * k) (weight_of-sum ws n)
    ∙ mul_comm (get_or ws i 0) (sum ws ^ n))
    ∙ sum_by-scale (sum ws ^ n) (λ i. get_or ws i 0) (places ws)
    ∙ ap (λ (s : ℕ). sum ws ^ n * s) (sum_by-places ws)
    ∙ sym (pow-suc (sum ws) n)

-- The weights of all isotopologues sum to the weight of all together.
pub weights-sum : (elements : List Element) →
    sum_by (isotopologue_weight elements) (isotopologues_of elements) ≡ all_weight elements
unfolding isotopologues_of choices counts_of isotopologue_weight all_weight
weights-sum [] = refl
weights-sum (e ∷ es) =
    let all : List (List (List ℕ)) = isotopologues_of es in
    sum_by-flat_map (isotopologue_weight (e ∷ es)) (λ c. map (λ more. c ∷ more) (isotopologues_of es)) (counts_of e)
    ∙ sum_by_same (λ c. sum_by (isotopologue_weight (e ∷ es)) (map (λ more. c ∷ more) (isotopologues_of es)))
    (λ c. all_weight es * weight_of e.weights e.atoms c) (counts_of e)
    (λ c.
    sum_by-map (isotopologue_weight (e ∷ es)) (λ more. c ∷ more) (isotopologues_of es)
    ∙ sum_by-scale (weight_of e.weights e.atoms c) (isotopologue_weight es) (isotopologues_of es)
    ∙ ap (λ (k : ℕ). weight_of e.weights e.atoms c * k) (weights-sum es)
    ∙ mul_comm (weight_of e.weights e.atoms c) (all_weight es))
    ∙ sum_by-scale (all_weight es) (weight_of e.weights e.atoms) (counts_of e)
    ∙ ap (λ (k : ℕ). all_weight es * k) (weight_of-sum e.weights e.atoms)
    ∙ mul_comm (all_weight es) (total_of e.weights e.atoms)
