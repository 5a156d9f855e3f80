-- How many compositions there are: binomial coefficients, one factor at a time.
use Rattle.std.proofs.Common.{◌≡◌, ℕ, zero, suc, ◌+◌, ◌-◌, ◌*◌, ◌/◌, ◌^◌, ◌<◌, ◌≤◌, List, [], ◌∷◌, ◌++◌, map, length}
use Rattle.std.proofs.Common.{take, get_or, refl, sym, ◌∙◌, ap, arith, length-append}
use Rattle.std.specs.Prelude.{flat_map}
use Rattle.std.specs.List.{range_with_len}
use Rattle.std.proofs.lemmas.List.{length-map, map-append}
use Rattle.std.proofs.Math.Nat.{mul_comm, mul_assoc, mul-div_cancel_left, mul-le-mul_left, mul-le-mul_right}
use Rattle.std.proofs.Math.Seq.{take-suc}
use Rattle.multinomial_bounds.specs.Isotopologue.{Element}
use Rattle.multinomial_bounds.specs.Compositions.{compositions, choices, counts_of, isotopologues_of, isotopologue_count}
use Rattle.isotopologue_list.proofs.ChoicesByPlace.{length-choices}
use Rattle.isotopologue_list.proofs.CompositionsByFirst.{compositions_one}

-- the compositions of n over q + 1 places
pub many : ℕ → ℕ → ℕ
many q n = length (compositions (suc q) n)

pub many_one : (n : ℕ) → many 0 n ≡ 1
unfolding many
many_one n = ap length (compositions_one n)

-- those of n atoms that begin with one of the first k counts are those of n + 1 atoms that begin with one of
-- the k counts after the first
shifted : (q n k : ℕ) →
    length (flat_map (λ first. map (λ rest. first ∷ rest) (compositions q (n + 1 - first))) (range_with_len 1 k))
    ≡ length (flat_map (λ first. map (λ rest. first ∷ rest) (compositions q (n - first))) (range_with_len 0 k))
shifted q n k = steps 0 k
  where
    steps : (a k : ℕ) →
        length (flat_map (λ first. map (λ rest. first ∷ rest) (compositions q (n + 1 - first))) (range_with_len (a + 1) k))
        ≡ length (flat_map (λ first. map (λ rest. first ∷ rest) (compositions q (n - first))) (range_with_len a k))
    steps a zero = refl
    steps a (suc k) =
        let same : n + 1 - (a + 1) ≡ n - a = omega arith in
        length-append (map (λ rest. (a + 1) ∷ rest) (compositions q (n + 1 - (a + 1)))) _
        ∙ omega (
          arith,
          length-map (compositions q (n + 1 - (a + 1))) (λ rest. (a + 1) ∷ rest),
          length-map (compositions q (n - a)) (λ rest. a ∷ rest),
          ap (λ (m : ℕ). length (compositions q m)) same,
          steps (a + 1) k,
          length-append (map (λ rest. a ∷ rest) (compositions q (n - a)))
              (flat_map (λ first. map (λ rest. first ∷ rest) (compositions q (n - first))) (range_with_len (a + 1) k)),
        )

pub many_more : (q n : ℕ) → many (suc q) (n + 1) ≡ many q (n + 1) + many (suc q) n
unfolding many compositions
many_more q n =
    let more : n + 1 + 1 ≡ suc (n + 1) = omega arith in
    let first = λ (k : ℕ). map (λ rest. k ∷ rest) (compositions (suc q) (n + 1 - k)) in
    let all : n + 1 - 0 ≡ n + 1 = omega arith in
    ap (λ (k : ℕ). length (flat_map first (range_with_len 0 k))) more
    ∙ length-append (first 0) (flat_map first (range_with_len 1 (n + 1)))
    ∙ omega (
      arith,
      length-map (compositions (suc q) (n + 1 - 0)) (λ rest. 0 ∷ rest),
      ap (λ (m : ℕ). length (compositions (suc q) m)) all,
      shifted (suc q) n (n + 1),
    )

pub many_none : (q : ℕ) → many q 0 ≡ 1
unfolding many compositions
many_none zero = many_one 0
many_none (suc q) =
    length-append (map (λ rest. 0 ∷ rest) (compositions (suc q) 0)) []
    ∙ omega (arith, length-map (compositions (suc q) 0) (λ rest. 0 ∷ rest), many_none q)

-- both rules of one factor
module _ (q : ℕ) (S : (n : ℕ) → (n + 1) * many q (n + 1) ≡ (n + q + 1) * many q n) where
  factor_from : (n : ℕ) → (q + 1) * many (suc q) n ≡ (n + q + 1) * many q n
  factor_from zero =
      let l : (q + 1) * many (suc q) 0 ≡ q + 1 = rw (many_none (suc q)) (omega arith) in
      let r : (0 + q + 1) * many q 0 ≡ q + 1 = rw (many_none q) (omega arith) in
      l ∙ sym r
  factor_from (suc n) =
      let more : suc n ≡ n + 1 = omega arith in
      rw (more, many_more q n) (omega (arith, factor_from n, S n))

pub atom_rule : (q n : ℕ) → (n + 1) * many q (n + 1) ≡ (n + q + 1) * many q n
atom_rule zero n = rw (many_one (n + 1), many_one n) (omega arith)
atom_rule (suc q) n = rw (many_more q n) (omega (arith, factor_from q (atom_rule q) n, atom_rule q n))

pub place_rule : (q n : ℕ) → (q + 1) * many (suc q) n ≡ (n + q + 1) * many q n
place_rule q n = factor_from q (atom_rule q) n

pub many_is : (places n : ℕ) → 1 ≤ places → length (compositions places n) ≡ many (places - 1) n
unfolding many
many_is places n some =
    ap (λ (p : ℕ). length (compositions p n)) (let e : places ≡ suc (places - 1) = omega arith in e)

one_place_more : (q n : ℕ) → many q n ≤ many (suc q) n
one_place_more q zero = rw (many_none q, many_none (suc q)) (omega arith)
one_place_more q (suc n) =
    let more : suc n ≡ n + 1 = omega arith in
    rw (more, many_more q n) (omega arith)

grows_by : (q d n : ℕ) → many q n ≤ many (d + q) n
grows_by q zero n = let e : 0 + q ≡ q = omega arith in rw e (omega arith)
grows_by q (suc d) n =
    let e : suc d + q ≡ suc (d + q) = omega arith in
    rw e (omega (arith, grows_by q d n, one_place_more (d + q) n))

pub many_grows : (q r n : ℕ) → q ≤ r → many q n ≤ many r n
many_grows q r n below =
    let e : r - q + q ≡ r = omega arith in
    rw e at (grows_by q (r - q) n)

pub many_some : (q n : ℕ) → 1 ≤ many q n
many_some q n = omega (arith, many_one n, many_grows 0 q n (omega arith))

-- one factor more: the division leaves nothing over
pub next_factor : (n place count a b d : ℕ) → a ≡ count → b ≡ n + place → d ≡ place → 1 ≤ place →
    count ≡ many (place - 1) n → a * b / d ≡ many place n
next_factor n place count a b d first second third some before =
    let q : place ≡ place - 1 + 1 = omega arith in
    let s : suc (place - 1) ≡ place = omega arith in
    let rule : (place - 1 + 1) * many (suc (place - 1)) n ≡ (n + (place - 1) + 1) * many (place - 1) n =
    place_rule (place - 1) n in
    let whole : a * b ≡ place * many place n =
    ap (λ (x : ℕ). x * b) (first ∙ before)
    ∙ ap (λ (x : ℕ). many (place - 1) n * x) (second ∙ (let e : n + place ≡ n + (place - 1) + 1 = omega arith in e))
    ∙ (let turned : many (place - 1) n * (n + (place - 1) + 1) ≡ (n + (place - 1) + 1) * many (place - 1) n = mul_comm _ _ in turned)
    ∙ sym rule
    ∙ ap (λ (x : ℕ). x * many (suc (place - 1)) n) (sym q)
    ∙ ap (λ (x : ℕ). place * many x n) s in
    ap (λ (x : ℕ). x / d) whole
    ∙ ap (λ (x : ℕ). place * many place n / x) third
    ∙ mul-div_cancel_left (many place n) some

pub product_fits : (a b : ℕ) → a < 2 ^ 64 → b ≤ 20000 → a * b < 2 ^ 128
product_fits a b low few =
    let below : a ≤ 2 ^ 64 = omega arith in
    omega (arith, mul-le-mul_right b below)

-- one element more
length_push : (lists : List (List (List ℕ))) (l : List (List ℕ)) →
    length (choices (lists ++ l ∷ [])) ≡ length (choices lists) * length l
unfolding choices
length_push [] l =
    length-choices l [] ∙ omega arith
length_push (x ∷ xs) l =
    length-choices x (xs ++ l ∷ [])
    ∙ ap (λ (n : ℕ). length x * n) (length_push xs l)
    ∙ sym (mul_assoc (length x) (length (choices xs)) (length l))
    ∙ ap (λ (n : ℕ). n * length l) (sym (length-choices x xs))

pub count_none : (es : List Element) → isotopologue_count (take 0 es) ≡ 1
unfolding isotopologue_count isotopologues_of choices
count_none es = refl

pub count_more : (es : List Element) (i : ℕ) (e : Element) (ws : List ℕ) (n : ℕ) → i < length es → e ≡ get_or es i e →
    ws ≡ e.weights → n ≡ e.atoms →
    isotopologue_count (take (i + 1) es) ≡ isotopologue_count (take i es) * length (compositions (length ws) n)
unfolding isotopologue_count isotopologues_of counts_of
count_more es i e ws n within is weights atoms =
    let longer : take (i + 1) es ≡ take i es ++ e ∷ [] =
    ap (λ (k : ℕ). take k es) (let s : i + 1 ≡ suc i = omega arith in s)
    ∙ take-suc es i e within
    ∙ ap (λ x. take i es ++ x ∷ []) (sym is) in
    ap (λ xs. length (choices (map counts_of xs))) longer
    ∙ ap (λ xs. length (choices xs)) (map-append counts_of (take i es) (e ∷ []))
    ∙ length_push (map counts_of (take i es)) (counts_of e)
    ∙ ap (λ (m : ℕ). length (choices (map counts_of (take i es))) * length (compositions m e.atoms)) (ap length (sym weights))
    ∙ ap (λ (m : ℕ). length (choices (map counts_of (take i es))) * length (compositions (length ws) m)) (sym atoms)

-- no factor is above a product of factors that are not 0
pub right_factor : (p q r most : ℕ) → r ≡ p * q → 1 ≤ p → r ≤ most → q ≤ most
right_factor p q r most e some few = omega (arith, mul-le-mul_right q some)

pub left_factor : (p q r most : ℕ) → r ≡ p * q → 1 ≤ q → r ≤ most → p ≤ most
left_factor p q r most e some few = omega (arith, mul-le-mul_left p some)

pub product_some : (p q r : ℕ) → r ≡ p * q → 1 ≤ p → 1 ≤ q → 1 ≤ r
product_some p q r e some more = omega (arith, mul-le-mul_right q some)
