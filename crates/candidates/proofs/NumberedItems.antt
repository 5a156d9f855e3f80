-- Items with the numbers of their places.
use Rattle.std.proofs.Common.{◌≡◌, ℕ, zero, suc, ◌+◌, ◌-◌, ◌*◌, ◌<◌, ◌≤◌, Bool, true, false, cond, ltb, List, [], ◌∷◌}
use Rattle.std.proofs.Common.{◌++◌, length, get_or, take, filter, refl, sym, ap, ◌∙◌, arith}
use Rattle.std.specs.Prelude.{not, ◌&&◌, ◌||◌, AllPairs, Ok}
use Rattle.std.specs.List.{list_any, zip}
use Rattle.std.proofs.lemmas.Bool.{false≢true, ltb-false, le-ltb, lt-ltb}
use Rattle.written_items.specs.declared.item.Item.{Item}
use Rattle.written_items.specs.Items.{item_eq}
use Rattle.formula_text.specs.Formulas.{count_in, atoms_of, has_carbon, sum_of, parts_of}
use Rattle.formula_text.proofs.CountsInOrder.{share, count_in-cons, atoms_of-cons}
use Rattle.formula_text.proofs.HillOrderLaws.{item_eq-same}
use Rattle.formula_text.proofs.SumFolds.{sum_of-atoms}
use Rattle.formula_text.proofs.SumLimits.{parts_of-within}
use Rattle.adducts.specs.Ions.{has_item}
use Rattle.adducts.proofs.ItemLists.{Distinct, count_in-absent, sum-entries, Distinct-filter}
use Rattle.candidates.specs.HillOrders.{numbered_from, numbered, is_carbon, others_of}

abbrev pub IsApart : List Item → Type 0
IsApart items = AllPairs (λ (a b : Item). a ≡ b → ⊥) items

pub one-numbered : (n : ℕ) (items : List Item) (i : ℕ) (x : Item) → i < length items → x ≡ get_or items i x
    → numbered_from n (take (i + 1) items) ≡ numbered_from n (take i items) ++ (x, n + i) ∷ []
one-numbered n [] i x h e = absurd (omega (arith, h))
one-numbered n (y ∷ ys) zero x h e =
    let one : zero + 1 ≡ suc zero = omega arith in
    let same : n ≡ n + zero = omega arith in
    ap (λ k. numbered_from n (take k (y ∷ ys))) one
    ∙ ap (λ (z : Item). (z, n) ∷ []) (sym e) ∙ ap (λ k. (x, k) ∷ []) same
one-numbered n (y ∷ ys) (suc i) x h e =
    let rest = one-numbered (suc n) ys i x (omega (arith, h)) e in
    let one : suc i + 1 ≡ suc (i + 1) = omega arith in
    let same : suc n + i ≡ n + suc i = omega arith in
    ap (λ k. numbered_from n (take k (y ∷ ys))) one
    ∙ ap (λ l. (y, n) ∷ l) (rest ∙ ap (λ k. numbered_from (suc n) (take i ys) ++ (x, k) ∷ []) same)

-- ---- no item stands twice

absent-numbered : (q : Item) (n : ℕ) (items : List Item) → ((k : ℕ) (d : Item) → k < length items → q ≡ get_or items k d → ⊥)
    → has_item (numbered_from n items) q ≡ false
absent-numbered q n [] apart = refl
absent-numbered q n (x ∷ xs) apart =
    elim (item_eq x q) as (λ b. item_eq x q ≡ b → (b || has_item (numbered_from (suc n) xs) q) ≡ false) [
      | true ↦ λ e. absurd (apart zero x (omega arith) (sym (item_eq-same x q e)))
      | false ↦ λ _. absent-numbered q (suc n) xs (λ k d within same. apart (suc k) d (omega (arith, within)) same)
    ] refl

pub numbered-Distinct : (n : ℕ) (items : List Item) → IsApart items → Distinct (numbered_from n items)
numbered-Distinct n [] apart = tt
numbered-Distinct n (x ∷ xs) apart = (
  absent-numbered x (suc n) xs (λ k d within same. apart zero (suc k) d (omega arith) (omega (arith, within)) same),
  numbered-Distinct (suc n) xs (λ i j d before within. apart (suc i) (suc j) d (omega (arith, before)) (omega (arith, within))),
)

-- ---- the number of an item

no-share : (q x : Item) (n : ℕ) → item_eq q x ≡ false → share q (x, n) ≡ 0
no-share q x n e = ap (λ b. cond b n 0) e

own-share : (q x : Item) (n : ℕ) → item_eq q x ≡ true → share q (x, n) ≡ n
own-share q x n e = ap (λ b. cond b n 0) e

none-behind : (q x : Item) (n : ℕ) (xs : List Item) → has_item (numbered_from n xs) x ≡ false → item_eq q x ≡ true
    → count_in (numbered_from n xs) q ≡ 0
none-behind q x n xs none e =
    count_in-absent (numbered_from n xs) q (ap (has_item (numbered_from n xs)) (item_eq-same q x e) ∙ none)

-- it is at least the first number
at-least : (n : ℕ) (items : List Item) (q : Item) → 0 < count_in (numbered_from n items) q → n ≤ count_in (numbered_from n items) q
at-least n [] q h = absurd (omega (arith, h))
at-least n (x ∷ xs) q h =
    let cons = count_in-cons (x, n) (numbered_from (suc n) xs) q in
    elim (item_eq q x) as (λ b. item_eq q x ≡ b → n ≤ count_in (numbered_from n (x ∷ xs)) q) [
      | true ↦ λ e. let own = own-share q x n e in omega (arith, cons, own)
      | false ↦ λ e.
          let none = no-share q x n e in
          let rest = at-least (suc n) xs q (omega (arith, cons, none, h)) in
          omega (arith, cons, none, rest)
    ] refl

-- and below the one behind the last
pub at-most-number : (n : ℕ) (items : List Item) (q : Item) → Distinct (numbered_from (suc n) items)
    → count_in (numbered_from (suc n) items) q ≤ n + length items
at-most-number n [] q h = omega arith
at-most-number n (x ∷ xs) q h =
    let cons = count_in-cons (x, suc n) (numbered_from (suc (suc n)) xs) q in
    elim (item_eq q x) as (λ b. item_eq q x ≡ b → count_in (numbered_from (suc n) (x ∷ xs)) q ≤ n + length (x ∷ xs)) [
      | true ↦ λ e.
          let own = own-share q x (suc n) e in
          let none = none-behind q x (suc (suc n)) xs h.0 e in
          omega (arith, cons, own, none)
      | false ↦ λ e.
          let none = no-share q x (suc n) e in
          let rest = at-most-number (suc n) xs q h.1 in
          omega (arith, cons, none, rest)
    ] refl

-- an item without a number has no count
pub none-counted : (n : ℕ) (items : List Item) (counts : List ℕ) (q : Item) → count_in (numbered_from (suc n) items) q ≡ 0
    → count_in (zip items counts) q ≡ 0
none-counted n [] counts q h = refl
none-counted n (x ∷ xs) [] q h = refl
none-counted n (x ∷ xs) (c ∷ cs) q h =
    let cons = count_in-cons (x, suc n) (numbered_from (suc (suc n)) xs) q in
    let zipped = count_in-cons (x, c) (zip xs cs) q in
    elim (item_eq q x) as (λ b. item_eq q x ≡ b → count_in (zip (x ∷ xs) (c ∷ cs)) q ≡ 0) [
      | true ↦ λ e. let own = own-share q x (suc n) e in absurd (omega (arith, cons, own, h))
      | false ↦ λ e.
          let none = no-share q x c e in
          let rest = none-counted (suc n) xs cs q (omega (arith, cons, no-share q x (suc n) e, h)) in
          omega (arith, zipped, none, rest)
    ] refl

-- the count of an item stands at the place of its number
pub at-number : (n : ℕ) (items : List Item) (counts : List ℕ) (q : Item) → Distinct (numbered_from (suc n) items)
    → length counts ≡ length items → 0 < count_in (numbered_from (suc n) items) q
    → get_or counts (count_in (numbered_from (suc n) items) q - suc n) 0 ≡ count_in (zip items counts) q
at-number n [] counts q apart same h = absurd (omega (arith, h))
at-number n (x ∷ xs) [] q apart same h = absurd (omega (arith, same))
at-number n (x ∷ xs) (c ∷ cs) q apart same h =
    let number : ℕ = count_in (numbered_from (suc n) (x ∷ xs)) q in
    let cons = count_in-cons (x, suc n) (numbered_from (suc (suc n)) xs) q in
    let zipped = count_in-cons (x, c) (zip xs cs) q in
    elim (item_eq q x) as (λ b. item_eq q x ≡ b → get_or (c ∷ cs) (number - suc n) 0 ≡ count_in (zip (x ∷ xs) (c ∷ cs)) q) [
      | true ↦ λ e.
          let own = own-share q x (suc n) e in
          let none = none-behind q x (suc (suc n)) xs apart.0 e in
          let first : number - suc n ≡ zero = omega (arith, cons, own, none) in
          let rest = none-counted (suc n) xs cs q none in
          let count = own-share q x c e in
          let all : c ≡ count_in (zip (x ∷ xs) (c ∷ cs)) q = omega (arith, zipped, rest, count) in
          ap (λ k. get_or (c ∷ cs) k 0) first ∙ all
      | false ↦ λ e.
          let none = no-share q x (suc n) e in
          let nothing = no-share q x c e in
          let later : number ≡ count_in (numbered_from (suc (suc n)) xs) q = omega (arith, cons, none) in
          let from = at-least (suc (suc n)) xs q (omega (arith, later, h)) in
          let next : number - suc n ≡ suc (count_in (numbered_from (suc (suc n)) xs) q - suc (suc n)) = omega (arith, later, from) in
          let rest = at-number (suc n) xs cs q apart.1 (omega (arith, same)) (omega (arith, later, h)) in
          let all : count_in (zip xs cs) q ≡ count_in (zip (x ∷ xs) (c ∷ cs)) q = omega (arith, zipped, nothing) in
          ap (λ k. get_or (c ∷ cs) k 0) next ∙ rest ∙ all
    ] refl

-- ---- carbon

pub carbon-numbered : (n : ℕ) (items : List Item) (counts : List ℕ) → has_carbon (zip items counts) ≡ true
    → has_carbon (numbered_from (suc n) items) ≡ true
carbon-numbered n [] counts h = absurd (false≢true h)
carbon-numbered n (x ∷ xs) [] h = absurd (false≢true h)
carbon-numbered n (x ∷ xs) (c ∷ cs) h =
    elim (is_carbon x) as (λ b. is_carbon x ≡ b → ((b && ltb 0 c) || has_carbon (zip xs cs)) ≡ true
    → ((b && ltb 0 (suc n)) || has_carbon (numbered_from (suc (suc n)) xs)) ≡ true) [
      | true ↦ λ _ _. ap (λ b. b || has_carbon (numbered_from (suc (suc n)) xs)) (lt-ltb 0 (suc n) (omega arith))
      | false ↦ λ _ h. carbon-numbered (suc n) xs cs h
    ] refl h

-- an item that isn't left out is counted as before
pub count_in-filter : (test : Item → Bool) (ps : List (Item × ℕ)) (q : Item)
    → count_in (filter (λ p. test p.0) ps) q ≡ cond (test q) (count_in ps q) 0
count_in-filter test [] q = elim (test q) as (λ b. count_in [] q ≡ cond b (count_in [] q) 0) [ true ↦ refl | false ↦ refl ]
count_in-filter test (p ∷ ps) q =
    let rest = count_in-filter test ps q in
    let cons = count_in-cons p ps q in
    let new = count_in-cons p (filter (λ r. test r.0) ps) q in
    elim (test p.0) as (λ t. test p.0 ≡ t → count_in (cond t (p ∷ filter (λ r. test r.0) ps) (filter (λ r. test r.0) ps)) q
    ≡ cond (test q) (count_in (p ∷ ps) q) 0) [
      | true ↦ λ kept. elim (item_eq q p.0) as (λ b. item_eq q p.0 ≡ b
          → count_in (p ∷ filter (λ r. test r.0) ps) q ≡ cond (test q) (count_in (p ∷ ps) q) 0) [
            | true ↦ λ e.
                let is : test q ≡ true = ap test (item_eq-same q p.0 e) ∙ kept in
                let all : count_in (filter (λ r. test r.0) ps) q ≡ count_in ps q =
                rest ∙ ap (λ b. cond b (count_in ps q) 0) is in
                let both : count_in (p ∷ filter (λ r. test r.0) ps) q ≡ count_in (p ∷ ps) q = omega (arith, cons, new, all) in
                both ∙ sym (ap (λ b. cond b (count_in (p ∷ ps) q) 0) is)
            | false ↦ λ e. other p q e rest cons new
          ] refl
      | false ↦ λ dropped. elim (item_eq q p.0) as (λ b. item_eq q p.0 ≡ b
          → count_in (filter (λ r. test r.0) ps) q ≡ cond (test q) (count_in (p ∷ ps) q) 0) [
            | true ↦ λ e.
                let is : test q ≡ false = ap test (item_eq-same q p.0 e) ∙ dropped in
                rest ∙ ap (λ b. cond b (count_in ps q) 0) is ∙ sym (ap (λ b. cond b (count_in (p ∷ ps) q) 0) is)
            | false ↦ λ e.
                let none : share q p ≡ 0 = ap (λ b. cond b p.1 0) e in
                let same : count_in (p ∷ ps) q ≡ count_in ps q = omega (arith, cons, none) in
                rest ∙ ap (λ n. cond (test q) n 0) (sym same)
          ] refl
    ] refl
  where
    other : (p : Item × ℕ) (q : Item) → item_eq q p.0 ≡ false
        → count_in (filter (λ r. test r.0) ps) q ≡ cond (test q) (count_in ps q) 0
        → count_in (p ∷ ps) q ≡ share q p + count_in ps q
        → count_in (p ∷ filter (λ r. test r.0) ps) q ≡ share q p + count_in (filter (λ r. test r.0) ps) q
        → count_in (p ∷ filter (λ r. test r.0) ps) q ≡ cond (test q) (count_in (p ∷ ps) q) 0
    other p q e rest cons new =
        let none : share q p ≡ 0 = ap (λ b. cond b p.1 0) e in
        let here : count_in (p ∷ filter (λ r. test r.0) ps) q ≡ count_in (filter (λ r. test r.0) ps) q = omega (arith, new, none) in
        let same : count_in (p ∷ ps) q ≡ count_in ps q = omega (arith, cons, none) in
        here ∙ rest ∙ ap (λ n. cond (test q) n 0) (sym same)

pub others-no_carbon : (ps : List (Item × ℕ)) → has_carbon (others_of ps) ≡ false
others-no_carbon [] = refl
others-no_carbon (p ∷ ps) =
    elim (is_carbon p.0) as (λ b. is_carbon p.0 ≡ b
    → has_carbon (cond (not b) (p ∷ others_of ps) (others_of ps)) ≡ false) [
      | true ↦ λ _. others-no_carbon ps
      | false ↦ λ e. ap (λ b. (b && ltb 0 p.1) || has_carbon (others_of ps)) e ∙ others-no_carbon ps
    ] refl

pub no_carbon-counted : (ps : List (Item × ℕ)) (q : Item) → has_carbon ps ≡ false → is_carbon q ≡ true → count_in ps q ≡ 0
no_carbon-counted [] q none is = refl
no_carbon-counted (p ∷ ps) q none is =
    let cons = count_in-cons p ps q in
    let parts = or_false (is_carbon p.0 && ltb 0 p.1) (has_carbon ps) none in
    let rest = no_carbon-counted ps q parts.1 is in
    elim (item_eq q p.0) as (λ b. item_eq q p.0 ≡ b → count_in (p ∷ ps) q ≡ 0) [
      | true ↦ λ e.
          let own : share q p ≡ p.1 = ap (λ b. cond b p.1 0) e in
          let carbon : is_carbon p.0 ≡ true = ap is_carbon (sym (item_eq-same q p.0 e)) ∙ is in
          let few : ltb 0 p.1 ≡ false = ap (λ b. b && ltb 0 p.1) (sym carbon) ∙ parts.0 in
          let zeroed = ltb-false 0 p.1 few in
          omega (arith, cons, own, zeroed, rest)
      | false ↦ λ e. let nothing : share q p ≡ 0 = ap (λ b. cond b p.1 0) e in omega (arith, cons, nothing, rest)
    ] refl
  where
    or_false : (a b : Bool) → (a || b) ≡ false → (a ≡ false) × (b ≡ false)
    or_false true b h = absurd (false≢true (sym h))
    or_false false b h = (refl, h)

-- ---- the limits

pub atoms-numbered : (n : ℕ) (items : List Item) → n + length items ≤ 21 → atoms_of (numbered_from n items) ≤ 20 * length items
atoms-numbered n [] h = omega arith
atoms-numbered n (x ∷ xs) h =
    let rest = atoms-numbered (suc n) xs (omega (arith, h)) in
    let cons = atoms_of-cons (x, n) (numbered_from (suc n) xs) in
    omega (arith, rest, cons, h)

pub length-numbered : (n : ℕ) (items : List Item) → length (numbered_from n items) ≡ length items
length-numbered n [] = refl
length-numbered n (x ∷ xs) = ap suc (length-numbered (suc n) xs)

pub atoms-filter : (test : Item × ℕ → Bool) (ps : List (Item × ℕ)) → atoms_of (filter test ps) ≤ atoms_of ps
atoms-filter test [] = omega arith
atoms-filter test (p ∷ ps) =
    let rest = atoms-filter test ps in
    let cons = atoms_of-cons p ps in
    let new = atoms_of-cons p (filter test ps) in
    elim (test p) as (λ b. atoms_of (cond b (p ∷ filter test ps) (filter test ps)) ≤ atoms_of (p ∷ ps)) [
      | true ↦ omega (arith, rest, cons, new)
      | false ↦ omega (arith, rest, cons)
    ]

pub length-filtered : (test : Item × ℕ → Bool) (ps : List (Item × ℕ)) → length (filter test ps) ≤ length ps
length-filtered test [] = omega arith
length-filtered test (p ∷ ps) =
    let rest = length-filtered test ps in
    elim (test p) as (λ b. length (cond b (p ∷ filter test ps) (filter test ps)) ≤ length (p ∷ ps)) [
      | true ↦ omega (arith, rest)
      | false ↦ omega (arith, rest)
    ]

pub few-each : (ps : List (Item × ℕ)) → atoms_of ps ≤ 10000 → list_any (λ p. ltb 10000 p.1) ps ≡ false
few-each [] h = refl
few-each (p ∷ ps) h =
    let cons = atoms_of-cons p ps in
    ap (λ b. b || list_any (λ r. ltb 10000 r.1) ps) (le-ltb 10000 p.1 (omega (arith, cons, h)))
    ∙ few-each ps (omega (arith, cons, h))

-- few items with few atoms have a sum
pub few-sum : (ps : List (Item × ℕ)) → Distinct ps → atoms_of ps ≤ 10000 → length ps ≤ 20 → parts_of ps ≡ Ok (sum_of ps)
few-sum ps apart atoms items =
    let same = sum_of-atoms ps in
    let entries = (sum-entries (λ _. true) ps apart).one_each in
    let fewer = length-filtered (λ p. ltb 0 p.1) ps in
    parts_of-within ps (le-ltb 20000 (atoms_of ps) (omega (arith, atoms)))
    (few-each (sum_of ps) (omega (arith, same, atoms)))
    (le-ltb 20 (length (sum_of ps)) (omega (arith, entries, fewer, items)))

pub numbered-sum : (items : List Item) → IsApart items → length items ≤ 20 → parts_of (numbered items) ≡ Ok (sum_of (numbered items))
numbered-sum items apart few =
    let atoms = atoms-numbered 1 items (omega (arith, few)) in
    few-sum (numbered items) (numbered-Distinct 1 items apart) (omega (arith, atoms, few))
    (omega (arith, length-numbered 1 items, few))

pub others-sum : (items : List Item) → IsApart items → length items ≤ 20
    → parts_of (others_of (numbered items)) ≡ Ok (sum_of (others_of (numbered items)))
others-sum items apart few =
    let atoms = atoms-numbered 1 items (omega (arith, few)) in
    let fewer = atoms-filter (λ p. not (is_carbon p.0)) (numbered items) in
    let shorter = length-filtered (λ p. not (is_carbon p.0)) (numbered items) in
    few-sum (others_of (numbered items))
    (Distinct-filter (λ p. not (is_carbon p.0)) (numbered items) (numbered-Distinct 1 items apart))
    (omega (arith, atoms, fewer, few)) (omega (arith, shorter, length-numbered 1 items, few))
