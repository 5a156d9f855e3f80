-- The sum of parts is in Hill order, has the parts' counts and atoms, and its entries have atoms.
use Rattle.std.proofs.Common.{◌≡◌, ℕ, ◌+◌, ◌<◌, Bool, true, false, cond, ltb, T, List, [], ◌∷◌, ◌++◌, length, get_or}
use Rattle.std.proofs.Common.{take, refl, sym, ap, subst, ◌∙◌, arith, append-nil}
use Rattle.std.specs.Prelude.{IsTrue, Some, unwrap_or, fold, filter, All}
use Rattle.std.specs.declared.cmp.Ordering.TheVariants.{Less, Equal, Greater}
use Rattle.std.specs.Ordering.{is_lt}
use Rattle.std.specs.FinMap.{put, find, is_sorted}
use Rattle.std.specs.FinMap.Entries.{by_order, below_all, is_sorted-put, find-put}
use Rattle.std.specs.List.{AllByRecursion}
use Rattle.std.proofs.lemmas.List.Sums.{fold_push}
use Rattle.written_items.specs.declared.item.Item.{Item}
use Rattle.written_items.specs.Items.{item_eq}
use Rattle.formula_text.specs.HillOrder.{hill_cmp}
use Rattle.formula_text.specs.Formulas.{count_in, atoms_of, has_carbon, with_part, sum_of}
use Rattle.std.proofs.lemmas.Bool.{ltb-true, ltb-false, le-ltb, lt-ltb}
use Rattle.std.proofs.lemmas.List.Elements.{All-from_recursion, recursion_from_All, filter_more}
use Rattle.formula_text.proofs.HillOrderLaws.{IsTrue-T, hill_same, hill_ties, hill_total, item_eq-itself, item_eq-same}
use Rattle.formula_text.proofs.CountsInOrder.{atoms_of-cons, below-before, count_in-below, count_in-cons, count_in-find}
use Rattle.formula_text.proofs.CountsInOrder.{share, share-other, t_both, t_first, t_second}

pub is_sorted-with_part : (carbon : Bool) (es : List (Item × ℕ)) (p : Item × ℕ) → T (is_sorted (hill_cmp carbon) es)
    → T (is_sorted (hill_cmp carbon) (with_part carbon es p))
is_sorted-with_part carbon es p h = is_sorted-put (hill_cmp carbon) (hill_total carbon) p.0 _ es h

pub count_in-with_part : (carbon : Bool) (es : List (Item × ℕ)) (p : Item × ℕ) (q : Item)
    → T (is_sorted (hill_cmp carbon) es) → count_in (with_part carbon es p) q ≡ count_in es q + share q p
count_in-with_part carbon es p q h =
    let sum = count_in es p.0 + p.1 in
    count_in-find carbon q (with_part carbon es p) (is_sorted-with_part carbon es p h)
    ∙ ap (λ o. unwrap_or o 0) (find-put (hill_cmp carbon) (hill_total carbon) q p.0 sum es)
    ∙ ap (λ b. unwrap_or (cond b (Some sum) (find (hill_cmp carbon) q es)) 0) (hill_ties carbon q p.0)
    ∙ elim (item_eq q p.0) as (λ b. item_eq q p.0 ≡ b → unwrap_or (cond b (Some sum) (find (hill_cmp carbon) q es)) 0
    ≡ count_in es q + cond b p.1 0) [
      | true ↦ λ t. ap (λ x. count_in es x + p.1) (sym (item_eq-same q p.0 t))
      | false ↦ λ t. let is = count_in-find carbon q es h in omega arith
    ] refl

atoms_of-put : (carbon : Bool) (k : Item) (v : ℕ) (es : List (Item × ℕ)) → T (is_sorted (hill_cmp carbon) es)
    → atoms_of (put (hill_cmp carbon) k v es) + count_in es k ≡ atoms_of es + v
atoms_of-put carbon k v [] h = omega arith
atoms_of-put carbon k v (e ∷ es) h =
    elim (hill_cmp carbon k e.0) as (λ o. hill_cmp carbon k e.0
    ≡ o → atoms_of (by_order o ((k, v) ∷ e ∷ es) ((e.0, v) ∷ es) (e ∷ put (hill_cmp carbon) k v es)) + count_in
    (e ∷ es) k ≡ atoms_of (e ∷ es) + v) [
      | Less ↦ λ is.
          let before = below-before carbon k e.0 es is (t_first _ _ h) in
          let none = count_in-below carbon k (e ∷ es) (t_both _ _ (subst (λ r. T (is_lt r)) (sym is) tt) before) in
          let cons = atoms_of-cons (k, v) (e ∷ es) in
          omega arith
      | Equal ↦ λ is.
          let same = hill_same carbon k e.0 is in
          let own : share k e ≡ e.1 = ap (λ x. share x e) same ∙ ap (λ b. cond b e.1 0) (item_eq-itself e.0) in
          let none =
          count_in-below carbon k es (subst (λ x. T (below_all (hill_cmp carbon) x es)) (sym same)
          (t_first _ _ h)) in
          let count = count_in-cons e es k in
          let new = atoms_of-cons (e.0, v) es in
          let old = atoms_of-cons e es in
          omega arith
      | Greater ↦ λ is.
          let other = share-other carbon k e Greater is refl in
          let count = count_in-cons e es k in
          let tail : T (is_sorted (hill_cmp carbon) es) =
          t_second (below_all (hill_cmp carbon) e.0 es) (is_sorted (hill_cmp carbon) es) h in
          let rest : atoms_of (put (hill_cmp carbon) k v es) + count_in es k ≡ atoms_of es + v =
          atoms_of-put carbon k v es tail in
          let new = atoms_of-cons e (put (hill_cmp carbon) k v es) in
          let old = atoms_of-cons e es in
          omega arith
    ] refl

pub atoms_of-with_part : (carbon : Bool) (es : List (Item × ℕ)) (p : Item × ℕ) → T (is_sorted (hill_cmp carbon) es)
    → atoms_of (with_part carbon es p) ≡ atoms_of es + p.1
atoms_of-with_part carbon es p h =
    let step = atoms_of-put carbon p.0 (count_in es p.0 + p.1) es h in omega arith

-- what holds of the entries, and of the new one, holds of them after it was put
all-put : (P : Item × ℕ → Type 0) (carbon : Bool) (k : Item) (v : ℕ) (es : List (Item × ℕ)) → P (k, v)
    → AllByRecursion P es → AllByRecursion P (put (hill_cmp carbon) k v es)
all-put P carbon k v [] new h = (new, tt)
all-put P carbon k v (e ∷ es) new h =
    elim (hill_cmp carbon k e.0) as (λ o. hill_cmp carbon k e.0
    ≡ o → AllByRecursion P (by_order o ((k, v) ∷ e ∷ es) ((e.0, v) ∷ es) (e ∷ put (hill_cmp carbon) k v es))) [
      | Less ↦ λ is. (new, h)
      | Equal ↦ λ is. (subst (λ x. P (x, v)) (hill_same carbon k e.0 is) new, h.1)
      | Greater ↦ λ is. (h.0, all-put P carbon k v es new h.1)
    ] refl

fold-sorted : (carbon : Bool) (es ps : List (Item × ℕ)) → T (is_sorted (hill_cmp carbon) es)
    → T (is_sorted (hill_cmp carbon) (fold (with_part carbon) es ps))
fold-sorted carbon es [] h = h
fold-sorted carbon es (p ∷ ps) h = fold-sorted carbon (with_part carbon es p) ps (is_sorted-with_part carbon es p h)

fold-counts : (carbon : Bool) (es ps : List (Item × ℕ)) (q : Item) → T (is_sorted (hill_cmp carbon) es)
    → count_in (fold (with_part carbon) es ps) q ≡ count_in es q + count_in ps q
fold-counts carbon es [] q h = omega arith
fold-counts carbon es (p ∷ ps) q h =
    let step = count_in-with_part carbon es p q h in
    let cons = count_in-cons p ps q in
    fold-counts carbon (with_part carbon es p) ps q (is_sorted-with_part carbon es p h) ∙ omega arith

fold-atoms : (carbon : Bool) (es ps : List (Item × ℕ)) → T (is_sorted (hill_cmp carbon) es)
    → atoms_of (fold (with_part carbon) es ps) ≡ atoms_of es + atoms_of ps
fold-atoms carbon es [] h = omega arith
fold-atoms carbon es (p ∷ ps) h =
    let step = atoms_of-with_part carbon es p h in
    let cons = atoms_of-cons p ps in
    fold-atoms carbon (with_part carbon es p) ps (is_sorted-with_part carbon es p h) ∙ omega arith

abbrev pub HasAtoms : Item × ℕ → Type 0
HasAtoms p = 0 < p.1

fold-positive : (carbon : Bool) (es ps : List (Item × ℕ)) → AllByRecursion HasAtoms es → AllByRecursion HasAtoms ps
    → AllByRecursion HasAtoms (fold (with_part carbon) es ps)
fold-positive carbon es [] g h = g
fold-positive carbon es (p ∷ ps) g h =
    let some : 0 < p.1 = h.0 in
    fold-positive carbon (with_part carbon es p) ps (all-put HasAtoms carbon p.0 _ es (omega arith) g) h.1

-- the parts that have an atom
abbrev pub with_atoms : List (Item × ℕ) → List (Item × ℕ)
with_atoms parts = filter (λ p. ltb 0 p.1) parts

count_in-with_atoms : (ps : List (Item × ℕ)) (q : Item) → count_in (with_atoms ps) q ≡ count_in ps q
count_in-with_atoms [] q = refl
count_in-with_atoms (p ∷ ps) q =
    let rest : count_in (with_atoms ps) q ≡ count_in ps q = count_in-with_atoms ps q in
    elim (ltb 0 p.1) as (λ b. ltb 0 p.1 ≡ b → count_in (cond b (p ∷ with_atoms ps) (with_atoms ps)) q
    ≡ count_in (p ∷ ps) q) [
      | true ↦ λ e. let new = count_in-cons p (with_atoms ps) q in let old = count_in-cons p ps q in omega arith
      | false ↦ λ e.
          let none : p.1 ≡ 0 = omega (arith, ltb-false 0 p.1 e) in
          let old = count_in-cons p ps q in
          let nothing : share q p ≡ 0 =
          elim (item_eq q p.0) as (λ b. cond b p.1 0 ≡ 0) [ true ↦ none | false ↦ refl ] in
          omega arith
    ] refl

atoms_of-with_atoms : (ps : List (Item × ℕ)) → atoms_of (with_atoms ps) ≡ atoms_of ps
atoms_of-with_atoms [] = refl
atoms_of-with_atoms (p ∷ ps) =
    let rest : atoms_of (with_atoms ps) ≡ atoms_of ps = atoms_of-with_atoms ps in
    elim (ltb 0 p.1) as (λ b. ltb 0 p.1 ≡ b → atoms_of (cond b (p ∷ with_atoms ps) (with_atoms ps))
    ≡ atoms_of (p ∷ ps)) [
      | true ↦ λ e. let new = atoms_of-cons p (with_atoms ps) in let old = atoms_of-cons p ps in omega arith
      | false ↦ λ e. let none : p.1 ≡ 0 =
          omega (arith, ltb-false 0 p.1 e) in let old = atoms_of-cons p ps in omega arith
    ] refl

positive-with_atoms : (ps : List (Item × ℕ)) → AllByRecursion HasAtoms (with_atoms ps)
positive-with_atoms [] = tt
positive-with_atoms (p ∷ ps) =
    elim (ltb 0 p.1) as (λ b. ltb 0 p.1 ≡ b → AllByRecursion HasAtoms (cond b (p ∷ with_atoms ps) (with_atoms ps))) [
      | true ↦ λ e. (omega (arith, ltb-true 0 p.1 e), positive-with_atoms ps)
      | false ↦ λ e. positive-with_atoms ps
    ] refl

-- the sum of the first parts, in the order that all of them have
abbrev pub sum_so_far : Bool → List (Item × ℕ) → List (Item × ℕ)
sum_so_far carbon parts = fold (with_part carbon) [] (with_atoms parts)

pub sum_so_far-sorted : (carbon : Bool) (parts : List (Item × ℕ))
    → IsTrue (is_sorted (hill_cmp carbon) (sum_so_far carbon parts))
sum_so_far-sorted carbon parts = IsTrue-T _ (fold-sorted carbon [] (with_atoms parts) tt)

pub sum_so_far-atoms : (carbon : Bool) (parts : List (Item × ℕ)) → atoms_of (sum_so_far carbon parts) ≡ atoms_of parts
sum_so_far-atoms carbon parts =
    let atoms = atoms_of-with_atoms parts in
    fold-atoms carbon [] (with_atoms parts) tt ∙ omega arith

pub sum_so_far-more : (carbon : Bool) (parts : List (Item × ℕ)) (i : ℕ) (d : Item × ℕ) → i < length parts
    → 0 < (get_or parts i d).1
    → sum_so_far carbon (take (i + 1) parts) ≡ with_part carbon (sum_so_far carbon (take i parts)) (get_or parts i d)
sum_so_far-more carbon parts i d h some =
    let p = get_or parts i d in
    ap (λ (ps : List (Item × ℕ)). fold (with_part carbon) [] ps)
    (filter_more (λ (p : Item × ℕ). ltb 0 p.1) parts i d h
    ∙ ap (λ b. with_atoms (take i parts) ++ cond b (p ∷ []) []) (lt-ltb 0 p.1 some))
    ∙ fold_push (with_part carbon) [] (with_atoms (take i parts)) p

pub sum_so_far-none : (carbon : Bool) (parts : List (Item × ℕ)) (i : ℕ) (d : Item × ℕ) → i < length parts
    → (get_or parts i d).1 ≡ 0 → sum_so_far carbon (take (i + 1) parts) ≡ sum_so_far carbon (take i parts)
sum_so_far-none carbon parts i d h none =
    let p = get_or parts i d in
    ap (λ (ps : List (Item × ℕ)). fold (with_part carbon) [] ps)
    (filter_more (λ (p : Item × ℕ). ltb 0 p.1) parts i d h
    ∙ ap (λ b. with_atoms (take i parts) ++ cond b (p ∷ []) []) (le-ltb 0 p.1 (omega arith)) ∙ append-nil _)

-- what holds of each item of the parts holds of each item of their sum
pub item-with_part : (P : Item → Type 0) (carbon : Bool) (es : List (Item × ℕ)) (p : Item × ℕ) → All (λ p. P p.0) es
    → P p.0 → All (λ p. P p.0) (with_part carbon es p)
item-with_part P carbon es p h new =
    let Q : Item × ℕ → Type 0 = λ p. P p.0 in
    All-from_recursion Q _ (all-put Q carbon p.0 _ es new (recursion_from_All Q es h))

fold-items : (P : Item → Type 0) (carbon : Bool) (es ps : List (Item × ℕ)) → AllByRecursion (λ p. P p.0) es
    → AllByRecursion (λ p. P p.0) ps → AllByRecursion (λ p. P p.0) (fold (with_part carbon) es ps)
fold-items P carbon es [] g h = g
fold-items P carbon es (p ∷ ps) g h =
    fold-items P carbon (with_part carbon es p) ps (all-put (λ p. P p.0) carbon p.0 _ es h.0 g) h.1

items-with_atoms : (P : Item → Type 0) (ps : List (Item × ℕ)) → AllByRecursion (λ p. P p.0) ps
    → AllByRecursion (λ p. P p.0) (with_atoms ps)
items-with_atoms P [] h = tt
items-with_atoms P (p ∷ ps) h =
    elim (ltb 0 p.1) as (λ b. AllByRecursion (λ (q : Item × ℕ). P q.0) (cond b (p ∷ with_atoms ps) (with_atoms ps))) [
      | true ↦ (h.0, items-with_atoms P ps h.1)
      | false ↦ items-with_atoms P ps h.1
    ]

pub sum_of-items : (P : Item → Type 0) (parts : List (Item × ℕ)) → AllByRecursion (λ p. P p.0) parts
    → AllByRecursion (λ p. P p.0) (sum_of parts)
sum_of-items P parts h = fold-items P (has_carbon parts) [] (with_atoms parts) tt (items-with_atoms P parts h)

pub sum_of-sorted : (parts : List (Item × ℕ)) → T (is_sorted (hill_cmp (has_carbon parts)) (sum_of parts))
sum_of-sorted parts = fold-sorted (has_carbon parts) [] (with_atoms parts) tt

pub sum_of-counts : (parts : List (Item × ℕ)) (q : Item) → count_in (sum_of parts) q ≡ count_in parts q
sum_of-counts parts q =
    let counts = count_in-with_atoms parts q in
    fold-counts (has_carbon parts) [] (with_atoms parts) q tt ∙ omega arith

pub sum_of-atoms : (parts : List (Item × ℕ)) → atoms_of (sum_of parts) ≡ atoms_of parts
sum_of-atoms parts =
    let atoms = atoms_of-with_atoms parts in
    fold-atoms (has_carbon parts) [] (with_atoms parts) tt ∙ omega arith

pub sum_of-positive : (parts : List (Item × ℕ)) → AllByRecursion HasAtoms (sum_of parts)
sum_of-positive parts = fold-positive (has_carbon parts) [] (with_atoms parts) tt (positive-with_atoms parts)
