-- The counts of isotopes, parted at the end of an element.
use Rattle.std.proofs.Common.{◌≡◌, ℕ, zero, ◌+◌, ◌*◌, ◌<◌, ◌≤◌, Bool, true, false, cond, List, [], ◌∷◌, ◌++◌, length}
use Rattle.std.proofs.Common.{get_or, take, drop, map, refl, sym, ap, ◌∙◌, arith, suc, drop-cons, add-one, eq-eqb}
use Rattle.std.proofs.Common.{length-drop, append-nil, ltb}
use Rattle.std.specs.Prelude.{◌==◌, sum, sum_by, filter, flat_map}
use Rattle.std.specs.List.{zip, concat}
use Rattle.std.proofs.lemmas.List.{length-append, length-map, take-append-drop, take_more}
use Rattle.std.proofs.lemmas.List.Elements.{filter-append}
use Rattle.std.proofs.lemmas.List.Sums.{sum_by-cons, sum_by-append}
use Rattle.std.proofs.lemmas.Grind.{flat_map-append}
use Rattle.std.proofs.Math.Dec.{eqb-suc-zero}
use Rattle.multinomial_bounds.specs.Isotopologue.{IsIsotopologue}
use Rattle.element_table.specs.declared.element.Isotope.{Isotope}
use Rattle.element_table.specs.Elements.{TableEntries}
use Rattle.written_items.specs.declared.item.Item.{Item}
use Rattle.formula_text.specs.Formulas.{atoms_of}
use Rattle.isotopologue_text.specs.Isotopologues.{is_plain, plain_items, isotopes_that_occur, isotopes_of, element_in}
use Rattle.isotopologue_text.specs.Isotopologues.{formula_isotopes, isotope_items, isotope_item, isotope_text}
use Rattle.isotopologue_text.specs.Isotopologues.{counts_text, counts_mass, IsIsotopologueOf}

-- the rest of a filtered list, where the element at its front passes

drop-front : {X : Type 0} (xs : List X) (i : ℕ) (x : X) → i < length xs → x ≡ get_or xs i x → drop i xs ≡ x ∷ drop (i + 1) xs
drop-front xs i x h e = rw (add-one) (drop-cons xs i x h ∙ ap (λ y. y ∷ drop (suc i) xs) (sym e))

filter-drop : {X : Type 0} (p : X → Bool) (xs : List X) (i : ℕ) (x : X) → i < length xs → x ≡ get_or xs i x →
    p x ≡ true → filter p (drop i xs) ≡ x ∷ filter p (drop (i + 1) xs)
filter-drop p xs i x h e passes =
    ap (filter p) (drop-front xs i x h e)
    ∙ ap (λ b. cond b (x ∷ filter p (drop (i + 1) xs)) (filter p (drop (i + 1) xs))) passes

filter-skip : {X : Type 0} (p : X → Bool) (xs : List X) (i : ℕ) (x : X) → i < length xs → x ≡ get_or xs i x →
    p x ≡ false → filter p (drop i xs) ≡ filter p (drop (i + 1) xs)
filter-skip p xs i x h e fails =
    ap (filter p) (drop-front xs i x h e)
    ∙ ap (λ b. cond b (x ∷ filter p (drop (i + 1) xs)) (filter p (drop (i + 1) xs))) fails

zip-none : {A B : Type 0} (xs : List A) → zip {K = A} {X = B} xs [] ≡ []
zip-none [] = refl
zip-none (x ∷ xs) = refl

zip-append : {A B : Type 0} (xs ys : List A) (cs : List B) → zip (xs ++ ys) cs ≡ zip xs (take (length xs) cs) ++ zip ys (drop (length xs) cs)
zip-append [] ys cs = refl
zip-append (x ∷ xs) ys [] = sym (zip-none ys)
zip-append (x ∷ xs) ys (c ∷ cs) = ap (λ ps. (x, c) ∷ ps) (zip-append xs ys cs)

pub counts_mass-append : (xs ys : List Isotope) (counts : List ℕ) →
    counts_mass (xs ++ ys) counts ≡ counts_mass xs (take (length xs) counts) + counts_mass ys (drop (length xs) counts)
counts_mass-append xs ys counts =
    ap (sum_by (λ p. p.1 * p.0.mass)) (zip-append xs ys counts)
    ∙ sum_by-append (λ p. p.1 * p.0.mass) (zip xs (take (length xs) counts)) (zip ys (drop (length xs) counts))

pub counts_text-append : (xs ys : List Item) (counts : List ℕ) →
    counts_text (xs ++ ys) counts ≡ counts_text xs (take (length xs) counts) ++ counts_text ys (drop (length xs) counts)
counts_text-append xs ys counts =
    ap (flat_map (λ p. isotope_text p.0 p.1)) (zip-append xs ys counts)
    ∙ flat_map-append (λ p. isotope_text p.0 p.1) (zip xs (take (length xs) counts)) (zip ys (drop (length xs) counts))

pub sum-parts : (n : ℕ) (counts : List ℕ) → sum counts ≡ sum (take n counts) + sum (drop n counts)
sum-parts n counts =
    ap sum (sym (take-append-drop n counts)) ∙ sum_by-append (λ x. x) (take n counts) (drop n counts)

-- the items without a label that are left, by the item at the front

pub plain-front : (items : List (Item × ℕ)) (i : ℕ) (part : Item × ℕ) → i < length items → part ≡ get_or items i part →
    part.0.label ≡ 0 → plain_items (drop i items) ≡ part ∷ plain_items (drop (i + 1) items)
plain-front items i part h e plain = filter-drop (λ p. is_plain p.0) items i part h e (eq-eqb part.0.label 0 plain)

plain-skip : (items : List (Item × ℕ)) (i : ℕ) (part : Item × ℕ) → i < length items → part ≡ get_or items i part →
    is_plain part.0 ≡ false → plain_items (drop i items) ≡ plain_items (drop (i + 1) items)
plain-skip items i part h e other = filter-skip (λ p. is_plain p.0) items i part h e other

is_plain-labelled : (label : ℕ) → (label ≡ 0 → ⊥) → (label == 0) ≡ false
is_plain-labelled zero h = absurd (h refl)
is_plain-labelled (suc n) h = eqb-suc-zero n

pub isotopes-skip : (table : TableEntries) (items : List (Item × ℕ)) (i : ℕ) (part : Item × ℕ) → i < length items →
    part ≡ get_or items i part → (part.0.label ≡ 0 → ⊥) →
    formula_isotopes table (drop i items) ≡ formula_isotopes table (drop (i + 1) items)
isotopes-skip table items i part h e other = ap (flat_map (λ p. isotopes_of table p.0)) (plain-skip items i part h e (is_plain-labelled part.0.label other))

pub items-skip : (table : TableEntries) (items : List (Item × ℕ)) (i : ℕ) (part : Item × ℕ) → i < length items →
    part ≡ get_or items i part → (part.0.label ≡ 0 → ⊥) →
    isotope_items table (drop i items) ≡ isotope_items table (drop (i + 1) items)
items-skip table items i part h e other =
    ap (flat_map (λ p. map (isotope_item p.0) (isotopes_of table p.0)))
    (plain-skip items i part h e (is_plain-labelled part.0.label other))

pub isotopes-front : (table : TableEntries) (items : List (Item × ℕ)) (i : ℕ) (part : Item × ℕ) → i < length items →
    part ≡ get_or items i part → part.0.label ≡ 0 →
    formula_isotopes table (drop i items) ≡ isotopes_of table part.0 ++ formula_isotopes table (drop (i + 1) items)
isotopes-front table items i part h e plain = ap (flat_map (λ p. isotopes_of table p.0)) (plain-front items i part h e plain)

pub items-front : (table : TableEntries) (items : List (Item × ℕ)) (i : ℕ) (part : Item × ℕ) → i < length items →
    part ≡ get_or items i part → part.0.label ≡ 0 →
    isotope_items table (drop i items) ≡ map (isotope_item part.0) (isotopes_of table part.0)
    ++ isotope_items table (drop (i + 1) items)
items-front table items i part h e plain = ap (flat_map (λ p. map (isotope_item p.0) (isotopes_of table p.0))) (plain-front items i part h e plain)

-- there are as many isotopes by their items as by their masses

parts-as_many : (table : TableEntries) (parts : List (Item × ℕ)) →
    length (flat_map (λ p. map (isotope_item p.0) (isotopes_of table p.0)) parts)
    ≡ length (flat_map (λ p. isotopes_of table p.0) parts)
parts-as_many table [] = refl
parts-as_many table (p ∷ ps) =
    length-append (map (isotope_item p.0) (isotopes_of table p.0)) (flat_map (λ q. map (isotope_item q.0) (isotopes_of table q.0)) ps)
    ∙ ap (λ n. n + length (flat_map (λ q. map (isotope_item q.0) (isotopes_of table q.0)) ps))
    (length-map (isotopes_of table p.0) (isotope_item p.0))
    ∙ ap (λ n. length (isotopes_of table p.0) + n) (parts-as_many table ps)
    ∙ sym (length-append (isotopes_of table p.0) (flat_map (λ q. isotopes_of table q.0) ps))

pub items-as_many : (table : TableEntries) (parts : List (Item × ℕ)) →
    length (isotope_items table parts) ≡ length (formula_isotopes table parts)
items-as_many table parts = parts-as_many table (plain_items parts)

-- counts that are split where the first isotopes end

pub rest-agrees : (all xs ys : List Isotope) (rest : List ℕ) (n : ℕ) → all ≡ xs ++ ys → n ≡ length xs →
    length rest ≡ length all → length (drop n rest) ≡ length ys
rest-agrees all xs ys rest n parts here agree =
    let whole : length all ≡ length xs + length ys = ap length parts ∙ length-append xs ys in
    let left = length-drop n rest in
    omega arith

pub mass-parts : (all xs ys : List Isotope) (rest : List ℕ) (n : ℕ) → all ≡ xs ++ ys → n ≡ length xs →
    counts_mass all rest ≡ counts_mass xs (take n rest) + counts_mass ys (drop n rest)
mass-parts all xs ys rest n parts here =
    rw (parts, here) (counts_mass-append xs ys rest)

pub text-parts : (all xs ys : List Item) (rest : List ℕ) (n : ℕ) → all ≡ xs ++ ys → n ≡ length xs →
    counts_text all rest ≡ counts_text xs (take n rest) ++ counts_text ys (drop n rest)
text-parts all xs ys rest n parts here =
    rw (parts, here) (counts_text-append xs ys rest)

-- an isotopologue has a count for each isotope, and as many atoms as the items without a label

elements-length : (table : TableEntries) (items : List (Item × ℕ)) (rows : List (List ℕ)) →
    IsIsotopologue (map (element_in table) items) rows →
    length (concat rows) ≡ length (flat_map (λ p. isotopes_of table p.0) items)
elements-length table [] [] h = refl
elements-length table [] (row ∷ rows) h = absurd h
elements-length table (p ∷ ps) [] h = absurd h
elements-length table (p ∷ ps) (row ∷ rows) h =
    length-append row (concat rows)
    ∙ ap (λ n. n + length (concat rows)) (h.0.places_agree ∙ length-map (isotopes_of table p.0) (λ i. i.weight))
    ∙ ap (λ n. length (isotopes_of table p.0) + n) (elements-length table ps rows h.1)
    ∙ sym (length-append (isotopes_of table p.0) (flat_map (λ q. isotopes_of table q.0) ps))

elements-atoms : (table : TableEntries) (items : List (Item × ℕ)) (rows : List (List ℕ)) →
    IsIsotopologue (map (element_in table) items) rows → sum (concat rows) ≡ atoms_of items
elements-atoms table [] [] h = refl
elements-atoms table [] (row ∷ rows) h = absurd h
elements-atoms table (p ∷ ps) [] h = absurd h
elements-atoms table (p ∷ ps) (row ∷ rows) h =
    sum_by-append (λ x. x) row (concat rows)
    ∙ ap (λ n. n + sum (concat rows)) h.0.atoms_agree
    ∙ ap (λ n. p.1 + n) (elements-atoms table ps rows h.1)
    ∙ sym (sum_by-cons (λ q. q.1) p ps)

plain-atoms : (items : List (Item × ℕ)) → atoms_of (plain_items items) ≤ atoms_of items
plain-atoms [] = omega arith
plain-atoms (p ∷ ps) =
    let below = plain-atoms ps in
    let all = sum_by-cons (λ (q : Item × ℕ). q.1) p ps in
    let more = sum_by-cons (λ (q : Item × ℕ). q.1) p (plain_items ps) in
    elim (is_plain p.0) as (λ b. atoms_of (cond b (p ∷ plain_items ps) (plain_items ps)) ≤ atoms_of (p ∷ ps)) [
      | true ↦ omega arith
      | false ↦ omega arith
    ]

pub counts-agree : (table : TableEntries) (formula : List (Item × ℕ)) (counts : List ℕ) →
    IsIsotopologueOf table formula counts → length counts ≡ length (formula_isotopes table formula)
counts-agree table formula counts h =
    ap length (sym h.joined) ∙ elements-length table (plain_items formula) h.by_element h.isotopologue

pub counts-few : (table : TableEntries) (formula : List (Item × ℕ)) (counts : List ℕ) → IsIsotopologueOf table formula counts → sum counts ≤ atoms_of formula
counts-few table formula counts h =
    let all : sum counts ≡ atoms_of (plain_items formula) =
    ap sum (sym h.joined) ∙ elements-atoms table (plain_items formula) h.by_element h.isotopologue in
    let below = plain-atoms formula in
    omega arith

-- one isotope more

zip_more : {A B : Type 0} (xs : List A) (ys : List B) (i : ℕ) (d : A) (e : B) → i < length xs → i < length ys →
    zip (take (i + 1) xs) (take (i + 1) ys) ≡ zip (take i xs) (take i ys) ++ (get_or xs i d, get_or ys i e) ∷ []
zip_more [] ys i d e within inside = absurd (omega arith)
zip_more (a ∷ xs) [] i d e within inside = absurd (omega arith)
zip_more (a ∷ xs) (b ∷ ys) zero d e within inside = refl
zip_more (a ∷ xs) (b ∷ ys) (suc i) d e within inside =
    let more : suc i + 1 ≡ suc (i + 1) = omega arith in
    rw more (ap (λ ps. (a, b) ∷ ps) (zip_more xs ys i d e (omega arith) (omega arith)))

pub counts_text-more : (items : List Item) (counts : List ℕ) (i : ℕ) (d : Item) (e : ℕ) → i < length items →
    i < length counts →
    counts_text (take (i + 1) items) (take (i + 1) counts)
    ≡ counts_text (take i items) (take i counts) ++ isotope_text (get_or items i d) (get_or counts i e)
counts_text-more items counts i d e within inside =
    ap (flat_map (λ (p : Item × ℕ). isotope_text p.0 p.1)) (zip_more items counts i d e within inside)
    ∙ flat_map-append (λ (p : Item × ℕ). isotope_text p.0 p.1) (zip (take i items) (take i counts))
    ((get_or items i d, get_or counts i e) ∷ [])
    ∙ ap (λ t. counts_text (take i items) (take i counts) ++ t) (append-nil (isotope_text (get_or items i d) (get_or counts i e)))

pub counts_mass-more : (isotopes : List Isotope) (counts : List ℕ) (i : ℕ) (d : Isotope) (e : ℕ) →
    i < length isotopes → i < length counts →
    counts_mass (take (i + 1) isotopes) (take (i + 1) counts)
    ≡ counts_mass (take i isotopes) (take i counts) + get_or counts i e * (get_or isotopes i d).mass
counts_mass-more isotopes counts i d e within inside =
    let one : Isotope × ℕ = (get_or isotopes i d, get_or counts i e) in
    ap (sum_by (λ (p : Isotope × ℕ). p.1 * p.0.mass)) (zip_more isotopes counts i d e within inside)
    ∙ sum_by-append (λ (p : Isotope × ℕ). p.1 * p.0.mass) (zip (take i isotopes) (take i counts)) (one ∷ [])
    ∙ ap (λ (n : ℕ). counts_mass (take i isotopes) (take i counts) + n)
    (sum_by-cons (λ (p : Isotope × ℕ). p.1 * p.0.mass) one [] ∙ omega arith)

pub sum-more : (counts : List ℕ) (i : ℕ) (e : ℕ) → i < length counts →
    sum (take (i + 1) counts) ≡ sum (take i counts) + get_or counts i e
sum-more counts i e inside =
    ap sum (take_more counts i e inside)
    ∙ sum_by-append (λ (x : ℕ). x) (take i counts) (get_or counts i e ∷ [])
    ∙ ap (λ (n : ℕ). sum (take i counts) + n) (sum_by-cons (λ (x : ℕ). x) (get_or counts i e) [] ∙ omega arith)

pub occur-more : (own : List Isotope) (i : ℕ) (d : Isotope) → i < length own →
    isotopes_that_occur (take (i + 1) own)
    ≡ isotopes_that_occur (take i own) ++ isotopes_that_occur (get_or own i d ∷ [])
occur-more own i d within =
    ap (filter (λ (x : Isotope). ltb 0 x.weight)) (take_more own i d within)
    ∙ filter-append (λ (x : Isotope). ltb 0 x.weight) (take i own) (get_or own i d ∷ [])
