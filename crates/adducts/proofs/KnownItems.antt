-- The table has the items of an adduct that was read with it.
use Rattle.std.proofs.Common.{◌≡◌, ℕ, ◌+◌, ◌*◌, Bool, true, false, cond, List, [], ◌∷◌, ◌++◌, length, map, filter, refl, sym, ap, ◌∙◌, subst}
use Rattle.std.specs.Prelude.{Option, Some, None, Result, Ok, Err, IfOk, IsTrue, is_some, not}
use Rattle.std.specs.List.{AllByRecursion, flat_map}
use Rattle.std.proofs.lemmas.Bool.{false≢true}
use Rattle.std.proofs.lemmas.List.Elements.{All-from_recursion, recursion_from_All}
use Rattle.element_table.specs.Elements.{TableEntries, element_of}
use Rattle.reader_answers.specs.Answers.{Gives}
use Rattle.written_items.specs.declared.item.Item.{Item}
use Rattle.written_items.specs.WrittenItems.{item_of}
use Rattle.written_items.specs.WrittenRows.{WrittenPart, part_text, count_of_tail}
use Rattle.formula_text.specs.Formulas.{AreSums, sum_of}
use Rattle.formula_text.specs.Masses.{HasItems, item_isotope, isotope_if}
use Rattle.formula_text.proofs.SumFolds.{sum_of-items}
use Rattle.formula_text.proofs.SumLimits.{same_sums}
use Rattle.adducts.specs.declared.fault.AdductFault.{AdductFault}
use Rattle.adducts.specs.declared.fault.AdductFault.TheVariants.{UnknownSymbol}
use Rattle.adducts.specs.AdductFaults.{is_memory}
use Rattle.adducts.specs.Adducts.{AdductValue}
use Rattle.adducts.specs.AdductTexts.{WrittenTerm, WrittenIon, IsTerm, IsPlainPart, IsAdductOf, term_text}
use Rattle.adducts.specs.AdductReadings.{AdductReading, number_or_one, term_counts, is_lost, terms_of, added_counts}
use Rattle.adducts.specs.AdductReadings.{lost_counts, placed_row, placed_term, placed_terms, unknown_places, faults_of}
use Rattle.adducts.specs.AdductReader.{adduct_of}
use Rattle.adducts.proofs.OneReading.{reading-meaning}

-- ---- lists

all-first : {A : Type 0} (P : A → Type 0) (xs ys : List A) → AllByRecursion P (xs ++ ys) → AllByRecursion P xs
all-first P [] ys h = tt
all-first P (x ∷ xs) ys h = (h.0, all-first P xs ys h.1)

all-second : {A : Type 0} (P : A → Type 0) (xs ys : List A) → AllByRecursion P (xs ++ ys) → AllByRecursion P ys
all-second P [] ys h = h
all-second P (x ∷ xs) ys h = all-second P xs ys h.1

all-both : {A : Type 0} (P : A → Type 0) (xs ys : List A) → AllByRecursion P xs → AllByRecursion P ys
    → AllByRecursion P (xs ++ ys)
all-both P [] ys g h = h
all-both P (x ∷ xs) ys g h = (g.0, all-both P xs ys g.1 h)

-- where nothing is left of a filter, no element passes it
none-left : {A B : Type 0} (f : A → B) (p : A → Bool) (xs : List A) → map f (filter p xs) ≡ []
    → AllByRecursion (λ x. p x ≡ false) xs
none-left f p [] h = tt
none-left f p (x ∷ xs) h =
    elim (p x) as (λ b. p x ≡ b → map f (cond b (x ∷ filter p xs) (filter p xs)) ≡ []
    → AllByRecursion (λ x. p x ≡ false) (x ∷ xs)) [
      | true ↦ λ e h. cc
      | false ↦ λ e h. (e, none-left f p xs h)
    ] refl h

none-first : {A : Type 0} (xs ys : List A) → xs ++ ys ≡ [] → xs ≡ []
none-first [] ys h = refl
none-first (x ∷ xs) ys h = cc

no_map : {A B : Type 0} (f : A → B) (xs : List A) → map f xs ≡ [] → xs ≡ []
no_map f [] h = refl
no_map f (x ∷ xs) h = cc

-- ---- the items of the terms

abbrev Known : TableEntries → Item × ℕ → Type 0
Known table p = IsTrue (is_some (item_isotope table p.0))

abbrev IsNamed : TableEntries → ℕ × WrittenPart → Type 0
IsNamed table p = not (is_some (element_of table p.1.item.symbol)) ≡ false

known-part : (table : TableEntries) (part : WrittenPart) (n : ℕ) → part.item.digits ≡ None
    → not (is_some (element_of table part.item.symbol)) ≡ false → Known table (item_of part.item, n)
known-part table part n plain named =
    ap (λ o. is_some (item_isotope table (item_of (record { symbol = part.item.symbol; digits = o })))) plain
    ∙ there (element_of table part.item.symbol) named
  where
    there : (o : Option _) → not (is_some o) ≡ false → is_some (isotope_if o 0) ≡ true
    there None h = absurd (false≢true (sym h))
    there (Some element) h = refl

known-row : (table : TableEntries) (at : ℕ) (row : List WrittenPart) (n : ℕ) → AllByRecursion IsPlainPart row
    → AllByRecursion (IsNamed table) (placed_row at row)
    → AllByRecursion (Known table) (map (λ part. (item_of part.item, n * count_of_tail part.tail)) row)
known-row table at [] n plain named = tt
known-row table at (part ∷ row) n plain named = (
  known-part table part (n * count_of_tail part.tail) plain.0.plain named.0,
  known-row table (at + length (part_text part)) row n plain.1 named.1,
)

known-terms : (table : TableEntries) (p : WrittenTerm → Bool) (at : ℕ) (terms : List WrittenTerm)
    → AllByRecursion IsTerm terms → AllByRecursion (IsNamed table) (placed_terms at terms)
    → AllByRecursion (Known table) (flat_map term_counts (filter p terms))
known-terms table p at [] are named = tt
known-terms table p at (term ∷ terms) are named =
    let rest =
    known-terms table p (at + length (term_text term)) terms are.1
    (all-second (IsNamed table) (placed_term at term) (placed_terms (at + length (term_text term)) terms) named) in
    elim (p term) as (λ b. AllByRecursion (Known table) (flat_map term_counts (cond b (term ∷ filter p terms) (filter p terms)))) [
      | true ↦ all-both (Known table) (term_counts term) (flat_map term_counts (filter p terms))
          (known-row table (at + 1 + length term.coefficient) term.row (number_or_one term.coefficient)
          (recursion_from_All IsPlainPart term.row are.0.row)
          (all-first (IsNamed table) (placed_term at term) (placed_terms (at + length (term_text term)) terms) named))
          rest
      | false ↦ rest
    ]

known-counts : (table : TableEntries) (p : WrittenTerm → Bool) (text : List ℕ) (written : Option WrittenIon)
    → IsAdductOf written text → faults_of table written ≡ []
    → AllByRecursion (Known table) (flat_map term_counts (filter p (terms_of written)))
known-counts table p text None is none = tt
known-counts table p text (Some ion) is none =
    let unknown : unknown_places table (Some ion) ≡ [] =
    no_map UnknownSymbol (unknown_places table (Some ion))
    (none-first (map UnknownSymbol (unknown_places table (Some ion))) _ none) in
    known-terms table p (1 + length ion.copies + 1) ion.terms (recursion_from_All IsTerm ion.terms is.is.terms)
    (none-left (λ q. q.0) (λ q. not (is_some (element_of table q.1.item.symbol)))
    (placed_terms (1 + length ion.copies + 1) ion.terms) unknown)

HasItems-sums : (table : TableEntries) (parts sums : List (Item × ℕ)) → AreSums parts sums
    → AllByRecursion (Known table) parts → HasItems table sums
HasItems-sums table parts sums are known =
    subst (HasItems table) (sym (same_sums parts sums are))
    (All-from_recursion (Known table) (sum_of parts)
    (sum_of-items (λ item. IsTrue (is_some (item_isotope table item))) parts known))

pub added-known : (table : TableEntries) (text : List ℕ) (r : Result AdductValue AdductFault)
    → Gives is_memory r (adduct_of table text) → IfOk r (λ adduct. HasItems table adduct.added)
added-known table text (Err fault) h = tt
added-known table text (Ok adduct) h =
    let meaning = subst (AdductReading table text) h (reading-meaning table text) in
    HasItems-sums table (added_counts meaning.0) adduct.added meaning.3.added
    (known-counts table (λ term. not (is_lost term)) text meaning.0 meaning.1 meaning.2)

pub lost-known : (table : TableEntries) (text : List ℕ) (r : Result AdductValue AdductFault)
    → Gives is_memory r (adduct_of table text) → IfOk r (λ adduct. HasItems table adduct.lost)
lost-known table text (Err fault) h = tt
lost-known table text (Ok adduct) h =
    let meaning = subst (AdductReading table text) h (reading-meaning table text) in
    HasItems-sums table (lost_counts meaning.0) adduct.lost meaning.3.lost
    (known-counts table is_lost text meaning.0 meaning.1 meaning.2)
