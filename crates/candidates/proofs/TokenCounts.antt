-- The counts of a formula of an alphabet's box are those of a count list whose formula it is.
use Rattle.std.proofs.Common.{◌≡◌, ℕ, zero, suc, ◌<◌, ◌≤◌, Bool, true, false, cond, List, [], ◌∷◌, length, map, get_or, refl, sym, ap, ◌∙◌, subst, arith}
use Rattle.std.specs.Prelude.{Option, Some, None, All, IsTrue, AllPairs, is_some, ◌==◌, ◌^◌, ◌&&◌, ◌||◌, nat_le, ◌↔◌}
use Rattle.std.specs.Str.{bytes_eq}
use Rattle.std.specs.Cmp.Lexicographic.{bytes_decides}
use Rattle.std.specs.List.{list_any, AllByRecursion}
use Rattle.std.proofs.lemmas.Bool.{false≢true, and_parts, and_from, eqb-true, leb-true}
use Rattle.std.proofs.lemmas.List.Elements.{All-from_recursion, recursion_from_All}
use Rattle.std.proofs.lemmas.Bool.Decides.{nat_tests}
use Rattle.decompose.specs.CountLists.{IsInBox}
use Rattle.decompose.proofs.FindAndFilter.{find_each}
use Rattle.element_table.specs.SymbolText.{is_symbol}
use Rattle.element_table.specs.declared.element.Isotope.{Isotope}
use Rattle.element_table.specs.Elements.{ElementEntry, IsElement, IsIsotope, IsTable, TableEntries, element_of, isotope_of, reference_isotope}
use Rattle.written_items.specs.declared.item.Item.{Item}
use Rattle.written_items.specs.Items.{item_eq}
use Rattle.formula_text.specs.Formulas.{IsFormula, IsItem, count_in, formula_of, sum_of}
use Rattle.formula_text.specs.Masses.{isotope_if, item_isotope}
use Rattle.formula_text.proofs.HillOrderLaws.{item_eq-itself, item_eq-same}
use Rattle.formula_text.proofs.SumFolds.{sum_of-counts, sum_of-items}
use Rattle.formula_text.proofs.SumLimits.{formula_of-only}
use Rattle.alphabet_text.specs.declared.entries.AlphabetEntry.{AlphabetEntry}
use Rattle.alphabet_text.specs.Alphabets.{IsAlphabet}
use Rattle.adducts.specs.Ions.{has_item}
use Rattle.adducts.proofs.IonCounts.{formula-is_sum}
use Rattle.adducts.proofs.ItemLists.{Distinct, counted-anew, count_in-absent, own-counts}
use Rattle.candidates.specs.PeakFormulas.{counts_of, counts_in, formula_at, limits_of, items_of}
use Rattle.candidates.specs.Tokens.{has_only, fits, IsInAlphabetBox}
use Rattle.candidates.specs.Grounds.{GroundValue, IsGround}
use Rattle.candidates.proofs.AlphabetCounts.{HasItems-counts}
use Rattle.candidates.proofs.AlphabetMasses.{box-length}
use Rattle.candidates.proofs.CandidateTests.{formula-counts}

-- ---- the box

fits-box : (alphabet : List AlphabetEntry) (formula : List (Item × ℕ))
    → fits (items_of alphabet) (limits_of alphabet) formula ≡ true → IsInBox (limits_of alphabet) (counts_in alphabet formula)
fits-box [] formula h = tt
fits-box (e ∷ es) formula h =
    let parts = and_parts (nat_le e.limit.low (count_in formula e.item) && nat_le (count_in formula e.item) e.limit.high)
    (fits (items_of es) (limits_of es) formula) h in
    let both = and_parts (nat_le e.limit.low (count_in formula e.item)) (nat_le (count_in formula e.item) e.limit.high) parts.0 in (
      leb-true e.limit.low (count_in formula e.item) both.0,
      leb-true (count_in formula e.item) e.limit.high both.1,
      fits-box es formula parts.1,
    )

within : (a b : ℕ) → a ≤ b → nat_le a b ≡ true
within a b h = grind (arith, nat_tests, h)

box-fits : (alphabet : List AlphabetEntry) (formula : List (Item × ℕ))
    → IsInBox (limits_of alphabet) (counts_in alphabet formula) → fits (items_of alphabet) (limits_of alphabet) formula ≡ true
box-fits [] formula h = refl
box-fits (e ∷ es) formula h =
    and_from (nat_le e.limit.low (count_in formula e.item) && nat_le (count_in formula e.item) e.limit.high)
    (fits (items_of es) (limits_of es) formula)
    (and_from (nat_le e.limit.low (count_in formula e.item)) (nat_le (count_in formula e.item) e.limit.high)
    (within e.limit.low (count_in formula e.item) h.0) (within (count_in formula e.item) e.limit.high h.1))
    (box-fits es formula h.2)

pub box-tested : (alphabet : List AlphabetEntry) (formula : List (Item × ℕ)) (only fit : Bool)
    → only ≡ has_only (items_of alphabet) formula → fit ≡ fits (items_of alphabet) (limits_of alphabet) formula
    → IsTrue (only && fit) ↔ IsInAlphabetBox alphabet formula
box-tested alphabet formula only fit of_only of_fit = (
  λ h. let parts = and_parts only fit h in
      record { items = sym of_only ∙ parts.0; counts = fits-box alphabet formula (sym of_fit ∙ parts.1) },
  λ box. and_from only fit (of_only ∙ box.items) (of_fit ∙ box-fits alphabet formula box.counts),
)

-- ---- the count list

differs : (q : Item) (es : List AlphabetEntry) (counts : List ℕ)
    → ((k : ℕ) (d : AlphabetEntry) → k < length es → q ≡ (get_or es k d).item → ⊥)
    → has_item (counts_of es counts) q ≡ false
differs q [] counts apart = refl
differs q (e ∷ es) [] apart = refl
differs q (e ∷ es) (c ∷ cs) apart =
    elim (item_eq e.item q) as (λ b. item_eq e.item q ≡ b → (b || has_item (counts_of es cs) q) ≡ false) [
      | true ↦ λ same. absurd (apart zero e (omega arith) (sym (item_eq-same e.item q same)))
      | false ↦ λ _. differs q es cs (λ k d inside same. apart (suc k) d (omega (arith, inside)) same)
    ] refl

counts-Distinct : (es : List AlphabetEntry) (counts : List ℕ) → AllPairs (λ (a b : AlphabetEntry). a.item ≡ b.item → ⊥) es
    → Distinct (counts_of es counts)
counts-Distinct [] counts pairs = tt
counts-Distinct (e ∷ es) [] pairs = tt
counts-Distinct (e ∷ es) (c ∷ cs) pairs = (
  differs e.item es cs (λ k d inside same. pairs zero (suc k) d (omega arith) (omega (arith, inside)) same),
  counts-Distinct es cs (λ i j d before inside. pairs (suc i) (suc j) d (omega (arith, before)) (omega (arith, inside))),
)

entries : (es : List AlphabetEntry) (formula : List (Item × ℕ))
    → map (λ p. (p.0, count_in formula p.0)) (counts_of es (counts_in es formula)) ≡ counts_of es (counts_in es formula)
entries [] formula = refl
entries (e ∷ es) formula = ap (λ l. (e.item, count_in formula e.item) ∷ l) (entries es formula)

has-entry : (es : List AlphabetEntry) (formula : List (Item × ℕ)) (q : Item)
    → has_item (counts_of es (counts_in es formula)) q ≡ list_any (λ item. item_eq item q) (items_of es)
has-entry [] formula q = refl
has-entry (e ∷ es) formula q = ap (λ b. item_eq e.item q || b) (has-entry es formula q)

only-items : (items : List Item) (formula : List (Item × ℕ)) (q : Item) → has_only items formula ≡ true
    → list_any (λ item. item_eq item q) items ≡ false → has_item formula q ≡ false
only-items items [] q only none = refl
only-items items (p ∷ ps) q only none =
    let parts = and_parts (list_any (λ item. item_eq item p.0) items) (has_only items ps) only in
    elim (item_eq p.0 q) as (λ b. item_eq p.0 q ≡ b → (b || has_item ps q) ≡ false) [
      | true ↦ λ e. absurd (false≢true (sym none
          ∙ ap (λ x. list_any (λ item. item_eq item x) items) (sym (item_eq-same p.0 q e)) ∙ parts.0))
      | false ↦ λ _. only-items items ps q parts.1 none
    ] refl

token-counts : (alphabet : List AlphabetEntry) (formula : List (Item × ℕ)) → IsAlphabet alphabet
    → has_only (items_of alphabet) formula ≡ true
    → (q : Item) → count_in formula q ≡ count_in (counts_of alphabet (counts_in alphabet formula)) q
token-counts alphabet formula is only q =
    let parts = counts_of alphabet (counts_in alphabet formula) in
    let counted : count_in parts q ≡ cond (has_item parts q) (count_in formula q) 0 =
    ap (λ l. count_in l q) (sym (entries alphabet formula))
    ∙ counted-anew (count_in formula) parts (counts-Distinct alphabet (counts_in alphabet formula) is.sound.distinct) q in
    elim (has_item parts q) as (λ b. has_item parts q ≡ b → count_in formula q ≡ cond b (count_in formula q) 0) [
      | true ↦ λ _. refl
      | false ↦ λ e. count_in-absent formula q
          (only-items (items_of alphabet) formula q only (sym (has-entry alphabet formula q) ∙ e))
    ] refl ∙ sym counted

-- a formula of the box is that of its counts
pub token-formula : (alphabet : List AlphabetEntry) (formula : List (Item × ℕ)) → IsAlphabet alphabet → IsFormula formula
    → has_only (items_of alphabet) formula ≡ true
    → formula_of (counts_of alphabet (counts_in alphabet formula)) ≡ Some formula
token-formula alphabet formula is of only =
    formula_of-only (counts_of alphabet (counts_in alphabet formula)) formula
    (record { formula = of; counts = token-counts alphabet formula is only })

-- ---- and the counts of the formula of a count list are these

each-count : (whole parts : List (Item × ℕ)) (es : List AlphabetEntry) (counts : List ℕ)
    → ((q : Item) → count_in whole q ≡ count_in parts q) → length counts ≡ length es
    → AllByRecursion (λ p. count_in parts p.0 ≡ p.1) (counts_of es counts) → counts_in es whole ≡ counts
each-count whole parts [] [] same size own = refl
each-count whole parts [] (c ∷ cs) same size own = absurd (omega (arith, size))
each-count whole parts (e ∷ es) [] same size own = absurd (omega (arith, size))
each-count whole parts (e ∷ es) (c ∷ cs) same size own =
    ap (λ n. n ∷ counts_in es whole) (same e.item ∙ own.0)
    ∙ ap (λ l. c ∷ l) (each-count whole parts es cs same (omega (arith, size)) own.1)

pub counts-formula : (alphabet : List AlphabetEntry) (counts : List ℕ) → IsAlphabet alphabet
    → length counts ≡ length alphabet → counts_in alphabet (formula_at alphabet counts) ≡ counts
counts-formula alphabet counts is size =
    let parts = counts_of alphabet counts in
    each-count (formula_at alphabet counts) parts alphabet counts (sum_of-counts parts) size
    (own-counts parts (counts-Distinct alphabet counts is.sound.distinct))

-- the formula of the counts that a formula of the box has is the same
pub token-same : (alphabet : List AlphabetEntry) (formula : List (Item × ℕ)) → IsAlphabet alphabet → IsFormula formula
    → has_only (items_of alphabet) formula ≡ true → formula_at alphabet (counts_in alphabet formula) ≡ formula
token-same alphabet formula is of only =
    sym (formula-is_sum (counts_of alphabet (counts_in alphabet formula)) formula (token-formula alphabet formula is of only)).0

-- ---- the formula of a count list of the box is a token

-- an item is one of these
abbrev StandsIn : List Item → Item → Type 0
StandsIn items q = list_any (λ item. item_eq item q) items ≡ true

stands-later : (item q : Item) (items : List Item) → StandsIn items q → StandsIn (item ∷ items) q
stands-later item q items there = ap (λ b. item_eq item q || b) there ∙ or_true (item_eq item q)
  where
    or_true : (b : Bool) → (b || true) ≡ true
    or_true true = refl
    or_true false = refl

all-later : (item : Item) (items : List Item) (parts : List (Item × ℕ))
    → AllByRecursion (λ p. StandsIn items p.0) parts → AllByRecursion (λ p. StandsIn (item ∷ items) p.0) parts
all-later item items [] h = tt
all-later item items (p ∷ ps) h = (stands-later item p.0 items h.0, all-later item items ps h.1)

counts-stand : (es : List AlphabetEntry) (counts : List ℕ)
    → AllByRecursion (λ p. StandsIn (items_of es) p.0) (counts_of es counts)
counts-stand [] counts = tt
counts-stand (e ∷ es) [] = tt
counts-stand (e ∷ es) (c ∷ cs) = (
  ap (λ b. b || list_any (λ item. item_eq item e.item) (items_of es)) (item_eq-itself e.item),
  all-later e.item (items_of es) (counts_of es cs) (counts-stand es cs),
)

only-these : (items : List Item) (formula : List (Item × ℕ)) → AllByRecursion (λ p. StandsIn items p.0) formula
    → has_only items formula ≡ true
only-these items [] h = refl
only-these items (p ∷ ps) h =
    and_from (list_any (λ item. item_eq item p.0) items) (has_only items ps) h.0 (only-these items ps h.1)

pub at-box : (alphabet : List AlphabetEntry) (counts : List ℕ) → IsAlphabet alphabet → IsInBox (limits_of alphabet) counts
    → IsInAlphabetBox alphabet (formula_at alphabet counts)
at-box alphabet counts is inside =
    record {
      items = only-these (items_of alphabet) (formula_at alphabet counts)
          (sum_of-items (StandsIn (items_of alphabet)) (counts_of alphabet counts) (counts-stand alphabet counts));
      counts = subst (IsInBox (limits_of alphabet))
          (sym (counts-formula alphabet counts is (box-length alphabet counts inside))) inside;
    }

-- ---- and a formula

-- an item that a table has is one
known-item : (table : TableEntries) (item : Item) → IsTable table → IsTrue (is_some (item_isotope table item)) → IsItem item
known-item table item is known = elements (element_of table item.symbol) refl known
  where
    isotopes : (element : ElementEntry) → IsElement element → (o : Option Isotope)
        → isotope_of element.isotopes item.label ≡ o → is_some o ≡ true → item.label < 2 ^ 32
    isotopes element of None e h = absurd (false≢true h)
    isotopes element of (Some isotope) e h =
        let found = find_each IsIsotope (λ i. i.number == item.label) element.isotopes isotope
        (recursion_from_All IsIsotope element.isotopes of.isotopes) e in
        let to = found.0.number_to in
        omega (arith, to, eqb-true isotope.number item.label found.1)

    labels : (element : ElementEntry) → IsElement element → (b : Bool) → (item.label == 0) ≡ b
        → is_some (cond b (Some (reference_isotope element)) (isotope_of element.isotopes item.label)) ≡ true
        → item.label < 2 ^ 32
    labels element of true e h = omega (arith, eqb-true item.label 0 e)
    labels element of false e h = isotopes element of (isotope_of element.isotopes item.label) refl h

    elements : (o : Option ElementEntry) → element_of table item.symbol ≡ o
        → is_some (isotope_if o item.label) ≡ true → IsItem item
    elements None e h = absurd (false≢true h)
    elements (Some element) e h =
        let found = find_each IsElement (λ x. bytes_eq x.symbol item.symbol) table.elements element
        (recursion_from_All IsElement table.elements is.elements) e in
        record {
          symbol = subst (λ s. IsTrue (is_symbol s)) ((bytes_decides element.symbol item.symbol).0 found.1) found.0.symbol;
          label = labels element found.0 (item.label == 0) refl h;
        }

pub at-IsFormula : (premises : GroundValue) (counts : List ℕ) → IsGround premises
    → is_some (formula_of (counts_of premises.alphabet counts)) ≡ true → IsFormula (formula_at premises.alphabet counts)
at-IsFormula premises counts is some =
    let parts = counts_of premises.alphabet counts in
    let known = HasItems-counts premises.table premises.alphabet counts is.entries in
    let items : All (λ (p : Item × ℕ). IsItem p.0) parts =
    λ k d h. known-item premises.table (get_or parts k d).0 is.is_table (known k d h) in
    formula-counts parts
    (All-from_recursion (λ (p : Item × ℕ). IsItem p.0) (sum_of parts)
    (sum_of-items IsItem parts (recursion_from_All (λ (p : Item × ℕ). IsItem p.0) parts items))) some
