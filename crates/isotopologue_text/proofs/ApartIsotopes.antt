-- No isotope stands twice among those that an isotopologue counts.
use Rattle.std.proofs.Common.{◌≡◌, ℕ, ◌+◌, ◌<◌, zero, suc, Bool, true, false, cond, T, List, [], ◌∷◌, ◌++◌}
use Rattle.std.proofs.Common.{length, map, Option, Some, None, refl, sym, ◌∙◌, ap, subst, arith}
use Rattle.std.specs.Prelude.{IsTrue, is_some, nat_lt, flat_map, find, slice_index}
use Rattle.std.specs.List.{AllByRecursion}
use Rattle.std.specs.List.Sorted.{IsStrictlyIncreasing}
use Rattle.std.specs.Str.{bytes_eq}
use Rattle.std.specs.declared.cmp.Ordering.TheVariants.{Equal}
use Rattle.std.specs.declared.cmp.Ordering.{Ordering}
use Rattle.std.specs.Ordering.{is_lt}
use Rattle.std.specs.FinMap.{is_sorted}
use Rattle.std.specs.FinMap.Entries.{below_all, is_sorted-where_key}
use Rattle.std.proofs.lemmas.Cmp.{tied_itself}
use Rattle.std.proofs.lemmas.Bool.{eqb-true, false≢true}
use Rattle.std.proofs.lemmas.List.Elements.{recursion_from_All}
use Rattle.std.proofs.lemmas.Slice.Eq.{bytes_eq-Decides}
use Rattle.element_table.specs.declared.element.Isotope.{Isotope}
use Rattle.element_table.specs.SymbolText.{is_symbol}
use Rattle.element_table.specs.Elements.{ElementEntry, IsElement, IsIsotope, IsTable, TableEntries, element_of}
use Rattle.written_items.specs.declared.item.Item.{Item}
use Rattle.formula_text.specs.Formulas.{IsFormula, has_carbon}
use Rattle.formula_text.specs.HillOrder.{hill_cmp}
use Rattle.formula_text.specs.Masses.{HasItems, isotope_if, item_isotope}
use Rattle.formula_text.proofs.CountsInOrder.{t_first, t_second}
use Rattle.formula_text.proofs.HillOrderLaws.{hill_total, T-IsTrue}
use Rattle.isotopologue_text.specs.Isotopologues.{isotope_item, isotope_items, isotopes_of, isotopes_that_occur}
use Rattle.isotopologue_text.specs.Isotopologues.{is_plain}
use Rattle.isotopologue_text.specs.Isotopologues.{plain_items}
use Rattle.isotopologue_text.specs.ReadCounts.{item_isotopes}
use Rattle.isotopologue_text.proofs.Found.{found}
use Rattle.isotopologue_text.proofs.IsotopeTexts.{IsIsotopeItem}

-- no item of the list is this one
abbrev pub Lacks : Item → List Item → Type 0
Lacks item items = AllByRecursion (λ other. item ≡ other → ⊥) items

-- items, none of which stands twice
abbrev pub AreApart : List Item → Type 0
AreApart [] = Unit {0}
AreApart (item ∷ items) = Lacks item items × AreApart items

all-append : {X : Type 0} (P : X → Type 0) (xs ys : List X) → AllByRecursion P xs → AllByRecursion P ys
    → AllByRecursion P (xs ++ ys)
all-append P [] ys h k = k
all-append P (x ∷ xs) ys h k = (h.0, all-append P xs ys h.1 k)

-- lists apart from one another
apart-append : (xs ys : List Item) → AreApart xs → AreApart ys → AllByRecursion (λ x. Lacks x ys) xs
    → AreApart (xs ++ ys)
apart-append [] ys a b h = b
apart-append (x ∷ xs) ys a b h = (all-append (λ other. x ≡ other → ⊥) xs ys a.0 h.0, apart-append xs ys a.1 b h.1)

-- ---- isotopes of an element

-- mass numbers, each below those behind it
abbrev pub Rising : List Isotope → Type 0
Rising [] = Unit {0}
Rising (i ∷ is) = AllByRecursion (λ (j : Isotope). i.number < j.number) is × Rising is

rising-step : (x : ℕ) (xs : List ℕ) → IsStrictlyIncreasing (x ∷ xs) → (k : ℕ) → k + 1 < length xs
    → slice_index xs k < slice_index xs (k + 1)
rising-step x xs rising k within =
    let next : suc k + 1 ≡ suc (k + 1) = omega arith in
    let step : slice_index (x ∷ xs) (suc k) < slice_index (x ∷ xs) (suc k + 1) = rising (suc k) (omega arith) in
    rw next at step

first-below : (x : ℕ) (xs : List ℕ) → IsStrictlyIncreasing (x ∷ xs) → (k : ℕ) → k < length xs → x < slice_index xs k
first-below x xs rising zero within = rising 0 (omega arith)
first-below x xs rising (suc k) within =
    let before : x < slice_index xs k = first-below x xs rising k (omega arith) in
    let next : k + 1 ≡ suc k = omega arith in
    let step : slice_index xs k < slice_index xs (k + 1) = rising-step x xs rising k (omega arith) in
    let here : slice_index xs k < slice_index xs (suc k) = rw next at step in
    omega arith

below-all : (number : ℕ) (is : List Isotope)
    → ((k : ℕ) → k < length (map (λ (i : Isotope). i.number) is)
    → number < slice_index (map (λ (i : Isotope). i.number) is) k)
    → AllByRecursion (λ (j : Isotope). number < j.number) is
below-all number [] h = tt
below-all number (i ∷ is) h = (h 0 (omega arith), below-all number is (λ k within. h (suc k) (omega arith)))

pub rising-from : (is : List Isotope) → IsStrictlyIncreasing (map (λ (i : Isotope). i.number) is) → Rising is
rising-from [] rising = tt
rising-from (i ∷ is) rising = (
  below-all i.number is (first-below i.number (map (λ (j : Isotope). j.number) is) rising),
  rising-from is (rising-step i.number (map (λ (j : Isotope). j.number) is) rising),
)

occur-all : (P : Isotope → Type 0) (is : List Isotope) → AllByRecursion P is → AllByRecursion P (isotopes_that_occur is)
occur-all P [] h = tt
occur-all P (i ∷ is) h =
    elim (nat_lt 0 i.weight) as (λ b. AllByRecursion P (cond b (i ∷ isotopes_that_occur is) (isotopes_that_occur is))) [
      | true ↦ (h.0, occur-all P is h.1)
      | false ↦ occur-all P is h.1
    ]

occur-rising : (is : List Isotope) → Rising is → Rising (isotopes_that_occur is)
occur-rising [] h = tt
occur-rising (i ∷ is) h =
    elim (nat_lt 0 i.weight) as (λ b. Rising (cond b (i ∷ isotopes_that_occur is) (isotopes_that_occur is))) [
      | true ↦ (occur-all (λ (j : Isotope). i.number < j.number) is h.0, occur-rising is h.1)
      | false ↦ occur-rising is h.1
    ]

map-lacks : (item : Item) (i : Isotope) (is : List Isotope) → AllByRecursion (λ (j : Isotope). i.number < j.number) is
    → Lacks (isotope_item item i) (map (isotope_item item) is)
map-lacks item i [] h = tt
map-lacks item i (j ∷ is) h = (
  (λ same. let number : i.number ≡ j.number = ap (λ (x : Item). x.label) same in omega (arith, h.0)),
  map-lacks item i is h.1,
)

pub map-apart : (item : Item) (is : List Isotope) → Rising is → AreApart (map (isotope_item item) is)
map-apart item [] h = tt
map-apart item (i ∷ is) h = (map-lacks item i is h.0, map-apart item is h.1)

pub map-items : (item : Item) (is : List Isotope) → IsTrue (is_symbol item.symbol)
    → AllByRecursion IsIsotope is → AllByRecursion IsIsotopeItem (map (isotope_item item) is)
map-items item [] symbol h = tt
map-items item (i ∷ is) symbol h = (
  record { symbol = symbol; from = omega (arith, h.0.number_from); to = omega (arith, h.0.number_to) },
  map-items item is symbol h.1,
)

-- ---- elements of a formula

-- the isotopes of an item's element are apart, and isotopes
module _ (table : TableEntries) (is : IsTable table) where
  element-found : (symbol : List ℕ) (element : ElementEntry) → element_of table symbol ≡ Some element
      → IsElement element × (element.symbol ≡ symbol)
  element-found symbol element e = (
    found IsElement (λ (x : ElementEntry). bytes_eq x.symbol symbol) table.elements element is.elements e,
    (bytes_eq-Decides element.symbol symbol).0
        (passes (λ (x : ElementEntry). bytes_eq x.symbol symbol) table.elements element e),
  )
    where
      passes : (p : ElementEntry → Bool) (xs : List ElementEntry) (x : ElementEntry) → find p xs ≡ Some x → p x ≡ true
      passes p [] x e = absurd (let both : ◌≡◌ {A = Option ElementEntry} None (Some x) = e in cc)
      passes p (y ∷ ys) x e =
          elim (p y) as (λ b. p y ≡ b → cond b (Some y) (find p ys) ≡ Some x → p x ≡ true) [
            | true ↦ λ t e. let same : y ≡ x = cc in ap p (sym same) ∙ t
            | false ↦ λ t e. passes p ys x e
          ] refl e

  pub isotopes-if : (item : Item) (o : Option ElementEntry) → element_of table item.symbol ≡ o → IsTrue (is_some o)
      → IsTrue (is_symbol item.symbol) × AllByRecursion IsIsotopeItem (item_isotopes table item)
      × AreApart (item_isotopes table item)
  isotopes-if item None e known = absurd (false≢true known)
  isotopes-if item (Some element) e known =
      let here = element-found item.symbol element e in
      let symbol : IsTrue (is_symbol item.symbol) = subst (λ s. IsTrue (is_symbol s)) here.1 here.0.symbol in
      let isotopes = recursion_from_All IsIsotope element.isotopes here.0.isotopes in
      rw e (
        symbol,
        map-items item (isotopes_that_occur element.isotopes) symbol (occur-all IsIsotope element.isotopes isotopes),
        map-apart item (isotopes_that_occur element.isotopes)
            (occur-rising element.isotopes (rising-from element.isotopes here.0.rising)),
      )

-- ---- isotopes of a formula

-- those of the elements of items, one element after another
abbrev pub parts_isotopes : TableEntries → List (Item × ℕ) → List Item
parts_isotopes table parts = flat_map (λ p. item_isotopes table p.0) parts

-- items without a label that the table has
abbrev pub AreKnown : TableEntries → List (Item × ℕ) → Type 0
AreKnown table parts = AllByRecursion (λ p. (p.0.label ≡ 0) × IsTrue (is_some (element_of table p.0.symbol))) parts

Other : List ℕ → List Item → Type 0
Other symbol items = AllByRecursion (λ item. symbol ≡ item.symbol → ⊥) items

map-other : (symbol : List ℕ) (item : Item) (is : List Isotope) → (symbol ≡ item.symbol → ⊥)
    → Other symbol (map (isotope_item item) is)
unfolding Other
map-other symbol item [] h = tt
map-other symbol item (i ∷ is) h = (h, map-other symbol item is h)

parts-other : (table : TableEntries) (symbol : List ℕ) (parts : List (Item × ℕ))
    → AllByRecursion (λ q. symbol ≡ q.0.symbol → ⊥) parts → Other symbol (parts_isotopes table parts)
unfolding Other
parts-other table symbol [] h = tt
parts-other table symbol (p ∷ ps) h =
    all-append (λ item. symbol ≡ item.symbol → ⊥) (item_isotopes table p.0) (parts_isotopes table ps)
    (map-other symbol p.0 (isotopes_of table p.0) h.0) (parts-other table symbol ps h.1)

other-lacks : (item : Item) (items : List Item) → Other item.symbol items → Lacks item items
unfolding Other
other-lacks item [] h = tt
other-lacks item (x ∷ xs) h = ((λ same. h.0 (ap (λ (i : Item). i.symbol) same)), other-lacks item xs h.1)

all-lack : (item : Item) (is : List Isotope) (others : List Item) → Other item.symbol others
    → AllByRecursion (λ x. Lacks x others) (map (isotope_item item) is)
all-lack item [] others h = tt
all-lack item (i ∷ is) others h = (other-lacks (isotope_item item i) others h, all-lack item is others h)

same-label : (a b : Item) → a.symbol ≡ b.symbol → a.label ≡ b.label → a ≡ b
same-label a b p q = λ i. record { symbol = p i; label = q i }

first-less : (x : Item) (p : Item × ℕ) (carbon : Bool) → T (is_lt (hill_cmp carbon x p.0)) → x.label ≡ 0 → p.0.label ≡ 0
    → x.symbol ≡ p.0.symbol → ⊥
first-less x p carbon less plain too same =
    let one : x ≡ p.0 = same-label x p.0 same (plain ∙ sym too) in
    let tied : hill_cmp carbon x p.0 ≡ Equal = ap (hill_cmp carbon x) (sym one) ∙ tied_itself (hill_total carbon) x in
    subst (λ (o : Ordering). T (is_lt o)) tied less

below-symbols : (table : TableEntries) (carbon : Bool) (x : Item) (ps : List (Item × ℕ)) → x.label ≡ 0
    → T (below_all (hill_cmp carbon) x ps) → AreKnown table ps → AllByRecursion (λ q. x.symbol ≡ q.0.symbol → ⊥) ps
below-symbols table carbon x [] plain below known = tt
below-symbols table carbon x (p ∷ ps) plain below known = (
  first-less x p carbon (t_first (is_lt (hill_cmp carbon x p.0)) (below_all (hill_cmp carbon) x ps) below) plain
      known.0.0,
  below-symbols table carbon x ps plain
      (t_second (is_lt (hill_cmp carbon x p.0)) (below_all (hill_cmp carbon) x ps) below) known.1,
)

pub parts-apart : (table : TableEntries) (carbon : Bool) (parts : List (Item × ℕ)) → IsTable table
    → T (is_sorted (hill_cmp carbon) parts) → AreKnown table parts
    → AreApart (parts_isotopes table parts) × AllByRecursion IsIsotopeItem (parts_isotopes table parts)
parts-apart table carbon [] is sorted known = (tt, tt)
parts-apart table carbon (p ∷ ps) is sorted known =
    let below = t_first (below_all (hill_cmp carbon) p.0 ps) (is_sorted (hill_cmp carbon) ps) sorted in
    let rest = t_second (below_all (hill_cmp carbon) p.0 ps) (is_sorted (hill_cmp carbon) ps) sorted in
    let here = isotopes-if table is p.0 (element_of table p.0.symbol) refl known.0.1 in
    let more = parts-apart table carbon ps is rest known.1 in
    let other : Other p.0.symbol (parts_isotopes table ps) =
    parts-other table p.0.symbol ps (below-symbols table carbon p.0 ps known.0.0 below known.1) in (
      apart-append (item_isotopes table p.0) (parts_isotopes table ps) here.2 more.0
          (all-lack p.0 (isotopes_of table p.0) (parts_isotopes table ps) other),
      all-append IsIsotopeItem (item_isotopes table p.0) (parts_isotopes table ps) here.1 more.1,
    )

known-element : (o : Option ElementEntry) (label : ℕ) → IsTrue (is_some (isotope_if o label)) → IsTrue (is_some o)
known-element None label known = known
known-element (Some element) label known = refl

pub plain-known : (table : TableEntries) (items : List (Item × ℕ))
    → AllByRecursion (λ p. IsTrue (is_some (item_isotope table p.0))) items → AreKnown table (plain_items items)
plain-known table [] known = tt
plain-known table (p ∷ ps) known =
    elim (is_plain p.0) as (λ b. is_plain p.0 ≡ b → AreKnown table (cond b (p ∷ plain_items ps) (plain_items ps))) [
      | true ↦ λ plain. (
        (eqb-true p.0.label 0 plain, known-element (element_of table p.0.symbol) p.0.label known.0),
        plain-known table ps known.1,
      )
      | false ↦ λ other. plain-known table ps known.1
    ] refl

-- the isotopes that an isotopologue of a formula counts are apart
pub formula-apart : (table : TableEntries) (formula : List (Item × ℕ)) → IsTable table → IsFormula formula
    → HasItems table formula
    → AreApart (isotope_items table formula) × AllByRecursion IsIsotopeItem (isotope_items table formula)
formula-apart table formula is form known =
    parts-apart table (has_carbon formula) (plain_items formula) is
    (is_sorted-where_key (hill_cmp (has_carbon formula)) is_plain formula (T-IsTrue _ form.parts.ordered))
    (plain-known table formula (recursion_from_All (λ p. IsTrue (is_some (item_isotope table p.0))) formula known))
