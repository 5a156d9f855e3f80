-- The elements as the values of a map from their symbols.
use Rattle.std.proofs.Common.{◌≡◌, ℕ, ◌≤◌, Bool, true, false, List, [], ◌∷◌, ◌++◌, length, map, find, Some, None, ◌==◌}
use Rattle.std.proofs.Common.{if◌then◌else◌, refl, sym, ap, ◌∙◌, true≢false, arith, AllPairs}
use Rattle.std.specs.List.{IsDistinct}
use Rattle.std.specs.Map.{keys_of, values_of, lookup, set_value}
use Rattle.std.specs.Str.{bytes_eq}
use Rattle.std.proofs.lemmas.List.{get_or-map, length-append, length-map, map-append}
use Rattle.std.proofs.lemmas.List.Elements.{All-push}
use Rattle.std.proofs.lemmas.Map.Keys.{apart_from_distinct}
use Rattle.std.proofs.lemmas.Slice.Eq.{bytes_eq-Decides}
use Rattle.std.proofs.lemmas.Map.Views.{All-values-set_value}
use Rattle.element_table.specs.Elements.{ElementEntry, IsElement}
use Rattle.element_table.specs.TableRows.{element_with}
use Rattle.element_table.specs.Gathering.{AreElements, fault_among, isotope_fault, with_isotope, with_isotope_of}
use Rattle.element_table.specs.declared.element.Isotope.{Isotope}
use Rattle.element_table.specs.declared.fault.TableFault.TheVariants as fault

-- the entries of a map from symbols to elements
abbrev pub Entries : Type 0
Entries = List (List ℕ × ElementEntry)

-- each element stands under its own symbol
abbrev pub AreUnderSymbols : Entries → Type 0
AreUnderSymbols es = keys_of es ≡ map (λ e. e.symbol) (values_of es)

-- the element that a look-up finds is the first of the symbol
pub lookup_by_symbol : (symbol : List ℕ) (es : Entries) → AreUnderSymbols es
    → lookup (bytes_eq symbol) es ≡ find (λ e. bytes_eq symbol e.symbol) (values_of es)
lookup_by_symbol symbol [] under = refl
lookup_by_symbol symbol (e ∷ es) under =
    let head : e.0 ≡ e.1.symbol = cc in
    let tail : AreUnderSymbols es = cc in
    rw (head, lookup_by_symbol symbol es tail) refl

-- a value written over the element found, which has one more isotope
pub values-with_isotope : (symbol : List ℕ) (valence : ℕ) (isotope : Isotope) (es : Entries) (e w : ElementEntry)
    → AreUnderSymbols es
    → lookup (bytes_eq symbol) es ≡ Some e → w ≡ with_isotope e isotope
    → values_of (set_value (bytes_eq symbol) es w) ≡ with_isotope_of (values_of es) symbol valence isotope
values-with_isotope symbol valence isotope [] e w under found is = cc
values-with_isotope symbol valence isotope (x ∷ es) e w under found is =
    by (bytes_eq symbol x.1.symbol) refl (λ rest. values-with_isotope symbol valence isotope es e w tail rest is)
  where
    head : x.0 ≡ x.1.symbol
    head = cc

    tail : AreUnderSymbols es
    tail = cc

    by : (b : Bool) → bytes_eq symbol x.1.symbol ≡ b
        → (lookup (bytes_eq symbol) es ≡ Some e → values_of (set_value (bytes_eq symbol) es w)
        ≡ with_isotope_of (values_of es) symbol valence isotope)
        → values_of (set_value (bytes_eq symbol) (x ∷ es) w)
        ≡ with_isotope_of (x.1 ∷ values_of es) symbol valence isotope
    by true here rest =
        let there : bytes_eq symbol x.0 ≡ true = rw head here in
        let one : Some x.1 ≡ Some e = rw there at found in
        let same : w ≡ with_isotope x.1 isotope = cc in
        rw (there, here) (ap (λ v. v ∷ values_of es) same)
    by false other rest =
        let there : bytes_eq symbol x.0 ≡ false = rw head other in
        rw (there, other) (ap (λ l. x.1 ∷ l) (rest (rw there at found)))

-- a value written over the element found, of the same symbol
pub symbols-set_value : (symbol : List ℕ) (es : Entries) (e w : ElementEntry) → lookup (bytes_eq symbol) es ≡ Some e
    → w.symbol ≡ e.symbol
    → map (λ e. e.symbol) (values_of (set_value (bytes_eq symbol) es w)) ≡ map (λ e. e.symbol) (values_of es)
symbols-set_value symbol [] e w found same = refl
symbols-set_value symbol (x ∷ es) e w found same =
    by (bytes_eq symbol x.0) refl (λ rest. symbols-set_value symbol es e w rest same)
  where
    by : (b : Bool) → bytes_eq symbol x.0 ≡ b
        → (lookup (bytes_eq symbol) es
        ≡ Some e → map (λ (e : ElementEntry). e.symbol) (values_of (set_value (bytes_eq symbol) es w))
        ≡ map (λ e. e.symbol) (values_of es))
        → map (λ (e : ElementEntry). e.symbol) (values_of (set_value (bytes_eq symbol) (x ∷ es) w))
        ≡ map (λ e. e.symbol) (values_of (x ∷ es))
    by true here rest =
        let one : Some x.1 ≡ Some e = rw here at found in
        let here_too : w.symbol ≡ x.1.symbol = cc in
        rw here (ap (λ s. s ∷ map (λ (e : ElementEntry). e.symbol) (values_of es)) here_too)
    by false other rest = rw other (ap (λ l. x.1.symbol ∷ l) (rest (rw other at found)))

-- an element of a new symbol goes to the end
pub with_isotope_of-new : (symbol : List ℕ) (valence : ℕ) (isotope : Isotope) (elements : List ElementEntry)
    → find (λ e. bytes_eq symbol e.symbol) elements ≡ None
    → with_isotope_of elements symbol valence isotope ≡ elements ++ element_with symbol valence (isotope ∷ []) ∷ []
with_isotope_of-new symbol valence isotope [] none = refl
with_isotope_of-new symbol valence isotope (x ∷ xs) none =
    by (bytes_eq symbol x.symbol) refl (λ rest. with_isotope_of-new symbol valence isotope xs rest)
  where
    by : (b : Bool) → bytes_eq symbol x.symbol ≡ b
        → (find (λ (e : ElementEntry). bytes_eq symbol e.symbol) xs ≡ None → with_isotope_of xs symbol valence isotope
        ≡ xs ++ element_with symbol valence (isotope ∷ []) ∷ [])
        → with_isotope_of (x ∷ xs) symbol valence isotope ≡ (x ∷ xs) ++ element_with symbol valence (isotope ∷ []) ∷ []
    by true here rest =
        let some : Some x ≡ None = rw here at none in
        cc
    by false other rest = rw other (ap (λ l. x ∷ l) (rest (rw other at none)))

-- where the keys are distinct, no symbol stands twice
distinct_symbols : (es : Entries) → AreUnderSymbols es → IsDistinct bytes_eq (keys_of es)
    → AllPairs (λ a b. a.symbol ≡ b.symbol → ⊥) (values_of es)
distinct_symbols es under distinct i j d below within same =
    let apart = apart_from_distinct bytes_eq _ i j d.symbol (rw under at distinct) below (rw length-map within) in
    let first = get_or-map (λ (e : ElementEntry). e.symbol) (values_of es) i d d.symbol (omega arith) in
    let second = get_or-map (λ (e : ElementEntry). e.symbol) (values_of es) j d d.symbol within in
    let equal = (bytes_eq-Decides _ _).1 (first ∙ same ∙ sym second) in
    true≢false (sym equal ∙ apart)

-- elements within the limits, one of them written anew
pub AreElements-set_value : (symbol : List ℕ) (es : Entries) (w : ElementEntry) → AreElements (values_of es)
    → IsElement w
    → length (set_value (bytes_eq symbol) es w) ≡ length es → AreUnderSymbols (set_value (bytes_eq symbol) es w)
    → IsDistinct bytes_eq (keys_of (set_value (bytes_eq symbol) es w))
    → AreElements (values_of (set_value (bytes_eq symbol) es w))
AreElements-set_value symbol es w are one long under distinct = record {
  few = rw (length-map, long) (rw length-map at are.few);
  each = All-values-set_value (bytes_eq symbol) IsElement es w are.each one;
  distinct = distinct_symbols _ under distinct;
}

-- and one more
pub AreElements-push : (es : Entries) (symbol : List ℕ) (w : ElementEntry) → AreElements (values_of es) → IsElement w
    → length es ≤ 119
    → AreUnderSymbols (es ++ (symbol, w) ∷ []) → IsDistinct bytes_eq (keys_of (es ++ (symbol, w) ∷ []))
    → AreElements (values_of (es ++ (symbol, w) ∷ []))
AreElements-push es symbol w are one room under distinct =
    let values = map-append (λ (e : List ℕ × ElementEntry). e.1) es ((symbol, w) ∷ []) in
    record {
      few = rw (length-map, length-append) (omega arith);
      each = rw values (All-push IsElement (values_of es) w are.each one);
      distinct = distinct_symbols _ under distinct;
    }

module _ (record_number : ℕ) (symbol : List ℕ) (valence : ℕ) (isotope : Isotope) (es : Entries)
    (under : AreUnderSymbols es) where
  -- the fault of one more isotope, by the element that a look-up finds
  pub fault_among-found : (e : ElementEntry) → lookup (bytes_eq symbol) es ≡ Some e
      → fault_among record_number (values_of es) symbol valence isotope ≡ isotope_fault record_number e valence isotope
  fault_among-found e found = rw (← lookup_by_symbol symbol es under, found) refl

  -- or else by the number of elements
  pub fault_among-new : lookup (bytes_eq symbol) es ≡ None
      → fault_among record_number (values_of es) symbol valence isotope
      ≡ (if length es == 120 then Some (fault.TooManyElements record_number) else None)
  fault_among-new none = rw (← lookup_by_symbol symbol es under, none, length-map) refl
