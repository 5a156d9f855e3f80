-- A tracer changes weights alone, and an element or a table with its weights is within the limits.
use Rattle.std.proofs.Common.{◌≡◌, ℕ, zero, suc, ◌<◌, ◌≤◌, Bool, true, false, List, [], ◌∷◌, length, get_or, map, find}
use Rattle.std.proofs.Common.{None, refl, sym, ap, ◌∙◌, subst, arith, All, AllPairs}
use Rattle.std.proofs.lemmas.Bool.{eqb-false}
use Rattle.std.proofs.lemmas.List.{get_or-map, length-map}
use Rattle.std.proofs.lemmas.List.Elements.{All-map, All-head, All-tail}
use Rattle.std.proofs.lemmas.Simd.{map-map}
use Rattle.element_table.specs.Limits.{full_abundance}
use Rattle.element_table.specs.Elements.{ElementEntry, TableEntries, IsElement, IsIsotope, IsTable, isotope_at}
use Rattle.element_table.specs.Elements.{reference_isotope, total_weight}
use Rattle.element_table.specs.ReadRow.{AreTracerRows}
use Rattle.element_table.specs.Tracers.{DifferInWeights, is_named, is_of_isotope, is_weightless_by, traced_element}
use Rattle.element_table.specs.Tracers.{traced_elements, traced_isotope, tracer_weight, unweighted_isotope}
use Rattle.element_table.specs.Tracers.{unweighted_element}
use Rattle.element_table.specs.declared.element.Isotope.{Isotope}
use Rattle.element_table.specs.declared.tracer.TracerRow.{TracerRow}
use Rattle.element_table.proofs.Weights.{find-none}

-- a tracer's weight is at most that of an abundance of 1
pub tracer_weight-within : (rows : List TracerRow) (symbol : List ℕ) (number : ℕ) → AreTracerRows rows
    → tracer_weight rows symbol number ≤ full_abundance
tracer_weight-within [] symbol number are = omega arith
tracer_weight-within (row ∷ rows) symbol number are =
    by (is_of_isotope symbol number row) refl
    (tracer_weight-within rows symbol number (All-tail (λ (r : TracerRow). r.weight ≤ full_abundance) row rows are))
  where
    by : (b : Bool) → is_of_isotope symbol number row ≡ b → tracer_weight rows symbol number ≤ full_abundance
        → tracer_weight (row ∷ rows) symbol number ≤ full_abundance
    by true here rest = rw here (All-head (λ (r : TracerRow). r.weight ≤ full_abundance) row rows are)
    by false other rest = rw other rest

-- an element within the limits stays within them with other weights
pub IsElement-traced : (rows : List TracerRow) (e : ElementEntry) → AreTracerRows rows → IsElement e
    → IsElement (record e { isotopes = map (traced_isotope rows e.symbol) e.isotopes })
IsElement-traced rows e are is = record {
  symbol = is.symbol;
  valence = is.valence;
  few_isotopes = rw length-map is.few_isotopes;
  isotopes = All-map IsIsotope (traced_isotope rows e.symbol) e.isotopes (λ k d below. isotope k d below);
  rising = rw map-map is.rising;
  reference = rw length-map is.reference;
}
  where
    isotope : All (λ (i : Isotope). IsIsotope (traced_isotope rows e.symbol i)) e.isotopes
    isotope k d below =
        let i = is.isotopes k d below in
        record {
          number_from = i.number_from;
          number_to = i.number_to;
          mass_from = i.mass_from;
          mass_to = i.mass_to;
          weight_to = tracer_weight-within rows e.symbol _ are;
        }

IsElement-traced_element : (rows : List TracerRow) (e : ElementEntry) → AreTracerRows rows → IsElement e
    → IsElement (traced_element rows e)
IsElement-traced_element rows e are is = by (is_named rows e.symbol) refl
  where
    by : (b : Bool) → is_named rows e.symbol ≡ b → IsElement (traced_element rows e)
    by true named = rw named (IsElement-traced rows e are is)
    by false other = rw other is

-- the symbol stays the same
symbol-traced_element : (rows : List TracerRow) (e : ElementEntry) → (traced_element rows e).symbol ≡ e.symbol
symbol-traced_element rows e = by (is_named rows e.symbol) refl
  where
    by : (b : Bool) → is_named rows e.symbol ≡ b → (traced_element rows e).symbol ≡ e.symbol
    by true named = rw named refl
    by false other = rw other refl

-- an element has weight where the tracer doesn't leave it without
weight-traced_element : (rows : List TracerRow) (e : ElementEntry) → 0 < total_weight e.isotopes
    → is_weightless_by rows (traced_element rows e) ≡ false
    → 0 < total_weight (traced_element rows e).isotopes
weight-traced_element rows e some not_less = by (is_named rows e.symbol) refl
  where
    by : (b : Bool) → is_named rows e.symbol ≡ b → 0 < total_weight (traced_element rows e).isotopes
    by true named =
        let weight = eqb-false _ 0 (rw (named, named) at not_less) in
        rw named (omega (arith, weight))
    by false other = rw other some

-- a table with the weights of a tracer is within the limits, where none of its elements is left without weight
pub IsTable-traced : (rows : List TracerRow) (t : TableEntries) → AreTracerRows rows → IsTable t
    → find (is_weightless_by rows) (traced_elements rows t.elements) ≡ None
    → IsTable (record t { elements = traced_elements rows t.elements })
IsTable-traced rows t are is none = record {
  electron_from = is.electron_from;
  electron_to = is.electron_to;
  few_elements = rw length-map is.few_elements;
  elements =
      All-map IsElement (traced_element rows) t.elements
      (λ k d below. IsElement-traced_element rows _ are (is.elements k d below));
  weighted =
      All-map (λ (e : ElementEntry). 0 < total_weight e.isotopes) (traced_element rows) t.elements
      (λ k d below. weighted k d below);
  distinct = distinct;
}
  where
    traced_at : (k : ℕ) (d : ElementEntry) → k < length t.elements
        → get_or (traced_elements rows t.elements) k d ≡ traced_element rows (get_or t.elements k d)
    traced_at k d below = get_or-map (traced_element rows) t.elements k d d below

    weighted : All (λ (e : ElementEntry). 0 < total_weight (traced_element rows e).isotopes) t.elements
    weighted k d below =
        let passed =
        find-none (is_weightless_by rows) (traced_elements rows t.elements) none k d (rw length-map below) in
        weight-traced_element rows _ (is.weighted k d below)
        (subst (λ (e : ElementEntry). is_weightless_by rows e ≡ false) (traced_at k d below) passed)

    distinct : AllPairs (λ (a b : ElementEntry). a.symbol ≡ b.symbol → ⊥) (traced_elements rows t.elements)
    distinct i j d before below same =
        let within : j < length t.elements = rw length-map at below in
        let first =
        ap (λ (e : ElementEntry). e.symbol) (traced_at i d (omega (arith, before, within)))
        ∙ symbol-traced_element rows (get_or t.elements i d) in
        let second =
        ap (λ (e : ElementEntry). e.symbol) (traced_at j d within)
        ∙ symbol-traced_element rows (get_or t.elements j d) in
        is.distinct i j d before within (sym first ∙ same ∙ second)

-- but for its weight an isotope stays the same
unweighted_isotope-at : (rows : List TracerRow) (symbol : List ℕ) (isotopes : List Isotope) (k : ℕ)
    → unweighted_isotope (isotope_at (map (traced_isotope rows symbol) isotopes) k)
    ≡ unweighted_isotope (isotope_at isotopes k)
unweighted_isotope-at rows symbol [] k = refl
unweighted_isotope-at rows symbol (i ∷ isotopes) zero = refl
unweighted_isotope-at rows symbol (i ∷ isotopes) (suc k) = unweighted_isotope-at rows symbol isotopes k

-- and so does an element
unweighted_isotope-traced_element : (rows : List TracerRow) (e : ElementEntry)
    → unweighted_element (traced_element rows e) ≡ unweighted_element e
unweighted_isotope-traced_element rows e = by (is_named rows e.symbol) refl
  where
    by : (b : Bool) → is_named rows e.symbol ≡ b → unweighted_element (traced_element rows e) ≡ unweighted_element e
    by true named =
        rw named (ap (λ (is : List Isotope). record e { isotopes = is })
        (map-map unweighted_isotope (traced_isotope rows e.symbol) e.isotopes))
    by false other = rw other refl

-- its reference isotope among the rest
unweighted_isotope-reference : (rows : List TracerRow) (e : ElementEntry)
    → unweighted_isotope (reference_isotope (traced_element rows e)) ≡ unweighted_isotope (reference_isotope e)
unweighted_isotope-reference rows e = by (is_named rows e.symbol) refl
  where
    by : (b : Bool) → is_named rows e.symbol ≡ b
        → unweighted_isotope (reference_isotope (traced_element rows e)) ≡ unweighted_isotope (reference_isotope e)
    by true named = rw named (unweighted_isotope-at rows e.symbol e.isotopes e.reference)
    by false other = rw other refl

-- what a function leaves the same in each element, it leaves the same in all
map-same : {Y : Type 0} (f : ElementEntry → ElementEntry) (g : ElementEntry → Y)
    → ((e : ElementEntry) → g (f e) ≡ g e) → (es : List ElementEntry) → map g (map f es) ≡ map g es
map-same f g same [] = refl
map-same f g same (e ∷ es) = (let head = same e in let tail = map-same f g same es in cc)

-- a table with the weights of a tracer differs from the table in weights alone
pub DifferInWeights-traced : (rows : List TracerRow) (t : TableEntries)
    → DifferInWeights t (record t { elements = traced_elements rows t.elements })
DifferInWeights-traced rows t = record {
  electron = refl;
  elements = map-same (traced_element rows) unweighted_element (unweighted_isotope-traced_element rows) t.elements;
  references =
      map-same (traced_element rows) (λ (e : ElementEntry). unweighted_isotope (reference_isotope e))
      (unweighted_isotope-reference rows) t.elements;
}
