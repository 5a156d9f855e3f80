-- The elements of a formula are few, and so are their atoms.
use Rattle.std.proofs.Common.{◌≡◌, ℕ, ◌+◌, ◌<◌, ◌≤◌, Bool, true, false, cond, List, [], ◌∷◌, ◌++◌, map, length, get_or}
use Rattle.std.proofs.Common.{take, append-nil, eq-eqb, refl, sym, ◌∙◌, ap, arith, All}
use Rattle.std.specs.Prelude.{sum_by, not}
use Rattle.std.proofs.lemmas.Bool.{ne_eqb}
use Rattle.std.proofs.lemmas.List.{length-map, map_push}
use Rattle.std.proofs.lemmas.List.Elements.{All-map, All-filter, filter_more}
use Rattle.std.proofs.lemmas.List.Filters.{sum_by-filter_both}
use Rattle.std.proofs.lemmas.List.Sums.{sum_by-cons}
use Rattle.multinomial_bounds.specs.Weight.{IsWeights}
use Rattle.multinomial_bounds.specs.Isotopologue.{Element, all_atoms}
use Rattle.isotopologue_sets.specs.Layers.{AreElements}
use Rattle.element_table.specs.declared.element.Isotope.{Isotope}
use Rattle.element_table.specs.Elements.{TableEntries}
use Rattle.written_items.specs.declared.item.Item.{Item}
use Rattle.formula_text.specs.Formulas.{IsParts, atoms_of}
use Rattle.isotopologue_text.specs.Isotopologues.{isotopes_that_occur, isotopes_of, is_plain, plain_items, element_in, formula_elements}

-- no more items pass a test than there are, and no more of anything that they count
filter-fewer : (f : Item × ℕ → ℕ) (items : List (Item × ℕ)) → sum_by f (plain_items items) ≤ sum_by f items
filter-fewer f items =
    omega (arith, sum_by-filter_both (λ (p : Item × ℕ). is_plain p.0) (λ p. not (is_plain p.0)) (λ p. refl) f items)

length-sum_by : (items : List (Item × ℕ)) → sum_by (λ (_ : Item × ℕ). 1) items ≡ length items
length-sum_by [] = refl
length-sum_by (p ∷ items) = sum_by-cons (λ (_ : Item × ℕ). 1) p items ∙ omega (arith, length-sum_by items)

atoms-map : (table : TableEntries) (items : List (Item × ℕ)) → all_atoms (map (element_in table) items) ≡ atoms_of items
atoms-map table [] = refl
atoms-map table (p ∷ items) =
    sum_by-cons (λ (e : Element). e.atoms) (element_in table p) (map (element_in table) items)
    ∙ ap (λ (n : ℕ). p.1 + n) (atoms-map table items)
    ∙ sym (sum_by-cons (λ (q : Item × ℕ). q.1) p items)

pub AreElements-formula_elements : (table : TableEntries) (items : List (Item × ℕ)) → IsParts items →
    All (λ (e : Element). IsWeights e.weights) (formula_elements table items) →
    AreElements (formula_elements table items)
AreElements-formula_elements table items parts weights =
    record {
      few = omega (
        arith,
        length-map (plain_items items) (element_in table),
        filter-fewer (λ _. 1) items,
        length-sum_by (plain_items items),
        length-sum_by items,
        parts.few_items,
      );
      weights = weights;
      few_of_each = All-map (λ (e : Element). e.atoms ≤ 10000) (element_in table) (plain_items items)
          (All-filter (λ (p : Item × ℕ). is_plain p.0) (λ p. p.1 ≤ 10000) items parts.few_of_each);
      few_atoms = omega (arith, atoms-map table (plain_items items), filter-fewer (λ p. p.1) items, parts.few_atoms);
    }

-- ---- one item more

module _ (table : TableEntries) (items : List (Item × ℕ)) (i : ℕ) (part : Item × ℕ) (within : i < length items)
    (is : part ≡ get_or items i part) where
  items_more : (plain : Bool) → is_plain part.0 ≡ plain →
      plain_items (take (i + 1) items) ≡ plain_items (take i items) ++ cond plain (part ∷ []) []
  items_more plain here =
      let test : Item × ℕ → Bool = λ p. is_plain p.0 in
      filter_more test items i part within
      ∙ ap (λ p. plain_items (take i items) ++ cond (test p) (p ∷ []) []) (sym is)
      ∙ ap (λ b. plain_items (take i items) ++ cond b (part ∷ []) []) here

  pub element_taken : (elements more : List Element) (isotopes : List Isotope) (e : Element) → part.0.label ≡ 0 →
      elements ≡ formula_elements table (take i items) → more ≡ elements ++ e ∷ [] →
      e ≡ record { weights = map (λ (x : Isotope). x.weight) (isotopes_that_occur isotopes); atoms = part.1 } →
      isotopes_that_occur isotopes ≡ isotopes_of table part.0 → more ≡ formula_elements table (take (i + 1) items)
  element_taken elements more isotopes e plain before pushed this occur =
      let element : e ≡ element_in table part =
      this
      ∙ ap (λ (xs : List Isotope).
      let x : Element = record { weights = map (λ (y : Isotope). y.weight) xs; atoms = part.1 } in x) occur in
      pushed
      ∙ ap (λ xs. xs ++ e ∷ []) before
      ∙ ap (λ x. formula_elements table (take i items) ++ x ∷ []) element
      ∙ sym (map_push (element_in table) (plain_items (take i items)) part)
      ∙ ap (map (element_in table)) (sym (items_more true (eq-eqb part.0.label 0 plain)))

  pub element_passed : (elements : List Element) → (part.0.label ≡ 0 → ⊥) →
      elements ≡ formula_elements table (take i items) → elements ≡ formula_elements table (take (i + 1) items)
  element_passed elements other before =
      before
      ∙ ap (map (element_in table))
      (sym (items_more false (ne_eqb part.0.label 0 other) ∙ append-nil (plain_items (take i items))))
