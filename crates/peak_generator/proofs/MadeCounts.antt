-- The counts that draws make are those of a formula.
use Rattle.std.proofs.Common.{◌≡◌, ℕ, ◌+◌, ◌<◌, ◌≤◌, ◌%◌, Bool, true, false, cond, ltb, List, [], ◌∷◌, length, filter, refl, ap, ◌∙◌, arith}
use Rattle.std.specs.Prelude.{Some, Ok, IsTrue, is_some, ◌||◌}
use Rattle.std.specs.List.{AllByRecursion, list_any}
use Rattle.std.proofs.lemmas.Bool.{le-ltb}
use Rattle.std.proofs.lemmas.List.Elements.{All-from_recursion, recursion_from_All}
use Rattle.element_table.specs.Elements.{TableEntries}
use Rattle.written_items.specs.declared.item.Item.{Item}
use Rattle.formula_text.specs.Formulas.{atoms_of, formula_in, formula_of, sum_of, IsSumOf}
use Rattle.formula_text.specs.Masses.{HasItems, item_isotope}
use Rattle.formula_text.proofs.CountsInOrder.{atoms_of-cons}
use Rattle.formula_text.proofs.KnownItems.{HasItems-sum}
use Rattle.formula_text.proofs.SumFolds.{sum_of-atoms}
use Rattle.formula_text.proofs.SumLimits.{parts_of-within}
use Rattle.adducts.proofs.ItemLists.{Distinct, sum-entries}
use Rattle.peak_generator.specs.MadeFormulas.{counts_of_draws, element_counts}

atoms-element_counts : (c h n o : ℕ) → atoms_of (element_counts c h n o) ≡ c + (h + (n + o))
atoms-element_counts c h n o = omega arith

few_each : (ps : List (Item × ℕ)) → atoms_of ps ≤ 10000 → list_any (λ p. ltb 10000 p.1) ps ≡ false
few_each [] h = refl
few_each (p ∷ ps) h =
    let cons = atoms_of-cons p ps in
    ap (λ b. b || list_any (λ r. ltb 10000 r.1) ps) (le-ltb 10000 p.1 (omega (arith, cons, h)))
    ∙ few_each ps (omega (arith, cons, h))

apart : (c h n o : ℕ) → Distinct (element_counts c h n o)
apart c h n o = (refl, (refl, (refl, (refl, tt))))

filter-few : {X : Type 0} (test : X → Bool) (xs : List X) → length (filter test xs) ≤ length xs
filter-few test [] = omega arith
filter-few test (x ∷ xs) =
    let rest = filter-few test xs in
    elim (test x) as (λ b. length (cond b (x ∷ filter test xs) (filter test xs)) ≤ length (x ∷ xs)) [
      | true ↦ omega (arith, rest)
      | false ↦ omega (arith, rest)
    ]

some_atom : (f : List (Item × ℕ)) → 0 < atoms_of f → formula_in (Ok f) ≡ Some f
some_atom [] h = absurd (omega arith)
some_atom (p ∷ ps) h = refl

-- counts with an atom of carbon, and with few atoms, are those of a formula
pub formula-element_counts : (c h n o : ℕ) → 0 < c → c + (h + (n + o)) ≤ 10000 →
    formula_of (element_counts c h n o) ≡ Some (sum_of (element_counts c h n o))
formula-element_counts c h n o some few =
    let ps : List (Item × ℕ) = element_counts c h n o in
    let atoms : atoms_of ps ≡ c + (h + (n + o)) = atoms-element_counts c h n o in
    let same = sum_of-atoms ps in
    let entries = (sum-entries (λ _. true) ps (apart c h n o)).one_each in
    let fewer = filter-few (λ p. ltb 0 p.1) ps in
    ap formula_in (parts_of-within ps (le-ltb 20000 (atoms_of ps) (omega (arith, atoms, few)))
    (few_each (sum_of ps) (omega (arith, same, atoms, few)))
    (le-ltb 20 (length (sum_of ps)) (omega (arith, entries, fewer))))
    ∙ some_atom (sum_of ps) (omega (arith, same, atoms, some))

few-made : (c e f g h : ℕ) → c ≡ 1 + e % 30 → c + ((c + f % (c + 3)) + (g % 4 + h % 8)) ≤ 10000
few-made c e f g h is = omega arith

pub formula-made : (e f g h : ℕ) → formula_of (counts_of_draws e f g h) ≡ Some (sum_of (counts_of_draws e f g h))
formula-made e f g h =
    let c : ℕ = 1 + e % 30 in
    formula-element_counts c (c + f % (c + 3)) (g % 4) (h % 8) (omega arith) (few-made c e f g h refl)

-- a table with the four elements has the items of such counts
pub known-element_counts : (table : TableEntries) (c h n o : ℕ) → HasItems table (element_counts 1 1 1 1) →
    HasItems table (element_counts c h n o)
known-element_counts table c h n o known =
    let there : Item × ℕ → Type 0 = λ p. IsTrue (is_some (item_isotope table p.0)) in
    let each : AllByRecursion there (element_counts 1 1 1 1) = recursion_from_All there (element_counts 1 1 1 1) known in
    All-from_recursion there (element_counts c h n o)
    (each.0, (each.1.0, (each.1.1.0, (each.1.1.1.0, tt))))

pub known-made : (table : TableEntries) (e f g h : ℕ) (formula : List (Item × ℕ)) →
    IsSumOf (counts_of_draws e f g h) formula → HasItems table (element_counts 1 1 1 1) → HasItems table formula
known-made table e f g h formula is known =
    let c : ℕ = 1 + e % 30 in
    HasItems-sum table (counts_of_draws e f g h) formula is.formula is.counts
    (known-element_counts table c (c + f % (c + 3)) (g % 4) (h % 8) known)
