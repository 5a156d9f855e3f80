use Rattle.std.proofs.Common.{◌≡◌, ℕ, false, ltb, length, sym, ap, ◌∙◌, arith}
use Rattle.std.specs.Prelude.{Ok, Err}
use Rattle.std.specs.List.{list_any}
use Rattle.std.proofs.lemmas.Bool.{lt-ltb, le-ltb}
use Rattle.written_items.specs.declared.item.Item.{Item}
use Rattle.formula_text.specs.declared.fault.PartsFault.TheVariants.{TooManyAtoms, TooManyElements}
use Rattle.formula_text.specs.Formulas.{sum_of, parts_of, has_many_items, IsParts}
use Rattle.formula_text.proofs.SumLimits.{parts_of-many_atoms, parts_of-many_of_one, parts_of-many_items}
use Rattle.formula_text.proofs.SumLimits.{parts_of-within, parts_of-only, parts_of-SumsUp, sum_of-within}
use Rattle.formula_text.proofs.parts.Parts.of.Goals as goal
use Rattle.formula_text.proofs.parts.Parts.of.Goals.{Then-has_many_atoms, After-drop-items}
use Rattle.formula_text.proofs.parts.Parts.of.Goals.{After-drop-items-then-len-gt-MAX_ITEMS, Else-len-gt-MAX_ITEMS}

many_atoms : (c : Then-has_many_atoms) → parts_of c.args.parts.now ≡ Err TooManyAtoms
many_atoms c = parts_of-many_atoms c.args.parts.now (sym c.if-has_many_atoms.ensures)

pub returns-then-has_many_atoms-clause-sum : goal.returns-then-has_many_atoms-clause-sum
returns-then-has_many_atoms-clause-sum c = many_atoms c

pub returns-then-has_many_atoms-clause-only : goal.returns-then-has_many_atoms-clause-only
returns-then-has_many_atoms-clause-only c = λ f h counts. sym (parts_of-only c.args.parts.now f h counts) ∙ many_atoms c

many_of_one : (c : After-drop-items) → parts_of c.args.parts.now ≡ Err TooManyAtoms
many_of_one c =
    let sum = c.deref.ensures.value ∙ c.in_ok-items.ensures.sum in
    parts_of-many_of_one c.args.parts.now (sym c.if-has_many_atoms.ensures)
    (ap (list_any (λ (p : Item × ℕ). ltb 10000 p.1)) (sym sum) ∙ sym c.if-has_many_of_one.ensures)

pub returns-then-has_many_of_one-clause-sum : goal.returns-then-has_many_of_one-clause-sum
returns-then-has_many_of_one-clause-sum c = many_of_one c

pub returns-then-has_many_of_one-clause-only : goal.returns-then-has_many_of_one-clause-only
returns-then-has_many_of_one-clause-only c =
    λ f h counts. sym (parts_of-only c.args.parts.now f h counts) ∙ many_of_one c

many_items : (c : After-drop-items-then-len-gt-MAX_ITEMS) → parts_of c.args.parts.now ≡ Err TooManyElements
many_items c =
    let sum = c.deref.ensures.value ∙ c.in_ok-items.ensures.sum in
    let same : c.len.result ≡ length (sum_of c.args.parts.now) =
    omega (arith, c.in_ok-items.items.ok.0, ap length c.in_ok-items.ensures.sum) in
    parts_of-many_items c.args.parts.now (sym c.if-has_many_atoms.ensures)
    (ap (list_any (λ (p : Item × ℕ). ltb 10000 p.1)) (sym sum) ∙ sym c.if-has_many_of_one.ensures)
    (lt-ltb 20 (length (sum_of c.args.parts.now)) (omega arith))

pub returns-then-len-gt-MAX_ITEMS-clause-sum : goal.returns-then-len-gt-MAX_ITEMS-clause-sum
returns-then-len-gt-MAX_ITEMS-clause-sum c = many_items c

pub returns-then-len-gt-MAX_ITEMS-clause-only : goal.returns-then-len-gt-MAX_ITEMS-clause-only
returns-then-len-gt-MAX_ITEMS-clause-only c =
    λ f h counts. sym (parts_of-only c.args.parts.now f h counts) ∙ many_items c

module _ (c : Else-len-gt-MAX_ITEMS) where
  few : has_many_items (sum_of c.args.parts.now) ≡ false
  few =
      let same : c.len.result ≡ length (sum_of c.args.parts.now) =
      omega (arith, c.in_ok-items.items.ok.0, ap length c.in_ok-items.ensures.sum) in
      le-ltb 20 (length (sum_of c.args.parts.now)) (omega arith)

  few_of_each : list_any (λ (p : Item × ℕ). ltb 10000 p.1) (sum_of c.args.parts.now) ≡ false
  few_of_each =
      ap (list_any (λ (p : Item × ℕ). ltb 10000 p.1)) (sym (c.deref.ensures.value ∙ c.in_ok-items.ensures.sum))
      ∙ sym c.if-has_many_of_one.ensures

  within : IsParts c.in_ok-items.items.items
  within =
      rw c.in_ok-items.ensures.sum
      (sum_of-within c.args.parts.now (sym c.if-has_many_atoms.ensures) few_of_each few
      (rw c.in_ok-items.ensures.sum at c.in_ok-items.ensures.items))

  sum : parts_of c.args.parts.now ≡ Ok c.in_ok-items.items.items
  sum =
      parts_of-within c.args.parts.now (sym c.if-has_many_atoms.ensures) few_of_each few
      ∙ ap Ok (sym c.in_ok-items.ensures.sum)

pub invariant_of-result : goal.invariant_of-result
invariant_of-result c = within c

pub returns-clause-sum : goal.returns-clause-sum
returns-clause-sum c = sum c

pub returns-clause-parts : goal.returns-clause-parts
returns-clause-parts c = within c

pub returns-clause-counts : goal.returns-clause-counts
returns-clause-counts c = parts_of-SumsUp c.args.parts.now (Ok c.in_ok-items.items.items) (sum c)

pub returns-clause-only : goal.returns-clause-only
returns-clause-only c = λ f h counts. sym (parts_of-only c.args.parts.now f h counts) ∙ sum c
