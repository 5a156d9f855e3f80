-- The sum of parts against the limits of a formula.
use Rattle.std.proofs.Common.{◌≡◌, ℕ, ◌<◌, ◌≤◌, Bool, true, false, cond, ltb, ◌||◌, T, List, [], ◌∷◌, length, refl, sym}
use Rattle.std.proofs.Common.{ap, subst, ◌∙◌, arith}
use Rattle.std.specs.Prelude.{Some, IfSome, All, Result, Ok, Err, IfOk}
use Rattle.std.specs.FinMap.{is_sorted}
use Rattle.std.specs.List.{AllByRecursion, list_any}
use Rattle.std.proofs.lemmas.Bool.{false≢true}
use Rattle.written_items.specs.declared.item.Item.{Item}
use Rattle.formula_text.specs.HillOrder.{hill_cmp}
use Rattle.reader_answers.specs.Answers.{Gives}
use Rattle.formula_text.specs.FormulaFaults.{is_parts_memory}
use Rattle.formula_text.specs.Formulas.{count_in, atoms_of, has_carbon, sum_of, has_many_atoms, has_many_items}
use Rattle.formula_text.specs.Formulas.{within_limits, formula_in, parts_of, formula_of, IsItem, IsParts, SumsUp}
use Rattle.formula_text.specs.Formulas.{AreSums, IsSumOf}
use Rattle.std.proofs.lemmas.Bool.{ltb-false, le-ltb}
use Rattle.std.proofs.lemmas.List.Elements.{All-from_recursion, recursion_from_All}
use Rattle.formula_text.specs.declared.fault.PartsFault.{PartsFault}
use Rattle.formula_text.specs.declared.fault.PartsFault.TheVariants.{TooManyAtoms, TooManyElements}
use Rattle.formula_text.proofs.HillOrderLaws.{IsTrue-T, T-IsTrue}
use Rattle.formula_text.proofs.SumFolds.{HasAtoms, sum_of-atoms, sum_of-counts, sum_of-positive, sum_of-sorted}
use Rattle.formula_text.proofs.CarbonAmongCounts.{has_carbon-same}
use Rattle.formula_text.proofs.EqualCounts.{only_sum}

or_false : (a b : Bool) → (a || b) ≡ false → (a ≡ false) × (b ≡ false)
or_false true b e = absurd (false≢true (sym e))
or_false false b e = (refl, e)

few_each : (items : List (Item × ℕ)) → list_any (λ p. ltb 10000 p.1) items ≡ false
    → AllByRecursion (λ p. p.1 ≤ 10000) items
few_each [] e = tt
few_each (p ∷ ps) e =
    let parts = or_false (ltb 10000 p.1) (list_any (λ p. ltb 10000 p.1) ps) e in
    (ltb-false 10000 p.1 parts.0, few_each ps parts.1)

each_few : (items : List (Item × ℕ)) → AllByRecursion (λ p. p.1 ≤ 10000) items
    → list_any (λ p. ltb 10000 p.1) items ≡ false
each_few [] h = refl
each_few (p ∷ ps) h = ap (λ b. b || list_any (λ p. ltb 10000 p.1) ps) (le-ltb 10000 p.1 h.0) ∙ each_few ps h.1

-- the sum of parts is the counts of a part of a formula where no limit is passed
pub sum_of-IsParts : (parts : List (Item × ℕ)) → All (λ p. IsItem p.0) (sum_of parts)
    → has_many_atoms (sum_of parts) ≡ false → has_many_items (sum_of parts) ≡ false → IsParts (sum_of parts)
sum_of-IsParts parts each atoms items =
    let few = or_false (ltb 20000 (atoms_of (sum_of parts))) _ atoms in
    record {
      ordered =
          IsTrue-T _ (subst (λ c. T (is_sorted (hill_cmp c) (sum_of parts)))
          (sym (has_carbon-same (sum_of parts) parts (sum_of-counts parts))) (sum_of-sorted parts));
      are_items = each;
      positive = All-from_recursion HasAtoms _ (sum_of-positive parts);
      few_of_each = All-from_recursion (λ p. p.1 ≤ 10000) _ (few_each (sum_of parts) few.1);
      few_atoms = ltb-false 20000 (atoms_of (sum_of parts)) few.0;
      few_items = ltb-false 20 (length (sum_of parts)) items;
    }

-- the sums of the parts' counts are their sum
pub same_sums : (parts f : List (Item × ℕ)) → AreSums parts f → f ≡ sum_of parts
same_sums parts f h =
    let carbon = has_carbon-same f parts h.counts in
    only_sum (has_carbon parts) f (sum_of parts)
    (subst (λ c. T (is_sorted (hill_cmp c) f)) carbon (T-IsTrue _ h.ordered))
    (sum_of-sorted parts)
    (recursion_from_All HasAtoms f h.positive)
    (sum_of-positive parts)
    (λ q. h.counts q ∙ sym (sum_of-counts parts q))

pub sum_of-AreSums : (parts : List (Item × ℕ)) → AreSums parts (sum_of parts)
sum_of-AreSums parts =
    record {
      ordered =
          IsTrue-T _ (subst (λ c. T (is_sorted (hill_cmp c) (sum_of parts)))
          (sym (has_carbon-same (sum_of parts) parts (sum_of-counts parts))) (sum_of-sorted parts));
      positive = All-from_recursion HasAtoms _ (sum_of-positive parts);
      counts = sum_of-counts parts;
    }

-- the counts within the limits that are the sums of the parts' counts are their sum
pub same_parts : (parts f : List (Item × ℕ)) → IsParts f → SumsUp parts f → f ≡ sum_of parts
same_parts parts f h counts = same_sums parts f (record { ordered = h.ordered; positive = h.positive; counts = counts })

-- equal counts within the limits are one list
pub equal-counts : (f g : List (Item × ℕ)) → IsParts f → IsParts g → SumsUp g f → f ≡ g
equal-counts f g of_f of_g counts = same_parts g f of_f counts ∙ sym (same_parts g g of_g (λ q. refl))

pub same_sum : (parts f : List (Item × ℕ)) → IsSumOf parts f → f ≡ sum_of parts
same_sum parts f h = same_parts parts f h.formula.parts h.counts

pub within : (f : List (Item × ℕ)) → IsParts f → within_limits f ≡ Ok f
within f h =
    let atoms : has_many_atoms f ≡ false =
    ap (λ b. b || list_any (λ p. ltb 10000 p.1) f) (le-ltb 20000 (atoms_of f) h.few_atoms)
    ∙ each_few f (recursion_from_All (λ p. p.1 ≤ 10000) f h.few_of_each) in
    ap (λ b. cond b (Err TooManyAtoms) (cond (has_many_items f) (Err TooManyElements) (Ok f))) atoms
    ∙ ap (λ b. cond b (Err TooManyElements) (Ok f)) (le-ltb 20 (length f) h.few_items)

not_empty : (f : List (Item × ℕ)) → 0 < length f → formula_in (Ok f) ≡ Some f
not_empty [] h = absurd (omega arith)
not_empty (p ∷ ps) h = refl

-- a formula whose counts are the sums of the parts' is the formula of the parts
pub formula_of-only : (parts f : List (Item × ℕ)) → IsSumOf parts f → formula_of parts ≡ Some f
formula_of-only parts f h =
    ap (λ s. formula_in (within_limits s)) (sym (same_sum parts f h))
    ∙ ap formula_in (within f h.formula.parts) ∙ not_empty f h.formula.some_atom

-- the first limit that the parts pass, by the tests that tell it

many_of_all : (parts : List (Item × ℕ)) → ltb 20000 (atoms_of parts) ≡ true → has_many_atoms (sum_of parts) ≡ true
many_of_all parts h =
    ap (λ b. b || list_any (λ p. ltb 10000 p.1) (sum_of parts)) (ap (ltb 20000) (sum_of-atoms parts) ∙ h)

few_of_all : (parts : List (Item × ℕ)) (b : Bool) → ltb 20000 (atoms_of parts) ≡ false
    → list_any (λ p. ltb 10000 p.1) (sum_of parts) ≡ b → has_many_atoms (sum_of parts) ≡ b
few_of_all parts b few each =
    ap (λ b. b || list_any (λ p. ltb 10000 p.1) (sum_of parts)) (ap (ltb 20000) (sum_of-atoms parts) ∙ few) ∙ each

many : (parts : List (Item × ℕ)) → has_many_atoms (sum_of parts) ≡ true → parts_of parts ≡ Err TooManyAtoms
many parts e =
    ap (λ b. cond b (Err TooManyAtoms)
    (cond (has_many_items (sum_of parts)) (Err TooManyElements) (Ok (sum_of parts)))) e

pub parts_of-many_atoms : (parts : List (Item × ℕ)) → ltb 20000 (atoms_of parts) ≡ true
    → parts_of parts ≡ Err TooManyAtoms
parts_of-many_atoms parts h = many parts (many_of_all parts h)

pub parts_of-many_of_one : (parts : List (Item × ℕ)) → ltb 20000 (atoms_of parts) ≡ false
    → list_any (λ p. ltb 10000 p.1) (sum_of parts) ≡ true → parts_of parts ≡ Err TooManyAtoms
parts_of-many_of_one parts few h = many parts (few_of_all parts true few h)

pub parts_of-many_items : (parts : List (Item × ℕ)) → ltb 20000 (atoms_of parts) ≡ false
    → list_any (λ p. ltb 10000 p.1) (sum_of parts) ≡ false → has_many_items (sum_of parts) ≡ true
    → parts_of parts ≡ Err TooManyElements
parts_of-many_items parts few each h =
    ap (λ b. cond b (Err TooManyAtoms) (cond (has_many_items (sum_of parts)) (Err TooManyElements) (Ok (sum_of parts))))
    (few_of_all parts false few each)
    ∙ ap (λ b. cond b (Err TooManyElements) (Ok (sum_of parts))) h

pub parts_of-within : (parts : List (Item × ℕ)) → ltb 20000 (atoms_of parts) ≡ false
    → list_any (λ p. ltb 10000 p.1) (sum_of parts) ≡ false → has_many_items (sum_of parts) ≡ false
    → parts_of parts ≡ Ok (sum_of parts)
parts_of-within parts few each h =
    ap (λ b. cond b (Err TooManyAtoms) (cond (has_many_items (sum_of parts)) (Err TooManyElements) (Ok (sum_of parts))))
    (few_of_all parts false few each)
    ∙ ap (λ b. cond b (Err TooManyElements) (Ok (sum_of parts))) h

pub sum_of-within : (parts : List (Item × ℕ)) → ltb 20000 (atoms_of parts) ≡ false
    → list_any (λ p. ltb 10000 p.1) (sum_of parts) ≡ false → has_many_items (sum_of parts) ≡ false
    → All (λ p. IsItem p.0) (sum_of parts) → IsParts (sum_of parts)
sum_of-within parts few each items among = sum_of-IsParts parts among (few_of_all parts false few each) items

-- what is within the limits is the sum itself
pub same_within : (f g : List (Item × ℕ)) → Ok f ≡ within_limits g → f ≡ g
same_within f g e =
    elim (has_many_atoms g) as (λ b. Ok f
    ≡ cond b (Err TooManyAtoms) (cond (has_many_items g) (Err TooManyElements) (Ok g)) → f ≡ g) [
      | true ↦ λ e. cc
      | false ↦ λ e. elim (has_many_items g) as (λ b. Ok f ≡ cond b (Err TooManyElements) (Ok g) → f
          ≡ g) [ true ↦ λ e. cc | false ↦ λ e. cc ] e
    ] e

-- the formula of the sum of parts has the parts' counts
pub formula_in-IsSumOf : (parts f : List (Item × ℕ)) → Ok f ≡ parts_of parts → IsParts f
    → IfSome (formula_in (Ok f)) (IsSumOf parts)
formula_in-IsSumOf parts [] e h = tt
formula_in-IsSumOf parts (p ∷ ps) e h =
    record {
      formula = record { parts = h; some_atom = omega arith };
      counts = λ q. ap (λ l. count_in l q) (same_within (p ∷ ps) (sum_of parts) e) ∙ sum_of-counts parts q;
    }

-- what the sum of parts is, told by the counts

pub parts_of-only : (parts f : List (Item × ℕ)) → IsParts f → SumsUp parts f → parts_of parts ≡ Ok f
parts_of-only parts f h counts = ap within_limits (sym (same_parts parts f h counts)) ∙ within f h

pub parts_of-SumsUp : (parts : List (Item × ℕ)) (r : Result (List (Item × ℕ)) PartsFault)
    → Gives is_parts_memory r (parts_of parts) → IfOk r (SumsUp parts)
parts_of-SumsUp parts (Ok f) h =
    λ q. ap (λ l. count_in l q) (same_within f (sum_of parts) (sym h)) ∙ sum_of-counts parts q
parts_of-SumsUp parts (Err e) h = tt
