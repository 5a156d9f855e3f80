-- The degree of unsaturation by the sum of the valences and the number of atoms.
use Rattle.std.proofs.Common.{◌≡◌, ℕ, zero, suc, ◌*◌, List, [], ◌∷◌, pos, ℤ, ◌+ℤ◌, ◌-ℤ◌, ◌*ℤ◌, fold}
use Rattle.std.proofs.Common.{◌∙◌, ap, arith}
use Rattle.std.proofs.lemmas.Int.{ints}
use Rattle.std.proofs.lemmas.List.Sums.{sum_by-cons}
use Rattle.std.proofs.Math.IntN.{pos-*ℤ-pos, pos-*ℤ-negsuc}
use Rattle.std.proofs.Math.Nat.{mul-suc}
use Rattle.element_table.specs.Elements.{TableEntries}
use Rattle.written_items.specs.declared.item.Item.{Item}
use Rattle.formula_text.specs.Formulas.{atoms_of}
use Rattle.golden_rules.specs.MeetsRules.{unsaturation, valence_of, valence_sum}

-- what the atoms of an item add
term : (c v : ℕ) → pos c *ℤ (pos v -ℤ pos 2) ≡ pos (c * v) -ℤ pos (2 * c)
term c zero = pos-*ℤ-negsuc c 1 ∙ omega (arith, ints)
term c (suc zero) = pos-*ℤ-negsuc c 0 ∙ omega (arith, ints)
term c (suc (suc w)) =
    let e : pos (suc (suc w)) -ℤ pos 2 ≡ pos w = omega (arith, ints) in
    ap (λ z. pos c *ℤ z) e ∙ pos-*ℤ-pos c w ∙ omega (arith, ints, mul-suc c (suc w), mul-suc c w)

-- the sum over the items, behind a number
sum_from : (table : TableEntries) (formula : List (Item × ℕ)) (s : ℤ)
    → fold (λ s p. s +ℤ (pos p.1 *ℤ (pos (valence_of table p.0.symbol) -ℤ pos 2))) s formula
    ≡ s +ℤ (pos (valence_sum table formula) -ℤ pos (2 * atoms_of formula))
sum_from table [] s = omega (arith, ints)
sum_from table (p ∷ formula) s =
    let v : ℕ = valence_of table p.0.symbol in
    let rest = sum_from table formula (s +ℤ (pos p.1 *ℤ (pos v -ℤ pos 2))) in
    let t = term p.1 v in
    let vs = sum_by-cons (λ (q : Item × ℕ). q.1 * valence_of table q.0.symbol) p formula in
    let atoms = sum_by-cons (λ (q : Item × ℕ). q.1) p formula in
    rest ∙ omega (arith, ints, t, vs, atoms)

pub unsaturation-sums : (table : TableEntries) (formula : List (Item × ℕ))
    → unsaturation table formula ≡ pos 2 +ℤ pos (valence_sum table formula) -ℤ pos (2 * atoms_of formula)
unsaturation-sums table formula = let e = sum_from table formula (pos 0) in omega (arith, ints, e)
