-- A count that is capped at 2^32 - 1 passes the same limits as the count itself.
use Rattle.std.proofs.Common.{◌≡◌, ℕ, ◌-◌, ◌^◌, ◌<◌, ◌≤◌, min, true, false, ltb, List, [], ◌∷◌, map, refl, sym, ap, ◌∙◌}
use Rattle.std.proofs.Common.{arith}
use Rattle.std.proofs.lemmas.Bool.{ltb-true, ltb-false, lt-ltb}
use Rattle.written_items.specs.declared.item.Item.{Item}
use Rattle.formula_text.specs.Formulas.{atoms_of, parts_of}
use Rattle.formula_text.specs.FormulaReader.{capped_part}
use Rattle.formula_text.proofs.CountsInOrder.{atoms_of-cons}
use Rattle.formula_text.proofs.SumLimits.{parts_of-many_atoms}

capped_part-few : (items : List (Item × ℕ)) → atoms_of items ≤ 20000 → map capped_part items ≡ items
capped_part-few [] h = refl
capped_part-few (p ∷ ps) h =
    let cons = atoms_of-cons p ps in
    let small : min p.1 (2 ^ 32 - 1) ≡ p.1 = omega arith in
    λ i. (p.0, small i) ∷ capped_part-few ps (omega arith) i

capped_part-many : (items : List (Item × ℕ)) → 20000 < atoms_of items → 20000 < atoms_of (map capped_part items)
capped_part-many [] h = absurd (omega arith)
capped_part-many (p ∷ ps) h =
    let cons = atoms_of-cons p ps in
    let new = atoms_of-cons (capped_part p) (map capped_part ps) in
    elim (ltb 20000 (atoms_of ps)) as (λ b. ltb 20000 (atoms_of ps) ≡ b
    → 20000 < atoms_of (capped_part p ∷ map capped_part ps)) [
      | true ↦ λ e. let rest = capped_part-many ps (ltb-true 20000 (atoms_of ps) e) in omega arith
      | false ↦ λ e. let rest : atoms_of (map capped_part ps) ≡ atoms_of ps =
          ap atoms_of (capped_part-few ps (ltb-false 20000 (atoms_of ps) e)) in omega arith
    ] refl

-- a count above 2^32 - 1 is too many atoms, capped or not
pub parts_of-capped_part : (items : List (Item × ℕ)) → parts_of (map capped_part items) ≡ parts_of items
parts_of-capped_part items =
    elim (ltb 20000 (atoms_of items)) as (λ b. ltb 20000 (atoms_of items) ≡ b → parts_of (map capped_part items)
    ≡ parts_of items) [
      | true ↦ λ e.
          let many = capped_part-many items (ltb-true 20000 (atoms_of items) e) in
          parts_of-many_atoms (map capped_part items) (lt-ltb 20000 (atoms_of (map capped_part items)) many)
          ∙ sym (parts_of-many_atoms items e)
      | false ↦ λ e. ap parts_of (capped_part-few items (ltb-false 20000 (atoms_of items) e))
    ] refl
