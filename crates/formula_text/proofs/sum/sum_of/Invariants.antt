use Rattle.std.proofs.Common.{◌≡◌, take}
use Rattle.std.specs.Prelude.{All}
use Rattle.formula_text.specs.Formulas.{IsItem, has_carbon}
use Rattle.formula_text.proofs.SumFolds.{sum_so_far}
use Rattle.formula_text.proofs.sum.sum_of.Given as goal

abbrev pub invariant-loop-item : goal.invariant-loop-item
invariant-loop-item l =
    (l.carbon ≡ has_carbon l.parts) × (l.items.items
    ≡ sum_so_far l.carbon (take l.item-index l.parts)) × All (λ p. IsItem p.0) l.items.items
