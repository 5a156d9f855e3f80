use Rattle.std.proofs.Common.{◌≡◌, ◌++◌, length}
use Rattle.candidates.specs.Enumeration.{formulas_left}
use Rattle.formula_reports.specs.PageFormulas.{first_of}
use Rattle.formula_reports.proofs.decomposition.formulas_of.Given as goal

-- the formulas found and those left of the page are all of it
abbrev pub invariant-formulas : goal.invariant-formulas
invariant-formulas g l =
    l.formulas.items ++ first_of l.most (formulas_left l.candidates)
    ≡ first_of l.fn.limit (formulas_left l.initial.candidates)

abbrev pub decreases-formulas : goal.decreases-formulas
decreases-formulas g l = length (formulas_left l.candidates)
