-- The profile `golden`, in thousandths, line by line.
use Rattle.std.specs.Prelude.{ℕ, List, [], ◌∷◌, filter, codes}
use Rattle.element_table.specs.Elements.{TableEntries}
use Rattle.golden_rules.specs.RuleLines.{is_known}
use Rattle.golden_rules.specs.declared.rule.Rule.{Rule}
use Rattle.golden_rules.specs.declared.rule.Rule.TheVariants.{Senior, Ratio, Group}
use Rattle.golden_rules.specs.declared.rule.Triple.{Triple}

-- a triple of a group
abbrev pub triple : List ℕ → ℕ → ℕ → Triple
triple symbol above below = record { symbol = symbol; above = above; below = below }

-- the rules of the profile
unfoldable pub golden_profile : List Rule
golden_profile =
    Senior
    ∷ Ratio (codes "H") (codes "C") 200 3100
    ∷ Ratio (codes "N") (codes "C") 0 1300
    ∷ Ratio (codes "O") (codes "C") 0 1200
    ∷ Ratio (codes "P") (codes "C") 0 300
    ∷ Ratio (codes "S") (codes "C") 0 800
    ∷ Ratio (codes "F") (codes "C") 0 1500
    ∷ Ratio (codes "Cl") (codes "C") 0 800
    ∷ Ratio (codes "Br") (codes "C") 0 800
    ∷ Ratio (codes "Si") (codes "C") 0 500
    ∷ Group (triple (codes "N") 1 10 ∷ triple (codes "O") 1 20 ∷ triple (codes "P") 1 4 ∷ triple (codes "S") 1 3 ∷ [])
    ∷ Group (triple (codes "N") 3 11 ∷ triple (codes "O") 3 22 ∷ triple (codes "P") 3 6 ∷ [])
    ∷ Group (triple (codes "O") 1 14 ∷ triple (codes "P") 1 3 ∷ triple (codes "S") 1 3 ∷ [])
    ∷ Group (triple (codes "P") 1 3 ∷ triple (codes "S") 1 3 ∷ triple (codes "N") 1 4 ∷ [])
    ∷ Group (triple (codes "N") 6 19 ∷ triple (codes "O") 6 14 ∷ triple (codes "S") 6 8 ∷ [])
    ∷ []

-- the profile without the rules that name a symbol which the table doesn't have
abbrev pub golden : TableEntries → List Rule
golden table = filter (is_known table) golden_profile
