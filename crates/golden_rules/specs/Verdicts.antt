-- The one verdict that `IsVerdict` allows, computed; the layers above compute with it.
use Rattle.std.specs.Prelude.{ℕ, ◌+◌, ◌*◌, ◌-◌, ◌%◌, ◌==◌, ◌&&◌, ◌||◌, not, nat_lt, nat_le, int_le, Bool}
use Rattle.std.specs.Prelude.{List, position, Option, Some, None}
use Rattle.std.specs.List.{list_all}
use Rattle.element_table.specs.Elements.{TableEntries}
use Rattle.written_items.specs.declared.item.Item.{Item}
use Rattle.formula_text.specs.Formulas.{atoms_of}
use Rattle.golden_rules.specs.MeetsRules.{element_count, greatest_valence, valence_sum, unsaturation}
use Rattle.golden_rules.specs.declared.rule.Rule.{Rule}
use Rattle.golden_rules.specs.declared.rule.Rule.TheVariants.{Senior, Ratio, Group, Unsaturation}
use Rattle.golden_rules.specs.declared.rule.Triple.{Triple}
use Rattle.golden_rules.specs.declared.rules.Verdict.{Verdict}
use Rattle.golden_rules.specs.declared.rules.Verdict.TheVariants.{Pass, Fails}

-- whether the sum of the valences is even, at least twice the greatest, and at least 2 * (n - 1)
abbrev pub meets_senior : TableEntries → List (Item × ℕ) → Bool
meets_senior table formula =
    (valence_sum table formula % 2 == 0)
    && nat_le (2 * greatest_valence table formula) (valence_sum table formula)
    && nat_le (2 * (atoms_of formula - 1)) (valence_sum table formula)

-- whether a ratio of counts is in its range, in thousandths, or the second count is 0
abbrev pub meets_ratio : ℕ → ℕ → ℕ → ℕ → Bool
meets_ratio a b low high = (b == 0) || (nat_le (low * b) (1000 * a) && nat_le (1000 * a) (high * b))

-- whether each count is greater than its first number
abbrev pub are_above : List (Item × ℕ) → List Triple → Bool
are_above formula triples = list_all (λ t. nat_lt t.above (element_count formula t.symbol)) triples

-- whether each count is less than its second number
abbrev pub are_below : List (Item × ℕ) → List Triple → Bool
are_below formula triples = list_all (λ t. nat_lt (element_count formula t.symbol) t.below) triples

-- whether a formula meets a rule
abbrev pub meets : TableEntries → List (Item × ℕ) → Rule → Bool
meets table formula Senior = meets_senior table formula
meets table formula (Ratio first second low high) =
    meets_ratio (element_count formula first) (element_count formula second) low high
meets table formula (Group triples) = not (are_above formula triples) || are_below formula triples
meets table formula (Unsaturation low high) =
    int_le low (unsaturation table formula) && int_le (unsaturation table formula) high

-- whether a formula meets all rules
abbrev pub meets_all : TableEntries → List Rule → List (Item × ℕ) → Bool
meets_all table rules formula = list_all (meets table formula) rules

-- the verdict by the place of the first rule that isn't met
abbrev pub verdict_at : Option ℕ → Verdict
verdict_at None = Pass
verdict_at (Some place) = Fails (place + 1)

-- the verdict on a formula
abbrev pub verdict : TableEntries → List Rule → List (Item × ℕ) → Verdict
verdict table rules formula = verdict_at (position (λ rule. not (meets table formula rule)) rules)
