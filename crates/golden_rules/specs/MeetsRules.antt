-- What it means that a formula meets a rule. A formula is its list of items with their counts, and a table has the
-- valence of each element.
use Rattle.std.specs.Prelude.{ℕ, ◌+◌, ◌*◌, ◌-◌, ◌%◌, ◌<◌, ◌≤◌, ◌≡◌, max, ℤ, pos, ◌+ℤ◌, ◌-ℤ◌, ◌*ℤ◌, ◌≤ℤ◌, List, ◌∷◌}
use Rattle.std.specs.Prelude.{◌++◌, length, fold, sum_by, All, Option, Some, None, if◌then◌else◌}
use Rattle.std.specs.Str.{bytes_eq}
use Rattle.element_table.specs.Elements.{ElementEntry, TableEntries, element_of}
use Rattle.written_items.specs.declared.item.Item.{Item}
use Rattle.formula_text.specs.Formulas.{atoms_of}
use Rattle.golden_rules.specs.declared.rule.Rule.{Rule}
use Rattle.golden_rules.specs.declared.rule.Rule.TheVariants.{Senior, Ratio, Group, Unsaturation}
use Rattle.golden_rules.specs.declared.rule.Triple.{Triple}
use Rattle.golden_rules.specs.declared.rules.Verdict.{Verdict}
use Rattle.golden_rules.specs.declared.rules.Verdict.TheVariants.{Pass, Fails}

-- the count of a symbol in a rule: the number of all atoms of the element, labelled ones included
abbrev pub element_count : List (Item × ℕ) → List ℕ → ℕ
element_count formula symbol = sum_by (λ p. if bytes_eq p.0.symbol symbol then p.1 else 0) formula

-- an element's valence, and 0 where there is none
abbrev pub valence_if : Option ElementEntry → ℕ
valence_if None = 0
valence_if (Some element) = element.valence

-- the valence of the element of this symbol
abbrev pub valence_of : TableEntries → List ℕ → ℕ
valence_of table symbol = valence_if (element_of table symbol)

-- the sum of the valences over all atoms
abbrev pub valence_sum : TableEntries → List (Item × ℕ) → ℕ
valence_sum table formula = sum_by (λ p. p.1 * valence_of table p.0.symbol) formula

-- the greatest valence of an atom
abbrev pub greatest_valence : TableEntries → List (Item × ℕ) → ℕ
greatest_valence table formula = fold (λ greatest p. max greatest (valence_of table p.0.symbol)) 0 formula

-- the degree of unsaturation: 2 + sum c_i * (v_i - 2) over the counts c_i and the valences v_i
abbrev pub unsaturation : TableEntries → List (Item × ℕ) → ℤ
unsaturation table formula =
    pos 2 +ℤ fold (λ s p. s +ℤ (pos p.1 *ℤ (pos (valence_of table p.0.symbol) -ℤ pos 2))) (pos 0) formula

-- `senior`: the sum of the valences over all n atoms is even, at least twice the greatest valence of an atom, and at
-- least 2 * (n - 1)
pub record MeetsSenior (table : TableEntries) (formula : List (Item × ℕ)) : Type 0 where
  pub even : valence_sum table formula % 2 ≡ 0
  pub greatest : 2 * greatest_valence table formula ≤ valence_sum table formula
  pub connected : 2 * (atoms_of formula - 1) ≤ valence_sum table formula

-- `ratio`: where the second count isn't 0, the first one is from `low` to `high` thousandths of it
abbrev pub MeetsRatio : List (Item × ℕ) → List ℕ → List ℕ → ℕ → ℕ → Type 0
MeetsRatio formula first second low high =
    let a = element_count formula first in
    let b = element_count formula second in
    0 < b → (low * b ≤ 1000 * a) × (1000 * a ≤ high * b)

-- `group`: where each count is greater than its first number, each count is less than its second number
abbrev pub MeetsGroup : List (Item × ℕ) → List Triple → Type 0
MeetsGroup formula triples =
    All (λ t. t.above < element_count formula t.symbol) triples
    → All (λ t. element_count formula t.symbol < t.below) triples

-- `unsaturation`: the degree of unsaturation is from `low` to `high`
abbrev pub MeetsUnsaturation : TableEntries → List (Item × ℕ) → ℤ → ℤ → Type 0
MeetsUnsaturation table formula low high =
    (low ≤ℤ unsaturation table formula) × (unsaturation table formula ≤ℤ high)

-- a formula meets a rule
abbrev pub Meets : TableEntries → List (Item × ℕ) → Rule → Type 0
Meets table formula Senior = MeetsSenior table formula
Meets table formula (Ratio first second low high) = MeetsRatio formula first second low high
Meets table formula (Group triples) = MeetsGroup formula triples
Meets table formula (Unsaturation low high) = MeetsUnsaturation table formula low high

-- a formula meets all rules
abbrev pub MeetsAll : TableEntries → List Rule → List (Item × ℕ) → Type 0
MeetsAll table rules formula = All (Meets table formula) rules

-- the rule of this number, counted from 1, is the first that a formula doesn't meet
pub record IsFirstFailing (table : TableEntries) (rules : List Rule) (formula : List (Item × ℕ))
    (number : ℕ) : Type 0 where
  pub before : List Rule
  pub failing : Rule
  pub after : List Rule
  pub parts : rules ≡ before ++ failing ∷ after
  pub number_is : number ≡ length before + 1
  pub met : All (Meets table formula) before
  pub unmet : ¬ (Meets table formula failing)

-- the verdict on a formula: it passes where it meets all rules, and else fails at the first that it doesn't meet
abbrev pub IsVerdict : TableEntries → List Rule → List (Item × ℕ) → Verdict → Type 0
IsVerdict table rules formula Pass = MeetsAll table rules formula
IsVerdict table rules formula (Fails number) = IsFirstFailing table rules formula number
