-- What a rules file is read as with a table: the rules that its lines say, or the first fault. Texts are lists of
-- bytes, and lines are numbered from 1.
use Rattle.std.specs.Prelude.{ℕ, ◌+◌, ◌≡◌, ◌≤◌, ◌⊎◌, List, [], ◌∷◌, ◌++◌, length, All, IsTrue, IsFalse, Some, None}
use Rattle.std.specs.Prelude.{Result, Ok, Err}
use Rattle.element_table.specs.Elements.{TableEntries}
use Rattle.golden_rules.specs.Limits.{max_rules}
use Rattle.golden_rules.specs.RuleLines.{has_empty_range, is_known, is_skipped, words_of, written_rule}
use Rattle.golden_rules.specs.declared.rule.Rule.{Rule}
use Rattle.golden_rules.specs.declared.fault.RulesFault.{RulesFault}
use Rattle.golden_rules.specs.declared.fault.RulesFault.TheVariants as fault

-- a line without words, or a comment
abbrev pub IsSkipped : List ℕ → Type 0
IsSkipped line = IsTrue (is_skipped (words_of line))

-- a line that isn't skipped says this rule
pub record SaysRule (line : List ℕ) (rule : Rule) : Type 0 where
  pub counts : IsFalse (is_skipped (words_of line))
  pub says : written_rule (words_of line) ≡ Some rule

-- lines say these rules, one each in their order, but for those that are skipped
abbrev pub LinesSay : List (List ℕ) → List Rule → Type 0
LinesSay [] rules = rules ≡ []
LinesSay (line ∷ rest) rules = (IsSkipped line × LinesSay rest rules)
    ⊎ ((rule : Rule) × (more : List Rule) × (rules ≡ rule ∷ more) × SaysRule line rule × LinesSay rest more)

-- at most 64 rules of symbols that the table has, without an empty range
pub record AreSound (table : TableEntries) (rules : List Rule) : Type 0 where
  pub known : All (λ rule. IsTrue (is_known table rule)) rules
  pub ranges : All (λ rule. IsFalse (has_empty_range rule)) rules
  pub few : length rules ≤ max_rules

-- the number of the line that a fault tells
abbrev pub line_of : RulesFault → ℕ
line_of (fault.BadLine number) = number
line_of (fault.UnknownSymbol number) = number
line_of (fault.EmptyRange number) = number
line_of (fault.TooMany number) = number
line_of (fault.Memory e) = 0

-- what is wrong with a rule behind other rules where a fault is told: of several causes the first counts
abbrev pub IsRuleFault : TableEntries → List Rule → Rule → RulesFault → Type 0
IsRuleFault table earlier rule (fault.BadLine number) = ⊥
IsRuleFault table earlier rule (fault.UnknownSymbol number) = IsFalse (is_known table rule)
IsRuleFault table earlier rule (fault.EmptyRange number) =
    IsTrue (is_known table rule) × IsTrue (has_empty_range rule)
IsRuleFault table earlier rule (fault.TooMany number) =
    IsTrue (is_known table rule) × IsFalse (has_empty_range rule) × (length earlier ≡ max_rules)
IsRuleFault table earlier rule (fault.Memory e) = ⊥

-- what is wrong with a line that isn't skipped: its words spell no rule, or a rule that has a fault
abbrev pub IsLineFault : TableEntries → List Rule → List (List ℕ) → RulesFault → Type 0
IsLineFault table earlier words (fault.BadLine number) = written_rule words ≡ None
IsLineFault table earlier words other =
    (rule : Rule) × (written_rule words ≡ Some rule) × IsRuleFault table earlier rule other

-- the lines before the faulty one say sound rules, and the faulty one isn't skipped
pub record IsFirstFault (table : TableEntries) (file : List (List ℕ)) (told : RulesFault) : Type 0 where
  pub before : List (List ℕ)
  pub line : List ℕ
  pub after : List (List ℕ)
  pub earlier : List Rule
  pub parts : file ≡ before ++ line ∷ after
  pub number : line_of told ≡ length before + 1
  pub said : LinesSay before earlier
  pub sound : AreSound table earlier
  pub counts : IsFalse (is_skipped (words_of line))
  pub cause : IsLineFault table earlier (words_of line) told

-- what reading a file answers
abbrev pub Answer : Type 0
Answer = Result (List Rule) RulesFault

-- what the lines of a file are read as: the sound rules that they say, or the first fault
abbrev pub RulesReading : TableEntries → List (List ℕ) → Answer → Type 0
RulesReading table file (Ok rules) = LinesSay file rules × AreSound table rules
RulesReading table file (Err told) = IsFirstFault table file told
