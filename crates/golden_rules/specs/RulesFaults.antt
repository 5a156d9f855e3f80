-- The faults of a rules file: which of them is want of memory, and what a note says of each.
use Rattle.std.specs.Prelude.{ℕ, Bool, true, false, List, ◌++◌, codes}
use Rattle.std.specs.Fmt.{decimal}
use Rattle.golden_rules.specs.declared.fault.RulesFault.{RulesFault}
use Rattle.golden_rules.specs.declared.fault.RulesFault.TheVariants as fault

-- whether it is want of memory
abbrev pub is_memory : RulesFault → Bool
is_memory (fault.Memory e) = true
is_memory other = false

-- the line of this number, and the cause in words
abbrev pub line_words : ℕ → List ℕ → List ℕ
line_words number cause = codes "line " ++ decimal number ++ (codes ": " ++ cause)

-- what a note says of a fault of the rules file, behind `isoform: rules: `
abbrev pub rules_fault_words : RulesFault → List ℕ
rules_fault_words (fault.BadLine number) = line_words number (codes "bad line")
rules_fault_words (fault.UnknownSymbol number) = line_words number (codes "unknown symbol")
rules_fault_words (fault.EmptyRange number) = line_words number (codes "empty range")
rules_fault_words (fault.TooMany number) = line_words number (codes "too many")
rules_fault_words (fault.Memory e) = codes "memory"
