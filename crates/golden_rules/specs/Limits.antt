-- The limits of rules and of their numbers, each by its name.
use Rattle.std.specs.Prelude.{ℕ}
use Rattle.golden_rules.specs.declared.rule.TheConstants.{MAX_RULES, MAX_TRIPLES, MAX_RATIO, MAX_TRIPLE_NUMBER}
use Rattle.golden_rules.specs.declared.rule.TheConstants.{MAX_UNSATURATION}

-- the greatest number of rules
abbrev pub max_rules : ℕ
max_rules = MAX_RULES

-- the greatest number of triples of a group
abbrev pub max_triples : ℕ
max_triples = MAX_TRIPLES

-- the greatest end of a ratio's range, in thousandths
abbrev pub max_ratio : ℕ
max_ratio = MAX_RATIO

-- the greatest number of a triple
abbrev pub max_triple_number : ℕ
max_triple_number = MAX_TRIPLE_NUMBER

-- the greatest absolute value of an end of a range of unsaturation
abbrev pub max_unsaturation : ℕ
max_unsaturation = MAX_UNSATURATION
