-- The lines of the profile and the rules that they spell.
use Rattle.std.proofs.Common.{◌≡◌, ℕ, List, [], ◌++◌, length, filter, refl, ap, ◌∙◌}
use Rattle.std.specs.List.{filter_map}
use Rattle.std.specs.Str.Lines.{lines}
use Rattle.fixed_decimal.specs.Decimal.{read_decimal, decimal_fault, fine_place, decimal_value, whole_number}
use Rattle.element_table.specs.Elements.{TableEntries}
use Rattle.golden_rules.specs.RuleLines.{is_known, words_of, written_rule}
use Rattle.golden_rules.specs.Profile.{golden, golden_profile}
use Rattle.golden_rules.specs.declared.rule.Rule.{Rule}
use Rattle.golden_rules.specs.declared.profile.TheConstants.{PROFILE}

-- the rules that lines spell
abbrev pub rules_of_lines : List (List ℕ) → List Rule
rules_of_lines rest = filter_map (λ line. written_rule (words_of line)) rest

-- the lines of the profile spell its rules
pub profile-rules : rules_of_lines (lines PROFILE.now) ≡ golden_profile
unfolding golden_profile read_decimal decimal_fault fine_place decimal_value whole_number
profile-rules = refl

pub profile-lines : length (lines PROFILE.now) ≡ 15
profile-lines = refl

-- the known rules of these lines are those of the profile
pub golden-lines : (table : TableEntries) (items : List Rule) (left : List ℕ) → items ≡ [] → left ≡ PROFILE.now
    → items ++ filter (is_known table) (rules_of_lines (lines left)) ≡ golden table
golden-lines table items left none is =
    ap (λ (text : List ℕ). items ++ filter (is_known table) (rules_of_lines (lines text))) is
    ∙ ap (λ (rules : List Rule). rules ++ filter (is_known table) (rules_of_lines (lines PROFILE.now))) none
    ∙ ap (λ (rules : List Rule). filter (is_known table) rules) profile-rules
