-- The lines of a rules file, the words of a line, and the rule that words spell. Texts are lists of bytes.
use Rattle.std.specs.Prelude.{ℕ, ◌+◌, ◌*◌, ◌==◌, ◌||◌, not, nat_lt, Bool, true, false, ℤ, pos, neg_ℤ, int_lt, List}
use Rattle.std.specs.Prelude.{[], ◌∷◌, ◌++◌, length, map, filter, is_some, if◌then◌else◌, Option, Some, None}
use Rattle.std.specs.Prelude.{option_map, option_and_then, Result, Ok, codes}
use Rattle.std.specs.List.{list_all, slice_split}
use Rattle.std.specs.Str.{bytes_eq}
use Rattle.std.specs.Str.Lines.{lines}
use Rattle.reader_answers.specs.Answers.{or_fault, unless_fault, ◌>>=◌}
use Rattle.fixed_decimal.specs.Decimal.{decimal_within, whole_within}
use Rattle.element_table.specs.Elements.{TableEntries, element_of}
use Rattle.element_table.specs.SymbolText.{is_symbol}
use Rattle.golden_rules.specs.Limits.{max_rules, max_triples, max_ratio, max_triple_number, max_unsaturation}
use Rattle.golden_rules.specs.declared.rule.Rule.{Rule}
use Rattle.golden_rules.specs.declared.rule.Rule.TheVariants.{Senior, Ratio, Group, Unsaturation}
use Rattle.golden_rules.specs.declared.rule.Triple.{Triple}
use Rattle.golden_rules.specs.declared.fault.RulesFault.{RulesFault}
use Rattle.golden_rules.specs.declared.fault.RulesFault.TheVariants as fault

-- a space or a tab
abbrev pub is_blank : ℕ → Bool
is_blank byte = (byte == 32) || (byte == 9)

-- the words of a line: its parts between blanks that have a byte
abbrev pub words_of : List ℕ → List (List ℕ)
words_of line = filter (λ word. nat_lt 0 (length word)) (slice_split is_blank line)

-- the byte that begins a comment, and the minus sign
abbrev pub hash : ℕ
hash = 35

abbrev pub minus : ℕ
minus = 45

-- whether a line of these words is skipped: it has none, or the first begins with `#`
abbrev pub is_skipped : List (List ℕ) → Bool
is_skipped [] = true
is_skipped ([] ∷ words) = false
is_skipped ((byte ∷ bytes) ∷ words) = byte == hash

-- the symbol that a word is
abbrev pub written_symbol : List ℕ → Option (List ℕ)
written_symbol word = if is_symbol word then Some word else None

-- the thousandths of a ratio's end: a decimal of at most 3 decimals, at most 1,000
abbrev pub written_ratio_end : List ℕ → Option ℕ
written_ratio_end word = decimal_within 3 0 max_ratio word

-- an end of a range of unsaturation: a whole number of at most 100,000, or a minus sign before one
abbrev pub written_end : List ℕ → Option ℤ
written_end [] = None
written_end (byte ∷ bytes) =
    if byte == minus then option_map (λ n. neg_ℤ (pos n)) (whole_within 0 max_unsaturation bytes)
    else option_map pos (whole_within 0 max_unsaturation (byte ∷ bytes))

-- a triple: a symbol and two whole numbers of at most 10,000
abbrev pub written_triple : List ℕ → List ℕ → List ℕ → Option Triple
written_triple symbol above below =
    option_and_then (λ s. option_and_then (λ a. option_map (λ b. record { symbol = s; above = a; below = b })
    (whole_within 0 max_triple_number below)) (whole_within 0 max_triple_number above)) (written_symbol symbol)

-- the triples that words spell, three words each
abbrev pub written_triples : List (List ℕ) → Option (List Triple)
written_triples [] = Some []
written_triples (symbol ∷ above ∷ below ∷ words) =
    option_and_then (λ t. option_map (λ ts. t ∷ ts) (written_triples words)) (written_triple symbol above below)
written_triples words = None

-- behind `senior` stands no word
abbrev pub written_senior : List (List ℕ) → Option Rule
written_senior [] = Some Senior
written_senior words = None

-- the ratio of two symbols with these ends of its range
abbrev pub ratio_between : List ℕ → List ℕ → List ℕ → List ℕ → Option Rule
ratio_between first second low high =
    option_and_then (λ l. option_map (λ h. Ratio first second l h) (written_ratio_end high)) (written_ratio_end low)

-- behind `ratio` stand two symbols and the two ends of the range
abbrev pub written_ratio : List (List ℕ) → Option Rule
written_ratio (first ∷ second ∷ low ∷ high ∷ []) =
    option_and_then (λ a. option_and_then (λ b. ratio_between a b low high) (written_symbol second))
    (written_symbol first)
written_ratio words = None

-- behind `group` stand 1 to 8 triples
abbrev pub written_group : List (List ℕ) → Option Rule
written_group words =
    if (length words == 0) || nat_lt (3 * max_triples) (length words) then None
    else option_map Group (written_triples words)

-- behind `unsaturation` stand the two ends of the range
abbrev pub written_unsaturation : List (List ℕ) → Option Rule
written_unsaturation (low ∷ high ∷ []) =
    option_and_then (λ l. option_map (λ h. Unsaturation l h) (written_end high)) (written_end low)
written_unsaturation words = None

-- the rule that words spell, by the first of them
abbrev pub written_rule : List (List ℕ) → Option Rule
written_rule [] = None
written_rule (kind ∷ words) =
    if bytes_eq kind (codes "senior") then written_senior words
    else (if bytes_eq kind (codes "ratio") then written_ratio words
    else (if bytes_eq kind (codes "group") then written_group words
    else (if bytes_eq kind (codes "unsaturation") then written_unsaturation words else None)))

-- the symbols that a rule names
abbrev pub rule_symbols : Rule → List (List ℕ)
rule_symbols Senior = []
rule_symbols (Ratio first second low high) = first ∷ second ∷ []
rule_symbols (Group triples) = map (λ t. t.symbol) triples
rule_symbols (Unsaturation low high) = []

-- whether the table has each symbol that a rule names
abbrev pub is_known : TableEntries → Rule → Bool
is_known table rule = list_all (λ symbol. is_some (element_of table symbol)) (rule_symbols rule)

-- whether the lower end of a rule's range is greater than the upper one
abbrev pub has_empty_range : Rule → Bool
has_empty_range Senior = false
has_empty_range (Ratio first second low high) = nat_lt high low
has_empty_range (Group triples) = false
has_empty_range (Unsaturation low high) = int_lt high low

-- what is wrong with the rule of the line of this number behind so many rules, if anything is
abbrev pub rule_fault : TableEntries → ℕ → ℕ → Rule → Option RulesFault
rule_fault table number earlier rule =
    if not (is_known table rule) then Some (fault.UnknownSymbol number)
    else (if has_empty_range rule then Some (fault.EmptyRange number)
    else (if earlier == max_rules then Some (fault.TooMany number) else None))

-- what the line of this number says behind so many rules: nothing where it is skipped, its rule, or its first fault
abbrev pub line_rule : TableEntries → ℕ → ℕ → List ℕ → Result (Option Rule) RulesFault
line_rule table number earlier line =
    let words = words_of line in
    if is_skipped words then Ok None
    else (or_fault (fault.BadLine number) (written_rule words)
    >>= λ rule. unless_fault (rule_fault table number earlier rule) (Ok (Some rule)))

-- the rules with one more behind them, if there is one
abbrev pub with_rule : List Rule → Option Rule → List Rule
with_rule earlier None = earlier
with_rule earlier (Some rule) = earlier ++ rule ∷ []

-- the rules of the lines from this number on behind the earlier rules, or the first fault
abbrev pub rules_after : TableEntries → ℕ → List Rule → List (List ℕ) → Result (List Rule) RulesFault
rules_after table number earlier [] = Ok earlier
rules_after table number earlier (line ∷ rest) =
    line_rule table number (length earlier) line
    >>= λ rule. rules_after table (number + 1) (with_rule earlier rule) rest

-- the rules that the bytes of a file stand for, or the first fault
abbrev pub rules_of : TableEntries → List ℕ → Result (List Rule) RulesFault
rules_of table bytes = rules_after table 1 [] (lines bytes)
