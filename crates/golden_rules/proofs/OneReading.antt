-- The lines of a file have one reading.
use Rattle.std.proofs.Common.{◌≡◌, ℕ, suc, ◌+◌, ◌<◌, ◌==◌, false, true, List, [], ◌∷◌, ◌++◌, length, get_or, Some, None}
use Rattle.std.proofs.Common.{Option, Result, Ok, Err, inl, inr, refl, sym, ◌∙◌, ap, subst, append_assoc}
use Rattle.std.proofs.Common.{length-append, arith}
use Rattle.std.proofs.lemmas.List.{append-nil}
use Rattle.std.proofs.Math.Seq.{get_or-append_seam}
use Rattle.reader_answers.specs.Answers.{◌>>=◌}
use Rattle.element_table.specs.Elements.{TableEntries}
use Rattle.golden_rules.specs.Limits.{max_rules}
use Rattle.golden_rules.specs.RuleLines.{has_empty_range, is_known, is_skipped, line_rule, rule_fault, rules_after}
use Rattle.golden_rules.specs.RuleLines.{with_rule, words_of}
use Rattle.golden_rules.specs.RulesReadings.{AreSound, IsLineFault, LinesSay, line_of, RulesReading}
use Rattle.golden_rules.specs.declared.rule.Rule.{Rule}
use Rattle.golden_rules.specs.declared.rule.Rule.TheVariants.{Senior}
use Rattle.golden_rules.specs.declared.fault.RulesFault.{RulesFault}
use Rattle.golden_rules.specs.declared.fault.RulesFault.TheVariants as fault
use Rattle.golden_rules.proofs.ReadLines.{line_rule-bad, line_rule-fault, line_rule-rule, line_rule-skipped}

-- what the lines from one on give, by what that one says
rules_after-line : (table : TableEntries) (line : List ℕ) (rest : List (List ℕ)) (number : ℕ) (earlier : List Rule)
    (r : Result (Option Rule) RulesFault) → line_rule table number (length earlier) line ≡ r
    → rules_after table number earlier (line ∷ rest)
    ≡ (r >>= λ o. rules_after table (number + 1) (with_rule earlier o) rest)
rules_after-line table line rest number earlier r is =
    ap (λ (r : Result (Option Rule) RulesFault).
    r >>= λ o. rules_after table (number + 1) (with_rule earlier o) rest) is

not-full : (n : ℕ) → n < max_rules → (n == max_rules) ≡ false
not-full n h = grind arith

full : (n : ℕ) → n ≡ max_rules → (n == max_rules) ≡ true
full n e = grind arith

-- among sound rules one has no fault behind those before it
rule_fault-sound : (table : TableEntries) (number : ℕ) (done : List Rule) (rule : Rule) (more : List Rule)
    → AreSound table (done ++ rule ∷ more) → rule_fault table number (length done) rule ≡ None
rule_fault-sound table number done rule more sound =
    let size = length-append done (rule ∷ more) in
    let within : length done < length (done ++ rule ∷ more) = omega (arith, size) in
    let here : get_or (done ++ rule ∷ more) (length done) Senior ≡ rule = get_or-append_seam done rule more Senior in
    let known : is_known table rule ≡ true =
    ap (is_known table) (sym here) ∙ sound.known (length done) Senior within in
    let range : has_empty_range rule ≡ false =
    ap has_empty_range (sym here) ∙ sound.ranges (length done) Senior within in
    let room : (length done == max_rules) ≡ false = not-full (length done) (omega (arith, size, sound.few)) in
    rw (known, range, room) refl

-- lines that say sound rules are read through
through : (table : TableEntries) (before rest : List (List ℕ)) (number : ℕ) (done earlier : List Rule)
    → LinesSay before earlier → AreSound table (done ++ earlier)
    → rules_after table number done (before ++ rest)
    ≡ rules_after table (number + length before) (done ++ earlier) rest
through table [] rest number done earlier said sound =
    let none : done ≡ done ++ earlier = sym (ap (λ (e : List Rule). done ++ e) said ∙ append-nil done) in
    let at : number ≡ number + 0 = omega arith in
    ap (λ (n : ℕ). rules_after table n done rest) at
    ∙ ap (λ (e : List Rule). rules_after table (number + 0) e rest) none
through table (line ∷ before) rest number done earlier said sound =
    let at : number + 1 + length before ≡ number + suc (length before) = omega arith in
    let end = ap (λ (n : ℕ). rules_after table n (done ++ earlier) rest) at in
    elim said as (λ _. rules_after table number done (line ∷ before ++ rest)
    ≡ rules_after table (number + suc (length before)) (done ++ earlier) rest) [
      | inl p ↦
          rules_after-line table line (before ++ rest) number done (Ok None)
          (line_rule-skipped table number (length done) line p.0)
          ∙ through table before rest (number + 1) done earlier p.1 sound ∙ end
      | inr p ↦
          let parts : done ++ earlier ≡ done ++ p.0 ∷ p.1 = ap (λ (e : List Rule). done ++ e) p.2 in
          let pushed : done ++ p.0 ∷ p.1 ≡ (done ++ p.0 ∷ []) ++ p.1 = sym (append_assoc done (p.0 ∷ []) p.1) in
          let right = rule_fault-sound table number done p.0 p.1 (subst (AreSound table) parts sound) in
          rules_after-line table line (before ++ rest) number done (Ok (Some p.0))
          (line_rule-rule table number (length done) line p.0 p.3.counts p.3.says right)
          ∙ through table before rest (number + 1) (done ++ p.0 ∷ []) p.1 p.4
          (subst (AreSound table) (parts ∙ pushed) sound)
          ∙ ap (λ (e : List Rule). rules_after table (number + 1 + length before) e rest) (sym (parts ∙ pushed)) ∙ end
    ]

-- a line with a fault has no other answer
line_rule-told : (table : TableEntries) (number : ℕ) (earlier : List Rule) (line : List ℕ) (told : RulesFault)
    → is_skipped (words_of line) ≡ false → line_of told ≡ number → IsLineFault table earlier (words_of line) told
    → line_rule table number (length earlier) line ≡ Err told
line_rule-told table number earlier line (fault.BadLine n) counts at bad =
    line_rule-bad table number (length earlier) line counts bad ∙ ap (λ m. Err (fault.BadLine m)) (sym at)
line_rule-told table number earlier line (fault.UnknownSymbol n) counts at cause =
    line_rule-fault table number (length earlier) line cause.0 (fault.UnknownSymbol number) counts cause.1
    (rw cause.2 refl) ∙ ap (λ m. Err (fault.UnknownSymbol m)) (sym at)
line_rule-told table number earlier line (fault.EmptyRange n) counts at cause =
    line_rule-fault table number (length earlier) line cause.0 (fault.EmptyRange number) counts cause.1
    (rw (cause.2.0, cause.2.1) refl) ∙ ap (λ m. Err (fault.EmptyRange m)) (sym at)
line_rule-told table number earlier line (fault.TooMany n) counts at cause =
    line_rule-fault table number (length earlier) line cause.0 (fault.TooMany number) counts cause.1
    (rw (cause.2.0, cause.2.1, full _ cause.2.2) refl) ∙ ap (λ m. Err (fault.TooMany m)) (sym at)
line_rule-told table number earlier line (fault.Memory e) counts at cause = absurd cause.2

-- each reading of the lines is the one that is computed
pub reading-only : (table : TableEntries) (file : List (List ℕ)) (answer : Result (List Rule) RulesFault)
    → RulesReading table file answer → answer ≡ rules_after table 1 [] file
reading-only table file (Ok rules) reading =
    sym (ap (λ (lines : List (List ℕ)). rules_after table 1 [] lines) (sym (append-nil file))
    ∙ through table file [] 1 [] rules reading.0 reading.1)
reading-only table file (Err told) first =
    let number : ℕ = 1 + length first.before in
    let at : line_of told ≡ number = omega (arith, first.number) in
    sym (ap (λ (lines : List (List ℕ)). rules_after table 1 [] lines) first.parts
    ∙ through table first.before (first.line ∷ first.after) 1 [] first.earlier first.said first.sound
    ∙ rules_after-line table first.line first.after number first.earlier (Err told)
    (line_rule-told table number first.earlier first.line told first.counts at first.cause))
