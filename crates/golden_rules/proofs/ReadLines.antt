-- The lines of a file are read as the sound rules that they say, or as the first fault.
use Rattle.std.proofs.Common.{◌≡◌, ℕ, ◌+◌, ◌<◌, ◌≤◌, ◌==◌, inl, inr, Bool, true, false, List, [], ◌∷◌, ◌++◌}
use Rattle.std.proofs.Common.{length, Option, Some, None, Result, Ok, Err, refl, sym, ◌∙◌, ap, subst}
use Rattle.std.proofs.Common.{append_assoc, length-append, arith, IsTrue, IsFalse}
use Rattle.std.proofs.lemmas.List.{append-nil}
use Rattle.std.proofs.lemmas.List.Elements.{All-push, All-nil}
use Rattle.reader_answers.specs.Answers.{◌>>=◌}
use Rattle.element_table.specs.Elements.{TableEntries}
use Rattle.golden_rules.specs.Limits.{max_rules}
use Rattle.golden_rules.specs.RuleLines.{has_empty_range, is_known, is_skipped, line_rule, rule_fault, rules_after}
use Rattle.golden_rules.specs.RuleLines.{with_rule, words_of, written_rule}
use Rattle.golden_rules.specs.RulesReadings.{AreSound, IsFirstFault, IsLineFault, LinesSay, line_of, RulesReading}
use Rattle.golden_rules.specs.RulesReadings.{SaysRule}
use Rattle.golden_rules.specs.declared.rule.Rule.{Rule}
use Rattle.golden_rules.specs.declared.fault.RulesFault.{RulesFault}
use Rattle.golden_rules.specs.declared.fault.RulesFault.TheVariants as fault

-- a skipped line behind others
say-skipped : (done : List (List ℕ)) (rules : List Rule) (line : List ℕ) → LinesSay done rules
    → is_skipped (words_of line) ≡ true → LinesSay (done ++ line ∷ []) rules
say-skipped [] rules line said skip = inl (skip, said)
say-skipped (first ∷ done) rules line said skip =
    elim said as (λ _. LinesSay (first ∷ done ++ line ∷ []) rules) [
      | inl p ↦ inl (p.0, say-skipped done rules line p.1 skip)
      | inr p ↦ inr (p.0, p.1, p.2, p.3, say-skipped done p.1 line p.4 skip)
    ]

-- a line with a rule behind others
say-rule : (done : List (List ℕ)) (rules : List Rule) (line : List ℕ) (rule : Rule) → LinesSay done rules
    → SaysRule line rule → LinesSay (done ++ line ∷ []) (rules ++ rule ∷ [])
say-rule [] rules line rule said says = inr (rule, [], ap (λ (rs : List Rule). rs ++ rule ∷ []) said, says, refl)
say-rule (first ∷ done) rules line rule said says =
    elim said as (λ _. LinesSay (first ∷ done ++ line ∷ []) (rules ++ rule ∷ [])) [
      | inl p ↦ inl (p.0, say-rule done rules line rule p.1 says)
      | inr p ↦
          let more : rules ++ rule ∷ [] ≡ p.0 ∷ (p.1 ++ rule ∷ []) = ap (λ (rs : List Rule). rs ++ rule ∷ []) p.2 in
          inr (p.0, p.1 ++ rule ∷ [], more, p.3, say-rule done p.1 line rule p.4 says)
    ]

-- one more sound rule
AreSound-push : (table : TableEntries) (rules : List Rule) (rule : Rule) → AreSound table rules
    → is_known table rule ≡ true
    → has_empty_range rule ≡ false → length rules < max_rules → AreSound table (rules ++ rule ∷ [])
AreSound-push table rules rule sound known range room = record {
  known = All-push (λ r. IsTrue (is_known table r)) rules rule sound.known known;
  ranges = All-push (λ r. IsFalse (has_empty_range r)) rules rule sound.ranges range;
  few = omega (arith, length-append rules (rule ∷ []));
}

-- what a line says, by its tests
pub line_rule-skipped : (table : TableEntries) (number earlier : ℕ) (line : List ℕ) → is_skipped (words_of line) ≡ true
    → line_rule table number earlier line ≡ Ok None
line_rule-skipped table number earlier line skip = rw skip refl

pub line_rule-bad : (table : TableEntries) (number earlier : ℕ) (line : List ℕ) → is_skipped (words_of line) ≡ false
    → written_rule (words_of line) ≡ None → line_rule table number earlier line ≡ Err (fault.BadLine number)
line_rule-bad table number earlier line counts bad = rw (counts, bad) refl

pub line_rule-fault : (table : TableEntries) (number earlier : ℕ) (line : List ℕ) (rule : Rule) (told : RulesFault)
    → is_skipped (words_of line) ≡ false → written_rule (words_of line) ≡ Some rule
    → rule_fault table number earlier rule ≡ Some told → line_rule table number earlier line ≡ Err told
line_rule-fault table number earlier line rule told counts says wrong = rw (counts, says, wrong) refl

pub line_rule-rule : (table : TableEntries) (number earlier : ℕ) (line : List ℕ) (rule : Rule)
    → is_skipped (words_of line) ≡ false → written_rule (words_of line) ≡ Some rule
    → rule_fault table number earlier rule ≡ None → line_rule table number earlier line ≡ Ok (Some rule)
line_rule-rule table number earlier line rule counts says right = rw (counts, says, right) refl

-- the reading goes on behind a line
stepped : (table : TableEntries) (done : List (List ℕ)) (line : List ℕ) (rest : List (List ℕ)) (number : ℕ)
    (earlier : List Rule) (rule : Option Rule)
    → line_rule table number (length earlier) line ≡ Ok rule
    → RulesReading table ((done ++ line ∷ []) ++ rest) (rules_after table (number + 1) (with_rule earlier rule) rest)
    → RulesReading table (done ++ line ∷ rest) (rules_after table number earlier (line ∷ rest))
stepped table done line rest number earlier rule is reading =
    let answer : rules_after table number earlier (line ∷ rest)
    ≡ rules_after table (number + 1) (with_rule earlier rule) rest =
    ap (λ (r : Result (Option Rule) RulesFault).
    r >>= λ o. rules_after table (number + 1) (with_rule earlier o) rest) is in
    let Reads : List (List ℕ) → Type 0 =
    λ file. RulesReading table file (rules_after table (number + 1) (with_rule earlier rule) rest) in
    rw answer (subst Reads
    (append_assoc done (line ∷ []) rest) reading)

-- or stops at the fault of a line
stopped : (table : TableEntries) (done : List (List ℕ)) (line : List ℕ) (rest : List (List ℕ)) (number : ℕ)
    (earlier : List Rule) (told : RulesFault)
    → line_rule table number (length earlier) line ≡ Err told
    → IsFirstFault table (done ++ line ∷ rest) told
    → RulesReading table (done ++ line ∷ rest) (rules_after table number earlier (line ∷ rest))
stopped table done line rest number earlier told is first =
    let answer : rules_after table number earlier (line ∷ rest) ≡ Err told =
    ap (λ (r : Result (Option Rule) RulesFault).
    r >>= λ o. rules_after table (number + 1) (with_rule earlier o) rest) is in
    rw answer first

-- the number of 64 rules, by its test
full-means : (n : ℕ) → (n == max_rules) ≡ true → n ≡ max_rules
full-means n e = grind arith

room-means : (n : ℕ) → (n == max_rules) ≡ false → n ≤ max_rules → n < max_rules
room-means n e h = grind arith

-- A line that isn't skipped, behind others that say the earlier rules. Where its rule has no fault the reading goes on.
module _ (table : TableEntries) (done : List (List ℕ)) (line : List ℕ) (rest : List (List ℕ)) (number : ℕ)
    (earlier : List Rule) where
  Goes-on : Rule → Type 0
  Goes-on rule = RulesReading table ((done ++ line ∷ []) ++ rest)
      (rules_after table (number + 1) (earlier ++ rule ∷ []) rest)

  Reads : Type 0
  Reads = RulesReading table (done ++ line ∷ rest) (rules_after table number earlier (line ∷ rest))

  module _ (is : number ≡ length done + 1) (said : LinesSay done earlier) (sound : AreSound table earlier)
      (counts : is_skipped (words_of line) ≡ false) where
    stops : (told : RulesFault) → line_of told ≡ number → line_rule table number (length earlier) line ≡ Err told
        → IsLineFault table earlier (words_of line) told → Reads
    unfolding Reads
    stops told at answer cause =
        stopped table done line rest number earlier told answer (record {
          before = done;
          line = line;
          after = rest;
          earlier = earlier;
          parts = refl;
          number = at ∙ is;
          said = said;
          sound = sound;
          counts = counts;
          cause = cause;
        })

    counted : (rule : Rule) → written_rule (words_of line) ≡ Some rule → is_known table rule ≡ true
        → has_empty_range rule ≡ false
        → (length earlier < max_rules → Goes-on rule) → (b : Bool) → (length earlier == max_rules) ≡ b → Reads
    unfolding Reads Goes-on
    counted rule says known range more true full =
        stops (fault.TooMany number) refl
        (line_rule-fault table number (length earlier) line rule (fault.TooMany number) counts says
        (rw (known, range, full) refl))
        (rule, says, (known, range, full-means _ full))
    counted rule says known range more false room =
        stepped table done line rest number earlier (Some rule)
        (line_rule-rule table number (length earlier) line rule counts says (rw (known, range, room) refl))
        (more (room-means _ room sound.few))

    ranged : (rule : Rule) → written_rule (words_of line) ≡ Some rule → is_known table rule ≡ true
        → (has_empty_range rule ≡ false → length earlier < max_rules → Goes-on rule) → (b : Bool)
        → has_empty_range rule ≡ b → Reads
    ranged rule says known more true empty =
        stops (fault.EmptyRange number) refl
        (line_rule-fault table number (length earlier) line rule (fault.EmptyRange number) counts says
        (rw (known, empty) refl))
        (rule, says, (known, empty))
    ranged rule says known more false range =
        counted rule says known range (more range) (length earlier == max_rules) refl

    looked_up : (rule : Rule) → written_rule (words_of line) ≡ Some rule
        → (is_known table rule ≡ true → has_empty_range rule ≡ false → length earlier < max_rules → Goes-on rule)
        → (b : Bool) → is_known table rule ≡ b → Reads
    looked_up rule says more false unknown =
        stops (fault.UnknownSymbol number) refl
        (line_rule-fault table number (length earlier) line rule (fault.UnknownSymbol number) counts says
        (rw unknown refl))
        (rule, says, unknown)
    looked_up rule says more true known = ranged rule says known (more known) (has_empty_range rule) refl

    spelled : ((rule : Rule) → written_rule (words_of line) ≡ Some rule
        → is_known table rule ≡ true → has_empty_range rule ≡ false → length earlier < max_rules → Goes-on rule)
        → (o : Option Rule) → written_rule (words_of line) ≡ o → Reads
    spelled more None bad = stops (fault.BadLine number) refl
        (line_rule-bad table number (length earlier) line counts bad) bad
    spelled more (Some rule) says = looked_up rule says (more rule says) (is_known table rule) refl

pub reading-after : (table : TableEntries) (rest done : List (List ℕ)) (number : ℕ) (earlier : List Rule)
    → number ≡ length done + 1 → LinesSay done earlier → AreSound table earlier
    → RulesReading table (done ++ rest) (rules_after table number earlier rest)
unfolding Reads Goes-on
reading-after table [] done number earlier is said sound =
    (subst (λ (file : List (List ℕ)). LinesSay file earlier) (sym (append-nil done)) said, sound)
reading-after table (line ∷ rest) done number earlier is said sound =
    let next : number + 1 ≡ length (done ++ line ∷ []) + 1 = omega (arith, is, length-append done (line ∷ [])) in
    elim (is_skipped (words_of line)) as
    (λ b. is_skipped (words_of line) ≡ b → Reads table done line rest number earlier) [
      | true ↦ λ skip. stepped table done line rest number earlier None
          (line_rule-skipped table number (length earlier) line skip)
          (reading-after table rest (done ++ line ∷ []) (number + 1) earlier next
          (say-skipped done earlier line said skip) sound)
      | false ↦ λ counts. spelled table done line rest number earlier is said sound counts
          (λ rule says known range room. reading-after table rest (done ++ line ∷ []) (number + 1)
          (earlier ++ rule ∷ []) next
          (say-rule done earlier line rule said (record { counts = counts; says = says }))
          (AreSound-push table earlier rule sound known range room))
          (written_rule (words_of line)) refl
    ] refl

-- no line says no rules
none-sound : (table : TableEntries) → AreSound table []
none-sound table = record {
  known = All-nil (λ r. IsTrue (is_known table r));
  ranges = All-nil (λ r. IsFalse (has_empty_range r));
  few = omega arith;
}

pub reading-file : (table : TableEntries) (file : List (List ℕ)) → RulesReading table file (rules_after table 1 [] file)
reading-file table file = reading-after table file [] 1 [] (omega arith) refl (none-sound table)
