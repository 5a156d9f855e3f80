-- The test of a rule says that it is met, and the verdict is the one that is meant.
use Rattle.std.proofs.Common.{◌≡◌, ℕ, zero, suc, ◌+◌, ◌*◌, ◌-◌, ◌%◌, ◌<◌, ◌≤◌, ◌==◌, ◌&&◌, ◌||◌, not, nat_lt, nat_le}
use Rattle.std.proofs.Common.{Bool, true, false, List, length, take, drop, All, position, Some, None}
use Rattle.std.proofs.Common.{ℤ, ◌≤ℤ◌, get_or, refl, sym, ap, arith}
use Rattle.std.specs.Prelude.{int_le}
use Rattle.std.specs.List.{list_all, position_or_len}
use Rattle.std.proofs.lemmas.Int.{ints}
use Rattle.std.proofs.lemmas.List.Elements.{All-from_get_or, All-weaker}
use Rattle.std.proofs.lemmas.List.Sums.{AllPass-from_list_all, list_all-from_AllPass, fails_before_first}
use Rattle.std.proofs.lemmas.List.{get_or-take, length-take-le}
use Rattle.std.proofs.Math.Seq.{split_at}
use Rattle.std.proofs.lemmas.List.Quantifiers.{position-Some}
use Rattle.element_table.specs.Elements.{TableEntries}
use Rattle.written_items.specs.declared.item.Item.{Item}
use Rattle.formula_text.specs.Formulas.{atoms_of}
use Rattle.golden_rules.specs.MeetsRules.{element_count, greatest_valence, unsaturation, valence_sum, Meets, MeetsAll}
use Rattle.golden_rules.specs.MeetsRules.{MeetsGroup, IsFirstFailing}
use Rattle.golden_rules.specs.Verdicts.{are_above, are_below, meets, meets_all, meets_ratio}
use Rattle.golden_rules.specs.declared.rule.Rule.{Rule}
use Rattle.golden_rules.specs.declared.rule.Rule.TheVariants.{Senior, Ratio, Group, Unsaturation}
use Rattle.golden_rules.specs.declared.rule.Triple.{Triple}

-- a test of each element says a fact of each
All-from_test : {A : Type 0} (p : A → Bool) (P : A → Type 0) → ((x : A) → p x ≡ true → P x) → (xs : List A)
    → list_all p xs ≡ true → All P xs
All-from_test p P means xs passes = All-weaker (λ x. p x ≡ true) P means xs (AllPass-from_list_all p xs passes)

test-from_All : {A : Type 0} (p : A → Bool) (P : A → Type 0) → ((x : A) → P x → p x ≡ true) → (xs : List A)
    → All P xs → list_all p xs ≡ true
test-from_All p P means xs each = list_all-from_AllPass p xs (All-weaker P (λ x. p x ≡ true) means xs each)

lt-means : (a b : ℕ) → nat_lt a b ≡ true → a < b
lt-means a b e = grind arith

lt-test : (a b : ℕ) → a < b → nat_lt a b ≡ true
lt-test a b h = grind arith

le-means : (a b : ℕ) → nat_le a b ≡ true → a ≤ b
le-means a b e = grind arith

le-test : (a b : ℕ) → a ≤ b → nat_le a b ≡ true
le-test a b h = grind arith

both : (a b : Bool) → (a && b) ≡ true → (a ≡ true) × (b ≡ true)
both true true e = (refl, refl)
both true false e = (refl, e)
both false b e = (e, absurd (cc))

both-test : (a b : Bool) → a ≡ true → b ≡ true → (a && b) ≡ true
both-test a b e f = rw (e, f)

then-means : (a b : Bool) → (not a || b) ≡ true → a ≡ true → b ≡ true
then-means true b e h = e
then-means false b e h = absurd (cc)

-- SENIOR
senior-numbers : (sum greatest bonds : ℕ)
    → ((sum % 2 == 0) && nat_le (2 * greatest) sum && nat_le (2 * bonds) sum) ≡ true
    → (sum % 2 ≡ 0) × (2 * greatest ≤ sum) × (2 * bonds ≤ sum)
senior-numbers sum greatest bonds e = (grind arith, grind arith, grind arith)

numbers-senior : (sum greatest bonds : ℕ) → sum % 2 ≡ 0 → 2 * greatest ≤ sum → 2 * bonds ≤ sum
    → ((sum % 2 == 0) && nat_le (2 * greatest) sum && nat_le (2 * bonds) sum) ≡ true
numbers-senior sum greatest bonds e f g = grind arith

or-means : (a b : Bool) → (a || b) ≡ true → a ≡ false → b ≡ true
or-means true b e fails = absurd (cc)
or-means false b e fails = e

or-test : (a b : Bool) → b ≡ true → (a || b) ≡ true
or-test true b e = refl
or-test false b e = e

-- a ratio
ratio-numbers : (a b low high : ℕ) → meets_ratio a b low high ≡ true → 0 < b
    → (low * b ≤ 1000 * a) × (1000 * a ≤ high * b)
ratio-numbers a b low high e some =
    let other : (b == 0) ≡ false = grind arith in
    let parts = both _ _ (or-means _ _ e other) in
    (le-means _ _ parts.0, le-means _ _ parts.1)

numbers-ratio : (a b low high : ℕ) → (0 < b → (low * b ≤ 1000 * a) × (1000 * a ≤ high * b))
    → meets_ratio a b low high ≡ true
numbers-ratio a zero low high within = refl
numbers-ratio a (suc b) low high within =
    let some : 0 < suc b = omega arith in
    or-test (suc b == 0) (nat_le (low * suc b) (1000 * a) && nat_le (1000 * a) (high * suc b))
    (both-test _ _ (le-test _ _ (within some).0) (le-test _ _ (within some).1))

-- a group
group-means : (formula : List (Item × ℕ)) (triples : List Triple)
    → (not (are_above formula triples) || are_below formula triples) ≡ true → MeetsGroup formula triples
group-means formula triples e above =
    All-from_test _ _ (λ t h. lt-means _ _ h) triples
    (then-means _ _ e (test-from_All _ _ (λ t h. lt-test _ _ h) triples above))

group-test : (formula : List (Item × ℕ)) (triples : List Triple) → MeetsGroup formula triples
    → (a : Bool) → are_above formula triples ≡ a → (not a || are_below formula triples) ≡ true
group-test formula triples met true e =
    test-from_All _ _ (λ t h. lt-test _ _ h) triples (met (All-from_test _ _ (λ t h. lt-means _ _ h) triples e))
group-test formula triples met false e = refl

-- a range of unsaturation
int-means : (a b : ℤ) → int_le a b ≡ true → a ≤ℤ b
int-means a b e = grind (arith, ints)

int-test : (a b : ℤ) → a ≤ℤ b → int_le a b ≡ true
int-test a b h = grind (arith, ints)

range-means : (low u high : ℤ) → (int_le low u && int_le u high) ≡ true → (low ≤ℤ u) × (u ≤ℤ high)
range-means low u high e = let parts = both _ _ e in (int-means low u parts.0, int-means u high parts.1)

range-test : (low u high : ℤ) → low ≤ℤ u → u ≤ℤ high → (int_le low u && int_le u high) ≡ true
range-test low u high h k = both-test _ _ (int-test low u h) (int-test u high k)

-- the test of a rule says that it is met
pub meets-means : (table : TableEntries) (formula : List (Item × ℕ)) (rule : Rule) → meets table formula rule ≡ true
    → Meets table formula rule
meets-means table formula Senior e =
    let parts = senior-numbers (valence_sum table formula) (greatest_valence table formula) (atoms_of formula - 1) e in
    record { even = parts.0; greatest = parts.1; connected = parts.2 }
meets-means table formula (Ratio first second low high) e =
    ratio-numbers (element_count formula first) (element_count formula second) low high e
meets-means table formula (Group triples) e = group-means formula triples e
meets-means table formula (Unsaturation low high) e = range-means low (unsaturation table formula) high e

-- and is true where it is met
pub meets-test : (table : TableEntries) (formula : List (Item × ℕ)) (rule : Rule) → Meets table formula rule
    → meets table formula rule ≡ true
meets-test table formula Senior met =
    numbers-senior (valence_sum table formula) (greatest_valence table formula)
    (atoms_of formula - 1) met.even met.greatest met.connected
meets-test table formula (Ratio first second low high) met =
    numbers-ratio (element_count formula first) (element_count formula second) low high met
meets-test table formula (Group triples) met = group-test formula triples met (are_above formula triples) refl
meets-test table formula (Unsaturation low high) met = range-test low (unsaturation table formula) high met.0 met.1

not-true : (b : Bool) → not b ≡ false → b ≡ true
not-true true e = refl
not-true false e = absurd (cc)

true-not : (b : Bool) → not b ≡ true → b ≡ true → ⊥
true-not true e h = cc
true-not false e h = cc

-- the verdict is the one that is meant
pub IsVerdict-pass : (table : TableEntries) (rules : List Rule) (formula : List (Item × ℕ))
    → position (λ rule. not (meets table formula rule)) rules ≡ None → MeetsAll table rules formula
IsVerdict-pass table rules formula none k d within =
    let p : Rule → Bool = λ rule. not (meets table formula rule) in
    let whole : length rules ≤ position_or_len p rules = grind arith in
    meets-means table formula _ (not-true _ (fails_before_first p rules k d (omega arith)))

-- where no rule fails all are met
pub meets_all-pass : (table : TableEntries) (rules : List Rule) (formula : List (Item × ℕ))
    → position (λ rule. not (meets table formula rule)) rules ≡ None → meets_all table rules formula ≡ true
meets_all-pass table rules formula none =
    let p : Rule → Bool = λ rule. not (meets table formula rule) in
    let whole : length rules ≤ position_or_len p rules = grind arith in
    list_all-from_AllPass (meets table formula) rules
    (λ k d within. not-true _ (fails_before_first p rules k d (omega arith)))

-- and where one fails they aren't
pub meets_all-fails : (table : TableEntries) (rules : List Rule) (formula : List (Item × ℕ)) (place : ℕ)
    → position (λ rule. not (meets table formula rule)) rules ≡ Some place → meets_all table rules formula ≡ true → ⊥
meets_all-fails table rules formula place found all =
    let here = position-Some (λ rule. not (meets table formula rule)) rules place Senior found in
    true-not _ here.1 (AllPass-from_list_all (meets table formula) rules all place Senior here.0)

met_before : (table : TableEntries) (rules : List Rule) (formula : List (Item × ℕ)) (place : ℕ)
    → ((k : ℕ) → k < place → not (meets table formula (get_or rules k Senior)) ≡ false) → place ≤ length rules
    → All (Meets table formula) (take place rules)
met_before table rules formula place each within =
    All-from_get_or (Meets table formula) (take place rules) Senior (λ i h.
    let below : i < place = omega (arith, h, length-take-le place rules within) in
    rw (get_or-take place rules i Senior below) (meets-means table formula _ (not-true _ (each i below))))

pub IsVerdict-fails : (table : TableEntries) (rules : List Rule) (formula : List (Item × ℕ)) (place : ℕ)
    → position (λ rule. not (meets table formula rule)) rules ≡ Some place
    → IsFirstFailing table rules formula (place + 1)
IsVerdict-fails table rules formula place found =
    let here = position-Some (λ rule. not (meets table formula rule)) rules place Senior found in
    record {
      before = take place rules;
      failing = get_or rules place Senior;
      after = drop (suc place) rules;
      parts = split_at rules place Senior here.0;
      number_is = ap (λ (n : ℕ). n + 1) (sym (length-take-le place rules (omega (arith, here.0))));
      met = met_before table rules formula place here.2 (omega (arith, here.0));
      unmet = λ met. true-not _ here.1 (meets-test table formula _ met);
    }
