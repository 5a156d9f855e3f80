-- The uses that words make are those that `uses_of` reads, and no others.
use Rattle.std.proofs.Common.{◌≡◌, ◌∙◌, ◌+◌, ℕ, zero, suc, Bool, true, false, not, ◌&&◌, ◌||◌, if◌then◌else◌, List, []}
use Rattle.std.proofs.Common.{◌∷◌, ◌++◌, length, drop, Option, Some, None, ap, ap₂, sym, refl, subst, inl, inr, arith}
use Rattle.std.proofs.Common.{unwrap_or, position, find, option_map}
use Rattle.std.specs.List.{AllByRecursion, after_first, before_first, list_all}
use Rattle.std.specs.Prelude.{option_and_then, ◌==◌, ⊤}
use Rattle.std.specs.Str.{bytes_eq}
use Rattle.std.proofs.lemmas.Bool.{eqb-true, true≢false}
use Rattle.std.proofs.lemmas.List.{append-nil, append_assoc}
use Rattle.std.proofs.lemmas.List.Folds.{list_any-append, list_any_at}
use Rattle.std.proofs.lemmas.List.Quantifiers.{position-Some}
use Rattle.std.proofs.lemmas.Option.{cond_some, none-some}
use Rattle.std.proofs.lemmas.Slice.Eq.{bytes_eq-Decides}
use Rattle.std.proofs.lemmas.Bool.Decides.{nat_tests}
use Rattle.clap.proofs.RemoveLemmas.{find-none}
use Rattle.clap.proofs.CutLemmas.{Lacks, after_first-at, before_first-Lacks, before_first-at, list_any-at}
use Rattle.clap.specs.Lexer.{has_byte, long_of, long_of_rest, strip_byte}
use Rattle.command_words.specs.Options.{Bytes}
use Rattle.command_words.proofs.ClapWalk.{value_long}
use Rattle.command_words.specs.Uses.{AreOnce, Argument, BeginsWith, Says, Use, flag_value, has_use, is_flag_of, is_value}
use Rattle.command_words.specs.WordReading.{is_readable, is_readable_as, is_readable_option, uses_from, uses_of, with_form, with_option, with_use}

-- ---- `--name` and `--name=value`

-- a name that can stand behind two hyphens and before `=`
abbrev pub is_plain : Bytes → Bool
is_plain [] = false
is_plain (first ∷ rest) = not (has_byte 61 (first ∷ rest))

same_byte : (x y : ℕ) → (x == y) ≡ true → x ≡ y
same_byte x y e = eqb-true x y e

or_parts : (a b : Bool) → (a || b) ≡ false → (a ≡ false) × (b ≡ false)
or_parts true b e = absurd (true≢false e)
or_parts false b e = (refl, e)

pub and_parts : (a b : Bool) → (a && b) ≡ true → (a ≡ true) × (b ≡ true)
and_parts true b e = (refl, e)
and_parts false b e = absurd (true≢false (sym e))

or_both : (a b : Bool) → a ≡ false → b ≡ false → (a || b) ≡ false
or_both a b e f = ap₂ (λ x y. x || y) e f

lacks : (text : Bytes) → has_byte 61 text ≡ false → Lacks 61 text
lacks [] e i lt is = absurd (omega arith)
lacks (x ∷ xs) e zero lt is = true≢false (sym (ap (λ y. y == 61) is) ∙ (or_parts (x == 61) (has_byte 61 xs) e).0)
lacks (x ∷ xs) e (suc i) lt is = lacks xs (or_parts (x == 61) (has_byte 61 xs) e).1 i (omega arith) is

-- a text with `=`, cut at the first one
split : (text : Bytes) → has_byte 61 text ≡ true → (before : Bytes) × (after : Bytes) × (text ≡ before ++ 61 ∷ after)
    × (has_byte 61 before ≡ false)
split [] e = absurd (true≢false (sym e))
split (x ∷ xs) e = go (x == 61) refl e (split xs)
  where
    go : (b : Bool) → (x == 61) ≡ b → (b || has_byte 61 xs) ≡ true
        → (has_byte 61 xs ≡ true → (before : Bytes) × (after : Bytes) × (xs ≡ before ++ 61 ∷ after)
        × (has_byte 61 before ≡ false))
        → (before : Bytes) × (after : Bytes) × (x ∷ xs ≡ before ++ 61 ∷ after) × (has_byte 61 before ≡ false)
    go true is e rec = ([], xs, ap (λ y. y ∷ xs) (same_byte x 61 is), refl)
    go false is e rec =
        let rest = rec e in
        (x ∷ rest.0, rest.1, ap (λ ys. x ∷ ys) rest.2, or_both (x == 61) (has_byte 61 rest.0) is rest.3)

cut_with : (text : Bytes) → has_byte 61 text ≡ true
    → text ≡ before_first (λ x. x == 61) text ++ 61 ∷ after_first (λ x. x == 61) text
cut_with text e =
    let parts = split text e in
    let no = lacks parts.0 parts.3 in
    parts.2 ∙ ap₂ (λ before after. before ++ 61 ∷ after)
    (sym (ap (before_first (λ x. x == 61)) parts.2 ∙ before_first-at 61 parts.0 parts.1 no))
    (sym (ap (after_first (λ x. x == 61)) parts.2 ∙ after_first-at 61 parts.0 parts.1 no))

abbrev both : Bytes → Option Bytes → Option (Bytes × Option Bytes)
both before after = Some (before, after)

-- the word is the option of this name
long_of-option : (name : Bytes) → is_plain name ≡ true → long_of (45 ∷ 45 ∷ name) ≡ Some (name, None)
long_of-option [] e = absurd (true≢false (sym e))
long_of-option (x ∷ xs) e = go (has_byte 61 (x ∷ xs)) refl e
  where
    go : (b : Bool) → has_byte 61 (x ∷ xs) ≡ b → not b ≡ true
        → both (before_first (λ y. y == 61) (x ∷ xs)) (if b then Some (after_first (λ y. y == 61) (x ∷ xs)) else None)
        ≡ both (x ∷ xs) None
    go true is e = absurd (true≢false (sym e))
    go false is e = ap (λ before. both before None) (before_first-Lacks 61 (x ∷ xs) (lacks (x ∷ xs) is))

-- the word is the option of this name, with this value behind `=`
long_of-joined : (name value : Bytes) → is_plain name ≡ true → long_of (45 ∷ 45 ∷ name ++ 61 ∷ value)
    ≡ Some (name, Some value)
long_of-joined [] value e = absurd (true≢false (sym e))
long_of-joined (x ∷ xs) value e = go (has_byte 61 (x ∷ xs)) refl e
  where
    go : (b : Bool) → has_byte 61 (x ∷ xs) ≡ b → not b ≡ true → long_of (45 ∷ 45 ∷ (x ∷ xs) ++ 61 ∷ value)
        ≡ Some (x ∷ xs, Some value)
    go true is e = absurd (true≢false (sym e))
    go false is e =
        ap (λ b. both (before_first (λ y. y == 61) (x ∷ xs ++ 61 ∷ value))
        (if b then Some (after_first (λ y. y == 61) (x ∷ xs ++ 61 ∷ value)) else None))
        (list_any-at 61 (x ∷ xs) value)
        ∙ ap₂ (λ before after. both before (Some after)) (before_first-at 61 (x ∷ xs) value (lacks (x ∷ xs) is))
        (after_first-at 61 (x ∷ xs) value (lacks (x ∷ xs) is))

-- ---- readable words, as the code finds them

abbrev hyphens_off : Bytes → Option Bytes
hyphens_off word = option_and_then (strip_byte 45) (strip_byte 45 word)

pub readable-plain : (word : Bytes) → option_and_then (strip_byte 45) (strip_byte 45 word) ≡ None
    → is_readable word ≡ is_value word
readable-plain word e = ap (λ rest. is_readable_as (option_and_then long_of_rest rest) word) e

no_hyphens : (word : Bytes) → option_and_then (strip_byte 45) (strip_byte 45 word) ≡ Some [] → is_value word ≡ false
no_hyphens [] e = absurd (none-some [] e)
no_hyphens (x ∷ ws) e = go (x == 45) e
  where
    go : (b : Bool) → option_and_then (strip_byte 45) (if b then Some ws else None) ≡ Some [] → not b ≡ false
    go true e = refl
    go false e = absurd (none-some [] e)

pub readable-option : (word option : Bytes) → option_and_then (strip_byte 45) (strip_byte 45 word) ≡ Some option
    → is_readable word ≡ is_readable_option option
readable-option word [] e = ap (λ rest. is_readable_as (option_and_then long_of_rest rest) word) e ∙ no_hyphens word e
readable-option word (x ∷ xs) e = ap (λ rest. is_readable_as (option_and_then long_of_rest rest) word) e
    ∙ go (has_byte 61 (x ∷ xs))
  where
    go : (b : Bool) → is_readable_as (both (before_first (λ y. y == 61) (x ∷ xs))
        (if b then Some (after_first (λ y. y == 61) (x ∷ xs)) else None)) word
        ≡ is_readable_as (both (before_first (λ y. y == 61) (x ∷ xs))
        (if b then Some (after_first (λ y. y == 61) (x ∷ xs)) else None)) []
    go true = refl
    go false = refl

pub option-equals : (option : Bytes) (at : ℕ) → position (λ byte. byte == 61) option ≡ Some at
    → is_readable_option option ≡ is_value (drop (at + 1) option)
option-equals [] at e = absurd (none-some at e)
option-equals (x ∷ xs) at e =
    let place = position-Some (λ byte. byte == 61) (x ∷ xs) at 0 e in
    let is = cond_some _ _ at e in
    ap (λ b. is_readable_as (both (before_first (λ y. y == 61) (x ∷ xs))
    (if b then Some (after_first (λ y. y == 61) (x ∷ xs)) else None)) [])
    (list_any_at (λ byte. byte == 61) (x ∷ xs) at 0 place.0 place.1)
    ∙ ap (λ n. is_value (drop (n + 1) (x ∷ xs))) is.1

not_found : (text : Bytes) → find (λ byte. byte == 61) text ≡ None → has_byte 61 text ≡ false
not_found [] e = refl
not_found (x ∷ xs) e = go (x == 61) e (not_found xs)
  where
    go : (b : Bool) → (if b then Some x else find (λ byte. byte == 61) xs) ≡ None → (find (λ byte. byte == 61) xs ≡ None
        → has_byte 61 xs ≡ false) → (b || has_byte 61 xs) ≡ false
    go true e rec = absurd (none-some x (sym e))
    go false e rec = rec e

some_bytes : (n : ℕ) → true ≡ not (suc n == 0)
some_bytes n = grind (arith, nat_tests)

pub option-bare : (option : Bytes) → position (λ byte. byte == 61) option ≡ None
    → is_readable_option option ≡ not (length option == 0)
option-bare [] e = refl
option-bare (x ∷ xs) e =
    ap (λ b. is_readable_as (both (before_first (λ y. y == 61) (x ∷ xs))
    (if b then Some (after_first (λ y. y == 61) (x ∷ xs)) else None)) [])
    (not_found (x ∷ xs) (find-none (λ byte. byte == 61) (x ∷ xs) e)) ∙ some_bytes (length xs)

-- what a word is of which these are the name and the value
abbrev written : Bytes × Option Bytes → Bytes
written (name, None) = 45 ∷ 45 ∷ name
written (name, Some value) = 45 ∷ 45 ∷ name ++ 61 ∷ value

pub some-same : {A : Type 0} (x y : A) → Some x ≡ Some y → x ≡ y
some-same x y e = ap (λ o. unwrap_or o x) e

rest_written : (rest : Bytes) (p : Bytes × Option Bytes) → long_of_rest rest ≡ Some p → 45 ∷ 45 ∷ rest ≡ written p
rest_written [] p e = absurd (none-some p e)
rest_written (x ∷ xs) p e = go (has_byte 61 (x ∷ xs)) refl ∙ ap written (some-same _ _ e)
  where
    go : (b : Bool) → has_byte 61 (x ∷ xs) ≡ b
        → 45 ∷ 45 ∷ x ∷ xs ≡ written (
          before_first (λ y. y == 61) (x ∷ xs),
          if b then Some (after_first (λ y. y == 61)
              (x ∷ xs)) else None,
        )
    go true is = ap (λ text. 45 ∷ 45 ∷ text) (cut_with (x ∷ xs) is)
    go false is = ap (λ text. 45 ∷ 45 ∷ text) (sym (before_first-Lacks 61 (x ∷ xs) (lacks (x ∷ xs) is)))

pub word_written : (word : Bytes) (p : Bytes × Option Bytes) → long_of word ≡ Some p → word ≡ written p
word_written [] p e = absurd (none-some p e)
word_written (x ∷ []) p e = go (x == 45) e
  where
    go : (b : Bool) → option_and_then long_of_rest (option_and_then (strip_byte 45) (if b then Some [] else None))
        ≡ Some p → x ∷ [] ≡ written p
    go true e = absurd (none-some p e)
    go false e = absurd (none-some p e)
word_written (x ∷ y ∷ rest) p e = first (x == 45) refl e
  where
    second : (b : Bool) → (y == 45) ≡ b → x ≡ 45 → option_and_then long_of_rest (if b then Some rest else None) ≡ Some p
        → x ∷ y ∷ rest ≡ written p
    second true is at e = ap₂ (λ a b. a ∷ b ∷ rest) at (same_byte y 45 is) ∙ rest_written rest p e
    second false is at e = absurd (none-some p e)

    first : (b : Bool) → (x == 45) ≡ b
        → option_and_then long_of_rest (option_and_then (strip_byte 45) (if b then Some (y ∷ rest) else None)) ≡ Some p
        → x ∷ y ∷ rest ≡ written p
    first true is e = second (y == 45) refl (same_byte x 45 is) e
    first false is e = absurd (none-some p e)

-- ---- names that stand in no other use

flip_false : (a b : Bytes) → bytes_eq a b ≡ false → bytes_eq b a ≡ false
flip_false a b e = go (bytes_eq b a) refl
  where
    go : (c : Bool) → bytes_eq b a ≡ c → c ≡ false
    go false is = refl
    go true is = absurd (true≢false (sym ((bytes_eq-Decides a b).1 (sym ((bytes_eq-Decides b a).0 is))) ∙ e))

-- no use is of a name that was seen
abbrev Apart : List Use → List Use → Type 0
Apart seen uses = AllByRecursion (λ (given : Use). has_use seen given.0 ≡ false) uses

has_use-push : (seen : List Use) (more : Use) (name : Bytes) → has_use (seen ++ more ∷ []) name
    ≡ (has_use seen name || (bytes_eq more.0 name || false))
has_use-push seen more name = list_any-append (λ (given : Use). bytes_eq given.0 name) seen (more ∷ [])

apart-push : (seen : List Use) (more : Use) (uses : List Use) → Apart seen uses → has_use uses more.0 ≡ false
    → Apart (seen ++ more ∷ []) uses
apart-push seen more [] apart e = tt
apart-push seen more (given ∷ uses) apart e =
    let parts = or_parts _ _ e in (
      has_use-push seen more given.0 ∙ or_both _ _ apart.0 (or_both _ _ (flip_false given.0 more.0 parts.0) refl),
      apart-push seen more uses apart.1 parts.1,
    )

apart-split : (seen : List Use) (more : Use) (uses : List Use) → Apart (seen ++ more ∷ []) uses
    → (has_use uses more.0 ≡ false) × Apart seen uses
apart-split seen more [] apart = (refl, tt)
apart-split seen more (given ∷ uses) apart =
    let parts = or_parts (has_use seen given.0) (bytes_eq more.0 given.0 || false) (sym (has_use-push seen more given.0)
    ∙ apart.0) in
    let rest = apart-split seen more uses apart.1 in
    (or_both _ _ (flip_false more.0 given.0 (or_parts _ _ parts.1).0) rest.0, (parts.0, rest.1))

-- ---- reading is the relation

module _ (arguments : List Argument) (plain : AllByRecursion (λ argument. is_plain argument.0 ≡ true) arguments) where
  plain_name : (name : Bytes) (flag : Bool) (others : List Argument)
      → AllByRecursion (λ other. is_plain other.0 ≡ true) others
      → is_flag_of others name ≡ Some flag → is_plain name ≡ true
  plain_name name flag [] each e = absurd (none-some flag e)
  plain_name name flag (other ∷ others) each e =
      go (bytes_eq other.0 name) refl e (plain_name name flag others each.1)
    where
      go : (b : Bool) → bytes_eq other.0 name ≡ b
          → option_map (λ o. o.1) (if b then Some other else find (λ o. bytes_eq o.0 name) others) ≡ Some flag
          → (is_flag_of others name ≡ Some flag → is_plain name ≡ true) → is_plain name ≡ true
      go true is e rec = ap is_plain (sym ((bytes_eq-Decides other.0 name).0 is)) ∙ each.0
      go false is e rec = rec e

  -- the words make these uses, none of which is of a name that was seen
  record Reads (seen uses : List Use) (words : List Bytes) : Type 0 where
    pub says : Says arguments uses words
    pub once : AreOnce uses
    pub apart : Apart seen uses

  given_read : (seen : List Use) (name value : Bytes) (next : List Use → Option Bytes → Option (List Use))
      → is_value value ≡ true → has_use seen name ≡ false
      → with_use seen name value next ≡ next (seen ++ (name, value) ∷ []) None
  given_read seen name value next e f =
      ap₂ (λ a b. if a && not b then next (seen ++ (name, value) ∷ []) None else None) e f

  -- what is read of words that begin with a use
  read_use : (given : Use) (seen : List Use) (rest words : List Bytes) (f : Option Bool)
      → is_flag_of arguments given.0 ≡ f → BeginsWith f given rest words → has_use seen given.0 ≡ false
      → uses_from arguments words seen None ≡ uses_from arguments rest (seen ++ given ∷ []) None
  unfolding uses_from
  read_use given seen rest words None is begins new = absurd begins
  read_use given seen rest words (Some true) is (value, words_are) new =
      let known = plain_name given.0 true arguments plain is in
      let next = uses_from arguments rest in
      ap (λ ws. uses_from arguments ws seen None) words_are
      ∙ ap (λ p. with_option arguments p seen next) (long_of-option given.0 known)
      ∙ ap (λ f. with_form f given.0 None seen next) is
      ∙ given_read seen given.0 flag_value next refl new
      ∙ ap (λ v. next (seen ++ (given.0, v) ∷ []) None) (sym value)
  read_use given seen rest words (Some false) is (fine, inl apart_words) new =
      let known = plain_name given.0 false arguments plain is in
      let next = uses_from arguments (given.1 ∷ rest) in
      ap (λ ws. uses_from arguments ws seen None) apart_words
      ∙ ap (λ p. with_option arguments p seen next) (long_of-option given.0 known)
      ∙ ap (λ f. with_form f given.0 None seen next) is
      ∙ given_read seen given.0 given.1 (uses_from arguments rest) fine new
  read_use given seen rest words (Some false) is (fine, inr joined_word) new =
      let known = plain_name given.0 false arguments plain is in
      let next = uses_from arguments rest in
      ap (λ ws. uses_from arguments ws seen None) joined_word
      ∙ ap (λ p. with_option arguments p seen next) (long_of-joined given.0 given.1 known)
      ∙ ap (λ f. with_form f given.0 (Some given.1) seen next) is
      ∙ given_read seen given.0 given.1 next fine new

  read_from : (uses : List Use) (seen : List Use) (words : List Bytes) → Says arguments uses words → AreOnce uses
      → Apart seen uses
      → uses_from arguments words seen None ≡ Some (seen ++ uses)
  unfolding uses_from
  read_from [] seen words says once apart = ap (λ ws. uses_from arguments ws seen None) says
      ∙ ap Some (sym (append-nil seen))
  read_from (given ∷ uses) seen words (rest, begins, says) once apart =
      read_use given seen rest words (is_flag_of arguments given.0) refl begins apart.0
      ∙ read_from uses (seen ++ given ∷ []) rest says once.1 (apart-push seen given uses apart.1 once.0)
      ∙ ap Some (append_assoc seen (given ∷ []) uses)

  -- what is read in words where this option waits, in front of them
  abbrev from_waiting : Option Bytes → List Bytes → List Bytes
  from_waiting None words = words
  from_waiting (Some name) words = (45 ∷ 45 ∷ name) ∷ words

  abbrev IsKnown : Option Bytes → Type 0
  IsKnown None = ⊤
  IsKnown (Some name) = is_flag_of arguments name ≡ Some false

  abbrev Found : List Use → List Use → List Bytes → Type 0
  Found seen every words = (uses : List Use) × (every ≡ seen ++ uses) × Reads seen uses words

  not_true : (a : Bool) → not a ≡ true → a ≡ false
  not_true true e = absurd (true≢false (sym e))
  not_true false e = refl

  -- one more use before those that are found behind it
  found_before : (seen every : List Use) (given : Use) (rest words : List Bytes)
      → BeginsWith (is_flag_of arguments given.0) given rest words
      → has_use seen given.0 ≡ false → Found (seen ++ given ∷ []) every rest
      → Found seen every words
  found_before seen every given rest words begins new found =
      let split = apart-split seen given found.0 found.2.apart in (
        given ∷ found.0,
        found.1 ∙ append_assoc seen (given ∷ []) found.0,
        record {
          says = (rest, begins, found.2.says);
          once = (split.0, found.2.once);
          apart = (new, split.1);
        },
      )

  found_use : (seen every : List Use) (name value : Bytes) (rest words : List Bytes)
      → (is_value value ≡ true → BeginsWith (is_flag_of arguments name) (name, value) rest words)
      → ((later : List Use) → uses_from arguments rest later None ≡ Some every → Found later every rest)
      → with_use seen name value (uses_from arguments rest) ≡ Some every → Found seen every words
  found_use seen every name value rest words begins rec e = go (is_value value && not (has_use seen name)) refl e
    where
      go : (b : Bool) → (is_value value && not (has_use seen name)) ≡ b
          → (if b then uses_from arguments rest (seen ++ (name, value) ∷ []) None else None) ≡ Some every
          → Found seen every words
      go true is e =
          let parts = and_parts _ _ is in
          found_before seen every (name, value) rest words (begins parts.0) (not_true _ parts.1) (rec _ e)
      go false is e = absurd (none-some every e)

  -- a use of an option with a value is known by its form
  begins_by : (f : Option Bool) (given : Use) (rest words : List Bytes) → is_flag_of arguments given.0 ≡ f
      → BeginsWith f given rest words → BeginsWith (is_flag_of arguments given.0) given rest words
  begins_by f given rest words is begins = subst (λ g. BeginsWith g given rest words) (sym is) begins

  found_form : (seen every : List Use) (word : Bytes) (rest : List Bytes) (name : Bytes) (value : Option Bytes)
      → long_of word ≡ Some (name, value)
      → ((waiting : Option Bytes) (later : List Use) → IsKnown waiting → uses_from arguments rest later waiting
      ≡ Some every → Found later every (from_waiting waiting rest))
      → (f : Option Bool) → is_flag_of arguments name ≡ f
      → with_form f name value seen (uses_from arguments rest) ≡ Some every → Found seen every (word ∷ rest)
  found_form seen every word rest name value is rec None known e = absurd (none-some every e)
  found_form seen every word rest name None is rec (Some true) known e =
      found_use seen every name flag_value rest (word ∷ rest)
      (λ fine. begins_by (Some true) (name, flag_value) rest (word ∷ rest) known
      (refl, ap (λ w. w ∷ rest) (word_written word (name, None) is)))
      (λ later. rec None later tt) e
  found_form seen every word rest name (Some value) is rec (Some true) known e = absurd (none-some every e)
  found_form seen every word rest name None is rec (Some false) known e =
      subst (λ w. Found seen every (w ∷ rest)) (sym (word_written word (name, None) is)) (rec (Some name) seen known e)
  found_form seen every word rest name (Some value) is rec (Some false) known e =
      found_use seen every name value rest (word ∷ rest)
      (λ fine. begins_by (Some false) (name, value) rest (word ∷ rest) known
      (fine, inr (ap (λ w. w ∷ rest) (word_written word (name, Some value) is))))
      (λ later. rec None later tt) e

  found_option : (seen every : List Use) (word : Bytes) (rest : List Bytes) (parts : Option (Bytes × Option Bytes))
      → long_of word ≡ parts
      → ((waiting : Option Bytes) (later : List Use) → IsKnown waiting → uses_from arguments rest later waiting
      ≡ Some every → Found later every (from_waiting waiting rest))
      → with_option arguments parts seen (uses_from arguments rest) ≡ Some every → Found seen every (word ∷ rest)
  found_option seen every word rest None is rec e = absurd (none-some every e)
  found_option seen every word rest (Some (name, value)) is rec e =
      found_form seen every word rest name value is rec (is_flag_of arguments name) refl e

  found_from : (words : List Bytes) (every : List Use) (waiting : Option Bytes) (seen : List Use) → IsKnown waiting
      → uses_from arguments words seen waiting ≡ Some every
      → Found seen every (from_waiting waiting words)
  unfolding uses_from
  found_from [] every None seen known e =
      ([], some-same _ _ (sym e) ∙ sym (append-nil seen), record { says = refl; once = tt; apart = tt })
  found_from [] every (Some name) seen known e = absurd (none-some every e)
  found_from (word ∷ rest) every None seen known e = found_option seen every word rest (long_of word) refl
      (found_from rest every) e
  found_from (word ∷ rest) every (Some name) seen known e =
      found_use seen every name word rest ((45 ∷ 45 ∷ name) ∷ word ∷ rest)
      (λ fine. begins_by (Some false) (name, word) rest ((45 ∷ 45 ∷ name) ∷ word ∷ rest) known (fine, inl refl))
      (λ later. found_from rest every None later tt) e

  -- the uses that words make are read
  pub uses_of-complete : (uses : List Use) (words : List Bytes) → Says arguments uses words → AreOnce uses
      → uses_of arguments words ≡ Some uses
  uses_of-complete uses words says once = read_from uses [] words says once (none_seen uses)
    where
      none_seen : (uses : List Use) → Apart [] uses
      none_seen [] = tt
      none_seen (given ∷ uses) = (refl, none_seen uses)

  -- those that are read are what the words make
  pub uses_of-sound : (uses : List Use) (words : List Bytes) → uses_of arguments words ≡ Some uses
      → Says arguments uses words × AreOnce uses
  uses_of-sound uses words e =
      let found = found_from words uses None [] tt e in
      subst (λ all. Says arguments all words × AreOnce all) (sym found.1) (found.2.says, found.2.once)

  -- ---- words that are read are readable

  value_readable : (word : Bytes) → is_value word ≡ true → is_readable word ≡ true
  value_readable word e = ap (λ parts. is_readable_as parts word) (value_long word e) ∙ e

  with_use-value : (seen every : List Use) (name value : Bytes) (rest : List Bytes)
      → with_use seen name value (uses_from arguments rest) ≡ Some every
      → (is_value value ≡ true) × (uses_from arguments rest (seen ++ (name, value) ∷ []) None ≡ Some every)
  with_use-value seen every name value rest e = go (is_value value && not (has_use seen name)) refl e
    where
      go : (b : Bool) → (is_value value && not (has_use seen name)) ≡ b
          → (if b then uses_from arguments rest (seen ++ (name, value) ∷ []) None else None) ≡ Some every
          → (is_value value ≡ true) × (uses_from arguments rest (seen ++ (name, value) ∷ []) None ≡ Some every)
      go true is e = ((and_parts _ _ is).0, e)
      go false is e = absurd (none-some every e)

  readable_form : (seen every : List Use) (word : Bytes) (rest : List Bytes) (name : Bytes) (value : Option Bytes)
      → long_of word ≡ Some (name, value)
      → ((waiting : Option Bytes) (later : List Use) → uses_from arguments rest later waiting ≡ Some every
      → list_all is_readable rest ≡ true)
      → (f : Option Bool) → with_form f name value seen (uses_from arguments rest) ≡ Some every
      → (is_readable word && list_all is_readable rest) ≡ true
  readable_form seen every word rest name value is rec None e = absurd (none-some every e)
  readable_form seen every word rest name (Some value) is rec (Some true) e = absurd (none-some every e)
  readable_form seen every word rest name None is rec (Some true) e =
      ap₂ (λ a b. a && b) (ap (λ p. is_readable_as p word) is)
      (rec None _ (with_use-value seen every name flag_value rest e).1)
  readable_form seen every word rest name None is rec (Some false) e =
      ap₂ (λ a b. a && b) (ap (λ p. is_readable_as p word) is) (rec (Some name) seen e)
  readable_form seen every word rest name (Some value) is rec (Some false) e =
      let parts = with_use-value seen every name value rest e in
      ap₂ (λ a b. a && b) (ap (λ p. is_readable_as p word) is ∙ parts.0) (rec None _ parts.1)

  readable_option : (seen every : List Use) (word : Bytes) (rest : List Bytes) (parts : Option (Bytes × Option Bytes))
      → long_of word ≡ parts
      → ((waiting : Option Bytes) (later : List Use) → uses_from arguments rest later waiting ≡ Some every
      → list_all is_readable rest ≡ true)
      → with_option arguments parts seen (uses_from arguments rest) ≡ Some every
      → (is_readable word && list_all is_readable rest) ≡ true
  readable_option seen every word rest None is rec e = absurd (none-some every e)
  readable_option seen every word rest (Some (name, value)) is rec e =
      readable_form seen every word rest name value is rec (is_flag_of arguments name) e

  pub readable_from : (words : List Bytes) (every : List Use) (waiting : Option Bytes) (seen : List Use)
      → uses_from arguments words seen waiting ≡ Some every
      → list_all is_readable words ≡ true
  unfolding uses_from
  readable_from [] every waiting seen e = refl
  readable_from (word ∷ rest) every None seen e = readable_option seen every word rest (long_of word) refl
      (readable_from rest every) e
  readable_from (word ∷ rest) every (Some name) seen e =
      let parts = with_use-value seen every name word rest e in
      ap₂ (λ a b. a && b) (value_readable word parts.0) (readable_from rest every None _ parts.1)
