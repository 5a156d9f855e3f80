-- clap's walk over readable words finds the uses that they make, and fails where they make none.
use Rattle.clap.specs.declared.builder.value_parser.Reading.TheVariants.{AsWritten}
use Rattle.std.proofs.Common.{◌≡◌, ◌∙◌, ℕ, Bool, true, false, not, ◌&&◌, ◌||◌, if◌then◌else◌, List, [], ◌∷◌, ◌++◌, map}
use Rattle.std.proofs.Common.{fold, Option, Some, None, All, ap, ap₂, sym, refl, subst, nat_lt, is_some, drop, arith}
use Rattle.std.proofs.Common.{◌⊎◌, inl, inr, MatchBool, codes, find, option_map}
use Rattle.std.specs.Option.{option_map_or}
use Rattle.std.specs.Prelude.{option_and_then, ◌==◌, ⊤}
use Rattle.std.specs.Str.{bytes_eq}
use Rattle.std.proofs.lemmas.Bool.{true≢false}
use Rattle.std.proofs.lemmas.List.{append-nil}
use Rattle.std.proofs.lemmas.List.Elements.{All-drop, All-get_or}
use Rattle.std.proofs.lemmas.Option.{none-some}
use Rattle.std.proofs.lemmas.Slice.Eq.{bytes_eq-Decides}
use Rattle.clap.specs.Lexer.{long_of, long_of_rest, short_of, short_of_rest, strip_byte}
use Rattle.clap.specs.Walk.{Held, Row, Rule, Step, Text, Waiting, Walk, after_flag, after_step, arg_by_long, at_row}
use Rattle.clap.specs.Walk.{finished, has_row, idle, long_met, long_or_other, more_values, nothing_held, option}
use Rattle.clap.specs.Walk.{option_word, positional, reading_by, rows_after, settled, short_or_plain, trailing, used}
use Rattle.clap.specs.Walk.{used_by_id, walked, with_default, with_values, is_empty, default_rows, without}
use Rattle.clap.specs.Simple.{Shape, entered, matches_of, names_of}
use Rattle.clap.specs.Kinds.{IsAmong, Kinds, check_kinds, or_else}
use Rattle.clap.specs.Takes.{is_given}
use Rattle.clap.specs.Faults.{built_fault, bundle_fault, check_fault, default_fault, defaults_fault, entered_fault}
use Rattle.clap.specs.Faults.{fault_of, flag_word_fault, given_default_fault, level_fault, long_fault, positional_fault}
use Rattle.clap.specs.Faults.{settle_fault, step_fault, stray_fault, turn_fault, use_fault, walk_fault}
use Rattle.clap.specs.declared.parser.matches.ValueSource.TheVariants.{CommandLine, DefaultValue}
use Rattle.clap.specs.declared.error.kind.ErrorKind.{ErrorKind}
use Rattle.clap.specs.declared.error.kind.ErrorKind.TheVariants as kind
use Rattle.command_words.specs.ClapCommands.{built_rule, command_app, given_in, parse_fault, row_given, row_of_use}
use Rattle.command_words.specs.declared.fault.WordsFault.TheVariants as fault
use Rattle.command_words.specs.Uses.{Argument, Use, flag_value, has_use, is_flag_of, is_value, value_in}
use Rattle.command_words.specs.WordReading.{is_readable, is_memory, is_readable_as, uses_from, uses_of, with_form, with_option}
use Rattle.command_words.proofs.OptionRules.{arg_by_id-is, arg_by_index-none, app_of_rules, arg_by_long-is, built-command_app, built_shape, found, none_of}

-- ---- faults

abbrev pub fails : Kinds → Bool
fails [] = false
fails (k ∷ kinds) = true

fails-first : (a b : Kinds) → fails a ≡ true → fails (or_else a b) ≡ true
fails-first [] b e = absurd (true≢false (sym e))
fails-first (k ∷ kinds) b e = refl

or_else-assoc : (a b c : Kinds) → or_else (or_else a b) c ≡ or_else a (or_else b c)
or_else-assoc [] b c = refl
or_else-assoc (k ∷ kinds) b c = refl

-- ---- words

abbrev Parts : Type 0
Parts = Option (Text × Option Text)

abbrev hyphens : Text
hyphens = 45 ∷ 45 ∷ []

value_short : (word : Text) → is_value word ≡ true → short_of word ≡ None
value_short [] e = refl
value_short (x ∷ xs) e = go (x == 45) e
  where
    go : (b : Bool) → not b ≡ true → option_and_then short_of_rest (if b then Some xs else None) ≡ None
    go true e = absurd (true≢false (sym e))
    go false e = refl

pub value_long : (word : Text) → is_value word ≡ true → long_of word ≡ None
value_long [] e = refl
value_long (x ∷ xs) e = go (x == 45) e
  where
    go : (b : Bool) → not b ≡ true
        → option_and_then long_of_rest (option_and_then (strip_byte 45) (if b then Some xs else None)) ≡ None
    go true e = absurd (true≢false (sym e))
    go false e = refl

value_not_hyphens : (word : Text) → is_value word ≡ true → bytes_eq word hyphens ≡ false
value_not_hyphens word e = go (bytes_eq word hyphens) refl
  where
    go : (b : Bool) → bytes_eq word hyphens ≡ b → b ≡ false
    go false is = refl
    go true is = absurd (true≢false (sym e ∙ ap is_value ((bytes_eq-Decides word hyphens).0 is)))

long_not_hyphens : (word : Text) (p : Text × Option Text) → long_of word ≡ Some p → bytes_eq word hyphens ≡ false
long_not_hyphens word p e = go (bytes_eq word hyphens) refl
  where
    go : (b : Bool) → bytes_eq word hyphens ≡ b → b ≡ false
    go false is = refl
    go true is = absurd (none-some p (sym (ap long_of ((bytes_eq-Decides word hyphens).0 is)) ∙ e))

long_no_value : (word : Text) (p : Text × Option Text) → long_of word ≡ Some p → is_value word ≡ false
long_no_value word p e = go (is_value word) refl
  where
    go : (b : Bool) → is_value word ≡ b → b ≡ false
    go false is = refl
    go true is = absurd (none-some p (sym (value_long word is) ∙ e))

same_text : (a : Text) → bytes_eq a a ≡ true
same_text a = (bytes_eq-Decides a a).1 refl

-- ---- rows

-- what clap finds for a flag that isn't used
abbrev default_row : Text → Row
default_row name = record {
  id = name;
  values = codes "false" ∷ [];
  count = None;
  source = Some DefaultValue;
  reading = AsWritten;
}

pub has_row-uses : (name : Text) (uses : List Use) → has_row name (map row_of_use uses) ≡ has_use uses name
has_row-uses name [] = refl
has_row-uses name (given ∷ uses) = ap (λ b. bytes_eq given.0 name || b) (has_row-uses name uses)

at_row-new : (name : Text) (change : Row → List Row) (missing : List Row) (uses : List Use) → has_use uses name ≡ false
    → at_row name change missing (map row_of_use uses) ≡ map row_of_use uses ++ missing
at_row-new name change missing [] e = refl
at_row-new name change missing (given ∷ uses) e = go (bytes_eq given.0 name) e (at_row-new name change missing uses)
  where
    go : (b : Bool) → (b || has_use uses name) ≡ false
        → (has_use uses name ≡ false → at_row name change missing (map row_of_use uses)
        ≡ map row_of_use uses ++ missing)
        → (if b then change (row_of_use given) ++ map row_of_use uses else row_of_use given ∷ at_row name change missing
        (map row_of_use uses))
        ≡ row_of_use given ∷ map row_of_use uses ++ missing
    go true e rec = absurd (true≢false e)
    go false e rec = ap (λ rows. row_of_use given ∷ rows) (rec e)

rows-push : (uses : List Use) (given : Use) → map row_of_use uses ++ row_of_use given ∷ []
    ≡ map row_of_use (uses ++ given ∷ [])
rows-push [] given = refl
rows-push (first ∷ uses) given = ap (λ rows. row_of_use first ∷ rows) (rows-push uses given)

-- the values of a use, as words give them: none of a flag
abbrev said : Bool → Text → List Text
said true value = []
said false value = value ∷ []

-- the value of a use, by whether it is of a flag
abbrev IsSaid : Bool → Text → Type 0
IsSaid true value = value ≡ flag_value
IsSaid false value = ⊤

with_row : (name value : Text) (uses : List Use) → has_use uses name ≡ false
    → with_values name AsWritten CommandLine (value ∷ []) (without name (map row_of_use uses))
    ≡ map row_of_use (uses ++ (name, value) ∷ [])
with_row name value uses e =
    ap (λ rows. with_values name AsWritten CommandLine (value ∷ []) rows)
    (at_row-new name (λ _. []) [] uses e ∙ append-nil (map row_of_use uses))
    ∙ at_row-new name (more_values CommandLine (value ∷ [])) (row_of_use (name, value) ∷ []) uses e
    ∙ rows-push uses (name, value)

-- a new use makes one more row
used-new : (flag : Bool) (name value : Text) (uses : List Use) → IsSaid flag value → has_use uses name ≡ false
    → used (built_rule (name, flag)) (said flag value) (map row_of_use uses)
    ≡ map row_of_use (uses ++ (name, value) ∷ [])
used-new true name value uses is e = with_row name flag_value uses e
    ∙ ap (λ v. map row_of_use (uses ++ (name, v) ∷ [])) (sym is)
used-new false name value uses is e = with_row name value uses e

use_fault-new : (flag : Bool) (name value : Text) (rows : List Row) → has_row name rows ≡ false
    → use_fault false (built_rule (name, flag)) (said flag value) rows ≡ []
use_fault-new true name value rows e =
    ap (λ b. or_else (if b && true then kind.ArgumentConflict ∷ [] else []) []) e
use_fault-new false name value rows e =
    ap (λ b. or_else (if b && true then kind.ArgumentConflict ∷ [] else []) []) e

use_fault-again : (flag : Bool) (name value : Text) (rows : List Row) → has_row name rows ≡ true
    → fails (use_fault false (built_rule (name, flag)) (said flag value) rows) ≡ true
use_fault-again true name value rows e =
    ap (λ b. fails (or_else (if b && true then kind.ArgumentConflict ∷ [] else []) [])) e
use_fault-again false name value rows e =
    ap (λ b. fails (or_else (if b && true then kind.ArgumentConflict ∷ [] else []) [])) e

-- ---- the end of a walk

-- the defaults of flags that aren't used are right
no_default : (rows : List Row) (argument : Argument) → default_fault rows (built_rule argument) ≡ []
no_default rows (name, flag) = go flag (has_row name rows)
  where
    go : (flag b : Bool) → (if b || is_empty (built_rule (name, flag)).defaults then []
        else given_default_fault (built_rule (name, flag)) (built_rule (name, flag)).defaults) ≡ []
    go true true = refl
    go true false = refl
    go false true = refl
    go false false = refl

no_defaults : (rows : List Row) (arguments : List Argument) → defaults_fault rows (map built_rule arguments) ≡ []
unfolding defaults_fault
no_defaults rows [] = refl
no_defaults rows (argument ∷ arguments) =
    ap (λ kinds. or_else kinds (defaults_fault (with_default rows (built_rule argument)) (map built_rule arguments)))
    (no_default rows argument)
    ∙ no_defaults (with_default rows (built_rule argument)) arguments

-- and they are nothing that the words give
default_given : (name flag_name : Text) (rows : List Row) → has_row flag_name rows ≡ false
    → given_in (at_row flag_name (more_values DefaultValue (codes "false" ∷ [])) (default_row flag_name ∷ []) rows) name
    ≡ given_in rows name
default_given name flag_name [] e = go (bytes_eq flag_name name)
  where
    go : (b : Bool) → option_and_then row_given (if b then Some (default_row flag_name) else None) ≡ None
    go true = refl
    go false = refl
default_given name flag_name (row ∷ rows) e = go (bytes_eq row.id flag_name) e (default_given name flag_name rows)
  where
    past : (b : Bool) (after : List Row) → given_in after name ≡ given_in rows name
        → option_and_then row_given (if b then Some row else find (λ r. bytes_eq r.id name) after)
        ≡ option_and_then row_given (if b then Some row else find (λ r. bytes_eq r.id name) rows)
    past true after rec = refl
    past false after rec = rec

    go : (b : Bool) → (b || has_row flag_name rows) ≡ false
        → (has_row flag_name rows ≡ false
        → given_in (at_row flag_name (more_values DefaultValue (codes "false" ∷ [])) (default_row flag_name ∷ []) rows) name
        ≡ given_in rows name)
        → given_in (if b then more_values DefaultValue (codes "false" ∷ []) row ++ rows
        else row ∷ at_row flag_name (more_values DefaultValue (codes "false" ∷ [])) (default_row flag_name ∷ []) rows) name
        ≡ given_in (row ∷ rows) name
    go true e rec = absurd (true≢false e)
    go false e rec = past (bytes_eq row.id name) _ (rec e)

default_stays : (name : Text) (rows : List Row) (argument : Argument)
    → given_in (with_default rows (built_rule argument)) name ≡ given_in rows name
default_stays name rows (flag_name, flag) = go flag (has_row flag_name rows) refl
  where
    go : (flag b : Bool) → has_row flag_name rows ≡ b
        → given_in (if b then rows else default_rows flag_name (reading_by (built_rule (flag_name, flag)))
        (built_rule (flag_name, flag)).defaults rows) name ≡ given_in rows name
    go flag true e = refl
    go true false e = default_given name flag_name rows e
    go false false e = refl

defaults_stay : (name : Text) (rows : List Row) (arguments : List Argument)
    → given_in (fold with_default rows (map built_rule arguments)) name ≡ given_in rows name
defaults_stay name rows [] = refl
defaults_stay name rows (argument ∷ arguments) = defaults_stay name (with_default rows (built_rule argument)) arguments
    ∙ default_stays name rows argument

-- what the rows of uses give is the value in the uses
given_in-uses : (name : Text) (uses : List Use) → given_in (map row_of_use uses) name ≡ value_in uses name
given_in-uses name [] = refl
given_in-uses name (given ∷ uses) = go (bytes_eq given.0 name) (given_in-uses name uses)
  where
    go : (b : Bool) → given_in (map row_of_use uses) name ≡ value_in uses name
        → option_and_then row_given (if b then Some (row_of_use given)
        else find (λ r. bytes_eq r.id name) (map row_of_use uses))
        ≡ option_map (λ g. g.1) (if b then Some given else find (λ g. bytes_eq g.0 name) uses)
    go true e = refl
    go false e = e

abbrev walk_of : Waiting → Held → Walk
walk_of waiting h = record { held = h; waiting = waiting; position = 1; is_trailing = false; stopped = None }

module _ (first : Text) (arguments : List Argument) where
  abbrev rules : List Rule
  rules = map built_rule arguments

  abbrev shape : Shape
  shape = built_shape first rules

  -- what fails behind the words and behind what waits
  abbrev last_fault : Held → Kinds
  last_fault h = or_else (defaults_fault (settled rules h).rows rules) (check_fault shape (finished rules h) false)

  abbrev end_fault : Held → Kinds
  end_fault h = or_else (settle_fault rules false h) (last_fault h)

  abbrev pub fault_from : Walk → List Text → Kinds
  fault_from w words = or_else (walk_fault shape [] w words) (end_fault (fold (walked rules []) w words).held)

  abbrev pub rows_from : Walk → List Text → List Row
  rows_from w words = finished rules (fold (walked rules []) w words).held

  -- what a walk from here comes to, where the words make these uses, or none
  abbrev pub Outcome : Option (List Use) → Walk → List Text → Type 0
  Outcome (Some uses) w words = (fault_from w words ≡ [])
      × ((name : Text) → given_in (rows_from w words) name ≡ value_in uses name)
  Outcome None w words = fails (fault_from w words) ≡ true

  check_none : (rows : List Row) → check_fault shape rows false ≡ []
  check_none rows = ap (λ b. check_kinds false false b) (none_of (λ a. a.required && not (is_given a.id rows))
      (λ name flag. refl) arguments)

  end_none : (h : Held) → settle_fault rules false h ≡ [] → end_fault h ≡ []
  end_none h e = ap (λ kinds. or_else kinds (or_else (defaults_fault (settled rules h).rows rules)
      (check_fault shape (finished rules h) false))) e
      ∙ ap (λ kinds. or_else kinds (check_fault shape (finished rules h) false)) (no_defaults _ arguments) ∙ check_none _

  -- ---- one word, by what it looks like

  abbrev met_at : Waiting → Text → Held → Bool → Parts → Held × Step
  met_at waiting word h b parts = if b then (h, trailing 1) else long_or_other rules waiting word parts h

  abbrev turn_at : Waiting → Text → Held → Bool → Parts → Kinds
  turn_at waiting word h b parts = or_else (if b then [] else flag_word_fault rules false parts word h)
      (step_fault shape 1 (met_at waiting word h b parts).0 (met_at waiting word h b parts).1)

  abbrev walk_at : Waiting → Text → Held → Bool → Parts → Walk
  walk_at waiting word h b parts =
      after_step rules word (walk_of waiting h) (met_at waiting word h b parts).0 (met_at waiting word h b parts).1

  fault_step : (waiting : Waiting) (h : Held) (word : Text) (rest : List Text)
      → fault_from (walk_of waiting h) (word ∷ rest)
      ≡ or_else (turn_at waiting word h (bytes_eq word hyphens) (long_of word))
      (fault_from (walk_at waiting word h (bytes_eq word hyphens) (long_of word)) rest)
  unfolding walk_fault walked
  fault_step idle h word rest = or_else-assoc (turn_fault shape [] (walk_of idle h) word)
      (walk_fault shape [] (walked rules [] (walk_of idle h) word) rest)
      (end_fault (fold (walked rules []) (walk_of idle h) (word ∷ rest)).held)
  fault_step (option id) h word rest = or_else-assoc (turn_fault shape [] (walk_of (option id) h) word)
      (walk_fault shape [] (walked rules [] (walk_of (option id) h) word) rest)
      (end_fault (fold (walked rules []) (walk_of (option id) h) (word ∷ rest)).held)
  fault_step positional h word rest = or_else-assoc (turn_fault shape [] (walk_of positional h) word)
      (walk_fault shape [] (walked rules [] (walk_of positional h) word) rest)
      (end_fault (fold (walked rules []) (walk_of positional h) (word ∷ rest)).held)

  rows_step : (waiting : Waiting) (h : Held) (word : Text) (rest : List Text)
      → rows_from (walk_of waiting h) (word ∷ rest)
      ≡ rows_from (walk_at waiting word h (bytes_eq word hyphens) (long_of word)) rest
  unfolding walked
  rows_step idle h word rest = refl
  rows_step (option id) h word rest = refl
  rows_step positional h word rest = refl

  -- the word looks like this
  record Looks (word : Text) (parts : Parts) : Type 0 where
    pub hyphens_no : bytes_eq word hyphens ≡ false
    pub parts_are : long_of word ≡ parts

  turn_fails : (waiting : Waiting) (h : Held) (word : Text) (rest : List Text) (parts : Parts) → Looks word parts
      → fails (turn_at waiting word h false parts) ≡ true → fails (fault_from (walk_of waiting h) (word ∷ rest)) ≡ true
  turn_fails waiting h word rest parts looks e = ap fails (fault_step waiting h word rest)
      ∙ fails-first (turn_at waiting word h (bytes_eq word hyphens) (long_of word))
      (fault_from (walk_at waiting word h (bytes_eq word hyphens) (long_of word)) rest)
      (ap₂ (λ b p. fails (turn_at waiting word h b p)) looks.hyphens_no looks.parts_are ∙ e)

  turn_passes : (waiting : Waiting) (h : Held) (word : Text) (rest : List Text) (parts : Parts) → Looks word parts
      → turn_at waiting word h false parts ≡ [] → (o : Option (List Use))
      → Outcome o (walk_at waiting word h false parts) rest
      → Outcome o (walk_of waiting h) (word ∷ rest)
  turn_passes waiting h word rest parts looks e o outcome = go o outcome
    where
      fault_is : fault_from (walk_of waiting h) (word ∷ rest) ≡ fault_from (walk_at waiting word h false parts) rest
      fault_is = fault_step waiting h word rest
          ∙ ap₂ (λ b p. or_else (turn_at waiting word h b p)
          (fault_from (walk_at waiting word h b p) rest)) looks.hyphens_no looks.parts_are
          ∙ ap (λ kinds. or_else kinds (fault_from (walk_at waiting word h false parts) rest)) e

      rows_are : rows_from (walk_of waiting h) (word ∷ rest) ≡ rows_from (walk_at waiting word h false parts) rest
      rows_are = rows_step waiting h word rest
          ∙ ap₂ (λ b p. rows_from (walk_at waiting word h b p) rest) looks.hyphens_no looks.parts_are

      go : (o : Option (List Use)) → Outcome o (walk_at waiting word h false parts) rest
          → Outcome o (walk_of waiting h) (word ∷ rest)
      go None out = ap fails fault_is ∙ out
      go (Some uses) out = (fault_is ∙ out.0, λ name. ap (λ rows. given_in rows name) rows_are ∙ out.1 name)

  -- ---- a word that can be a value

  value_looks : (word : Text) → is_value word ≡ true → Looks word None
  value_looks word e = record { hyphens_no = value_not_hyphens word e; parts_are = value_long word e }

  stray_fails : (h : Held) (word : Text) → is_value word ≡ true → fails (turn_at idle word h false None) ≡ true
  stray_fails h word e =
      ap (λ flags. fails (or_else (option_map_or (λ f. bundle_fault rules false f h) flags [])
      (step_fault shape 1 (short_or_plain rules idle word flags h).0 (short_or_plain rules idle word flags h).1)))
      (value_short word e)
      ∙ ap (λ a. fails (option_map_or (λ r. positional_fault rules false r h) a (stray_fault shape)))
      (arg_by_index-none 1 arguments)

  abbrev option_turn : Text → Text → Held → Option Text → Kinds
  option_turn name word h flags = or_else (option_map_or (λ f. bundle_fault rules false f h) flags [])
      (step_fault shape 1 (short_or_plain rules (option name) word flags h).0
      (short_or_plain rules (option name) word flags h).1)

  value_turn : (h : Held) (name word : Text) → is_value word ≡ true → turn_at (option name) word h false None ≡ []
  value_turn h name word e = ap (option_turn name word h) (value_short word e)

  abbrev waiting_held : List Row → Text → List Text → ℕ → Held
  waiting_held rows name values skip = record { rows = rows; pending = Some (name, values); skip = skip }

  abbrev after_value : Text → Text → Held → Option Rule → Walk
  after_value name word h a = walk_of (option_word a name word h).1 (option_word a name word h).0

  value_walk : (rows : List Row) (skip : ℕ) (name word : Text) → is_flag_of arguments name ≡ Some false → is_value word ≡ true
      → walk_at (option name) word (waiting_held rows name [] skip) false None
      ≡ walk_of idle (waiting_held rows name (word ∷ []) skip)
  value_walk rows skip name word known e =
      let h = waiting_held rows name [] skip in
      ap (λ flags. after_step rules word (walk_of (option name) h) (short_or_plain rules (option name) word flags h).0
      (short_or_plain rules (option name) word flags h).1) (value_short word e)
      ∙ ap (after_value name word h) (arg_by_id-is name arguments ∙ ap (λ f. found f name) known)
      ∙ ap (λ b. walk_of (if nat_lt (if b then 1 else 0) 1 then option name else idle) (waiting_held rows name
      (word ∷ []) skip)) (same_text name)

  -- ---- a word that begins with two hyphens

  abbrev long_turn : Waiting → Text → Held → Option Text → Option Rule → Kinds
  long_turn waiting word h v a = or_else (long_fault rules false a v h)
      (step_fault shape 1 (after_flag rules waiting word (long_met rules a v h).0 (long_met rules a v h).1).0
      (after_flag rules waiting word (long_met rules a v h).0 (long_met rules a v h).1).1)

  abbrev long_walk : Waiting → Text → Held → Option Text → Option Rule → Walk
  long_walk waiting word h v a = after_step rules word (walk_of waiting h)
      (after_flag rules waiting word (long_met rules a v h).0 (long_met rules a v h).1).0
      (after_flag rules waiting word (long_met rules a v h).0 (long_met rules a v h).1).1

  rule_at : (f : Option Bool) (name : Text) → is_flag_of arguments name ≡ f → arg_by_long rules name ≡ found f name
  rule_at f name e = arg_by_long-is name arguments ∙ ap (λ g. found g name) e

  long_turn_is : (waiting : Waiting) (word : Text) (h : Held) (name : Text) (v : Option Text) (f : Option Bool)
      → is_flag_of arguments name ≡ f
      → turn_at waiting word h false (Some (name, v)) ≡ long_turn waiting word h v (found f name)
  long_turn_is waiting word h name v f e = ap (long_turn waiting word h v) (rule_at f name e)

  long_walk_is : (waiting : Waiting) (word : Text) (h : Held) (name : Text) (v : Option Text) (f : Option Bool)
      → is_flag_of arguments name ≡ f
      → walk_at waiting word h false (Some (name, v)) ≡ long_walk waiting word h v (found f name)
  long_walk_is waiting word h name v f e = ap (long_walk waiting word h v) (rule_at f name e)

  -- where what waits fails, so does each word that begins with two hyphens
  long_fails : (waiting : Waiting) (word : Text) (h : Held) (name : Text) (v : Option Text)
      → fails (settle_fault rules false h) ≡ true
      → fails (turn_at waiting word h false (Some (name, v))) ≡ true
  long_fails waiting word h name v e = go (is_flag_of arguments name) refl v
    where
      go : (f : Option Bool) → is_flag_of arguments name ≡ f → (v : Option Text)
          → fails (turn_at waiting word h false (Some (name, v))) ≡ true
      go None is v = ap fails (long_turn_is waiting word h name v None is)
      go (Some true) is (Some value) = ap fails (long_turn_is waiting word h name (Some value) (Some true) is)
      go (Some true) is None = ap fails (long_turn_is waiting word h name None (Some true) is)
          ∙ fails-first (long_fault rules false (Some (built_rule (name, true))) None h) []
          (fails-first (settle_fault rules false h) (use_fault false (built_rule (name, true)) []
          (settled rules h).rows) e)
      go (Some false) is (Some value) = ap fails (long_turn_is waiting word h name (Some value) (Some false) is)
          ∙ fails-first (long_fault rules false (Some (built_rule (name, false))) (Some value) h) []
          (fails-first (settle_fault rules false h) (use_fault false (built_rule (name, false)) (value ∷ [])
          (settled rules h).rows) e)
      go (Some false) is None = ap fails (long_turn_is waiting word h name None (Some false) is)
          ∙ fails-first (settle_fault rules false h) [] e

  settle_is : (rows : List Row) (name : Text) (values : List Text) (skip : ℕ) → is_flag_of arguments name ≡ Some false
      → settle_fault rules false (waiting_held rows name values skip) ≡ use_fault false (built_rule (name, false)) values rows
  settle_is rows name values skip known =
      ap (λ a. option_map_or (λ r. use_fault false r values rows) a []) (arg_by_id-is name arguments
      ∙ ap (λ f. found f name) known)

  settled_is : (rows : List Row) (name : Text) (values : List Text) (skip : ℕ) → is_flag_of arguments name ≡ Some false
      → (settled rules (waiting_held rows name values skip)).rows ≡ used (built_rule (name, false)) values rows
  settled_is rows name values skip known = ap (λ a. used_by_id a values rows) (arg_by_id-is name arguments
      ∙ ap (λ f. found f name) known)

  -- ---- where what waits fails, the whole walk does

  bad_word : (h : Held) (word : Text) (rest : List Text) → fails (settle_fault rules false h) ≡ true → (parts : Parts)
      → long_of word ≡ parts
      → is_readable_as parts word ≡ true → fails (fault_from (walk_of idle h) (word ∷ rest)) ≡ true
  bad_word h word rest e None is readable = turn_fails idle h word rest None (value_looks word readable)
      (stray_fails h word readable)
  bad_word h word rest e (Some p) is readable = turn_fails idle h word rest (Some p)
      (record { hyphens_no = long_not_hyphens word p is; parts_are = is }) (long_fails idle word h p.0 p.1 e)

  walk_fails : (h : Held) (words : List Text) → All (λ word. is_readable word ≡ true) words
      → fails (settle_fault rules false h) ≡ true
      → fails (fault_from (walk_of idle h) words) ≡ true
  unfolding walk_fault
  walk_fails h [] readable e = fails-first (settle_fault rules false h) (last_fault h) e
  walk_fails h (word ∷ rest) readable e = bad_word h word rest e (long_of word) refl (All-get_or (λ w. is_readable w
      ≡ true) (word ∷ rest) 0 word (omega arith) readable)

  -- ---- the walk finds the uses

  -- after these uses, where this option waits for its value
  abbrev pub At : Option Text → List Use → Held → Type 0
  At None seen h = (settle_fault rules false h ≡ []) × ((settled rules h).rows ≡ map row_of_use seen)
  At (Some name) seen h = (is_flag_of arguments name ≡ Some false) × (skip : ℕ)
      × (h ≡ waiting_held (map row_of_use seen) name [] skip)

  abbrev walk_for : Option Text → Held → Walk
  walk_for None h = walk_of idle h
  walk_for (Some name) h = walk_of (option name) h

  abbrev pub Walks : List Text → Type 0
  Walks words = (waiting : Option Text) (seen : List Use) (h : Held) → At waiting seen h
      → Outcome (uses_from arguments words seen waiting) (walk_for waiting h) words

  -- a word that the waiting option takes as its value
  takes_value : (word : Text) (rest : List Text) → All (λ word. is_readable word ≡ true) rest → Walks rest
      → is_value word ≡ true
      → (seen : List Use) (name : Text) (skip : ℕ) → is_flag_of arguments name ≡ Some false → (b : Bool) → has_use seen name ≡ b
      → Outcome (if not b then uses_from arguments rest (seen ++ (name, word) ∷ []) None else None)
      (walk_of (option name) (waiting_held (map row_of_use seen) name [] skip)) (word ∷ rest)
  takes_value word rest readable rec value seen name skip known b is =
      turn_passes (option name) _ word rest None (value_looks word value) (value_turn _ name word value) _
      (subst (λ w. Outcome (if not b then uses_from arguments rest (seen ++ (name, word) ∷ []) None else None) w rest)
      (sym (value_walk (map row_of_use seen) skip name word known value)) (go b is))
    where
      held : Held
      held = waiting_held (map row_of_use seen) name (word ∷ []) skip

      go : (b : Bool) → has_use seen name ≡ b
          → Outcome (if not b then uses_from arguments rest (seen ++ (name, word) ∷ []) None else None)
          (walk_of idle (waiting_held (map row_of_use seen) name (word ∷ []) skip)) rest
      go true is = walk_fails _ rest readable
          (ap fails (settle_is _ name (word ∷ []) skip known) ∙ use_fault-again false name word _ (has_row-uses name seen
          ∙ is))
      go false is = rec None (seen ++ (name, word) ∷ []) _ (
        settle_is _ name (word ∷ []) skip known ∙ use_fault-new false name word _ (has_row-uses name seen ∙ is),
        settled_is _ name (word ∷ []) skip known ∙ used-new false name word seen tt is,
      )

  -- an option with its value in the same word, or a flag
  abbrev attached : Bool → Text → Option Text
  attached true value = None
  attached false value = Some value

  takes_use : (flag : Bool) (word : Text) (rest : List Text) → Walks rest → (name value : Text) → IsSaid flag value
      → long_of word ≡ Some (name, attached flag value)
      → (seen : List Use) (h : Held) → At None seen h → is_flag_of arguments name ≡ Some flag → (b : Bool)
      → has_use seen name ≡ b
      → Outcome (if not b then uses_from arguments rest (seen ++ (name, value) ∷ []) None else None) (walk_of idle h)
      (word ∷ rest)
  takes_use flag word rest rec name value said_is is seen h at known b again = go b again
    where
      parts : Text × Option Text
      parts = (name, attached flag value)

      looks : Looks word (Some parts)
      looks = record { hyphens_no = long_not_hyphens word parts is; parts_are = is }

      kinds_of : List Row → Kinds
      kinds_of rows = use_fault false (built_rule (name, flag)) (said flag value) rows

      next : Held
      next = record h { rows = used (built_rule (name, flag)) (said flag value) (settled rules h).rows; pending = None }

      turn_by : (flag : Bool) → long_turn idle word h (attached flag value) (found (Some flag) name)
          ≡ or_else (use_fault false (built_rule (name, flag)) (said flag value) (map row_of_use seen)) []
      turn_by true =
          ap₂ (λ kinds rows. or_else (or_else kinds (use_fault false (built_rule (name, true)) [] rows)) []) at.0 at.1
      turn_by false =
          ap₂ (λ kinds rows. or_else (or_else kinds (use_fault false (built_rule (name, false)) (value ∷ []) rows)) [])
          at.0 at.1

      turn_is : turn_at idle word h false (Some parts) ≡ or_else (kinds_of (map row_of_use seen)) []
      turn_is = long_turn_is idle word h name (attached flag value) (Some flag) known ∙ turn_by flag

      walk_by : (flag : Bool) → long_walk idle word h (attached flag value) (found (Some flag) name) ≡ walk_of idle
          (record h { rows = used (built_rule (name, flag)) (said flag value) (settled rules h).rows; pending = None })
      walk_by true = refl
      walk_by false = refl

      go : (b : Bool) → has_use seen name ≡ b
          → Outcome (if not b then uses_from arguments rest (seen ++ (name, value) ∷ []) None else None)
          (walk_of idle h) (word ∷ rest)
      go true again = turn_fails idle h word rest _ looks
          (ap fails turn_is ∙ fails-first (kinds_of (map row_of_use seen)) []
          (use_fault-again flag name value _ (has_row-uses name seen ∙ again)))
      go false again = turn_passes idle h word rest _ looks
          (turn_is ∙ ap (λ kinds. or_else kinds []) (use_fault-new flag name value _ (has_row-uses name seen ∙ again))) _
          (subst (λ w. Outcome (uses_from arguments rest (seen ++ (name, value) ∷ []) None) w rest)
          (sym (long_walk_is idle word h name (attached flag value) (Some flag) known ∙ walk_by flag))
          (rec None (seen ++ (name, value) ∷ []) next (
            refl,
            ap (used (built_rule (name, flag)) (said flag value)) at.1
                ∙ used-new flag name value seen said_is again,
          )))

  waiting_word : (word : Text) (rest : List Text) → All (λ word. is_readable word ≡ true) rest → Walks rest
      → (parts : Parts) → long_of word ≡ parts
      → is_readable_as parts word ≡ true → (seen : List Use) (name : Text) (skip : ℕ) → is_flag_of arguments name ≡ Some false
      → Outcome (if is_value word && not (has_use seen name) then uses_from arguments rest
      (seen ++ (name, word) ∷ []) None else None)
      (walk_of (option name) (waiting_held (map row_of_use seen) name [] skip)) (word ∷ rest)
  waiting_word word rest readable rec None is fine seen name skip known =
      subst (λ b. Outcome (if b && not (has_use seen name) then uses_from arguments rest
      (seen ++ (name, word) ∷ []) None else None)
      (walk_of (option name) (waiting_held (map row_of_use seen) name [] skip)) (word ∷ rest)) (sym fine)
      (takes_value word rest readable rec fine seen name skip known (has_use seen name) refl)
  waiting_word word rest readable rec (Some p) is fine seen name skip known =
      subst (λ b. Outcome (if b && not (has_use seen name) then uses_from arguments rest
      (seen ++ (name, word) ∷ []) None else None)
      (walk_of (option name) (waiting_held (map row_of_use seen) name [] skip)) (word ∷ rest))
      (sym (long_no_value word p is))
      (turn_fails (option name) _ word rest (Some p) (record {
        hyphens_no = long_not_hyphens word p is;
        parts_are =
            is;
      })
      (long_fails (option name) word _ p.0 p.1 (ap fails (settle_is _ name [] skip known))))

  -- `--name` of a word by itself
  opens_bare : (word : Text) (rest : List Text) → Walks rest → (name : Text) → long_of word ≡ Some (name, None)
      → (seen : List Use) (h : Held) → At None seen h → (f : Option Bool) → is_flag_of arguments name ≡ f
      → Outcome (with_form f name None seen (uses_from arguments rest)) (walk_of idle h) (word ∷ rest)
  opens_bare word rest rec name is seen h at None known = turn_fails idle h word rest (Some (name, None))
      (record { hyphens_no = long_not_hyphens word (name, None) is; parts_are = is })
      (ap fails (long_turn_is idle word h name None None known))
  opens_bare word rest rec name is seen h at (Some true) known =
      takes_use true word rest rec name flag_value refl is seen h at known (has_use seen name) refl
  opens_bare word rest rec name is seen h at (Some false) known = turn_passes idle h word rest (Some (name, None))
      (record { hyphens_no = long_not_hyphens word (name, None) is; parts_are = is })
      (long_turn_is idle word h name None (Some false) known ∙ ap (λ kinds. or_else kinds []) at.0) _
      (subst (λ w. Outcome (uses_from arguments rest seen (Some name)) w rest)
      (sym (long_walk_is idle word h name None (Some false) known))
      (rec (Some name) seen _ (known, h.skip, ap (λ rows. waiting_held rows name [] h.skip) at.1)))

  -- `--name=value`
  opens_use : (word : Text) (rest : List Text) → Walks rest → (name value : Text)
      → long_of word ≡ Some (name, Some value) → is_value value ≡ true
      → (seen : List Use) (h : Held) → At None seen h → (f : Option Bool) → is_flag_of arguments name ≡ f
      → Outcome (with_form f name (Some value) seen (uses_from arguments rest)) (walk_of idle h) (word ∷ rest)
  opens_use word rest rec name value is fine seen h at None known =
      turn_fails idle h word rest (Some (name, Some value))
      (record { hyphens_no = long_not_hyphens word (name, Some value) is; parts_are = is })
      (ap fails (long_turn_is idle word h name (Some value) None known))
  opens_use word rest rec name value is fine seen h at (Some true) known =
      turn_fails idle h word rest (Some (name, Some value))
      (record { hyphens_no = long_not_hyphens word (name, Some value) is; parts_are = is })
      (ap fails (long_turn_is idle word h name (Some value) (Some true) known))
  opens_use word rest rec name value is fine seen h at (Some false) known =
      subst (λ b. Outcome (if b && not (has_use seen name) then uses_from arguments rest
      (seen ++ (name, value) ∷ []) None else None) (walk_of idle h) (word ∷ rest))
      (sym fine) (takes_use false word rest rec name value tt is seen h at known (has_use seen name) refl)

  idle_word : (word : Text) (rest : List Text) → Walks rest → (parts : Parts) → long_of word ≡ parts
      → is_readable_as parts word ≡ true
      → (seen : List Use) (h : Held) → At None seen h
      → Outcome (with_option arguments parts seen (uses_from arguments rest)) (walk_of idle h) (word ∷ rest)
  idle_word word rest rec None is fine seen h at = turn_fails idle h word rest None (value_looks word fine)
      (stray_fails h word fine)
  idle_word word rest rec (Some (name, None)) is fine seen h at =
      opens_bare word rest rec name is seen h at (is_flag_of arguments name) refl
  idle_word word rest rec (Some (name, Some value)) is fine seen h at =
      opens_use word rest rec name value is fine seen h at (is_flag_of arguments name) refl

  -- the walk over readable words finds the uses that they make, and fails where they make none
  pub walk_finds : (words : List Text) → All (λ word. is_readable word ≡ true) words → Walks words
  unfolding uses_from walk_fault
  walk_finds [] readable None seen h at = (
    end_none h at.0,
    λ name. defaults_stay name _ arguments ∙ ap (λ rows. given_in rows name) at.1 ∙ given_in-uses name seen,
  )
  walk_finds [] readable (Some name) seen h at =
      fails-first (settle_fault rules false h) (last_fault h) (ap (λ k. fails (settle_fault rules false k)) at.2
      ∙ ap fails (settle_is _ name [] at.1 at.0))
  walk_finds (word ∷ rest) readable None seen h at =
      idle_word word rest (walk_finds rest (All-drop (λ w. is_readable w ≡ true) 1 (word ∷ rest) readable))
      (long_of word) refl
      (All-get_or (λ w. is_readable w ≡ true) (word ∷ rest) 0 word (omega arith) readable) seen h at
  walk_finds (word ∷ rest) readable (Some name) seen h at =
      subst (λ k. Outcome (uses_from arguments (word ∷ rest) seen (Some name)) (walk_of (option name) k) (word ∷ rest))
      (sym at.2)
      (waiting_word word rest (All-drop (λ w. is_readable w ≡ true) 1 (word ∷ rest) readable)
      (walk_finds rest (All-drop (λ w. is_readable w ≡ true) 1 (word ∷ rest) readable)) (long_of word) refl
      (All-get_or (λ w. is_readable w ≡ true) (word ∷ rest) 0 word (omega arith) readable) seen name at.1 at.0)

-- ---- the matches of a command with these options

no_subcommand : (first : Text) (every : List Rule) (stop : Option (Text × List Text))
    → is_some (entered (app_of_rules first every) stop) ≡ false
no_subcommand first every None = refl
no_subcommand first every (Some p) = refl

no_entered_fault : (first : Text) (every : List Rule) (stop : Option (Text × List Text))
    → entered_fault (app_of_rules first every) stop ≡ []
no_entered_fault first every None = refl
no_entered_fault first every (Some p) = refl

module _ (first : Text) (arguments : List Argument) (words : List Text) where
  abbrev start : Walk
  start = walk_of idle nothing_held

  fault_is : fault_of (command_app first arguments) words ≡ fault_from first arguments start (drop 1 words)
  fault_is = ap (λ a. built_fault a nothing_held (drop 1 words)) (built-command_app first arguments)
      ∙ ap₂ (λ has below. level_fault (built_shape first (map built_rule arguments)) [] nothing_held
      (drop 1 words) has below)
      (no_subcommand first (map built_rule arguments) _) (no_entered_fault first (map built_rule arguments) _)

  rows_are : matches_of (command_app first arguments) words ≡ rows_from first arguments start (drop 1 words)
  rows_are = ap (λ a. rows_after a.top.rules (names_of a) (drop 1 words)) (built-command_app first arguments)

  outcome : All (λ word. is_readable word ≡ true) (drop 1 words)
      → Outcome first arguments (uses_of arguments (drop 1 words)) start (drop 1 words)
  outcome readable = walk_finds first arguments (drop 1 words) readable None [] nothing_held (refl, refl)

  -- where a parse succeeds, the words make uses, and the matches are theirs
  pub parsed_uses : All (λ word. is_readable word ≡ true) (drop 1 words) → fault_of (command_app first arguments) words ≡ []
      → (rows : List Row)
      → rows ≡ matches_of (command_app first arguments) words
      → (uses : List Use) × (uses_of arguments (drop 1 words) ≡ Some uses)
      × ((name : Text) → given_in rows name ≡ value_in uses name)
  parsed_uses readable none rows is = go (uses_of arguments (drop 1 words)) refl (outcome readable)
    where
      go : (o : Option (List Use)) → uses_of arguments (drop 1 words) ≡ o → Outcome first arguments o start (drop 1 words)
          → (uses : List Use) × (uses_of arguments (drop 1 words) ≡ Some uses)
          × ((name : Text) → given_in rows name ≡ value_in uses name)
      go None found out = absurd (true≢false (sym out ∙ ap fails (sym fault_is ∙ none)))
      go (Some uses) found out = (uses, found, λ name. ap (λ all. given_in all name) (is ∙ rows_are) ∙ out.1 name)

  -- where a parse fails and not for want of memory, the words make none
  pub unparsed_uses : All (λ word. is_readable word ≡ true) (drop 1 words) → (error : ErrorKind)
      → IsAmong error (fault_of (command_app first arguments) words)
      → uses_of arguments (drop 1 words) ≡ None
  unparsed_uses readable error among = go (uses_of arguments (drop 1 words)) refl (outcome readable)
    where
      go : (o : Option (List Use)) → uses_of arguments (drop 1 words) ≡ o → Outcome first arguments o start (drop 1 words)
          → uses_of arguments (drop 1 words) ≡ None
      go None found out = found
      go (Some uses) found out = absurd (subst (IsAmong error) (fault_is ∙ out.0) among)

-- the fault where clap fails by an error of this kind
pub fault_of_error : (error : ErrorKind) (P : Type 0) → (error ≡ kind.OutOfMemory) ⊎ P
    → MatchBool (is_memory (parse_fault error)) ⊤ (P × (parse_fault error ≡ fault.Words))
fault_of_error error P (inl is) = subst (λ k. MatchBool (is_memory (parse_fault k)) ⊤ (P
    × (parse_fault k ≡ fault.Words))) (sym is) tt
fault_of_error kind.OutOfMemory P (inr p) = tt
fault_of_error _ P (inr p) = (p, refl)
