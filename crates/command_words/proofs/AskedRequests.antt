-- `request_of` is what words ask for, and the one answer that they may have.
use Rattle.std.proofs.Common.{◌≡◌, ◌∙◌, ◌==◌, ℕ, Bool, true, false, if◌then◌else◌, List, [], ◌∷◌, find, map, Option}
use Rattle.std.proofs.Common.{Some, None, is_some, is_none, Result, Ok, Err, ap, sym, refl, subst, inl, inr, option_map}
use Rattle.std.proofs.Common.{length, arith, MatchBool, String, Global, string_bytes}
use Rattle.std.specs.List.{AllByRecursion, count_by, list_all}
use Rattle.std.specs.Option.{option_map_or, option_or}
use Rattle.std.specs.Prelude.{option_and_then, ⊤}
use Rattle.std.proofs.lemmas.Bool.{true≢false}
use Rattle.std.proofs.lemmas.Option.{none-some}
use Rattle.reader_answers.specs.Answers.{or_fault, ◌>>=◌}
use Rattle.clap.specs.Walk.{rows_of}
use Rattle.clap.specs.declared.parser.matches.Found.{Found}
use Rattle.mass_scaling.specs.declared.tolerances.Tolerance.{Tolerance}
use Rattle.mass_scaling.specs.declared.tolerances.Tolerance.TheVariants as tolerance
use Rattle.command_words.specs.ClapCommands.{given_in}
use Rattle.command_words.specs.Options.{Bytes, command_of, default_text, groups, kind, name, number_within, optional_groups, options, required_options, is_flag}
use Rattle.command_words.specs.Requests.{Asks, IsReading, IsRequestOf, Values, ValuesAsk, first_outside, go_together}
use Rattle.command_words.specs.Requests.{has_companion, has_one, has_one_at_most, has_value_outside, is_outside}
use Rattle.command_words.specs.Requests.{number_of, text_of}
use Rattle.command_words.specs.Uses.{Argument, Use, arguments, value_of, value_in}
use Rattle.command_words.specs.WordReading.{answer_by, decompose_request, envelope_request, fields_request, is_memory}
use Rattle.command_words.specs.WordReading.{is_readable, matched, request_of, uses_of, values_request, check_request}
use Rattle.command_words.specs.WordReading.{rank_request, generate_request}
use Rattle.command_words.specs.declared.commands.CommandName.{CommandName}
use Rattle.command_words.specs.declared.commands.CommandName.TheVariants as command
use Rattle.command_words.specs.declared.fault.WordsFault.{WordsFault}
use Rattle.command_words.specs.declared.fault.WordsFault.TheVariants.{Words, Value, Memory}
use Rattle.command_words.specs.declared.options.OptionName.{OptionName}
use Rattle.command_words.specs.declared.options.TheConstants.{DEFAULT_TURN}
use Rattle.command_words.specs.declared.options.OptionName.TheVariants as option
use Rattle.command_words.specs.declared.request.Request.{Request}
use Rattle.command_words.specs.declared.request.Request.TheVariants.{Decompose, Envelope, Rank, Check, Generate}
use Rattle.command_words.proofs.WordUses.{and_parts, is_plain, readable_from, some-same, uses_of-complete, uses_of-sound}

-- ---- tests of each element

-- each passes
pub all_pass : {X : Type 0} (test : X → Bool) (xs : List X) → list_all test xs ≡ true
    → AllByRecursion (λ x. test x ≡ true) xs
all_pass test [] e = tt
all_pass test (x ∷ xs) e = let parts = and_parts (test x) (list_all test xs) e in (parts.0, all_pass test xs parts.1)

-- none passes
pub none_passes : {X : Type 0} (test : X → Bool) (xs : List X) → find test xs ≡ None
    → AllByRecursion (λ x. test x ≡ false) xs
none_passes test [] e = tt
none_passes test (x ∷ xs) e = go (test x) refl e (none_passes test xs)
  where
    go : (b : Bool) → test x ≡ b → (if b then Some x else find test xs) ≡ None
        → (find test xs ≡ None → AllByRecursion (λ x. test x ≡ false) xs) → AllByRecursion (λ x. test x ≡ false) (x ∷ xs)
    go true is e rec = absurd (none-some x (sym e))
    go false is e rec = (is, rec e)

-- ---- the values of one command

-- what there is
pub there : {X : Type 0} (o : Option X) → is_some o ≡ true → (x : X) × (o ≡ Some x)
there None e = absurd (true≢false (sym e))
there (Some x) e = (x, refl)

module _ (values : Values) where
  -- a value of this option is a number
  abbrev pub IsNumber : OptionName → Type 0
  IsNumber option = (value : Bytes) → is_outside (kind option) value ≡ is_none (number_within (kind option) value)

  -- the number of an option is there exactly where the option is given
  pub number_given : (option : OptionName) → IsNumber option → has_value_outside values option ≡ false
      → is_some (number_of values option) ≡ is_some (values option)
  number_given option numeric inside = go (values option) inside
    where
      some : (n : Option ℕ) → is_none n ≡ false → is_some n ≡ true
      some None e = absurd (true≢false e)
      some (Some n) e = refl

      go : (given : Option Bytes) → option_map_or (is_outside (kind option)) given false ≡ false
          → is_some (option_and_then (number_within (kind option)) given) ≡ is_some given
      go None e = refl
      go (Some value) e = some (number_within (kind option) value) (sym (numeric value) ∙ e)

  -- the options go together, and none has a value outside its range
  pub record AreGood (command : CommandName) : Type 0 where
    pub together : go_together command values ≡ true
    pub inside : first_outside command values ≡ None

  pub given : (command : CommandName) → AreGood command
      → AllByRecursion (λ option. is_some (values option) ≡ true) (required_options command)
  given command good = all_pass (λ option. is_some (values option)) (required_options command)
      (and_parts _ _ good.together).0

  pub ones : (command : CommandName) → AreGood command
      → AllByRecursion (λ group. has_one values group ≡ true) (groups command)
  ones command good = all_pass (has_one values) (groups command) (and_parts _ _ (and_parts _ _ good.together).1).0

  pub companions : (command : CommandName) → AreGood command
      → AllByRecursion (λ option. has_companion values option ≡ true) (options command)
  companions command good =
      let groups_on = (and_parts (list_all (λ option. is_some (values option)) (required_options command)) _ good.together).1 in
      let optional_on = (and_parts (list_all (has_one values) (groups command)) _ groups_on).1 in
      all_pass (has_companion values) (options command)
      (and_parts (list_all (has_one_at_most values) (optional_groups command)) _ optional_on).1

  pub insides : (command : CommandName) → AreGood command
      → AllByRecursion (λ option. has_value_outside values option ≡ false) (options command)
  insides command good = none_passes (has_value_outside values) (options command) good.inside

  -- the text of a given option, and of an option with a default
  text_given : (option : OptionName) → is_some (values option) ≡ true
      → (text : Bytes) × (text_of values option ≡ Some text)
  text_given option e = let found = there (values option) e in
      (found.0, ap (λ given. option_or given (default_text option)) found.1)

  text_or : (option : OptionName) (default : Bytes) → default_text option ≡ Some default
      → (text : Bytes) × (text_of values option ≡ Some text)
  text_or option default e = go (values option)
    where
      go : (given : Option Bytes) → (text : Bytes) × (option_or given (default_text option) ≡ Some text)
      go None = (default, e)
      go (Some text) = (text, refl)

  number_or : (n : Option ℕ) (default : ℕ) → (m : ℕ) × (option_or n (Some default) ≡ Some m)
  number_or None default = (default, refl)
  number_or (Some n) default = (n, refl)

  -- of one of three, the first there is
  first_there : (a b c : Option ℕ) → (count_by (λ given. given) (is_some a ∷ is_some b ∷ is_some c ∷ []) == 1) ≡ true
      → (allowed : Tolerance) × (option_or (option_map tolerance.Ppm a) (option_or (option_map tolerance.Da b)
      (option_map tolerance.PpmCalculated c)) ≡ Some allowed)
  first_there (Some a) b c e = (tolerance.Ppm a, refl)
  first_there None (Some b) c e = (tolerance.Da b, refl)
  first_there None None (Some c) e = (tolerance.PpmCalculated c, refl)
  first_there None None None e = absurd (true≢false (sym e))

  -- a request of the values, where they are good
  decompose_values : AreGood command.Decompose → (request : Request) × IsRequestOf command.Decompose values request
  decompose_values good =
      let texts = given command.Decompose good in
      let inside = insides command.Decompose good in
      let table = text_given option.Table texts.0 in
      let alphabet = text_given option.Alphabet texts.1.0 in
      let adduct = text_or option.Adduct _ refl in
      let rules = text_or option.Rules _ refl in
      let allowed = first_there _ _ _ (rw (
        number_given option.Ppm (λ _. refl) inside.1.1.1.0,
        number_given option.Da (λ _. refl) inside.1.1.1.1.0,
        number_given option.PpmCalc (λ _. refl) inside.1.1.1.1.1.0,
      ) (ones command.Decompose good).1.0) in (
        Decompose table.0 (number_of values option.Mass) (values option.Peaks) allowed.0 alphabet.0 adduct.0 rules.0
            (number_of values option.Limit) (values option.After) (is_some (values option.Json)),
        (table.1, refl, refl, allowed.1, alphabet.1, adduct.1, rules.1, refl, refl, refl),
      )

  -- the number of a given option
  number_there : (option : OptionName) → IsNumber option → has_value_outside values option ≡ false
      → is_some (values option) ≡ true → (n : ℕ) × (number_of values option ≡ Some n)
  number_there option numeric inside e = there (number_of values option) (number_given option numeric inside ∙ e)

  envelope_values : AreGood command.Envelope → (request : Request) × IsRequestOf command.Envelope values request
  envelope_values good =
      let texts = given command.Envelope good in
      let inside = insides command.Envelope good in
      let table = text_given option.Table texts.0 in
      let adduct = text_or option.Adduct _ refl in
      let formula = text_given option.Formula texts.1.0 in
      let coverage = number_there option.Coverage (λ _. refl) inside.1.1.1.1.0 texts.1.1.0 in (
        Envelope table.0 (values option.Tracer) adduct.0 formula.0 coverage.0 (is_some (values option.Certificate))
            (is_some (values option.Json)),
        (table.1, refl, adduct.1, formula.1, coverage.1, refl, refl),
      )

  rank_values : AreGood command.Rank → (request : Request) × IsRequestOf command.Rank values request
  rank_values good =
      let texts = given command.Rank good in
      let inside = insides command.Rank good in
      let table = text_given option.Table texts.0 in
      let peaks = text_given option.Peaks texts.1.0 in
      let alphabet = text_given option.Alphabet texts.1.1.0 in
      let adduct = text_or option.Adduct _ refl in
      let rules = text_or option.Rules _ refl in
      let coverage = number_there option.Coverage (λ _. refl) inside.1.1.1.1.1.1.1.1.1.0 texts.1.1.1.0 in
      let turn = number_or (number_of values option.Turn) DEFAULT_TURN in
      let allowed = first_there _ _ _ (rw (
        number_given option.Ppm (λ _. refl) inside.1.1.1.0,
        number_given option.Da (λ _. refl) inside.1.1.1.1.0,
        number_given option.PpmCalc (λ _. refl) inside.1.1.1.1.1.0,
      ) (ones command.Rank good).0) in (
        Rank table.0 (values option.Tracer) peaks.0 allowed.0 alphabet.0 adduct.0 rules.0 coverage.0
            (number_of values option.Peak) turn.0 (number_of values option.Turns) (is_some (values option.Json)),
        (table.1, refl, peaks.1, allowed.1, alphabet.1, adduct.1, rules.1, coverage.1, refl, turn.1, refl, refl),
      )

  check_values : AreGood command.Check → (request : Request) × IsRequestOf command.Check values request
  check_values good =
      let texts = given command.Check good in
      let table = text_given option.Table texts.0 in
      let certificate = text_given option.Certificate texts.1.0 in
      (Check table.0 (values option.Tracer) certificate.0, (table.1, refl, certificate.1))

  generate_values : AreGood command.Generate → (request : Request) × IsRequestOf command.Generate values request
  generate_values good =
      let texts = given command.Generate good in
      let inside = insides command.Generate good in
      let table = text_given option.Table texts.0 in
      let number = number_there option.Number (λ _. refl) inside.1.0 texts.1.0 in
      (Generate table.0 number.0, (table.1, number.1))

  values_fields : (command : CommandName) → AreGood command → (request : Request) × IsRequestOf command values request
  values_fields command.Decompose good = decompose_values good
  values_fields command.Envelope good = envelope_values good
  values_fields command.Rank good = rank_values good
  values_fields command.Check good = check_values good
  values_fields command.Generate good = generate_values good

  -- it is the one that is computed
  fields_are : (command : CommandName) (request : Request) → IsRequestOf command values request
      → fields_request command values ≡ Ok request
  unfolding decompose_request envelope_request rank_request check_request generate_request
  fields_are command.Decompose (Decompose table mass peaks allowed alphabet adduct rules limit after json) is =
      λ i. or_fault Words (is.0 i) >>= λ table. or_fault Words (is.3 i) >>= λ allowed. or_fault Words (is.4 i)
      >>= λ alphabet. or_fault Words (is.5 i) >>= λ adduct. or_fault Words (is.6 i) >>= λ rules.
      Ok (Decompose table (sym is.1 i) (sym is.2 i) allowed alphabet adduct rules (sym is.7 i) (sym is.8 i)
      (sym is.9 i))
  fields_are command.Decompose _ is = absurd is
  fields_are command.Envelope (Envelope table tracer adduct formula coverage certificate json) is =
      λ i. or_fault Words (is.0 i) >>= λ table. or_fault Words (is.2 i) >>= λ adduct. or_fault Words (is.3 i)
      >>= λ formula. or_fault Words (option_or (is.4 i) None) >>= λ coverage.
      Ok (Envelope table (sym is.1 i) adduct formula coverage (sym is.5 i) (sym is.6 i))
  fields_are command.Envelope _ is = absurd is
  fields_are command.Rank (Rank table tracer peaks allowed alphabet adduct rules coverage peak turn turns json) is =
      λ i. or_fault Words (is.0 i) >>= λ table. or_fault Words (is.2 i) >>= λ peaks. or_fault Words (is.3 i)
      >>= λ allowed. or_fault Words (is.4 i) >>= λ alphabet. or_fault Words (is.5 i) >>= λ adduct.
      or_fault Words (is.6 i) >>= λ rules. or_fault Words (option_or (is.7 i) None) >>= λ coverage.
      or_fault Words (is.9 i) >>= λ turn.
      Ok (Rank table (sym is.1 i) peaks allowed alphabet adduct rules coverage (sym is.8 i) turn (sym is.10 i)
      (sym is.11 i))
  fields_are command.Rank _ is = absurd is
  fields_are command.Check (Check table tracer certificate) is = λ i. or_fault Words (is.0 i)
      >>= λ table. or_fault Words (is.2 i) >>= λ certificate. Ok (Check table (sym is.1 i) certificate)
  fields_are command.Check _ is = absurd is
  fields_are command.Generate (Generate table number) is = λ i. or_fault Words (is.0 i)
      >>= λ table. or_fault Words (option_or (is.1 i) None) >>= λ number. Ok (Generate table number)
  fields_are command.Generate _ is = absurd is

  answer_is : (command : CommandName) (b : Bool) (outside : Option OptionName) → go_together command values ≡ b
      → first_outside command values ≡ outside
      → values_request command values ≡ answer_by b outside (fields_request command values)
  answer_is command b outside together first = λ i. answer_by (together i) (first i) (fields_request command values)

  pub values_ask : (command : CommandName) → ValuesAsk command values (values_request command values)
  values_ask command = go (go_together command values) (first_outside command values) refl refl
    where
      go : (b : Bool) (outside : Option OptionName) → go_together command values ≡ b
          → first_outside command values ≡ outside → ValuesAsk command values (values_request command values)
      go false outside apart first =
          subst (ValuesAsk command values) (sym (answer_is command false outside apart first)) apart
      go true (Some option) together first =
          subst (ValuesAsk command values) (sym (answer_is command true (Some option) together first))
          (together, (option, first, refl))
      go true None together first =
          let request = values_fields command (record { together = together; inside = first }) in
          subst (ValuesAsk command values) (sym (answer_is command true None together first
          ∙ fields_are command request.0 request.1)) (together, first, request.1)

  pub values_only : (command : CommandName) (answer : Result Request WordsFault) → ValuesAsk command values answer
      → answer ≡ values_request command values
  values_only command (Ok request) (together, first, is) =
      sym (answer_is command true None together first ∙ fields_are command request is)
  values_only command (Err Words) apart = sym (answer_is command false (first_outside command values) apart refl)
  values_only command (Err (Value n)) (together, (option, first, is)) =
      ap (λ k. Err (Value k)) is ∙ sym (answer_is command true (Some option) together first)
  values_only command (Err Memory) ask = absurd ask

-- ---- the words

plain_name : (option : OptionName) → is_plain (name option) ≡ true
plain_name option.Table = refl
plain_name option.Tracer = refl
plain_name option.Mass = refl
plain_name option.Peaks = refl
plain_name option.Ppm = refl
plain_name option.Da = refl
plain_name option.PpmCalc = refl
plain_name option.Alphabet = refl
plain_name option.Adduct = refl
plain_name option.Rules = refl
plain_name option.Formula = refl
plain_name option.Coverage = refl
plain_name option.Limit = refl
plain_name option.After = refl
plain_name option.Peak = refl
plain_name option.Turn = refl
plain_name option.Turns = refl
plain_name option.Certificate = refl
plain_name option.Number = refl
plain_name option.Json = refl

plain_each : (command : CommandName) (options : List OptionName)
    → AllByRecursion (λ (argument : Argument). is_plain argument.0 ≡ true)
    (map (λ option. (name option, is_flag command option)) options)
plain_each command [] = tt
plain_each command (option ∷ options) = (plain_name option, plain_each command options)

plain_arguments : (command : CommandName) → AllByRecursion (λ (argument : Argument). is_plain argument.0 ≡ true) (arguments command)
plain_arguments command = plain_each command (options command)

-- the request of words with this command and these uses
pub request_of-uses : (first : Bytes) (words : List Bytes) (command : CommandName) (uses : List Use)
    → command_of first ≡ Some command
    → uses_of (arguments command) words ≡ Some uses → request_of (first ∷ words) ≡ values_request command (value_of uses)
unfolding request_of
request_of-uses first words command uses named read =
    ap (λ o. or_fault Words o >>= λ c. or_fault Words (uses_of (arguments c) words)
    >>= λ given. values_request c (value_of given)) named
    ∙ ap (λ o. or_fault Words o >>= λ given. values_request command (value_of given)) read

pub request_of-no_uses : (first : Bytes) (words : List Bytes) (command : CommandName) → command_of first ≡ Some command
    → uses_of (arguments command) words ≡ None → request_of (first ∷ words) ≡ Err Words
unfolding request_of
request_of-no_uses first words command named read =
    ap (λ o. or_fault Words o >>= λ c. or_fault Words (uses_of (arguments c) words)
    >>= λ given. values_request c (value_of given)) named
    ∙ ap (λ o. or_fault Words o >>= λ given. values_request command (value_of given)) read

pub request_of-no_command : (first : Bytes) (words : List Bytes) → command_of first ≡ None
    → request_of (first ∷ words) ≡ Err Words
unfolding request_of
request_of-no_command first words named =
    ap (λ o. or_fault Words o >>= λ c. or_fault Words (uses_of (arguments c) words)
    >>= λ given. values_request c (value_of given)) named

-- words that are read as uses are readable
pub unreadable : (command : CommandName) (words : List Bytes) → list_all is_readable words ≡ false
    → uses_of (arguments command) words ≡ None
unreadable command words e = go (uses_of (arguments command) words) refl
  where
    go : (o : Option (List Use)) → uses_of (arguments command) words ≡ o → o ≡ None
    go None read = refl
    go (Some uses) read =
        absurd (true≢false (sym (readable_from (arguments command) (plain_arguments command) words uses None [] read) ∙ e))

reading_uses : (first : Bytes) (words : List Bytes) (named given : CommandName) (uses : List Use)
    → command_of first ≡ Some named
    → IsReading given uses (first ∷ words) → (named ≡ given) × (uses_of (arguments named) words ≡ Some uses)
reading_uses first words named given uses is reading =
    let same = some-same named given (sym is ∙ reading.0) in (
      same,
      ap (λ c. uses_of (arguments c) words) same
          ∙ uses_of-complete (arguments given) (plain_arguments given) uses words reading.1.says reading.1.once,
    )

pub asks-request_of : (words : List Bytes) → Asks words (request_of words)
unfolding request_of
asks-request_of [] = inr ((λ command uses none. none), refl)
asks-request_of (first ∷ words) = go (command_of first) refl
  where
    with_command : (command : CommandName) → command_of first ≡ Some command → (o : Option (List Use))
        → uses_of (arguments command) words ≡ o → Asks (first ∷ words) (request_of (first ∷ words))
    with_command command named None read =
        inr (
          (λ given uses reading. none-some uses (sym read
              ∙ (reading_uses first words command given uses named reading).1)),
          request_of-no_uses first words command named read,
        )
    with_command command named (Some uses) read =
        let sound = uses_of-sound (arguments command) (plain_arguments command) uses words read in
        inl (
          command,
          uses,
          (named, record { says = sound.0; once = sound.1 }),
          subst (ValuesAsk command (value_of uses)) (sym (request_of-uses first words command uses named read))
              (values_ask (value_of uses) command),
        )

    go : (o : Option CommandName) → command_of first ≡ o → Asks (first ∷ words) (request_of (first ∷ words))
    go None named = inr (
      (λ command uses reading. none-some command (sym named ∙ reading.0)),
      request_of-no_command first words named,
    )
    go (Some command) named = with_command command named (uses_of (arguments command) words) refl

pub asks-only : (words : List Bytes) (answer : Result Request WordsFault) → Asks words answer
    → answer ≡ request_of words
unfolding request_of
asks-only [] answer (inl (command, uses, reading, ask)) = absurd reading
asks-only [] answer (inr (none, is)) = is
asks-only (first ∷ words) answer (inl (command, uses, reading, ask)) =
    values_only (value_of uses) command answer ask
    ∙ sym (request_of-uses first words command uses reading.0
    (reading_uses first words command command uses reading.0 reading).1)
asks-only (first ∷ words) answer (inr (none, is)) = is ∙ sym (go (command_of first) refl)
  where
    with_command : (command : CommandName) → command_of first ≡ Some command → (o : Option (List Use))
        → uses_of (arguments command) words ≡ o → request_of (first ∷ words) ≡ Err Words
    with_command command named None read = request_of-no_uses first words command named read
    with_command command named (Some uses) read =
        let sound = uses_of-sound (arguments command) (plain_arguments command) uses words read in
        absurd (none command uses (named, record { says = sound.0; once = sound.1 }))

    go : (o : Option CommandName) → command_of first ≡ o → request_of (first ∷ words) ≡ Err Words
    go None named = request_of-no_command first words named
    go (Some command) named = with_command command named (uses_of (arguments command) words) refl

-- the request of a command's matches is that of the words
pub request_of-matches : (first : Bytes) (words : List Bytes) (command : CommandName) (uses : List Use)
    (found : Found) → command_of first ≡ Some command
    → uses_of (arguments command) words ≡ Some uses
    → ((name : Bytes) → given_in (rows_of found) name ≡ value_in uses name)
    → values_request command (matched found) ≡ request_of (first ∷ words)
request_of-matches first words command uses found named read given =
    ap (values_request command) (λ i option. given (name option) i)
    ∙ sym (request_of-uses first words command uses named read)

pub no_words : (words : List (String Global)) → length words ≡ 0 → request_of (map string_bytes words) ≡ Err Words
unfolding request_of
no_words [] none = refl
no_words (word ∷ words) none = absurd (omega arith)

-- the answer where clap fails
pub unread_answer : (first : Bytes) (words : List Bytes) (command : CommandName) (fault : WordsFault)
    → command_of first ≡ Some command
    → MatchBool (is_memory fault) ⊤ ((uses_of (arguments command) words ≡ None) × (fault ≡ Words))
    → MatchBool (is_memory fault) ⊤ (request_of (first ∷ words) ≡ Err fault)
unread_answer first words command Words named given = request_of-no_uses first words command named given.0
unread_answer first words command (Value n) named given = request_of-no_uses first words command named given.0
    ∙ ap Err (sym given.1)
unread_answer first words command Memory named given = tt
