-- The numbers of a request are in their ranges, and a fault numbers an option of the table.
use Rattle.std.proofs.Common.{◌≡◌, ◌≤◌, ◌==◌, ◌||◌, ◌∙◌, not, ℕ, Bool, true, false, Option, Some, None, Result, Ok, Err}
use Rattle.std.proofs.Common.{IfErr, IfOk, List, [], ◌∷◌, is_some, ap, arith, inl, inr, option_map, refl, subst, sym}
use Rattle.std.specs.List.{count_by}
use Rattle.std.specs.Prelude.{option_and_then}
use Rattle.std.specs.Option.{option_or}
use Rattle.std.proofs.lemmas.Bool.{true≢false}
use Rattle.std.proofs.lemmas.Option.{none-some}
use Rattle.fixed_decimal.specs.Decimal.{whole_within}
use Rattle.fixed_decimal.proofs.NumbersInRange.{decimal_within-range, whole_within-range}
use Rattle.reader_answers.specs.Answers.{Gives}
use Rattle.mass_scaling.specs.Limits.{IsTolerance}
use Rattle.mass_scaling.specs.declared.limits.TheConstants.{MAX_MZ, MAX_DA, MAX_PPM}
use Rattle.mass_scaling.specs.declared.tolerances.Tolerance.{Tolerance}
use Rattle.mass_scaling.specs.declared.tolerances.Tolerance.TheVariants as tolerance
use Rattle.command_words.specs.Options.{Bytes, number}
use Rattle.command_words.specs.Requests.{Asks, GoWithMass, HasMassOrPeaks, HasRanges, IsOfTable, IsRequestOf, IsWithin, Values, number_of, tolerance_of}
use Rattle.command_words.specs.Uses.{value_of}
use Rattle.command_words.specs.WordReading.{is_memory}
use Rattle.command_words.specs.declared.commands.CommandName.{CommandName}
use Rattle.command_words.specs.declared.commands.CommandName.TheVariants as command
use Rattle.command_words.specs.declared.fault.WordsFault.{WordsFault}
use Rattle.command_words.specs.declared.fault.WordsFault.TheVariants.{Words, Value, Memory}
use Rattle.command_words.specs.declared.options.OptionName.{OptionName}
use Rattle.command_words.specs.declared.options.OptionName.TheVariants as option
use Rattle.command_words.specs.declared.options.TheConstants.{MIN_MZ, MIN_COVERAGE, MAX_COVERAGE, MIN_LIMIT, MAX_LIMIT}
use Rattle.command_words.specs.declared.options.TheConstants.{MIN_PEAK, MAX_PEAK, MIN_TURN, MAX_TURN, DEFAULT_TURN}
use Rattle.command_words.specs.declared.options.TheConstants.{MAX_TURNS, MAX_NUMBER, OPTION_COUNT}
use Rattle.command_words.specs.declared.request.Request.{Request}
use Rattle.command_words.specs.declared.request.Request.TheVariants.{Decompose, Envelope, Rank, Check, Generate}
use Rattle.command_words.proofs.AskedRequests.{AreGood, companions, insides, number_given, ones}
use Rattle.command_words.proofs.WordUses.{some-same}

-- texts have numbers in this range alone
abbrev Ranges : (Bytes → Option ℕ) → ℕ → ℕ → Type 0
Ranges read low high = (text : Bytes) (n : ℕ) → read text ≡ Some n → (low ≤ n) × (n ≤ high)

number_range : (read : Bytes → Option ℕ) (low high : ℕ) → Ranges read low high → (given : Option Bytes) (n : ℕ)
    → option_and_then read given ≡ Some n → (low ≤ n) × (n ≤ high)
number_range read low high ranges None n e = absurd (none-some n e)
number_range read low high ranges (Some text) n e = ranges text n e

within : (low high : ℕ) (number : Option ℕ) → ((n : ℕ) → number ≡ Some n → (low ≤ n) × (n ≤ high))
    → IsWithin low high number
within low high None range = tt
within low high (Some n) range = range n refl

tolerance_range : (a b c : Option ℕ) (allowed : Tolerance) → ((n : ℕ) → a ≡ Some n → (0 ≤ n) × (n ≤ MAX_PPM))
    → ((n : ℕ) → b ≡ Some n → (0 ≤ n) × (n ≤ MAX_DA)) → ((n : ℕ) → c ≡ Some n → (0 ≤ n) × (n ≤ MAX_PPM))
    → option_or (option_map tolerance.Ppm a) (option_or (option_map tolerance.Da b)
    (option_map tolerance.PpmCalculated c)) ≡ Some allowed → IsTolerance allowed
tolerance_range (Some n) b c allowed ra rb rc e = subst IsTolerance (some-same _ _ e) (ra n refl).1
tolerance_range None (Some n) c allowed ra rb rc e = subst IsTolerance (some-same _ _ e) (rb n refl).1
tolerance_range None None (Some n) allowed ra rb rc e = subst IsTolerance (some-same _ _ e) (rc n refl).1
tolerance_range None None None allowed ra rb rc e = absurd (none-some allowed e)

tolerances : (values : Values) (allowed : Tolerance) → tolerance_of values ≡ Some allowed → IsTolerance allowed
tolerances values allowed is = tolerance_range _ _ _ allowed
    (number_range _ 0 MAX_PPM (decimal_within-range 3 0 MAX_PPM) (values option.Ppm))
    (number_range _ 0 MAX_DA (decimal_within-range 12 0 MAX_DA) (values option.Da))
    (number_range _ 0 MAX_PPM (decimal_within-range 3 0 MAX_PPM) (values option.PpmCalc)) is

-- a coverage
coverages : (values : Values) (coverage : ℕ) → number_of values option.Coverage ≡ Some coverage
    → (MIN_COVERAGE ≤ coverage) × (coverage ≤ MAX_COVERAGE)
coverages values coverage is = number_range _ MIN_COVERAGE MAX_COVERAGE
    (decimal_within-range 18 MIN_COVERAGE MAX_COVERAGE) (values option.Coverage) coverage is

-- a whole number that may be absent
wholes : (low high : ℕ) (given : Option Bytes) (number : Option ℕ)
    → number ≡ option_and_then (whole_within low high) given → IsWithin low high number
wholes low high given number is = within low high number
    (λ n e. number_range _ low high (whole_within-range low high) given n (sym is ∙ e))

-- a whole number or its default
default_range : (low high default : ℕ) (given : Option Bytes) → (low ≤ default) × (default ≤ high) → (n : ℕ)
    → option_or (option_and_then (whole_within low high) given) (Some default) ≡ Some n → (low ≤ n) × (n ≤ high)
default_range low high default given fine n is = go (option_and_then (whole_within low high) given) refl is
  where
    go : (number : Option ℕ) → option_and_then (whole_within low high) given ≡ number
        → option_or number (Some default) ≡ Some n → (low ≤ n) × (n ≤ high)
    go None e is = subst (λ m. (low ≤ m) × (m ≤ high)) (some-same default n is) fine
    go (Some m) e is = number_range _ low high (whole_within-range low high) given n (e ∙ is)

mass_or_peaks : (mass : Option ℕ) (peaks : Option Bytes)
    → (count_by (λ given. given) (is_some mass ∷ is_some peaks ∷ []) == 1) ≡ true → HasMassOrPeaks mass peaks
mass_or_peaks (Some mass) None e = tt
mass_or_peaks None (Some peaks) e = tt
mass_or_peaks None None e = absurd (true≢false (sym e))
mass_or_peaks (Some mass) (Some peaks) e = absurd (true≢false (sym e))

go_with_mass : (mass limit : Option ℕ) (after : Option Bytes) → (not (is_some limit) || is_some mass) ≡ true
    → (not (is_some after) || is_some mass) ≡ true → GoWithMass mass limit after
go_with_mass (Some mass) limit after e f = tt
go_with_mass None None None e f = (refl, refl)
go_with_mass None (Some limit) after e f = absurd (true≢false (sym e))
go_with_mass None None (Some after) e f = absurd (true≢false (sym f))

module _ (values : Values) where
  decompose_ranges : AreGood values command.Decompose → (request : Request)
      → IsRequestOf command.Decompose values request → HasRanges request
  decompose_ranges good (Decompose table mass peaks allowed alphabet adduct rules limit after json) is =
      let inside = insides values command.Decompose good in
      let pairs = companions values command.Decompose good in
      let mass_given = ap is_some is.1 ∙ number_given values option.Mass (λ _. refl) inside.1.0 in
      let limit_given = ap is_some is.7 ∙ number_given values option.Limit (λ _. refl)
      inside.1.1.1.1.1.1.1.1.1.0 in (
        mass_or_peaks mass peaks (rw (mass_given, is.2) (ones values command.Decompose good).0),
        within MIN_MZ MAX_MZ mass (λ n e. number_range _ MIN_MZ MAX_MZ (decimal_within-range 12 MIN_MZ MAX_MZ)
            (values option.Mass) n (sym is.1 ∙ e)),
        tolerances values allowed is.3,
        wholes MIN_LIMIT MAX_LIMIT (values option.Limit) limit is.7,
        go_with_mass mass limit after (rw (mass_given, limit_given) pairs.1.1.1.1.1.1.1.1.1.0)
            (rw (mass_given, is.8) pairs.1.1.1.1.1.1.1.1.1.1.0),
      )
  decompose_ranges good _ is = absurd is

  rank_ranges : (request : Request) → IsRequestOf command.Rank values request → HasRanges request
  rank_ranges (Rank table tracer peaks allowed alphabet adduct rules coverage peak turn turns json) is =
      let shares = coverages values coverage is.7 in
      let allowances = default_range MIN_TURN MAX_TURN DEFAULT_TURN (values option.Turn) (omega arith, omega arith)
      turn is.9 in (
        tolerances values allowed is.3,
        shares.0,
        shares.1,
        wholes MIN_PEAK MAX_PEAK (values option.Peak) peak is.8,
        allowances.0,
        allowances.1,
        wholes 0 MAX_TURNS (values option.Turns) turns is.10,
      )
  rank_ranges _ is = absurd is

  request_ranges : (command : CommandName) → AreGood values command → (request : Request)
      → IsRequestOf command values request → HasRanges request
  request_ranges command.Decompose good request is = decompose_ranges good request is
  request_ranges command.Envelope good (Envelope table tracer adduct formula coverage certificate json) is =
      coverages values coverage is.4
  request_ranges command.Envelope good _ is = absurd is
  request_ranges command.Rank good request is = rank_ranges request is
  request_ranges command.Check good (Check table tracer certificate) is = tt
  request_ranges command.Check good _ is = absurd is
  request_ranges command.Generate good (Generate table number) is =
      (number_range _ 0 MAX_NUMBER (whole_within-range 0 MAX_NUMBER) (values option.Number) number is.1).1
  request_ranges command.Generate good _ is = absurd is

numbers_of_table : (option : OptionName) → (1 ≤ number option) × (number option ≤ OPTION_COUNT)
numbers_of_table option.Table = (omega arith, omega arith)
numbers_of_table option.Tracer = (omega arith, omega arith)
numbers_of_table option.Mass = (omega arith, omega arith)
numbers_of_table option.Peaks = (omega arith, omega arith)
numbers_of_table option.Ppm = (omega arith, omega arith)
numbers_of_table option.Da = (omega arith, omega arith)
numbers_of_table option.PpmCalc = (omega arith, omega arith)
numbers_of_table option.Alphabet = (omega arith, omega arith)
numbers_of_table option.Adduct = (omega arith, omega arith)
numbers_of_table option.Rules = (omega arith, omega arith)
numbers_of_table option.Formula = (omega arith, omega arith)
numbers_of_table option.Coverage = (omega arith, omega arith)
numbers_of_table option.Limit = (omega arith, omega arith)
numbers_of_table option.After = (omega arith, omega arith)
numbers_of_table option.Peak = (omega arith, omega arith)
numbers_of_table option.Turn = (omega arith, omega arith)
numbers_of_table option.Turns = (omega arith, omega arith)
numbers_of_table option.Certificate = (omega arith, omega arith)
numbers_of_table option.Number = (omega arith, omega arith)
numbers_of_table option.Json = (omega arith, omega arith)

abbrev is_ok_answer : Result Request WordsFault → Bool
is_ok_answer (Ok request) = true
is_ok_answer (Err fault) = false

abbrev is_value_fault : Result Request WordsFault → Bool
is_value_fault (Err (Value n)) = true
is_value_fault _ = false

asked_ranges : (words : List Bytes) (request : Request) → Asks words (Ok request) → HasRanges request
asked_ranges words request (inl (command, uses, reading, ask)) =
    request_ranges (value_of uses) command (record { together = ask.0; inside = ask.1 }) request ask.2
asked_ranges words request (inr (none, is)) = absurd (true≢false (ap is_ok_answer is))

asked_numbers : (words : List Bytes) (fault : WordsFault) → Asks words (Err fault) → IsOfTable fault
asked_numbers words Words ask = tt
asked_numbers words Memory ask = tt
asked_numbers words (Value n) (inl (command, uses, reading, ask)) =
    subst (λ k. IsOfTable (Value k)) (sym ask.1.2) (numbers_of_table ask.1.0)
asked_numbers words (Value n) (inr (none, is)) = absurd (true≢false (ap is_value_fault is))

pub given_ranges : (words : List Bytes) (answer result : Result Request WordsFault) → Gives is_memory result answer
    → Asks words answer → IfOk result HasRanges
given_ranges words answer (Ok request) gives asks = asked_ranges words request (subst (Asks words) gives asks)
given_ranges words answer (Err fault) gives asks = tt

pub given_numbers : (words : List Bytes) (answer result : Result Request WordsFault) → Gives is_memory result answer
    → Asks words answer → IfErr result IsOfTable
given_numbers words answer (Ok request) gives asks = tt
given_numbers words answer (Err Words) gives asks = tt
given_numbers words answer (Err Memory) gives asks = tt
given_numbers words answer (Err (Value n)) gives asks = asked_numbers words (Value n) (subst (Asks words) gives asks)
