-- The program's answer: what is to be printed for its words and the files, or the first refusal.
use Rattle.std.specs.Prelude.{ℕ, List, [], Result, Ok, Err, ◌≡◌, Bool, true, false}
use Rattle.outside_ports.specs.Files.{Files}
use Rattle.command_words.specs.WordReading.{request_of}
use Rattle.command_words.specs.declared.fault.WordsFault.{WordsFault}
use Rattle.command_words.specs.declared.request.Request.{Request}
use Rattle.command_words.specs.declared.request.Request.TheVariants.{Check, Decompose, Envelope, Generate, Rank}
use Rattle.peak_ranking.specs.RankQueries.{RankQuery}
use Rattle.command_io.specs.declared.refusal.Refusal.{Refusal}
use Rattle.command_io.specs.Asked.{Asked, Names}
use Rattle.command_io.specs.Refusals.{of_words_fault}
use Rattle.formula_reports.specs.Queries.{FormulaQuery}
use Rattle.formula_reports.specs.Reports.{formulas_json, formulas_report}
use Rattle.formula_reports.specs.Answers.{decompose_query, decompose_names}
use Rattle.cover_reports.specs.Queries.{CheckQuery, CoverQuery}
use Rattle.cover_reports.specs.Reports.{cover_json, accepted_report, certificate_report, cover_report}
use Rattle.cover_reports.specs.Answers.{envelope_query, envelope_names, certified_query, check_query, check_names}
use Rattle.ranking_reports.specs.Reports.{rank_json, generate_report, rank_report}
use Rattle.ranking_reports.specs.Answers.{generate_names, generate_query, rank_names, rank_query}
use Rattle.ranking_reports.specs.Queries.{GenerateQuery}

-- what is asked for, with its value seen through `view`
abbrev pub result_as : {A B : Type 0} → (A → B) → Result A Refusal → Result B Refusal
result_as view (Ok x) = Ok (view x)
result_as view (Err refusal) = Err refusal

abbrev pub asked_as : {A B : Type 0} → (A → B) → Asked A → Asked B
asked_as view asked = record { names = asked.names; result = result_as view asked.result }

-- What is to be printed: formulas, a cover, the certificate of a cover, that a certificate is accepted, ranked peaks, or
-- what was found of made ones; the first, the second and the fifth also in JSON.
pub data Outcome : Type 0 where
  Formulas : FormulaQuery → Outcome
  Cover : CoverQuery → Outcome
  Certified : CoverQuery → Outcome
  Checked : CheckQuery → Outcome
  Ranks : RankQuery → Outcome
  Generates : GenerateQuery → Outcome
  FormulasJson : FormulaQuery → Outcome
  CoverJson : CoverQuery → Outcome
  RanksJson : RankQuery → Outcome

-- formulas, a cover or ranked peaks as text, or in JSON where that is asked for
abbrev pub formulas_in : Bool → FormulaQuery → Outcome
formulas_in false query = Formulas query
formulas_in true query = FormulasJson query

abbrev pub cover_in : Bool → CoverQuery → Outcome
cover_in false query = Cover query
cover_in true query = CoverJson query

abbrev pub ranks_in : Bool → RankQuery → Outcome
ranks_in false query = Ranks query
ranks_in true query = RanksJson query

-- the bytes are the report of an outcome
abbrev pub IsReport : Outcome → List ℕ → Type 0
IsReport (Formulas query) bytes = bytes ≡ formulas_report query
IsReport (Cover query) bytes = bytes ≡ cover_report query
IsReport (Certified query) bytes = bytes ≡ certificate_report query
IsReport (Checked query) bytes = bytes ≡ accepted_report query.certificate
IsReport (Ranks query) bytes = bytes ≡ rank_report query
IsReport (Generates query) bytes = bytes ≡ generate_report query
IsReport (FormulasJson query) bytes = bytes ≡ formulas_json query
IsReport (CoverJson query) bytes = bytes ≡ cover_json query
IsReport (RanksJson query) bytes = bytes ≡ rank_json query

-- what comes of a request over files: the first step that refuses is the answer
abbrev pub answer_of_request : Request → Files → Asked Outcome
answer_of_request (Decompose table mass peaks tolerance alphabet adduct rules limit after json) files =
    asked_as (formulas_in json) (decompose_query (record {
      table = table;
      mass = mass;
      peaks = peaks;
      tolerance = tolerance;
      alphabet = alphabet;
      adduct = adduct;
      rules = rules;
      limit = limit;
      after = after;
    }) files)
answer_of_request (Envelope table tracer adduct formula coverage false json) files =
    asked_as (cover_in json) (envelope_query (record {
      table = table;
      tracer = tracer;
      adduct = adduct;
      formula = formula;
      coverage = coverage;
    }) files)
answer_of_request (Envelope table tracer adduct formula coverage true json) files =
    asked_as Certified (certified_query (record {
      table = table;
      tracer = tracer;
      adduct = adduct;
      formula = formula;
      coverage = coverage;
    }) files)
answer_of_request (Check table tracer certificate) files =
    asked_as Checked (check_query (record { table = table; tracer = tracer; certificate = certificate }) files)
answer_of_request (Rank table tracer peaks tolerance alphabet adduct rules coverage peak turn turns json) files =
    asked_as (ranks_in json) (rank_query (record {
      table = table;
      tracer = tracer;
      peaks = peaks;
      tolerance = tolerance;
      alphabet = alphabet;
      adduct = adduct;
      rules = rules;
      coverage = coverage;
      peak = peak;
      turn = turn;
      turns = turns;
    }) files)
answer_of_request (Generate table number) files =
    asked_as Generates (generate_query (record { table = table; number = number }) files)

-- the same, where the words are a request
abbrev pub answer_if : Result Request WordsFault → Files → Asked Outcome
answer_if (Ok request) files = answer_of_request request files
answer_if (Err fault) files = record { names = []; result = Err (of_words_fault fault) }

-- what comes of the program's words over files
unfoldable pub answer : List (List ℕ) → Files → Asked Outcome
answer words files = answer_if (request_of words) files

-- the names of the files of a request, in the order in which they are asked for
abbrev pub names_of_request : Request → Names
names_of_request (Decompose table mass peaks tolerance alphabet adduct rules limit after json) =
    decompose_names (record {
      table = table;
      mass = mass;
      peaks = peaks;
      tolerance = tolerance;
      alphabet = alphabet;
      adduct = adduct;
      rules = rules;
      limit = limit;
      after = after;
    })
names_of_request (Envelope table tracer adduct formula coverage certificate json) =
    envelope_names (record {
      table = table;
      tracer = tracer;
      adduct = adduct;
      formula = formula;
      coverage = coverage;
    })
names_of_request (Check table tracer certificate) =
    check_names (record { table = table; tracer = tracer; certificate = certificate })
names_of_request (Rank table tracer peaks tolerance alphabet adduct rules coverage peak turn turns json) =
    rank_names (record {
      table = table;
      tracer = tracer;
      peaks = peaks;
      tolerance = tolerance;
      alphabet = alphabet;
      adduct = adduct;
      rules = rules;
      coverage = coverage;
      peak = peak;
      turn = turn;
      turns = turns;
    })
names_of_request (Generate table number) = generate_names (record { table = table; number = number })

-- the same of words, which have none where they are no request
abbrev pub names_if : {E : Type 0} → Result Request E → Names
names_if (Ok request) = names_of_request request
names_if (Err fault) = []

abbrev pub file_names : List (List ℕ) → Names
file_names words = names_if (request_of words)
