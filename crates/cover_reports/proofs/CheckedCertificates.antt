-- What `check` accepts is true, and it accepts the certificate that `envelope` prints.
use Rattle.std.proofs.Common.{◌≡◌, ℕ, Bool, true, false, cond, List, [], ◌∷◌, length, refl, sym, ap, ◌∙◌, subst}
use Rattle.std.specs.Prelude.{Option, Some, None, Result, Ok, Err, All, nat_lt}
use Rattle.std.proofs.lemmas.List.Elements.{All-head, All-tail}
use Rattle.reader_answers.specs.Answers.{◌>>=◌}
use Rattle.outside_ports.specs.Files.{Files}
use Rattle.element_table.specs.Elements.{TableEntries}
use Rattle.certificate_text.specs.Certificates.{CertificateEntries}
use Rattle.certificate_text.specs.CertificateReader.{certificate_of}
use Rattle.certificate_text.specs.declared.fault.CertificateFault.{CertificateFault}
use Rattle.certificate_check.specs.CertificateMeaning.{CertificateMeans}
use Rattle.certificate_check.specs.Judgements.{judgement}
use Rattle.certificate_check.specs.declared.judgement.Judgement.{Judgement}
use Rattle.certificate_check.specs.declared.judgement.Judgement.TheVariants.{Accepted}
use Rattle.cover_certificate.specs.CoverCertificates.{certificate_of_cover}
use Rattle.cover_certificate.specs.declared.certificate.CertificateWrite.{CertificateWrite}
use Rattle.cover_certificate.specs.declared.certificate.CertificateWrite.TheVariants.{TooLong}
use Rattle.command_io.specs.Asked.{Asked, Names, asks_next, asks_none, bytes_within, ◌and_then◌}
use Rattle.command_io.specs.Refusals.{or_fault_as, or_refusal}
use Rattle.command_io.specs.Steps.{adduct_step, table_in, table_step, traced_in, tracer_names, tracer_step}
use Rattle.command_io.specs.declared.input_fault.InputFault.{InputFault}
use Rattle.command_io.specs.declared.input_fault.InputFault.TheVariants.{Certificate, CertificateLimit, FileLimit}
use Rattle.command_io.specs.declared.input_fault.InputFault.TheVariants.{Rejected}
use Rattle.command_io.specs.declared.refusal.Refusal.{Refusal}
use Rattle.command_io.specs.declared.refusal.Refusal.TheVariants.{Input}
use Rattle.cover_reports.specs.Answers.{certified_query, check_over, check_query, cover_query, electron_shift}
use Rattle.cover_reports.specs.Answers.{envelope_over, envelope_query, short_enough}
use Rattle.cover_reports.specs.Claims.{SaysTrue, PassesCheck}
use Rattle.cover_reports.specs.Queries.{CheckQuery, CoverQuery}
use Rattle.cover_reports.specs.Reports.{asked_cover, certificate_report}
use Rattle.cover_reports.specs.Steps.{certificate_in, certificate_step, cover_step, if_accepted, ion_step, judged_step}
use Rattle.cover_reports.specs.declared.check.CheckOptions.{CheckOptions}
use Rattle.cover_reports.specs.declared.envelope.EnvelopeOptions.{EnvelopeOptions}

-- ---- what a value came of

next_ok : {A B : Type 0} (names : Names) (r : Result A Refusal) (next : A → Asked B) (y : B) →
    (asks_next names r next).result ≡ Ok y → (x : A) × (r ≡ Ok x) × ((next x).result ≡ Ok y)
next_ok names (Ok x) next y is = (x, refl, is)
next_ok {B = B} names (Err refusal) next y is =
    absurd (let both : ◌≡◌ {A = Result B Refusal} (Err refusal) (Ok y) = is in cc)

and_then_ok : {A B : Type 0} (first : Asked A) (next : A → Asked B) (y : B) → (first and_then next).result ≡ Ok y →
    (x : A) × (first.result ≡ Ok x) × ((next x).result ≡ Ok y)
and_then_ok first next y is = next_ok first.names first.result next y is

then_ok : {A B : Type 0} (r : Result A InputFault) (next : A → Result B InputFault) (y : B) → (r >>= next) ≡ Ok y →
    (x : A) × (r ≡ Ok x) × (next x ≡ Ok y)
then_ok (Ok x) next y is = (x, refl, is)
then_ok {B = B} (Err fault) next y is =
    absurd (let both : ◌≡◌ {A = Result B InputFault} (Err fault) (Ok y) = is in cc)

refusal_ok : {A : Type 0} (r : Result A InputFault) (y : A) → or_refusal r ≡ Ok y → r ≡ Ok y
refusal_ok {A = A} (Ok x) y is =
    let both : ◌≡◌ {A = Result A Refusal} (Ok x) (Ok y) = is in
    let same : x ≡ y = cc in
    ap (λ (a : A). Ok a) same
refusal_ok {A = A} (Err fault) y is =
    absurd (let both : ◌≡◌ {A = Result A Refusal} (Err (Input fault)) (Ok y) = is in cc)

-- two parts that have values, one after another
and_then_is : {A B : Type 0} (first : Asked A) (next : A → Asked B) (x : A) (y : B) → first.result ≡ Ok x →
    (next x).result ≡ Ok y → (first and_then next).result ≡ Ok y
and_then_is first next x y one two = ap (λ r. (asks_next first.names r next).result) one ∙ two

-- ---- a certificate that is accepted

judged_ok : (judged : Judgement) (asked query : CheckQuery) → if_accepted judged asked ≡ Ok query → asked ≡ query
judged_ok Accepted asked query is =
    let both : ◌≡◌ {A = Result CheckQuery InputFault} (Ok asked) (Ok query) = is in cc
judged_ok judged asked query is =
    absurd (let both : ◌≡◌ {A = Result CheckQuery InputFault} (Err (Rejected judged)) (Ok query) = is in cc)

pub true_check : (options : CheckOptions) (files : Files) (query : CheckQuery) →
    (check_query options files).result ≡ Ok query → CertificateMeans query.table query.certificate →
    SaysTrue options.table options.tracer options.certificate files
true_check options files query is means =
    let one = and_then_ok (table_step options.table files) (λ table.
    tracer_step table options.tracer files and_then λ traced. check_over traced options.certificate files) query is in
    let two = and_then_ok (tracer_step one.0 options.tracer files)
    (λ traced. check_over traced options.certificate files) query one.2 in
    let three = and_then_ok (certificate_step two.0 options.certificate files)
    (λ certificate. asks_none (judged_step two.0 certificate)) query two.2 in
    let asked : CheckQuery = record { table = two.0; certificate = three.0 } in
    let same : asked ≡ query =
    judged_ok (judgement two.0 three.0) asked query (refusal_ok (judged_step two.0 three.0) query three.2) in
    record {
      elements = one.0;
      traced = two.0;
      certificate = three.0;
      table_is = one.1;
      traced_is = two.1;
      certificate_is = three.1;
      means = subst (λ (q : CheckQuery). CertificateMeans q.table q.certificate) (sym same) means;
    }

-- ---- a certificate that was printed

-- its text isn't too long
short_ok : (long : Bool) (text : List ℕ) (asked query : CoverQuery) →
    (or_fault_as (λ fault. CertificateLimit) (let answer : Result (List ℕ) CertificateWrite = cond long (Err TooLong) (Ok text) in answer)
    >>= λ t. Ok asked) ≡ Ok query → (asked ≡ query) × (long ≡ false)
short_ok true text asked query is =
    absurd (let both : ◌≡◌ {A = Result CoverQuery InputFault} (Err CertificateLimit) (Ok query) = is in cc)
short_ok false text asked query is =
    (let both : ◌≡◌ {A = Result CoverQuery InputFault} (Ok asked) (Ok query) = is in cc, refl)

-- the query is over the table
table_of_query : (options : EnvelopeOptions) (table : TableEntries) (query : CoverQuery) →
    envelope_over options table ≡ Ok query → table ≡ query.table
table_of_query options table query is =
    let adduct = then_ok (adduct_step table options.adduct) (λ adduct. ion_step table adduct options.formula
    >>= λ ion. cover_query table ion (electron_shift table adduct) options.coverage) query is in
    let ion = then_ok (ion_step table adduct.0 options.formula)
    (λ ion. cover_query table ion (electron_shift table adduct.0) options.coverage) query adduct.2 in
    let shift = electron_shift table adduct.0 in
    let asked : CoverQuery = record { table = table; ion = ion.0; shift = shift; coverage = options.coverage } in
    let cover = then_ok (cover_step table ion.0 options.coverage) (λ cover. Ok asked) query ion.2 in
    let both : ◌≡◌ {A = Result CoverQuery InputFault} (Ok asked) (Ok query) = cover.2 in
    let same : asked ≡ query = cc in
    ap (λ (q : CoverQuery). q.table) same

-- other files that hold the same
same_table : (name : List ℕ) (files others : Files) → others name ≡ files name →
    (table_step name others).result ≡ (table_step name files).result
same_table name files others same =
    ap (λ (o : Option (List ℕ)).
    (asks_next (name ∷ []) (bytes_within 16777216 name o) (λ bytes. asks_none (table_in bytes))).result) same

same_tracer : (table : TableEntries) (tracer : Option (List ℕ)) (files others : Files) →
    All (λ n. others n ≡ files n) (tracer_names tracer) →
    (tracer_step table tracer others).result ≡ (tracer_step table tracer files).result
same_tracer table None files others same = refl
same_tracer table (Some name) files others same =
    ap (λ (o : Option (List ℕ)).
    (asks_next (name ∷ []) (bytes_within 16777216 name o) (λ bytes. asks_none (traced_in table bytes))).result)
    (All-head (λ n. others n ≡ files n) name [] same)

-- a file that isn't too long is read
abbrev if_short : List ℕ → List ℕ → Bool → Result (List ℕ) Refusal
if_short name bytes long = cond long (Err (Input (FileLimit name))) (Ok bytes)

read_file : (table : TableEntries) (name bytes : List ℕ) (files : Files) (certificate : CertificateEntries) →
    files name ≡ Some bytes → nat_lt 268435456 (length bytes) ≡ false → certificate_of table bytes ≡ Ok certificate →
    (certificate_step table name files).result ≡ Ok certificate
read_file table name bytes files certificate there short read =
    ap (λ (o : Option (List ℕ)).
    (asks_next (name ∷ []) (bytes_within 268435456 name o) (λ b. asks_none (certificate_in table b))).result) there
    ∙ ap (λ (b : Bool). (asks_next (name ∷ []) (if_short name bytes b) (λ x. asks_none (certificate_in table x))).result)
    short
    ∙ ap (λ (r : Result CertificateEntries CertificateFault). or_refusal (or_fault_as Certificate r)) read

pub accepted_later : (options : EnvelopeOptions) (files : Files) (query : CoverQuery) →
    (certified_query options files).result ≡ Ok query → PassesCheck query.table (asked_cover query) →
    (others : Files) (name : List ℕ) → All (λ n. others n ≡ files n) (options.table ∷ tracer_names options.tracer) →
    others name ≡ Some (certificate_report query) →
    let certificate = certificate_of_cover (asked_cover query) in
    (check_query (record { table = options.table; tracer = options.tracer; certificate = name }) others).result
    ≡ Ok (record { table = query.table; certificate = certificate })
accepted_later options files query is passes others name same there =
    let certificate : CertificateEntries = certificate_of_cover (asked_cover query) in
    let accepted : CheckQuery = record { table = query.table; certificate = certificate } in
    let whole = and_then_ok (envelope_query options files) (λ q. asks_none (short_enough q)) query is in
    let short = short_ok (nat_lt 268435456 (length (certificate_report whole.0))) (certificate_report whole.0) whole.0 query
    (refusal_ok (short_enough whole.0) query whole.2) in
    let one = and_then_ok (table_step options.table files) (λ table.
    tracer_step table options.tracer files and_then λ traced. asks_none (envelope_over options traced)) whole.0 whole.1 in
    let two = and_then_ok (tracer_step one.0 options.tracer files) (λ traced. asks_none (envelope_over options traced))
    whole.0 one.2 in
    let table : two.0 ≡ query.table =
    table_of_query options two.0 whole.0 (refusal_ok (envelope_over options two.0) whole.0 two.2)
    ∙ ap (λ (q : CoverQuery). q.table) short.0 in
    let fits : nat_lt 268435456 (length (certificate_report query)) ≡ false =
    ap (λ (q : CoverQuery). nat_lt 268435456 (length (certificate_report q))) (sym short.0) ∙ short.1 in
    let read : (certificate_step query.table name others).result ≡ Ok certificate =
    read_file query.table name (certificate_report query) others certificate there fits passes.read_again in
    let judged : (asks_none (judged_step query.table certificate)).result ≡ Ok accepted =
    ap (λ (j : Judgement). or_refusal (if_accepted j accepted)) passes.accepted in
    let over : (check_over query.table name others).result ≡ Ok accepted =
    and_then_is (certificate_step query.table name others) (λ c. asks_none (judged_step query.table c)) certificate accepted
    read judged in
    and_then_is (table_step options.table others) (λ t. tracer_step t options.tracer others and_then λ traced.
    check_over traced name others) one.0 accepted
    (same_table options.table files others (All-head (λ n. others n ≡ files n) options.table (tracer_names options.tracer) same)
    ∙ one.1)
    (and_then_is (tracer_step one.0 options.tracer others) (λ traced. check_over traced name others) two.0 accepted
    (same_tracer one.0 options.tracer files others
    (All-tail (λ n. others n ≡ files n) options.table (tracer_names options.tracer) same) ∙ two.1)
    (ap (λ t. (check_over t name others).result) table ∙ over))
