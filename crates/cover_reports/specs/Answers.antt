-- What `envelope` and `check` ask over files.
use Rattle.std.specs.Prelude.{ℕ, ℤ, pos, ◌-ℤ◌, ◌*ℤ◌, List, [], ◌∷◌, ◌++◌, Result, Ok}
use Rattle.reader_answers.specs.Answers.{◌>>=◌}
use Rattle.outside_ports.specs.Files.{Files}
use Rattle.element_table.specs.Elements.{TableEntries}
use Rattle.written_items.specs.declared.item.Item.{Item}
use Rattle.adducts.specs.Adducts.{AdductValue}
use Rattle.cover_certificate.specs.CoverCertificates.{cover_certificate}
use Rattle.command_io.specs.Asked.{Asked, Names, asks_none, ◌and_then◌}
use Rattle.command_io.specs.Refusals.{or_fault_as}
use Rattle.command_io.specs.Steps.{adduct_step, table_step, tracer_names, tracer_step}
use Rattle.command_io.specs.declared.input_fault.InputFault.{InputFault}
use Rattle.command_io.specs.declared.input_fault.InputFault.TheVariants.{CertificateLimit}
use Rattle.cover_reports.specs.Queries.{CheckQuery, CoverQuery}
use Rattle.cover_reports.specs.Reports.{asked_cover}
use Rattle.cover_reports.specs.Steps.{certificate_step, cover_step, ion_step, judged_step}
use Rattle.cover_reports.specs.declared.check.CheckOptions.{CheckOptions}
use Rattle.cover_reports.specs.declared.envelope.EnvelopeOptions.{EnvelopeOptions}

-- what is added to the mass of an ion's isotopologue: that of as many electrons as its charge says is taken off
abbrev pub electron_shift : TableEntries → AdductValue → ℤ
electron_shift table adduct = pos 0 -ℤ (adduct.charge *ℤ pos table.electron)

-- the query for the cover of an ion, which a layer may refuse
abbrev pub cover_query : TableEntries → List (Item × ℕ) → ℤ → ℕ → Result CoverQuery InputFault
cover_query table ion shift coverage =
    cover_step table ion coverage
    >>= λ cover. Ok (record { table = table; ion = ion; shift = shift; coverage = coverage })

-- `envelope` over its table: the adduct may be refused, the formula, the ion, and then a layer
abbrev pub envelope_over : EnvelopeOptions → TableEntries → Result CoverQuery InputFault
envelope_over options table =
    adduct_step table options.adduct
    >>= λ adduct. ion_step table adduct options.formula
    >>= λ ion. cover_query table ion (electron_shift table adduct) options.coverage

-- what `envelope` asks over files
abbrev pub envelope_query : EnvelopeOptions → Files → Asked CoverQuery
envelope_query options files =
    table_step options.table files and_then λ table.
    tracer_step table options.tracer files and_then λ traced.
    asks_none (envelope_over options traced)

-- the names of its files
abbrev pub envelope_names : EnvelopeOptions → Names
envelope_names options = (options.table ∷ []) ++ tracer_names options.tracer

-- the text of the certificate of the cover that is asked for, which may be too long
abbrev pub certificate_text : CoverQuery → Result (List ℕ) InputFault
certificate_text query = or_fault_as (λ fault. CertificateLimit) (cover_certificate (asked_cover query))

-- the query whose certificate isn't
abbrev pub short_enough : CoverQuery → Result CoverQuery InputFault
short_enough query = certificate_text query >>= λ text. Ok query

-- what `envelope` asks over files where it is to print the certificate
abbrev pub certified_query : EnvelopeOptions → Files → Asked CoverQuery
certified_query options files = envelope_query options files and_then λ query. asks_none (short_enough query)

-- what `check` asks over files, behind its table
abbrev pub check_over : TableEntries → List ℕ → Files → Asked CheckQuery
check_over table name files =
    certificate_step table name files and_then λ certificate. asks_none (judged_step table certificate)

abbrev pub check_query : CheckOptions → Files → Asked CheckQuery
check_query options files =
    table_step options.table files and_then λ table.
    tracer_step table options.tracer files and_then λ traced.
    check_over traced options.certificate files

-- the names of its files
abbrev pub check_names : CheckOptions → Names
check_names options = (options.table ∷ []) ++ (tracer_names options.tracer ++ options.certificate ∷ [])
