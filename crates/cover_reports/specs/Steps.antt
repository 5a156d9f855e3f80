-- The steps that `envelope` and `check` alone have: the ion of a formula and its cover, and a certificate and its
-- judgement.
use Rattle.std.specs.Prelude.{ℕ, List, Result, Ok, Err}
use Rattle.reader_answers.specs.Answers.{or_fault, ◌>>=◌}
use Rattle.outside_ports.specs.Files.{Files}
use Rattle.element_table.specs.Elements.{TableEntries}
use Rattle.written_items.specs.declared.item.Item.{Item}
use Rattle.formula_text.specs.FormulaReader.{read_of}
use Rattle.adducts.specs.Adducts.{AdductValue}
use Rattle.adducts.specs.Ions.{ion_of}
use Rattle.cover_certificate.specs.FormulaCovers.{CoverEntries, cover_unless_too_many}
use Rattle.certificate_text.specs.Certificates.{CertificateEntries}
use Rattle.certificate_text.specs.CertificateReader.{certificate_of}
use Rattle.certificate_check.specs.Judgements.{judgement}
use Rattle.certificate_check.specs.declared.judgement.Judgement.{Judgement}
use Rattle.certificate_check.specs.declared.judgement.Judgement.TheVariants.{Accepted}
use Rattle.command_io.specs.Asked.{Asked, asks_none, asks_file, ◌and_then◌}
use Rattle.command_io.specs.Refusals.{or_fault_as}
use Rattle.command_io.specs.declared.input_fault.InputFault.{InputFault}
use Rattle.command_io.specs.declared.input_fault.InputFault.TheVariants.{Formula, NoIon, Layer, Certificate, Rejected}
use Rattle.cover_reports.specs.Queries.{CheckQuery}
use Rattle.cover_reports.specs.declared.check.TheConstants.{MAX_CERTIFICATE_BYTES}

-- the formula of a text
abbrev pub formula_step : TableEntries → List ℕ → Result (List (Item × ℕ)) InputFault
formula_step table text = or_fault_as Formula (read_of table text)

-- the ion of the formula of a text
abbrev pub ion_step : TableEntries → AdductValue → List ℕ → Result (List (Item × ℕ)) InputFault
ion_step table adduct text = formula_step table text >>= λ formula. or_fault NoIon (ion_of adduct formula)

-- the cover of an ion
abbrev pub cover_step : TableEntries → List (Item × ℕ) → ℕ → Result CoverEntries InputFault
cover_step table ion coverage = or_fault_as (λ fault. Layer ion) (cover_unless_too_many table ion coverage)

-- the certificate of a file
abbrev pub certificate_in : TableEntries → List ℕ → Result CertificateEntries InputFault
certificate_in table bytes = or_fault_as Certificate (certificate_of table bytes)

abbrev pub certificate_step : TableEntries → List ℕ → Files → Asked CertificateEntries
certificate_step table name files =
    asks_file MAX_CERTIFICATE_BYTES name files and_then λ bytes. asks_none (certificate_in table bytes)

-- a certificate of which this is judged: it is refused unless it is accepted
abbrev pub if_accepted : Judgement → CheckQuery → Result CheckQuery InputFault
if_accepted Accepted query = Ok query
if_accepted judged query = Err (Rejected judged)

abbrev pub judged_step : TableEntries → CertificateEntries → Result CheckQuery InputFault
judged_step table certificate =
    if_accepted (judgement table certificate) (record { table = table; certificate = certificate })
