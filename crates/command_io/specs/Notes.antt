-- The status and the note of a refusal.
use Rattle.std.specs.Prelude.{ℕ, List, [], ◌∷◌, ◌++◌, codes}
use Rattle.std.specs.Fmt.{decimal}
use Rattle.command_words.specs.WordsFaults.{words_fault_words}
use Rattle.element_table.specs.TableFaults.{table_fault_words}
use Rattle.element_table.specs.TracerFaults.{tracer_fault_words}
use Rattle.peak_text.specs.PeakFaults.{peak_fault_words}
use Rattle.alphabet_text.specs.AlphabetFaults.{alphabet_fault_words}
use Rattle.adducts.specs.AdductFaults.{adduct_fault_words}
use Rattle.golden_rules.specs.RulesFaults.{rules_fault_words}
use Rattle.formula_text.specs.FormulaFaults.{formula_fault_words}
use Rattle.formula_text.specs.PrintedText.{printed_text}
use Rattle.certificate_text.specs.CertificateFaults.{certificate_fault_words}
use Rattle.certificate_check.specs.JudgementWords.{judgement_words}
use Rattle.command_io.specs.declared.input_fault.InputFault.{InputFault}
use Rattle.command_io.specs.declared.input_fault.InputFault.TheVariants.{FileLimit, Table, Tracer, Peaks, NoPeak}
use Rattle.command_io.specs.declared.input_fault.InputFault.TheVariants.{Alphabet, Adduct, Rules, After, NotInBox}
use Rattle.command_io.specs.declared.input_fault.InputFault.TheVariants.{Formula, NoIon, CandidateLimit, Layer}
use Rattle.command_io.specs.declared.input_fault.InputFault.TheVariants.{Certificate, CertificateLimit, Rejected}
use Rattle.command_io.specs.declared.refusal.Refusal.{Refusal}
use Rattle.command_io.specs.declared.refusal.Refusal.TheVariants.{Words, Input, ReadFault, WriteFault, Memory}

-- the status of what was given and is refused
abbrev pub status_of_fault : InputFault → ℕ
status_of_fault (FileLimit name) = 6
status_of_fault (Table fault) = 3
status_of_fault (Tracer fault) = 3
status_of_fault (Peaks fault) = 4
status_of_fault (NoPeak peak) = 4
status_of_fault (Alphabet fault) = 5
status_of_fault (Adduct fault) = 5
status_of_fault (Rules fault) = 5
status_of_fault (After fault) = 5
status_of_fault NotInBox = 5
status_of_fault (Formula fault) = 5
status_of_fault NoIon = 5
status_of_fault (CandidateLimit peak) = 6
status_of_fault (Layer ion) = 6
status_of_fault (Certificate fault) = 5
status_of_fault (Rejected judgement) = 1
status_of_fault CertificateLimit = 6

abbrev pub status_of : Refusal → ℕ
status_of (Words fault) = 2
status_of (Input fault) = status_of_fault fault
status_of (ReadFault name) = 7
status_of WriteFault = 8
status_of Memory = 9

-- what a note says
abbrev pub fault_message : InputFault → List ℕ
fault_message (FileLimit name) = codes "limit: file " ++ name
fault_message (Table fault) = codes "table: " ++ table_fault_words fault
fault_message (Tracer fault) = codes "tracer: " ++ tracer_fault_words fault
fault_message (Peaks fault) = codes "peaks: " ++ peak_fault_words fault
fault_message (NoPeak peak) = codes "peaks: no peak " ++ decimal peak
fault_message (Alphabet fault) = codes "alphabet: " ++ alphabet_fault_words fault
fault_message (Adduct fault) = codes "adduct: " ++ adduct_fault_words fault
fault_message (Rules fault) = codes "rules: " ++ rules_fault_words fault
fault_message (After fault) = codes "after: " ++ formula_fault_words fault
fault_message NotInBox = codes "after: not in box"
fault_message (Formula fault) = codes "formula: " ++ formula_fault_words fault
fault_message NoIon = codes "ion: not defined"
fault_message (CandidateLimit peak) = codes "limit: candidates of peak " ++ decimal peak
fault_message (Layer ion) = codes "limit: layer of " ++ printed_text ion
fault_message (Certificate fault) = codes "certificate text: " ++ certificate_fault_words fault
fault_message (Rejected judgement) = codes "certificate: " ++ judgement_words judgement
fault_message CertificateLimit = codes "limit: certificate"

abbrev pub message_of : Refusal → List ℕ
message_of (Words fault) = words_fault_words fault
message_of (Input fault) = fault_message fault
message_of (ReadFault name) = codes "read fault: " ++ name
message_of WriteFault = codes "write fault"
message_of Memory = codes "memory"

-- the note, which is one line
abbrev pub note_of : Refusal → List ℕ
note_of refusal = codes "isoform: " ++ message_of refusal ++ 10 ∷ []
