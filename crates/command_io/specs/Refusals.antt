-- Faults of what was given, as refusals of the program. Want of memory is a refusal of its own.
use Rattle.std.specs.Prelude.{◌≡◌, Result, Ok, Err, ⊤}
use Rattle.element_table.specs.declared.fault.TableFault.{TableFault}
use Rattle.element_table.specs.declared.fault.TableFault.TheVariants as table
use Rattle.element_table.specs.declared.tracer_fault.TracerFault.{TracerFault}
use Rattle.element_table.specs.declared.tracer_fault.TracerFault.TheVariants as tracer
use Rattle.peak_text.specs.declared.fault.PeakFault.{PeakFault}
use Rattle.peak_text.specs.declared.fault.PeakFault.TheVariants as peaks
use Rattle.alphabet_text.specs.declared.fault.AlphabetFault.{AlphabetFault}
use Rattle.alphabet_text.specs.declared.fault.AlphabetFault.TheVariants as alphabet
use Rattle.adducts.specs.declared.fault.AdductFault.{AdductFault}
use Rattle.adducts.specs.declared.fault.AdductFault.TheVariants as adduct
use Rattle.golden_rules.specs.declared.fault.RulesFault.{RulesFault}
use Rattle.golden_rules.specs.declared.fault.RulesFault.TheVariants as rules
use Rattle.formula_text.specs.declared.fault.FormulaFault.{FormulaFault}
use Rattle.formula_text.specs.declared.fault.FormulaFault.TheVariants as formula
use Rattle.certificate_text.specs.declared.fault.CertificateFault.{CertificateFault}
use Rattle.certificate_text.specs.declared.fault.CertificateFault.TheVariants as certificate
use Rattle.command_words.specs.declared.fault.WordsFault.{WordsFault}
use Rattle.command_words.specs.declared.fault.WordsFault.TheVariants as words
use Rattle.command_io.specs.declared.input_fault.InputFault.{InputFault}
use Rattle.command_io.specs.declared.input_fault.InputFault.TheVariants.{Table, Tracer, Peaks, Alphabet, Adduct, Rules}
use Rattle.command_io.specs.declared.input_fault.InputFault.TheVariants.{After, Formula, Certificate}
use Rattle.command_io.specs.declared.refusal.Refusal.{Refusal}
use Rattle.command_io.specs.declared.refusal.Refusal.TheVariants.{Words, Input, Memory}

-- what the program answers to a fault of its words, of a file or of a text: that fault, or want of memory
abbrev pub of_words_fault : WordsFault → Refusal
of_words_fault words.Memory = Memory
of_words_fault fault = Words fault

abbrev pub of_table_fault : TableFault → Refusal
of_table_fault (table.Memory e) = Memory
of_table_fault fault = Input (Table fault)

abbrev pub of_tracer_fault : TracerFault → Refusal
of_tracer_fault (tracer.Memory e) = Memory
of_tracer_fault fault = Input (Tracer fault)

abbrev pub of_peak_fault : PeakFault → Refusal
of_peak_fault (peaks.Memory e) = Memory
of_peak_fault fault = Input (Peaks fault)

abbrev pub of_alphabet_fault : AlphabetFault → Refusal
of_alphabet_fault alphabet.Memory = Memory
of_alphabet_fault fault = Input (Alphabet fault)

abbrev pub of_adduct_fault : AdductFault → Refusal
of_adduct_fault adduct.Memory = Memory
of_adduct_fault fault = Input (Adduct fault)

abbrev pub of_rules_fault : RulesFault → Refusal
of_rules_fault (rules.Memory e) = Memory
of_rules_fault fault = Input (Rules fault)

abbrev pub of_after_fault : FormulaFault → Refusal
of_after_fault (formula.Memory e) = Memory
of_after_fault fault = Input (After fault)

abbrev pub of_formula_fault : FormulaFault → Refusal
of_formula_fault (formula.Memory e) = Memory
of_formula_fault fault = Input (Formula fault)

abbrev pub of_certificate_fault : CertificateFault → Refusal
of_certificate_fault (certificate.Memory e) = Memory
of_certificate_fault fault = Input (Certificate fault)

-- an answer whose faults are those of a text or a file, as faults of what was given
abbrev pub or_fault_as : {A E : Type 0} → (E → InputFault) → Result A E → Result A InputFault
or_fault_as of_fault (Ok x) = Ok x
or_fault_as of_fault (Err fault) = Err (of_fault fault)

-- an answer over what was given, as one of the program
abbrev pub or_refusal : {A : Type 0} → Result A InputFault → Result A Refusal
or_refusal (Ok x) = Ok x
or_refusal (Err fault) = Err (Input fault)

-- A part of a run that reads what was given answers as expected, its value seen through `view`, unless it is want of
-- memory. Such a part uses no device.
abbrev pub GivesInput : {X A : Type 0} → (X → A) → Result A InputFault → Result X Refusal → Type 0
GivesInput view expected (Ok x) = expected ≡ Ok (view x)
GivesInput view expected (Err (Input fault)) = expected ≡ Err fault
GivesInput view expected (Err Memory) = ⊤
GivesInput view expected (Err refusal) = ⊥
