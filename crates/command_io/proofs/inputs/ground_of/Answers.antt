use Rattle.std.proofs.Common.{ℕ, List, sym, ap}
use Rattle.std.specs.Prelude.{Result, Ok, Err}
use Rattle.std.proofs.lemmas.Result.{err_from_is_err_and}
use Rattle.outside_ports.specs.Files.{Files}
use Rattle.mass_scaling.specs.declared.tolerances.Tolerance.{Tolerance}
use Rattle.element_table.specs.Elements.{TableEntries}
use Rattle.alphabet_text.specs.declared.entries.AlphabetEntry.{AlphabetEntry}
use Rattle.adducts.specs.Adducts.{AdductValue}
use Rattle.golden_rules.specs.declared.rule.Rule.{Rule}
use Rattle.candidates.specs.Grounds.{GroundValue}
use Rattle.command_io.specs.Asked.{Asked, asks_none, ◌and_then◌}
use Rattle.command_io.specs.Steps.{adduct_step, alphabet_step, rules_step}
use Rattle.command_io.specs.declared.input_fault.InputFault.{InputFault}
use Rattle.command_io.specs.declared.refusal.Refusal.TheVariants.{Memory}
use Rattle.command_io.proofs.PartLaws.{given_next, given_stop, part_end, part_end_stop}
use Rattle.command_io.proofs.inputs.ground_of.Goals as goal

-- what is made of what was read
abbrev made : TableEntries → Tolerance → List AlphabetEntry → AdductValue → List Rule → Result GroundValue InputFault
made table tolerance alphabet adduct rules =
    Ok (record { table = table; alphabet = alphabet; adduct = adduct; tolerance = tolerance; rules = rules })

-- what follows the adduct, and the alphabet
abbrev behind_adduct : TableEntries → Tolerance → List ℕ → List AlphabetEntry → AdductValue → Files → Asked GroundValue
behind_adduct table tolerance word alphabet adduct files =
    rules_step table word files and_then λ rules. asks_none (made table tolerance alphabet adduct rules)

abbrev behind_alphabet : TableEntries → Tolerance → List ℕ → List ℕ → List AlphabetEntry → Files → Asked GroundValue
behind_alphabet table tolerance text word alphabet files =
    asks_none (adduct_step table text) and_then λ adduct. behind_adduct table tolerance word alphabet adduct files

pub returns-in_err-adduct-clause-part : goal.returns-in_err-adduct-clause-part
returns-in_err-adduct-clause-part g c =
    let a = c.args in
    let given = err_from_is_err_and c.from_residual-in_err-adduct.result c.from_residual-in_err-adduct.ensures.1 in
    rw (given.1, given.2) (given_next (λ p. p) _ (alphabet_step a.table a.alphabet.now)
    (behind_alphabet a.table a.tolerance a.adduct.now a.rules.now) _ _ c.in_ok-alphabet.alphabet _
    c.in_ok-alphabet.ensures.alphabet
    (given_stop (λ x. x) (λ p. p) _ (adduct_step a.table a.adduct.now)
    (behind_adduct a.table a.tolerance a.rules.now c.in_ok-alphabet.alphabet) _ _ c.in_err-adduct.ensures.adduct))

pub returns-in_err-rules-clause-part : goal.returns-in_err-rules-clause-part
returns-in_err-rules-clause-part g c =
    let a = c.args in
    let given = err_from_is_err_and c.from_residual-in_err-rules.result c.from_residual-in_err-rules.ensures.1 in
    rw (given.1, given.2) (given_next (λ p. p) _ (alphabet_step a.table a.alphabet.now)
    (behind_alphabet a.table a.tolerance a.adduct.now a.rules.now) _ _ c.in_ok-alphabet.alphabet _
    c.in_ok-alphabet.ensures.alphabet
    (given_next (λ p. p) _ (adduct_step a.table a.adduct.now)
    (behind_adduct a.table a.tolerance a.rules.now c.in_ok-alphabet.alphabet) _ _ c.in_ok-adduct.adduct _
    c.in_ok-adduct.ensures.adduct
    (part_end_stop (λ r. r) (λ p. p) _ (rules_step a.table a.rules.now)
    (made a.table a.tolerance c.in_ok-alphabet.alphabet c.in_ok-adduct.adduct) _ _ _ c.in_err-rules.ensures)))

pub returns-in_err-of-clause-part : goal.returns-in_err-of-clause-part
returns-in_err-of-clause-part g c =
    let a = c.args in
    let given = err_from_is_err_and c.from_residual-in_err-of.result c.from_residual-in_err-of.ensures.1 in
    rw (given.1, given.2) (given_next (λ p. p) _ (alphabet_step a.table a.alphabet.now)
    (behind_alphabet a.table a.tolerance a.adduct.now a.rules.now) _ _ c.in_ok-alphabet.alphabet _
    c.in_ok-alphabet.ensures.alphabet
    (given_next (λ p. p) _ (adduct_step a.table a.adduct.now)
    (behind_adduct a.table a.tolerance a.rules.now c.in_ok-alphabet.alphabet) _ _ c.in_ok-adduct.adduct _
    c.in_ok-adduct.ensures.adduct
    (part_end (λ r. r) (λ p. p) _ (rules_step a.table a.rules.now)
    (made a.table a.tolerance c.in_ok-alphabet.alphabet c.in_ok-adduct.adduct) _ _ c.in_ok-rules.rules
    (Err Memory) c.in_ok-rules.ensures tt)))

pub returns-clause-part : goal.returns-clause-part
returns-clause-part g c =
    let a = c.args in
    given_next (λ p. p) _ (alphabet_step a.table a.alphabet.now)
    (behind_alphabet a.table a.tolerance a.adduct.now a.rules.now) _ _ c.in_ok-alphabet.alphabet _
    c.in_ok-alphabet.ensures.alphabet
    (given_next (λ p. p) _ (adduct_step a.table a.adduct.now)
    (behind_adduct a.table a.tolerance a.rules.now c.in_ok-alphabet.alphabet) _ _ c.in_ok-adduct.adduct _
    c.in_ok-adduct.ensures.adduct
    (part_end (λ r. r) (λ p. p) _ (rules_step a.table a.rules.now)
    (made a.table a.tolerance c.in_ok-alphabet.alphabet c.in_ok-adduct.adduct) _ _ c.in_ok-rules.rules
    _ c.in_ok-rules.ensures (ap Ok (sym c.in_ok-of.ensures.made))))
