use Rattle.std.proofs.Common.{◌≡◌, Bool, true, false, cond, refl, ap}
use Rattle.std.specs.Prelude.{Ok, Err, IsTrue}
use Rattle.candidates.proofs.TokenCounts.{box-tested}
use Rattle.candidates.specs.PeakFormulas.{items_of, limits_of}
use Rattle.candidates.specs.Tokens.{fits, has_only}
use Rattle.command_io.specs.declared.input_fault.InputFault.TheVariants.{NotInBox}
use Rattle.formula_reports.proofs.decomposition.in_box.Goals as goal

fails : (b : Bool) → (IsTrue b → ⊥) → b ≡ false
fails true f = absurd (f refl)
fails false f = refl

pub returns-in-Ok-clause-formula : goal.returns-in-Ok-clause-formula
returns-in-Ok-clause-formula c =
    let alphabet = c.args.premises.now.alphabet in
    let formula = c.args.formula in
    ap (λ b. cond b (Ok formula) (Err NotInBox))
    ((box-tested alphabet formula (has_only (items_of alphabet) formula)
    (fits (items_of alphabet) (limits_of alphabet) formula) refl refl).1 c.in-Ok.ensures.in_box)

pub returns-in-Err-NotInBox-clause-formula : goal.returns-in-Err-NotInBox-clause-formula
returns-in-Err-NotInBox-clause-formula c =
    let alphabet = c.args.premises.now.alphabet in
    let formula = c.args.formula in
    let outside = c.in-Err-NotInBox.ensures.not_in_box.0 (ap Err c.in-Err-NotInBox.field-0-is) in
    ap (λ b. cond b (Ok formula) (Err NotInBox))
    (fails _ (λ inside. outside ((box-tested alphabet formula (has_only (items_of alphabet) formula)
    (fits (items_of alphabet) (limits_of alphabet) formula) refl refl).0 inside)))
