-- Steps that ask for no file, one after another.
use Rattle.std.proofs.Common.{◌≡◌, ap, subst, sym}
use Rattle.std.specs.Prelude.{Result, Ok, Err}
use Rattle.reader_answers.specs.Answers.{◌>>=◌}
use Rattle.command_io.specs.Refusals.{GivesInput}
use Rattle.command_io.specs.declared.input_fault.InputFault.{InputFault}
use Rattle.command_io.specs.declared.refusal.Refusal.{Refusal}
use Rattle.command_io.specs.declared.refusal.Refusal.TheVariants.{Words, Input, ReadFault, WriteFault, Memory}

-- a step is refused, and then the whole is
pub gives_stop : {X Y A B : Type 0} (view : X → A) (view_of_all : Y → B) (step : Result A InputFault)
    (next : A → Result B InputFault) (refusal : Refusal) → GivesInput {X = X} view step (Err refusal) →
    GivesInput {X = Y} view_of_all (step >>= next) (Err refusal)
gives_stop view view_of_all step next (Input fault) gives = ap (λ s. s >>= next) gives
gives_stop view view_of_all step next Memory gives = tt
gives_stop view view_of_all step next (Words fault) gives = absurd gives
gives_stop view view_of_all step next (ReadFault name) gives = absurd gives
gives_stop view view_of_all step next WriteFault gives = absurd gives

-- a step is behind another one that answered
pub gives_next : {Y A B : Type 0} (view_of_all : Y → B) (step : Result A InputFault) (next : A → Result B InputFault)
    (x : A) (answered : Result Y Refusal) → step ≡ Ok x → GivesInput view_of_all (next x) answered →
    GivesInput view_of_all (step >>= next) answered
gives_next view_of_all step next x answered is gives =
    subst (λ (s : Result _ InputFault). GivesInput view_of_all (s >>= next) answered) (sym is) gives
