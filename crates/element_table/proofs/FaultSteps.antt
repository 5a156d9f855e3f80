-- A step that makes a change unless there is a fault.
use Rattle.std.proofs.Common.{◌≡◌, Option, Some, None, Result, Ok, Err, refl, sym, ap, ◌∙◌}
use Rattle.reader_answers.specs.Answers.{GivesAs, unless_fault}
use Rattle.element_table.specs.TableFaults.{is_memory}
use Rattle.element_table.specs.declared.fault.TableFault.{TableFault}
use Rattle.element_table.specs.declared.fault.TableFault.TheVariants as fault

-- where there is no fault, the change is made
pub unless_fault-none : {A : Type 0} (o : Option TableFault) (changed new : A) → o ≡ None → new ≡ changed
    → unless_fault o (Ok changed) ≡ Ok new
unless_fault-none o changed new none is = rw none (ap Ok (sym is))

-- and else the fault is the answer
pub unless_fault-some : {A : Type 0} (o : Option TableFault) (answer : Result A TableFault) (f : TableFault)
    → o ≡ Some f → unless_fault o answer ≡ Err f
unless_fault-some o answer f some = rw some refl

pub from_ok : {A : Type 0} (o : Option TableFault) (changed new : A) → unless_fault o (Ok changed) ≡ Ok new
    → (o ≡ None) × (new ≡ changed)
from_ok None changed new is = (let same : new ≡ changed = cc in (refl, same))
from_ok (Some f) changed new is = cc

pub from_err : {A : Type 0} (o : Option TableFault) (changed : A) (f : TableFault) → unless_fault o (Ok changed) ≡ Err f
    → o ≡ Some f
from_err None changed f is = cc
from_err (Some g) changed f is = (let same : g ≡ f = cc in ap Some same)

-- a step within a larger one has the larger one's outcome, where it has its fault and brings about its change
pub GivesAs-within : {A B U : Type 0} {expected within : Option TableFault} {changed new : A} {part part_new : B}
    (r : Result U TableFault)
    → expected ≡ within → (part_new ≡ part → new ≡ changed)
    → GivesAs (λ _. part_new) is_memory r (unless_fault within (Ok part))
    → GivesAs (λ _. new) is_memory r (unless_fault expected (Ok changed))
GivesAs-within {within = within} {part = part} {part_new = part_new} (Ok u) same brings h =
    let step = from_ok within part part_new h in
    unless_fault-none _ _ _ (same ∙ step.0) (brings step.1)
GivesAs-within (Err (fault.Memory e)) same brings h = tt
GivesAs-within {within = within} {part = part} (Err f) same brings h =
    unless_fault-some _ _ _ (same ∙ from_err within part f h)
