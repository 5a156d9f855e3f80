-- For proofs alone: the answer that is made of what is kept of an adduct's text.
use Rattle.std.specs.Prelude.{ℕ, ℤ, pos, ◌-ℤ◌, Bool, ◌==◌, ◌||◌, nat_lt, List, if◌then◌else◌, Option, Some, None, Result, Ok, Err}
use Rattle.reader_answers.specs.Answers.{◌>>=◌}
use Rattle.written_items.specs.declared.item.Item.{Item}
use Rattle.formula_text.specs.declared.fault.PartsFault.{PartsFault}
use Rattle.formula_text.specs.declared.fault.PartsFault.TheVariants as limit
use Rattle.mass_scaling.specs.declared.limits.TheConstants.{MAX_COPIES, MAX_DIVISOR}
use Rattle.adducts.specs.declared.fault.AdductFault.{AdductFault}
use Rattle.adducts.specs.declared.fault.AdductFault.TheVariants as fault
use Rattle.adducts.specs.declared.written.WrittenCharge.{WrittenCharge}
use Rattle.adducts.specs.Adducts.{AdductValue}

-- the added and the lost atoms, or what is wrong with both
abbrev pub both_within : Result (List (Item × ℕ)) PartsFault → Result (List (Item × ℕ)) PartsFault → Result (List (Item × ℕ) × List (Item × ℕ)) AdductFault
both_within (Ok added) (Ok lost) = Ok (added, lost)
both_within (Ok added) (Err limit.TooManyAtoms) = Err fault.TooManyAtoms
both_within (Ok added) (Err limit.TooManyElements) = Err fault.TooManyElements
both_within (Ok added) (Err (limit.Memory e)) = Err fault.Memory
both_within (Err limit.TooManyAtoms) lost = Err fault.TooManyAtoms
both_within (Err limit.TooManyElements) (Ok lost) = Err fault.TooManyElements
both_within (Err limit.TooManyElements) (Err limit.TooManyAtoms) = Err fault.TooManyAtoms
both_within (Err limit.TooManyElements) (Err limit.TooManyElements) = Err fault.TooManyElements
both_within (Err limit.TooManyElements) (Err (limit.Memory e)) = Err fault.Memory
both_within (Err (limit.Memory d)) (Ok lost) = Err fault.Memory
both_within (Err (limit.Memory d)) (Err limit.TooManyAtoms) = Err fault.TooManyAtoms
both_within (Err (limit.Memory d)) (Err limit.TooManyElements) = Err fault.Memory
both_within (Err (limit.Memory d)) (Err (limit.Memory e)) = Err fault.Memory

-- the charge of what is kept, where it is 1 to 30, or none is written
abbrev pub charge_in : Option WrittenCharge → Result ℤ AdductFault
charge_in None = Ok (pos 0)
charge_in (Some charge) =
    if (charge.number == 0) || nat_lt MAX_DIVISOR charge.number then Err fault.Charge
    else Ok (if charge.is_negative then pos 0 -ℤ pos charge.number else pos charge.number)

abbrev pub adduct_with : ℕ → List (Item × ℕ) → List (Item × ℕ) → Option WrittenCharge → Result AdductValue AdductFault
adduct_with copies added lost charge =
    if (copies == 0) || nat_lt MAX_COPIES copies then Err fault.Copies
    else (charge_in charge >>= (λ (z : ℤ). Ok (record { copies = copies; added = added; lost = lost; charge = z })))
