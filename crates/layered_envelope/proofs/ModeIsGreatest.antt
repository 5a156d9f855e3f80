-- No counts of an element have a greater upper bound than its mode.
use Rattle.std.proofs.Common.{ℕ, ◌≤◌, List, refl}
use Rattle.multinomial_bounds.specs.Bounds.{ceiling_of}
use Rattle.multinomial_bounds.specs.Weight.{IsWeights, IsCounts}
use Rattle.multinomial_bounds.specs.Mode.{mode_of_atoms, mode_bound}
use Rattle.multinomial_bounds.specs.Path.{atoms_above, bound_of}
use Rattle.multinomial_bounds.proofs.EnclosureLemmas.{bound_of-mode}
use Rattle.sub_isotopologues.proofs.Descent as Descent

pub hi-le-mode : (ws : List ℕ) (n : ℕ) → IsWeights ws → (y : List ℕ) → IsCounts ws n y →
    bound_of ceiling_of ws y ≤ mode_bound ceiling_of ws n
hi-le-mode ws n ok y is =
    rw (← bound_of-mode ceiling_of ws ok.some n)
    (Descent.hi-le-mode ws n ok (atoms_above (mode_of_atoms ws n) y) y is refl)
