-- No product is above 1, so the list begins empty.
use Rattle.std.proofs.Common.{refl}
use Rattle.sub_isotopologues.proofs.KeptLists.{listed-none}
use Rattle.sub_isotopologues.proofs.sub_isos.SubIsos.restart.Goals as goal

pub invariant_of-self-2 : goal.invariant_of-self-2
invariant_of-self-2 c =
    rw c.in_ok-replace_bounds.ensures.replaced
    (listed-none _ _ c.self.invariant.weights c.requires.others_in_range refl refl)
