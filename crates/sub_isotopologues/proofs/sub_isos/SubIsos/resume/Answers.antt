-- So many items are given.
use Rattle.std.proofs.Common.{arith}
use Rattle.sub_isotopologues.proofs.KeptLists.{IsListed-given}
use Rattle.sub_isotopologues.proofs.sub_isos.SubIsos.resume.Goals as goal

pub invariant_of-list : goal.invariant_of-list
invariant_of-list c = IsListed-given _ _ _ c.args.token c.list.invariant
    (omega (arith, c.if-token-list.false))
