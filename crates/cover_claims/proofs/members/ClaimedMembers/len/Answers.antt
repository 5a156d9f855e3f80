use Rattle.std.proofs.Common.{length, ap, arith}
use Rattle.cover_claims.specs.Claims.{Claimed}
use Rattle.cover_claims.proofs.RowLemmas.{length-member_rows}
use Rattle.cover_claims.proofs.members.ClaimedMembers.len.Goals as goal

pub returns : goal.returns
returns c =
    let long = length-member_rows c.self.inside.elements.items c.self.inside.counts.items c.self.inside.marks.items in
    let seen = ap (λ (m : Claimed). length m.members) c.self.view_is in
    omega (arith, c.len.ensures, c.self.inside.marks.ok, long, seen)
