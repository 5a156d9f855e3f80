use Rattle.std.proofs.Common.{◌≡◌, ltb, false, refl}
use Rattle.layered_envelope.specs.Walks.{lower, upper}
use Rattle.layered_envelope.proofs.CountedParts.{not_above}
use Rattle.layered_envelope.proofs.counting.count_member.Goals as goal

pub returns-clause-counted : goal.returns-clause-counted
unfolding lower upper
returns-clause-counted c =
    let past : ltb c.args.end.now.threshold (upper c.args.before.hi c.args.item.hi) ≡ false =
    not_above c.args.end.now.threshold (upper c.args.before.hi c.args.item.hi) c.if-exceeds.ensures.1 in
    rw (past, c.from.ensures, c.from-2.ensures, c.times-product.ensures.lo, c.times-product.ensures.hi) refl
