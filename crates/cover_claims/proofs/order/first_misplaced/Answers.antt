use Rattle.std.proofs.Common.{refl}
use Rattle.cover_claims.specs.Claims.{first_misplaced}
use Rattle.cover_claims.proofs.order.first_misplaced.Goals as goal

pub loop-place-init : goal.loop-place-init
unfolding first_misplaced
loop-place-init c = refl
