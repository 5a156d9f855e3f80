use Rattle.std.proofs.Common.{◌≡◌}
use Rattle.cover_claims.proofs.members.claim_elements.Given as goal

abbrev pub invariant-loop-element : goal.invariant-loop-element
invariant-loop-element l = l.with_modes.items ≡ l.yielded
