-- The laws are lemmas on the definitions.
use Rattle.cover_claims.proofs.ClaimTruth.{claim-true}
use Rattle.cover_claims.proofs.CoverAccepted.{cover-accepted}
use Rattle.cover_claims.proofs.laws.claim_laws.Goals as goal

pub returns-clause-sound : goal.returns-clause-sound
returns-clause-sound c = claim-true

pub returns-clause-complete : goal.returns-clause-complete
returns-clause-complete c = cover-accepted
