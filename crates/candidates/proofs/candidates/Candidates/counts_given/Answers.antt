use Rattle.std.proofs.Common.{subst}
use Rattle.std.specs.Prelude.{All, IfSome, ◌≤◌}
use Rattle.candidates.specs.Enumeration.{CandidateEnumeration}
use Rattle.candidates.specs.declared.count_lists.TheConstants.{MAX_KEPT_COUNT}
use Rattle.candidates.proofs.KeptCounts.{few_given}
use Rattle.candidates.proofs.candidates.Candidates.counts_given.Goals as goal

pub returns-clause-few : goal.returns-clause-few
returns-clause-few c =
    subst (λ (e : CandidateEnumeration). IfSome e.given (All (λ count. count ≤ MAX_KEPT_COUNT))) c.self.view_is
    (few_given _ _ c.self.invariant.1.is_ground c.self.invariant.1.token)
