use Rattle.std.proofs.Common.{length}
use Rattle.candidates.specs.Searches.{todo}
use Rattle.candidates.proofs.SearchBounds.{Walked}
use Rattle.candidates.proofs.SearchSteps.{SoFar}
use Rattle.candidates.proofs.search.Search.find.Given as goal

abbrev pub invariant-lists : goal.invariant-lists
invariant-lists g l = record {
  so_far : SoFar l.premises l.initial.self l.self;
  walked : Walked l.initial.self l.self.decomps.given l.initial.steps l.steps;
}

abbrev pub decreases-lists : goal.decreases-lists
decreases-lists g l = length (todo l.self)
