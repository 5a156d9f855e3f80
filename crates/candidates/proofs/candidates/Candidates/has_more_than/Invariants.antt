use Rattle.std.proofs.Common.{◌≡◌, ◌+◌, length}
use Rattle.candidates.specs.Enumeration.{counts_left}
use Rattle.candidates.proofs.candidates.Candidates.has_more_than.Given as goal

abbrev pub invariant-loop : goal.invariant-loop
invariant-loop g l = record {
  same : l.self ≡ l.initial.self;
  ahead : length (counts_left l.self) ≡ l.counter + length (counts_left l.ahead);
}
