use Rattle.std.proofs.Common.{◌≡◌, ◌*◌, ◌++◌, length}
use Rattle.candidates.specs.Enumeration.{counts_left}
use Rattle.candidates.specs.KeptLists.{lists_in}
use Rattle.candidates.proofs.candidates.Candidates.keep.Given as goal

-- the lists kept so far, and those that are left, are all
abbrev pub invariant-loop-many : goal.invariant-loop-many
invariant-loop-many g l = record {
  premises : l.self.premises ≡ l.initial.self.premises;
  peak : l.self.mz ≡ l.initial.self.mz;
  width : l.width ≡ length l.initial.self.premises.alphabet;
  size : length l.counts.items ≡ l.many * l.width;
  parts : counts_left l.initial.self ≡ lists_in l.many l.width l.counts.items ++ counts_left l.self;
}
