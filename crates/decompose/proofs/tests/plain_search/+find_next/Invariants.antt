use Rattle.std.proofs.Common.{length, ◌≡◌, ◌+◌, ◌-◌}
use Rattle.std.specs.List.{slice_index_or}
use Rattle.std.specs.Option.{option_copied}
use Rattle.decompose.proofs.SearchSteps.{Searched}
use Rattle.decompose.proofs.tests.plain_search.+find_next.Given as goal

abbrev pub decreases-find_next : goal.decreases-find_next
decreases-find_next l = length l.masses.now

abbrev pub invariant-loop-count : goal.invariant-loop-count
invariant-loop-count l = record {
  searched : Searched l.mass l.masses (slice_index_or l.fn.limits 0 record { low = 0; high = 0 }) l.limits
      l.fn.window (option_copied l.fn.given) l.count (option_copied l.given);
  unchanged : l.out ≡ l.fn.out;
}

abbrev pub decreases-loop-count : goal.decreases-loop-count
decreases-loop-count l = l.highest + 1 - l.count
