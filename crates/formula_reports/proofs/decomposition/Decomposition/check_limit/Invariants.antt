use Rattle.std.proofs.Common.{◌≡◌, ℕ, ◌<◌, false, get_or, length}
use Rattle.formula_reports.specs.PageFormulas.{AreKept}
use Rattle.formula_reports.proofs.CrowdedPeaks.{is_crowded}
use Rattle.formula_reports.proofs.decomposition.Decomposition.check_limit.Given as goal

-- none of the peaks so far has too many
abbrev pub invariant-loop-i : goal.invariant-loop-i
invariant-loop-i l = record {
  none : (k : ℕ) → k < l.i → is_crowded l.self (get_or l.self.mzs k 0) ≡ false;
  room : l.room < 1048576;
  peaks : length l.kept.items ≡ l.i;
  kept : AreKept l.self l.kept.items;
}
