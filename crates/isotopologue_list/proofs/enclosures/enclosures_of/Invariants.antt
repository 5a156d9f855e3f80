use Rattle.std.proofs.Common.{◌≡◌, ℕ, length, map}
use Rattle.isotopologue_list.proofs.NearestLemmas.{AreKnown}
use Rattle.isotopologue_list.proofs.enclosures.enclosures_of.Given as goal

-- the enclosures at the first places of the order are known
abbrev pub invariant-loop-moves : goal.invariant-loop-moves
invariant-loop-moves l = record {
  room : length l.parent.items ≡ length l.weights;
  known : AreKnown (length l.weights) l.atoms l.weights l.moves-items
      (map {B = ℕ × ℕ} (λ e. (e.lo, e.hi)) l.enclosures.items) l.moves-index;
}
