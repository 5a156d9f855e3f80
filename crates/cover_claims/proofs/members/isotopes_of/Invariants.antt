use Rattle.std.proofs.Common.{◌≡◌, ◌≤◌, ◌*◌, take}
use Rattle.cover_claims.specs.CountsInRow.{isotopes_of_all}
use Rattle.cover_claims.proofs.members.isotopes_of.Given as goal

abbrev pub invariant-loop-element : goal.invariant-loop-element
invariant-loop-element l = (l.isotopes ≡ isotopes_of_all (take l.element-index l.elements)) × (l.isotopes ≤ l.element-index * 16)
