use Rattle.std.proofs.Common.{map}
use Rattle.cover_claims.proofs.Parts.{PartsBefore}
use Rattle.cover_claims.proofs.enclosures.parts_of.Given as goal

-- the parts of the elements so far, and what is left of the counts
abbrev pub invariant-loop-element : goal.invariant-loop-element
invariant-loop-element l =
    PartsBefore l.elements l.fn.counts l.element-index l.rest (map (λ e. e.lo) l.parts.items)
    (map (λ e. e.hi) l.parts.items)
