use Rattle.std.proofs.Common.{◌≡◌, length}
use Rattle.cover_claims.specs.Claims.{isotopologues_in, member_at}
use Rattle.isotopologue_neighbours.specs.Moves.{counts_moved}
use Rattle.cover_claims.specs.Surroundings.{left_out_among}
use Rattle.cover_claims.proofs.FirstFound.{moves_from}
use Rattle.cover_claims.proofs.boundary.left_out_by.Given as goal

-- none was left out so far, so the first one is the first of those that are to come
abbrev pub invariant-loop-giver : goal.invariant-loop-giver
invariant-loop-giver l =
    let own = l.around.own.now in
    let es = l.claimed.elements in
    let members = isotopologues_in l.claimed.members in
    let member = member_at members l.around.place in
    record {
      parts : l.parts ≡ l.fn.parts;
      room : length l.changed ≡ length own;
      rest : left_out_among es l.threshold members member l.around.element
          (moves_from es l.threshold members member l.around.element own l.giver)
          ≡ left_out_among es l.threshold members member l.around.element (counts_moved own);
    }
