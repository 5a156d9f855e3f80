use Rattle.std.proofs.Common.{◌≡◌, ◌-◌, length, map, not, eqb}
use Rattle.std.specs.Prelude.{filter}
use Rattle.std.specs.List.{range_with_len}
use Rattle.isotopologue_neighbours.specs.Moves.{moved, takers}
use Rattle.cover_claims.specs.Claims.{isotopologues_in, member_at}
use Rattle.cover_claims.specs.Surroundings.{left_out_among}
use Rattle.cover_claims.proofs.boundary.left_out_from.Given as goal

-- none was left out so far, so the first one is the first of those that are to come
abbrev pub invariant-loop-taker : goal.invariant-loop-taker
invariant-loop-taker l =
    let own = l.around.own.now in
    let members = isotopologues_in l.claimed.members in
    let member = member_at members l.around.place in
    let others = filter (λ j. not (eqb j l.giver)) (range_with_len l.taker (length own - l.taker)) in
    record {
      parts : l.parts ≡ l.fn.parts;
      room : length l.changed ≡ length own;
      rest : left_out_among l.claimed.elements l.threshold members member l.around.element (map (moved own l.giver) others)
          ≡ left_out_among l.claimed.elements l.threshold members member l.around.element
          (map (moved own l.giver) (takers own l.giver));
    }
