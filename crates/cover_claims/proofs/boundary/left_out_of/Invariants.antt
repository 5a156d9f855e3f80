use Rattle.std.proofs.Common.{◌≡◌, length, map, take}
use Rattle.std.specs.Prelude.{find}
use Rattle.std.specs.List.{concat}
use Rattle.multinomial_bounds.specs.Bounds.{floor_of, ceiling_of}
use Rattle.multinomial_bounds.specs.Isotopologue.{bounds_of}
use Rattle.isotopologue_neighbours.specs.Moves.{neighbours_of}
use Rattle.cover_claims.specs.Claims.{isotopologues_in, member_at, is_left_out}
use Rattle.cover_claims.specs.Surroundings.{as_row}
use Rattle.cover_claims.proofs.NeighboursByElement.{first_from}
use Rattle.cover_claims.proofs.boundary.left_out_of.Given as goal

-- none was left out so far, so the first one is the first of those that are to come
abbrev pub invariant-loop-element : goal.invariant-loop-element
invariant-loop-element l =
    let es = l.claimed.elements in
    let members = isotopologues_in l.claimed.members in
    let member = member_at members l.place in
    record {
      lo : map (λ e. e.lo) l.parts ≡ bounds_of floor_of es member;
      hi : map (λ e. e.hi) l.parts ≡ bounds_of ceiling_of es member;
      from : l.from ≡ length (concat (take l.element member));
      rest : first_from es l.threshold members member l.element
          ≡ as_row es (find (is_left_out es l.threshold members) (neighbours_of member));
    }
