use Rattle.std.proofs.Common.{◌≡◌, ℕ, List, map, ltb, take, ap, ◌∙◌, arith, rules}
use Rattle.std.specs.Prelude.{filter}
use Rattle.std.proofs.lemmas.Fn.{always_returns_same}
use Rattle.std.proofs.lemmas.List.{length-map, take_all}
use Rattle.sorted_lists.specs.SortedLists.{sorted_by}
use Rattle.isotopologue_sets.specs.Layers.{hi_of}
use Rattle.isotopologue_neighbours.specs.Closed.{greatest_above}
use Rattle.cover_claims.specs.Claims.{isotopologues_in}
use Rattle.cover_claims.proofs.MemberTotals.{falling-is}
use Rattle.cover_claims.proofs.totals.greatest_above.Goals as goal

pub returns : goal.returns
unfolding greatest_above
returns c =
    let es = c.args.claimed.now.elements in
    let members = isotopologues_in c.args.claimed.now.members in
    let whole : take c.loop-place.place members ≡ members =
    take_all c.loop-place.place members
    (omega (arith, c.loop-place-test.false, c.len-place-end.ensures, length-map c.args.claimed.now.members (λ m. m.counts))) in
    falling-is c.loop-place.bounds.items c.sort_unstable_by_key.new.self.items c.sort_unstable_by_key.ensures.permutation
    (c.sort_unstable_by_key.ensures.sorted (λ b. record { 0 = b }) (always_returns_same _ _ _ (λ a r g h. search rules)))
    ∙ ap (sorted_by (λ (a b : ℕ). ltb b a))
    (c.loop-place.invariant
    ∙ ap (λ (ms : List (List (List ℕ))). map (hi_of es) (filter (λ m. ltb c.args.threshold (hi_of es m)) ms)) whole)
