-- The moves are listed place by place, and put in order.
use Rattle.std.proofs.Common.{◌≡◌, ℕ, ◌<◌, length, sum, ◌∙◌, ap, arith, rules}
use Rattle.std.proofs.lemmas.List.Sorted.{IsNonDecreasingBy-from_sort_by_key}
use Rattle.multinomial_bounds.specs.Compositions.{compositions}
use Rattle.isotopologue_list.specs.Nearest.{composition_at, moves_to_all}
use Rattle.isotopologue_list.proofs.SearchLemmas.{row_count, row_at_place, composition_at-IsCounts}
use Rattle.isotopologue_list.proofs.NearestLemmas.{moves_to_first, moves_to_first-none, moves_to_first-more, moves_to_first-all}
use Rattle.isotopologue_list.proofs.enclosures.nearest_first.Goals as goal
use Rattle.isotopologue_list.proofs.enclosures.nearest_first.Goals.{After-row_at-row, After-loop-place}

within : (c : After-row_at-row) → c.loop-place.place < length (compositions (length c.args.mode.now) (sum c.args.mode.now))
within c = omega (arith, row_count c.args.mode.now c.args.counts.now (sum c.args.mode.now) c.requires.all c.requires.some)

row_is : (c : After-row_at-row) →
    c.row_at-row.result.now ≡ composition_at (length c.args.mode.now) (sum c.args.mode.now) c.loop-place.place
row_is c =
    c.row_at-row.ensures
    ∙ row_at_place c.args.mode.now c.args.counts.now (sum c.args.mode.now) c.requires.all c.loop-place.place (within c)

pub loop-place-init : goal.loop-place-init
loop-place-init c = c.new-order.ensures.items ∙ moves_to_first-none c.args.mode.now

pub atoms_above-requires-clause-few_atoms : goal.atoms_above-requires-clause-few_atoms
atoms_above-requires-clause-few_atoms c =
    let at = (goal.at.atoms_above-requires-clause-few_atoms c).After-row_at-row in
    let is = composition_at-IsCounts c.args.mode.now (sum c.args.mode.now) c.loop-place.place (within at) in
    rw (row_is at, is.atoms_agree) c.requires.few_atoms

pub loop-place-preserved : goal.loop-place-preserved
loop-place-preserved c =
    rw (c.in_ok-push.ensures.items, c.loop-place.invariant, c.atoms_above.ensures, row_is (goal.at.loop-place-preserved c).After-row_at-row)
    (moves_to_first-more c.args.mode.now c.loop-place.place)

listed : (c : After-loop-place) → c.loop-place.order.items ≡ moves_to_all c.args.mode.now
listed c =
    let all : c.loop-place.place ≡ length (compositions (length c.args.mode.now) (sum c.args.mode.now)) =
    omega (arith, row_count c.args.mode.now c.args.counts.now (sum c.args.mode.now) c.requires.all c.requires.some) in
    c.loop-place.invariant ∙ ap (moves_to_first c.args.mode.now) all ∙ moves_to_first-all c.args.mode.now

pub returns-clause-all : goal.returns-clause-all
returns-clause-all c =
    rw (listed (goal.at.returns-clause-all c).After-loop-place) at c.sort_unstable_by_key.ensures.permutation

pub returns-clause-in_order : goal.returns-clause-in_order
returns-clause-in_order c =
    IsNonDecreasingBy-from_sort_by_key (λ (p : ℕ × ℕ). p.0) c.sort_unstable_by_key.new.self.items
    c.sort_unstable_by_key.ensures.sorted (λ a r q k. search rules)
