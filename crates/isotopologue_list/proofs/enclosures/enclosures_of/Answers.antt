-- Each enclosure follows from those of counts that are nearer to the mode, which stand before it in the order.
use Rattle.std.proofs.Common.{◌≡◌, ℕ, ◌<◌, length, get_or, map, refl, ◌∙◌, ap, arith, rules}
use Rattle.std.proofs.lemmas.List.{length-map, map-set}
use Rattle.multinomial_bounds.specs.declared.enclosure.Enclosure.{Enclosure}
use Rattle.multinomial_bounds.specs.Weight.{IsCounts}
use Rattle.multinomial_bounds.specs.Mode.{mode_of_atoms}
use Rattle.isotopologue_list.specs.Nearest.{composition_at}
use Rattle.isotopologue_list.specs.ListedParts.{ends_of_counts}
use Rattle.isotopologue_list.proofs.ParentLemmas.{ends_of_mode}
use Rattle.isotopologue_list.proofs.SearchLemmas.{row_inside, row_at_place, composition_at-IsCounts}
use Rattle.isotopologue_list.proofs.NearestLemmas.{IsNearestFirst, IsNearestFirst-from, AreKnown-none, AreKnown-nearer, AreKnown-more, AreKnown-all}
use Rattle.isotopologue_list.proofs.enclosures.enclosures_of.Goals as goal
use Rattle.isotopologue_list.proofs.enclosures.enclosures_of.Goals.{then-moves-eq0, else-moves-eq0, After-deref-moves-items, After-row_at-row}

mode_counts : (c : After-deref-moves-items) → IsCounts c.args.weights.now c.args.atoms c.counts-mode.result.now
mode_counts c = rw c.counts-mode.ensures c.in_ok-spread.ensures.counts

mode_value : (c : After-deref-moves-items) → c.counts-mode.result.now ≡ mode_of_atoms c.args.weights.now c.args.atoms
mode_value c = c.counts-mode.ensures ∙ c.in_ok-spread.ensures.mode

nearest : (c : After-deref-moves-items) →
    IsNearestFirst (length c.args.weights.now) c.args.atoms c.counts-mode.result.now c.deref-moves-items.result.now
nearest c =
    let is = mode_counts c in
    let first = IsNearestFirst-from c.counts-mode.result.now c.in_ok-order.order.items c.in_ok-order.ensures.all c.in_ok-order.ensures.in_order in
    rw (← is.places_agree, ← is.atoms_agree, c.deref-moves-items.ensures.value) first

pub loop-moves-init : goal.loop-moves-init
loop-moves-init c =
    let first = nearest (goal.at.loop-moves-init c).After-deref-moves-items in
    let many : length c.in_ok-enclosures.enclosures.items ≡ length c.deref-moves-items.result.now = search rules in
    record {
      room = search rules;
      known = AreKnown-none (length c.args.weights.now) c.args.atoms c.args.weights.now c.deref-moves-items.result.now
          (map {B = ℕ × ℕ} (λ e. (e.lo, e.hi)) c.in_ok-enclosures.enclosures.items)
          (length-map {B = ℕ × ℕ} c.in_ok-enclosures.enclosures.items (λ e. (e.lo, e.hi)) ∙ many ∙ first.size);
    }

pub row_at-row-requires : goal.row_at-row-requires
row_at-row-requires c =
    let first = nearest (goal.at.row_at-row-requires c).After-deref-moves-items in
    row_inside c.args.weights.now c.args.counts.now c.args.atoms c.requires.all
    (get_or c.deref-moves-items.result.now c.loop-moves.moves-index (0, 0)).1
    (first.within c.loop-moves.moves-index c.loop-moves-test.true)

-- the counts that are next
row_is : (c : After-row_at-row) →
    IsNearestFirst (length c.args.weights.now) c.args.atoms c.counts-mode.result.now c.deref-moves-items.result.now →
    c.row_at-row.result.now ≡ composition_at (length c.args.weights.now) c.args.atoms (get_or c.deref-moves-items.result.now c.loop-moves.moves-index (0, 0)).1
row_is c first =
    c.row_at-row.ensures
    ∙ row_at_place c.args.weights.now c.args.counts.now c.args.atoms c.requires.all (get_or c.deref-moves-items.result.now c.loop-moves.moves-index (0, 0)).1
    (first.within c.loop-moves.moves-index c.loop-moves-test.true)

pub enclosure_by_parent-enclosure-requires-clause-row : goal.enclosure_by_parent-enclosure-requires-clause-row
enclosure_by_parent-enclosure-requires-clause-row c =
    let is = mode_counts (goal.at.enclosure_by_parent-enclosure-requires-clause-row c).After-deref-moves-items in
    let first = nearest (goal.at.enclosure_by_parent-enclosure-requires-clause-row c).After-deref-moves-items in
    rw (is.atoms_agree, row_is (goal.at.enclosure_by_parent-enclosure-requires-clause-row c).After-row_at-row first)
    (composition_at-IsCounts c.args.weights.now c.args.atoms (get_or c.deref-moves-items.result.now c.loop-moves.moves-index (0, 0)).1
    (first.within c.loop-moves.moves-index c.loop-moves-test.true))

pub enclosure_by_parent-enclosure-requires-clause-not_the_mode : goal.enclosure_by_parent-enclosure-requires-clause-not_the_mode
enclosure_by_parent-enclosure-requires-clause-not_the_mode c =
    let first = nearest (goal.at.enclosure_by_parent-enclosure-requires-clause-not_the_mode c).After-deref-moves-items in
    rw (row_is (goal.at.enclosure_by_parent-enclosure-requires-clause-not_the_mode c).After-row_at-row first)
    (omega (arith, first.moves c.loop-moves.moves-index c.loop-moves-test.true, c.if-moves-eq0.false))

pub enclosure_by_parent-enclosure-requires-clause-nearer_known : goal.enclosure_by_parent-enclosure-requires-clause-nearer_known
enclosure_by_parent-enclosure-requires-clause-nearer_known c =
    let is = mode_counts (goal.at.enclosure_by_parent-enclosure-requires-clause-nearer_known c).After-deref-moves-items in
    let first = nearest (goal.at.enclosure_by_parent-enclosure-requires-clause-nearer_known c).After-deref-moves-items in
    rw (
      is.atoms_agree,
      row_is (goal.at.enclosure_by_parent-enclosure-requires-clause-nearer_known c).After-row_at-row first,
      ← first.moves c.loop-moves.moves-index c.loop-moves-test.true,
      c.deref.ensures.value,
    )
    (AreKnown-nearer (length c.args.weights.now) c.args.atoms c.args.weights.now c.counts-mode.result.now
    c.deref-moves-items.result.now (map {B = ℕ × ℕ} (λ e. (e.lo, e.hi)) c.loop-moves.enclosures.items)
    c.loop-moves.moves-index first c.loop-moves.invariant.known c.loop-moves-test.true)

pub index_mut-requires : goal.index_mut-requires
index_mut-requires c =
    let first = nearest (goal.at.index_mut-requires c).After-deref-moves-items in
    let inside : (get_or c.deref-moves-items.result.now c.loop-moves.moves-index (0, 0)).1 < length c.loop-moves.enclosures.items =
    omega (
      arith,
      first.within c.loop-moves.moves-index c.loop-moves-test.true,
      c.loop-moves.invariant.known.one_each,
      length-map {B = ℕ × ℕ} c.loop-moves.enclosures.items (λ e. (e.lo, e.hi)),
    ) in
    search rules

pub loop-moves-preserved : goal.loop-moves-preserved
loop-moves-preserved c =
    let is = mode_counts (goal.at.loop-moves-preserved c).After-deref-moves-items in
    let value = mode_value (goal.at.loop-moves-preserved c).After-deref-moves-items in
    let first = nearest (goal.at.loop-moves-preserved c).After-deref-moves-items in
    let row = row_is (goal.at.loop-moves-preserved c).After-row_at-row first in
    let moves = first.moves c.loop-moves.moves-index c.loop-moves-test.true in
    let ends : Enclosure → ℕ × ℕ = λ e. (e.lo, e.hi) in
    let next : (c.if-moves-eq0.enclosure.lo, c.if-moves-eq0.enclosure.hi)
    ≡ ends_of_counts c.args.weights.now (composition_at (length c.args.weights.now) c.args.atoms (get_or c.deref-moves-items.result.now c.loop-moves.moves-index (0, 0)).1) =
    elim c.if-moves-eq0.branch [
      | then-moves-eq0 w ↦
          ap ends w.enclosure-is
          ∙ ends_of_mode c.args.weights.now c.counts-mode.result.now
          (composition_at (length c.args.weights.now) c.args.atoms (get_or c.deref-moves-items.result.now c.loop-moves.moves-index (0, 0)).1)
          c.args.atoms c.in_ok-spread.enclosure_of_mode.lo c.in_ok-spread.enclosure_of_mode.hi is value
          c.in_ok-spread.ensures.lo c.in_ok-spread.ensures.hi
          (composition_at-IsCounts c.args.weights.now c.args.atoms (get_or c.deref-moves-items.result.now c.loop-moves.moves-index (0, 0)).1
          (first.within c.loop-moves.moves-index c.loop-moves-test.true))
          (omega (arith, moves, w.if-moves-eq0.true))
      | else-moves-eq0 w ↦
          ap ends w.enclosure-is
          ∙ (let both : (w.enclosure_by_parent-enclosure.result.lo, w.enclosure_by_parent-enclosure.result.hi)
          ≡ ends_of_counts c.args.weights.now c.row_at-row.result.now =
          rw (w.enclosure_by_parent-enclosure.ensures.lo, w.enclosure_by_parent-enclosure.ensures.hi) in both)
          ∙ ap (ends_of_counts c.args.weights.now) row
    ] in
    record {
      room = elim c.if-moves-eq0.branch [ then-moves-eq0 w ↦ search rules | else-moves-eq0 w ↦ search rules ];
      known = rw map-set
          (AreKnown-more (length c.args.weights.now) c.args.atoms c.args.weights.now c.counts-mode.result.now
          c.deref-moves-items.result.now (map {B = ℕ × ℕ} (λ e. (e.lo, e.hi)) c.loop-moves.enclosures.items)
          c.loop-moves.moves-index first c.loop-moves.invariant.known (get_or c.deref-moves-items.result.now c.loop-moves.moves-index (0, 0)).1
          (c.if-moves-eq0.enclosure.lo, c.if-moves-eq0.enclosure.hi) c.loop-moves-test.true refl next);
    }

pub returns : goal.returns
returns c =
    AreKnown-all (length c.args.weights.now) c.args.atoms c.args.weights.now c.counts-mode.result.now c.deref-moves-items.result.now
    (map {B = ℕ × ℕ} (λ e. (e.lo, e.hi)) c.loop-moves.enclosures.items) c.loop-moves.moves-index
    (nearest (goal.at.returns c).After-deref-moves-items) c.loop-moves.invariant.known c.loop-moves-test.false
