-- The rows are all counts of the element.
use Rattle.std.proofs.Common.{◌≡◌, ℕ, length, map, sym, ◌∙◌, ap, arith}
use Rattle.std.specs.Prelude.{flat_map}
use Rattle.std.proofs.lemmas.List.{length-map}
use Rattle.std.proofs.lemmas.Grind.{common_steps}
use Rattle.multinomial_bounds.specs.Compositions.{compositions, counts_of}
use Rattle.isotopologue_list.specs.ListedParts.{ends_of_counts}
use Rattle.isotopologue_list.proofs.RowLemmas.{rows-end_to_end, length-end_to_end}
use Rattle.multinomial_bounds.proofs.CompositionLemmas.{compositions-IsCounts}
use Rattle.isotopologue_list.proofs.element_list.ElementList.of.Goals as goal
use Rattle.isotopologue_list.proofs.element_list.ElementList.of.Goals.{In_ok-enclosures}

counts_are : (c : In_ok-enclosures) →
    c.append_compositions.new.rows.items ≡ flat_map (λ x. x) (compositions (length c.weights-weights.result.now) c.args.element.now.atoms)
counts_are c = grind (arith, common_steps)

enclosures_are : (c : In_ok-enclosures) →
    map {B = ℕ × ℕ} (λ e. (e.lo, e.hi)) c.in_ok-enclosures.enclosures.items
    ≡ map (ends_of_counts c.weights-weights.result.now) (compositions (length c.weights-weights.result.now) c.args.element.now.atoms)
enclosures_are c = grind (arith, common_steps)

pub invariant_of-result : goal.invariant_of-result
invariant_of-result c =
    let cs = compositions (length c.weights-weights.result.now) c.args.element.now.atoms in
    let many : length cs ≡ length c.in_ok-enclosures.enclosures.items =
    sym (length-map {B = ℕ × ℕ} cs (ends_of_counts c.weights-weights.result.now))
    ∙ ap length (sym (enclosures_are c))
    ∙ length-map {B = ℕ × ℕ} c.in_ok-enclosures.enclosures.items (λ e. (e.lo, e.hi)) in
    rw (counts_are c, ← many)
    (length-end_to_end c.weights-weights.result.now c.args.element.now.atoms cs
    (compositions-IsCounts c.weights-weights.result.now c.args.element.now.atoms))

pub returns-clause-all : goal.returns-clause-all
unfolding counts_of
returns-clause-all c =
    let at = (goal.at.returns-clause-all c).In_ok-enclosures in
    let cs = compositions (length c.weights-weights.result.now) c.args.element.now.atoms in
    rw (counts_are at, enclosures_are at, ← c.weights-weights.ensures.value)
    (rows-end_to_end c.weights-weights.result.now c.args.element.now.atoms cs
    (compositions-IsCounts c.weights-weights.result.now c.args.element.now.atoms))
