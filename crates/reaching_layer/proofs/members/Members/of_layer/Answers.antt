-- The rows in order are the members in the cover's order.
use Rattle.std.proofs.Common.{◌≡◌, ◌≤◌, ℕ, List, length, map, sum, ◌∙◌, ap, subst, arith, rules}
use Rattle.std.proofs.lemmas.List.Elements.{All-weaker}
use Rattle.std.specs.List.Sorted.{IsPermutation, IsSortedBy}
use Rattle.multinomial_bounds.specs.Weight.{IsWeights}
use Rattle.multinomial_bounds.specs.Isotopologue.{Element}
use Rattle.isotopologue_sets.specs.Layers.{layer}
use Rattle.layered_envelope.specs.PlacedLayers.{counts_at}
use Rattle.layered_envelope.proofs.LayersByPlace.{layer-IsPermutation}
use Rattle.layered_envelope.specs.Layerings.{last_threshold, last_places}
use Rattle.layered_envelope.specs.declared.gathering.MemberRow.{MemberRow}
use Rattle.reaching_layer.specs.MemberRows.{row_stands_before}
use Rattle.layered_envelope.specs.GatheredRows.{end_to_end, AreRows}
use Rattle.reaching_layer.proofs.MemberRowLaws.{few_isotopes}
use Rattle.reaching_layer.proofs.OrderedRows.{gathered-ordered}
use Rattle.reaching_layer.proofs.members.Members.of_layer.Goals as goal
use Rattle.reaching_layer.proofs.members.Members.of_layer.Goals.{After-deref}

widths : (c : After-deref) → c.in_ok-isotopes.isotopes.items ≡ map (λ (e : Element). length e.weights) c.args.elements.now
widths c = search rules

pub total_of-width-requires : goal.total_of-width-requires
total_of-width-requires c =
    let es : List Element = c.args.elements.now in
    let few = few_isotopes es
    (All-weaker (λ e. IsWeights e.weights) (λ e. length e.weights ≤ 16) (λ e w. w.few) es c.requires.elements.weights) in
    rw (c.deref.ensures.value, widths (goal.at.total_of-width-requires c).After-deref)
    (omega (arith, few, c.requires.elements.few))

pub returns : goal.returns
returns c =
    let es : List Element = c.args.elements.now in
    let given : List Element = c.args.layers.now.elements in
    let t : ℕ = last_threshold c.args.layers.now in
    let members : List (List ℕ) = last_places c.args.layers.now in
    let isotopes : List ℕ = c.in_ok-isotopes.isotopes.items in
    let counts : List ℕ = c.in_ok-counts.counts.items in
    let rows : List MemberRow = c.in_ok-counts.rows.items in
    let ordered : List MemberRow = c.sort_rows.new.rows.items in
    let width : c.total_of-width.result ≡ sum isotopes = c.total_of-width.ensures ∙ ap sum c.deref.ensures.value in
    let sorted : IsSortedBy (row_stands_before counts (sum isotopes)) ordered =
    rw (c.deref-2.ensures.value, width) at c.sort_rows.ensures.in_order in
    gathered-ordered es isotopes counts t members rows ordered (widths (goal.at.returns c).After-deref)
    (subst (λ (xs : List Element). IsPermutation (layer xs t) (map (counts_at xs) members)) c.requires.of_elements
    (layer-IsPermutation given t))
    (c.in_ok-counts.ensures.counts ∙ ap (λ (xs : List Element). end_to_end xs members) c.requires.of_elements)
    (subst (λ (xs : List Element). AreRows xs 0 members rows) c.requires.of_elements c.in_ok-counts.ensures.rows)
    c.sort_rows.ensures.same_rows sorted
