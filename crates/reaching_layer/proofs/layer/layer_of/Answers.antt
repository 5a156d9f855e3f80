-- The reaching layer's members, counted off, are the cover's numbers.
use Rattle.std.proofs.Common.{◌≡◌, ◌-◌, ℕ, List, length, map, sum, take, refl, sym, ◌∙◌, ap}
use Rattle.multinomial_bounds.specs.Isotopologue.{Element}
use Rattle.isotopologue_sets.specs.Layers.{reaching_threshold, threshold_at, has_too_many}
use Rattle.isotopologue_sets.specs.Covers.{member_of, fewest, ordered_layer}
use Rattle.isotopologue_sets.proofs.AllReach.{reaching_threshold-last}
use Rattle.reaching_layer.proofs.CoverNumbers.{cover_numbers_are, size-within}
use Rattle.reaching_layer.proofs.layer.layer_of.Goals as goal
use Rattle.reaching_layer.proofs.layer.layer_of.Goals.{After-fewest}

threshold : (c : After-fewest) → c.threshold_of.result ≡ reaching_threshold c.args.elements.now c.args.coverage
threshold c =
    let es : List Element = c.args.elements.now in
    let number = c.in_ok-members.ensures.number in
    c.threshold_of.ensures
    ∙ ap (λ (xs : List Element). threshold_at xs (c.in_ok-members.number - 1)) c.requires.past.elements_are
    ∙ sym number.is
    ∙ sym (reaching_threshold-last es c.requires.elements c.args.coverage c.requires.below_one
    (ap (has_too_many es) number.is ∙ number.few))

members : (c : After-fewest) → c.in_ok-members.members
    ≡ map (member_of c.args.elements.now) (ordered_layer c.args.elements.now c.threshold_of.result)
members c =
    let es : List Element = c.args.elements.now in
    let here : c.threshold_of.result ≡ threshold_at es (c.in_ok-members.number - 1) =
    c.threshold_of.ensures
    ∙ ap (λ (xs : List Element). threshold_at xs (c.in_ok-members.number - 1)) c.requires.past.elements_are in
    c.in_ok-members.ensures.members ∙ ap (λ (t : ℕ). map (member_of es) (ordered_layer es t)) (sym here)

-- the number of bounds is that of the same bounds behind a reference
same_fewest : (n coverage : ℕ) (bounds held : List ℕ) →
    n ≡ fewest (λ k. sum (take k bounds)) coverage (length bounds) → bounds ≡ held →
    n ≡ fewest (λ k. sum (take k held)) coverage (length held)
same_fewest n coverage bounds held is same =
    is ∙ ap (λ (bs : List ℕ). fewest (λ k. sum (take k bs)) coverage (length bs)) same

pub invariant_of-layer : goal.invariant_of-layer
invariant_of-layer c =
    let at = (goal.at.invariant_of-layer c).After-fewest in
    size-within c.args.elements.now c.args.coverage c.threshold_of.result c.fewest_lower.result c.fewest.result
    c.in_ok-members.members (map (λ m. m.lo) c.in_ok-members.members) c.in_ok-greatest_upper_bounds.field-0.items
    (threshold at) (members at) refl c.in_ok-greatest_upper_bounds.ensures
    c.fewest_lower.ensures (same_fewest _ _ _ _ c.fewest.ensures c.deref.ensures.value)

pub returns : goal.returns
returns c =
    let at = (goal.at.returns c).After-fewest in
    cover_numbers_are c.args.elements.now c.args.coverage c.threshold_of.result c.fewest_lower.result c.fewest.result
    c.in_ok-members.members (map (λ m. m.lo) c.in_ok-members.members) c.in_ok-greatest_upper_bounds.field-0.items
    (threshold at) (members at) refl c.in_ok-greatest_upper_bounds.ensures
    c.fewest_lower.ensures (same_fewest _ _ _ _ c.fewest.ensures c.deref.ensures.value)
