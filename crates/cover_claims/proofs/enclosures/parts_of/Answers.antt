-- Each element takes its counts from the front of those that are left.
use Rattle.std.proofs.Common.{◌≡◌, ℕ, List, [], ◌∷◌, ◌++◌, length, map, take, drop, ap, arith, ◌∙◌}
use Rattle.std.proofs.lemmas.List.{map-append}
use Rattle.multinomial_bounds.specs.Bounds.{floor_of, ceiling_of}
use Rattle.multinomial_bounds.specs.Path.{bound_of}
use Rattle.cover_claims.proofs.Parts.{parts-counts, parts-room, parts-next, parts-all}
use Rattle.cover_claims.proofs.enclosures.parts_of.Goals as goal

pub split_at-requires : goal.split_at-requires
split_at-requires c =
    let room =
    parts-room c.args.elements.now c.args.counts.now c.loop-element.element-index c.loop-element.rest.now _ _
    c.element-item.result c.loop-element.invariant c.loop-element-test.true c.element-item.is in
    omega (arith, c.isotopes.ensures.number)

pub enclosure-requires : goal.enclosure-requires
enclosure-requires c =
    rw (c.split_at.ensures.front, c.isotopes.ensures.number)
    (parts-counts c.args.elements.now c.args.counts.now c.loop-element.element-index c.loop-element.rest.now _ _
    c.element-item.result c.loop-element.invariant c.loop-element-test.true c.element-item.is)

pub loop-element-preserved : goal.loop-element-preserved
loop-element-preserved c =
    let e = c.element-item.result in
    let rest = c.loop-element.rest.now in
    let parts = c.loop-element.parts.items in
    let part = c.in_ok-enclosure.field-0 in
    let own : c.split_at.result.0.now ≡ take (length e.weights) rest =
    c.split_at.ensures.front ∙ ap (λ (n : ℕ). take n rest) c.isotopes.ensures.number in
    let left : c.split_at.result.1.now ≡ drop (length e.weights) rest =
    c.split_at.ensures.back ∙ ap (λ (n : ℕ). drop n rest) c.isotopes.ensures.number in
    let pushed : c.push.new.self.items ≡ parts ++ part ∷ [] = c.in_ok-push.ensures.items in
    let lo : part.lo ≡ bound_of floor_of e.weights (take (length e.weights) rest) =
    c.in_ok-enclosure.ensures.lo ∙ ap (λ (xs : List ℕ). bound_of floor_of e.weights xs) own in
    let hi : part.hi ≡ bound_of ceiling_of e.weights (take (length e.weights) rest) =
    c.in_ok-enclosure.ensures.hi ∙ ap (λ (xs : List ℕ). bound_of ceiling_of e.weights xs) own in
    let los : map (λ x. x.lo) c.push.new.self.items
    ≡ map (λ x. x.lo) parts ++ bound_of floor_of e.weights (take (length e.weights) rest) ∷ [] =
    ap (map (λ x. x.lo)) pushed ∙ map-append (λ x. x.lo) parts (part ∷ [])
    ∙ ap (λ (n : ℕ). map (λ x. x.lo) parts ++ n ∷ []) lo in
    let his : map (λ x. x.hi) c.push.new.self.items
    ≡ map (λ x. x.hi) parts ++ bound_of ceiling_of e.weights (take (length e.weights) rest) ∷ [] =
    ap (map (λ x. x.hi)) pushed ∙ map-append (λ x. x.hi) parts (part ∷ [])
    ∙ ap (λ (n : ℕ). map (λ x. x.hi) parts ++ n ∷ []) hi in
    rw (left, los, his)
    (parts-next c.args.elements.now c.args.counts.now c.loop-element.element-index rest _ _ e
    c.loop-element.invariant c.loop-element-test.true c.element-item.is)

pub returns-clause-lo : goal.returns-clause-lo
returns-clause-lo c =
    parts-all floor_of c.args.elements.now c.args.counts.now c.loop-element.element-index c.loop-element.rest.now _
    c.loop-element-test.false c.loop-element.invariant.lo

pub returns-clause-hi : goal.returns-clause-hi
returns-clause-hi c =
    parts-all ceiling_of c.args.elements.now c.args.counts.now c.loop-element.element-index c.loop-element.rest.now _
    c.loop-element-test.false c.loop-element.invariant.hi
