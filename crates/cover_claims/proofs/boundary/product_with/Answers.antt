-- One part is exchanged and put back.
use Rattle.std.proofs.Common.{ap, ◌∙◌, set}
use Rattle.std.proofs.lemmas.List.{map-set, set-set, set-get_or}
use Rattle.multinomial_bounds.specs.Bounds.{floor_of, ceiling_of, product_of}
use Rattle.cover_claims.proofs.boundary.product_with.Goals as goal

pub returns-clause-lo : goal.returns-clause-lo
returns-clause-lo c =
    c.product_of-product.ensures.lo
    ∙ ap (product_of floor_of) (map-set (λ e. e.lo) c.args.parts.now c.args.element c.args.changed)

pub returns-clause-hi : goal.returns-clause-hi
returns-clause-hi c =
    c.product_of-product.ensures.hi
    ∙ ap (product_of ceiling_of) (map-set (λ e. e.hi) c.args.parts.now c.args.element c.args.changed)

pub returns-clause-same : goal.returns-clause-same
returns-clause-same c =
    rw (set-set c.args.parts.now c.args.element c.args.changed c.index-parts-element.result)
    (ap (set c.args.parts.now c.args.element) c.index-parts-element.is
    ∙ set-get_or c.args.parts.now c.args.element c.index-parts-element.result)
