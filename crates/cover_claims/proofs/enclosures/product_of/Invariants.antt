use Rattle.std.proofs.Common.{◌≡◌, map, take}
use Rattle.multinomial_bounds.specs.Bounds.{floor_of, ceiling_of, product_of}
use Rattle.cover_claims.proofs.enclosures.product_of.Given as goal

-- the product of the parts so far
abbrev pub invariant-loop-part : goal.invariant-loop-part
invariant-loop-part l = record {
  lo : l.product.lo ≡ product_of floor_of (map (λ e. e.lo) (take l.part-index l.parts));
  hi : l.product.hi ≡ product_of ceiling_of (map (λ e. e.hi) (take l.part-index l.parts));
}
