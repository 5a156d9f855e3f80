-- One part more is one step of the product.
use Rattle.std.proofs.Common.{ℕ, ◌*◌, sym, ap, ◌∙◌}
use Rattle.multinomial_bounds.specs.Bounds.{certainty, floor_of, ceiling_of}
use Rattle.multinomial_bounds.proofs.EnclosureLemmas.{product_of-none}
use Rattle.cover_claims.proofs.Parts.{product-more}
use Rattle.cover_claims.proofs.enclosures.product_of.Goals as goal

pub loop-part-init : goal.loop-part-init
loop-part-init c = record {
  lo = c.certain-product.ensures.lo ∙ sym (product_of-none floor_of);
  hi = c.certain-product.ensures.hi ∙ sym (product_of-none ceiling_of);
}

pub loop-part-preserved : goal.loop-part-preserved
loop-part-preserved c =
    let parts = c.args.parts.now in
    let k = c.loop-part.part-index in
    let part = c.part-item.result in
    record {
      lo =
          c.times-product.ensures.lo
          ∙ ap (λ (n : ℕ). floor_of (n * part.lo) certainty) c.loop-part.invariant.lo
          ∙ sym (product-more floor_of (λ e. e.lo) parts k part c.loop-part-test.true c.part-item.is);
      hi =
          c.times-product.ensures.hi
          ∙ ap (λ (n : ℕ). ceiling_of (n * part.hi) certainty) c.loop-part.invariant.hi
          ∙ sym (product-more ceiling_of (λ e. e.hi) parts k part c.loop-part-test.true c.part-item.is);
    }
