use Rattle.std.proofs.Common.{◌≡◌, ◌*◌, arith}
use Rattle.std.proofs.lemmas.Bool.{ltb-true, lt-ltb}
use Rattle.multinomial_bounds.specs.Bounds.{certainty}
use Rattle.layered_envelope.proofs.RoundedProducts.{upper-above}
use Rattle.layered_envelope.proofs.walk.exceeds.Goals as goal

pub returns : goal.returns
returns c =
    let above = upper-above c.args.x c.args.y c.args.threshold in
    let left : c.from-3.result * c.from-4.result ≡ c.args.threshold * certainty =
    rw (c.from-3.ensures, c.from-4.ensures) (omega arith) in
    let right : c.from.result * c.from-2.result ≡ c.args.x * c.args.y =
    rw (c.from.ensures, c.from-2.ensures) (omega arith) in
    (λ h. above.0 (rw (left, right) at (ltb-true _ _ h)), λ h. lt-ltb _ _ (rw (left, right) (above.1 h)))
