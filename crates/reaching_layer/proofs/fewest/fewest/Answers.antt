use Rattle.std.proofs.Common.{take, sum, arith, length}
use Rattle.reaching_layer.proofs.FewestBounds.{fewest_is}
use Rattle.reaching_layer.proofs.fewest.fewest.Goals as goal

pub returns-then-total-wanted : goal.returns-then-total-wanted
returns-then-total-wanted c =
    fewest_is (λ n. sum (take n c.args.bounds.now)) c.args.coverage (length c.args.bounds.now) c.loop-count.count (omega arith)
    c.loop-count.invariant.3 (λ h. omega arith)

pub returns : goal.returns
returns c =
    let bounds = c.args.bounds.now in
    fewest_is (λ n. sum (take n bounds)) c.args.coverage (length bounds) (length bounds) (omega arith)
    (λ k h. c.loop-count.invariant.3 k (omega arith)) (λ h. absurd (omega arith))
