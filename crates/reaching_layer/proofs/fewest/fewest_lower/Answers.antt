use Rattle.std.proofs.Common.{take, arith, length}
use Rattle.std.specs.List.{sum_by}
use Rattle.reaching_layer.proofs.FewestBounds.{fewest_is}
use Rattle.reaching_layer.proofs.fewest.fewest_lower.Goals as goal

pub returns-then-total-wanted : goal.returns-then-total-wanted
returns-then-total-wanted c =
    fewest_is (λ n. sum_by (λ r. r.enclosure.lo) (take n c.args.rows.now)) c.args.coverage (length c.args.rows.now)
    c.loop-count.count (omega arith) c.loop-count.invariant.3 (λ h. omega arith)

pub returns : goal.returns
returns c =
    let rows = c.args.rows.now in
    fewest_is (λ n. sum_by (λ r. r.enclosure.lo) (take n rows)) c.args.coverage (length rows) (length rows)
    (omega arith) (λ k h. c.loop-count.invariant.3 k (omega arith)) (λ h. absurd (omega arith))
