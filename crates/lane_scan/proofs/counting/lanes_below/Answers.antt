use Rattle.std.proofs.Common.{nat_lt, take, drop, ap, lit≤, ◌∙◌}
use Rattle.std.specs.Int.{w64}
use Rattle.std.specs.Int.RustNames.{count_ones}
use Rattle.std.proofs.lemmas.Simd.{bitmask_splat, length-chunk, ones-mask_l}
use Rattle.lane_scan.proofs.counting.lanes_below.Goals as goal

pub returns : goal.returns
returns c =
    let lanes = take 8 (drop c.args.at c.args.masses.now) in
    ap count_ones
    (bitmask_splat w64 nat_lt lanes 8 c.args.limit (length-chunk c.args.at 8 c.args.masses.now c.requires) (lit≤ tt))
    ∙ ones-mask_l (λ m. nat_lt m c.args.limit) lanes
