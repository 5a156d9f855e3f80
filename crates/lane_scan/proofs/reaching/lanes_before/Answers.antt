use Rattle.std.proofs.Common.{◌+◌, ◌%◌, ◌^◌, nat_le, [], ◌∷◌, take, drop, refl, arith}
use Rattle.std.specs.Int.{w64}
use Rattle.std.proofs.lemmas.Simd.{tops_compared}
use Rattle.lane_scan.proofs.Lanes.{first_lane, rising}
use Rattle.lane_scan.proofs.reaching.lanes_before.Goals as goal

pub returns-else-reached-eq0 : goal.returns-else-reached-eq0
returns-else-reached-eq0 c =
    let x = c.args.from + c.args.at in
    let limits =
    (x + 0) % 2 ^ 64 ∷ (x + 1) % 2 ^ 64 ∷ (x + 2) % 2 ^ 64 ∷ (x + 3) % 2 ^ 64 ∷ (x + 4) % 2 ^ 64 ∷ (x + 5) % 2 ^ 64
    ∷ (x + 6) % 2 ^ 64 ∷ (x + 7) % 2 ^ 64 ∷ [] in
    first_lane c.args.row.now limits c.args.from c.args.at _ _ c.requires.room refl
    (λ k h. rising x k (omega (arith, c.requires.room, c.requires.fits)) h)
    (tops_compared w64 nat_le (take 8 (drop c.args.at c.args.row.now)) limits)
    refl (omega (arith, c.if-reached-eq0.false))
