use Rattle.std.proofs.Common.{◌≡◌, ℕ, ◌+◌, Bool, nat_le, ◌&&◌, cond, take, drop, sym, arith}
use Rattle.std.specs.Prelude.{count_by}
use Rattle.std.proofs.Math.Seq.{take-add}
use Rattle.std.proofs.lemmas.List.Sums.{sum_by-append, sum_by-take-drop}
use Rattle.lane_scan.proofs.Lanes.{none_counted}
use Rattle.lane_scan.proofs.counting.count_between.Goals as goal

pub returns-then-lo-hi : goal.returns-then-lo-hi
returns-then-lo-hi c = sym (none_counted c.args.masses.now c.args.lo c.args.hi c.if-lo-hi.true)

pub loop-at-preserved : goal.loop-at-preserved
loop-at-preserved c =
    let xs = c.args.masses.now in
    let at = c.loop-at.at in
    let p : ℕ → Bool = λ m. nat_le c.args.lo m && nat_le m c.args.hi in
    let counted : c.loop-at.count ≡ count_by p (take at xs) = c.loop-at.invariant.counted in
    let lanes : c.lanes_between.result ≡ count_by p (take 8 (drop at xs)) = c.lanes_between.ensures in
    let parts : count_by p (take (at + 8) xs) ≡ count_by p (take at xs) + count_by p (take 8 (drop at xs)) =
    rw (take-add at 8 xs) (sum_by-append (λ m. cond (p m) 1 0) (take at xs) (take 8 (drop at xs))) in
    record { within = omega arith; counted = omega (arith, counted, lanes, parts) }

pub returns : goal.returns
returns c =
    let xs = c.args.masses.now in
    let at = c.loop-at.at in
    let p : ℕ → Bool = λ m. nat_le c.args.lo m && nat_le m c.args.hi in
    let counted : c.loop-at.count ≡ count_by p (take at xs) = c.loop-at.invariant.counted in
    let rest : c.rest_between.result ≡ count_by p (drop at xs) = c.rest_between.ensures in
    let parts : count_by p (take at xs) + count_by p (drop at xs) ≡ count_by p xs =
    sum_by-take-drop (λ m. cond (p m) 1 0) xs at in
    omega (arith, counted, rest, parts)
