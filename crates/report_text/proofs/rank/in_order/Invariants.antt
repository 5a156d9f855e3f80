use Rattle.std.proofs.Common.{◌≡◌, map, take}
use Rattle.ranking.specs.Places.{by_score}
use Rattle.report_text.proofs.rank.in_order.Given as goal

-- the formulas of the places so far were taken
abbrev pub invariant-loop-place : goal.invariant-loop-place
invariant-loop-place l = map (λ r. r.now) l.order.items ≡ take l.place-index (by_score l.found)
