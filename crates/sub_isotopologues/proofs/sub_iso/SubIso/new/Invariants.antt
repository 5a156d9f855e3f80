use Rattle.std.proofs.Common.{◌≡◌, length, take}
use Rattle.sub_isotopologues.proofs.sub_iso.SubIso.new.Given as goal

-- the counts so far are written
abbrev pub invariant-loop-place : goal.invariant-loop-place
invariant-loop-place l = (length l.room ≡ 16) × (take l.place l.room ≡ take l.place l.counts)
