use Rattle.std.proofs.Common.{◌≡◌, ◌≤◌, ◌-◌}
use Rattle.isotopologue_list.proofs.CountLemmas.{many}
use Rattle.isotopologue_list.proofs.count.compositions_up_to.Given as goal

-- how many there are for the isotopes so far
abbrev pub invariant-loop-place : goal.invariant-loop-place
invariant-loop-place l = record { few : l.count ≤ l.most; count : l.count ≡ many (l.place - 1) l.atoms }
