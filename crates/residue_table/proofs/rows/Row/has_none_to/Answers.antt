use Rattle.std.proofs.Common.{arith}
use Rattle.residue_table.proofs.RunSpans.{on_less}
use Rattle.residue_table.proofs.rows.Row.has_none_to.Goals as goal

pub returns-in-Some : goal.returns-in-Some
returns-in-Some c =
    on_less c.args.highest c.in-Some.least
    (λ less k from to. let least = c.in-Some.ensures.at_most k (omega arith) (omega arith) (omega (arith, c.requires.within)) in
    omega (arith, less, least))
