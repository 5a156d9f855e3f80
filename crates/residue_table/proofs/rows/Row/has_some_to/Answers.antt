use Rattle.std.proofs.Common.{arith}
use Rattle.residue_table.proofs.RunSpans.{on_at_most}
use Rattle.residue_table.proofs.rows.Row.has_some_to.Goals as goal

pub returns-in-Some : goal.returns-in-Some
returns-in-Some c =
    let least = c.in-Some.ensures in
    on_at_most c.in-Some.least c.args.limit
    (λ less. (
      least.place,
      omega (arith, least.from_start, c.div_ceil-first.ensures),
      omega (arith, least.to_stop),
      omega (arith, less, least.at_least),
    ))
