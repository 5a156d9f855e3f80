use Rattle.std.proofs.Common.{rules}
use Rattle.std.proofs.lemmas.Fn.{always_returns_same}
use Rattle.reaching_layer.specs.MemberRows.{row_stands_before}
use Rattle.reaching_layer.proofs.RowOrder.{row_order}
use Rattle.reaching_layer.proofs.members.sort_rows.Goals as goal

pub returns-clause-in_order : goal.returns-clause-in_order
returns-clause-in_order c =
    c.sort_unstable_by.ensures.sorted (row_stands_before c.args.counts.now c.args.width)
    (row_order c.args.counts.now c.args.width) (always_returns_same _ _ _ (λ a r g h. search rules))
