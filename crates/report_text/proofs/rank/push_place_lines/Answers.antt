use Rattle.std.proofs.Common.{◌∙◌, ap, ◌++◌, ◌+◌}
use Rattle.std.specs.List.{flat_map}
use Rattle.report_text.specs.RankLines.{place_line}
use Rattle.report_text.proofs.Places.{lines_more, numbered_all, numbered_more}
use Rattle.report_text.proofs.rank.push_place_lines.Goals as goal

pub loop-i-preserved : goal.loop-i-preserved
loop-i-preserved c =
    let r = c.index-order-i.result in
    lines_more place_line c.args.report.now.items c.loop-i.report.items c.push_place_line.new.report.items _ _
    (c.loop-i.i + 1, r.now)
    (numbered_more (λ x. x.now) c.args.order.now c.loop-i.i r c.loop-i-test.true c.index-order-i.is)
    c.loop-i.invariant c.in_ok-push_place_line.ensures.line

pub returns-clause-lines : goal.returns-clause-lines
returns-clause-lines c =
    c.loop-i.invariant ∙ ap (λ ps. c.args.report.now.items ++ flat_map place_line ps)
    (numbered_all (λ x. x.now) c.args.order.now c.loop-i.i c.loop-i-test.false)
