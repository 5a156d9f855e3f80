use Rattle.std.proofs.Common.{◌≡◌, ◌-◌, ◌∙◌, ◌<◌, ◌^◌, take, drop, arith}
use Rattle.std.proofs.lemmas.Int.{ints}
use Rattle.std.proofs.lemmas.Grind.{common_steps}
use Rattle.report_lines.specs.ReportLines.{member_of_words}
use Rattle.report_lines.proofs.WordsOfLines.{isotopologue_line-numbers}
use Rattle.report_lines.proofs.envelope.push_isotopologue_words.Goals as goal

pub returns-clause-line : goal.returns-clause-line
returns-clause-line c =
    let fits : c.args.mass < 2 ^ 64 = omega (arith, c.ranges.mass) in
    let printed = c.requires fits in
    let bytes = c.write_enclosed-place.new.bytes in
    let place = c.write_enclosed-place.result in
    let all : take (96 - place) (drop place bytes) ≡ drop place bytes = grind (arith, common_steps) in
    isotopologue_line-numbers c.push_text_with-pushed.result c.cut_unless_pushed.result c.args.report.now.items
    c.push_text_with-pushed.new.report.items c.cut_unless_pushed.new.report.items c.args.shift
    (member_of_words c.args.text.now c.args.mass c.args.lo c.args.hi) _ _ c.cut_unless_pushed.ensures.result
    c.push_text_with-pushed.ensures.line c.cut_unless_pushed.ensures.pushed (all ∙ c.write_enclosed-place.ensures.written)
    (omega (arith, ints))
