use Rattle.std.proofs.Common.{◌≡◌, [], drop, codes, refl, ◌∙◌, arith}
use Rattle.std.specs.Int.{w128}
use Rattle.std.proofs.lemmas.Int.{to_z-of_z}
use Rattle.std.proofs.lemmas.List.{drop_all}
use Rattle.formula_text.specs.PrintedText.{printed_text}
use Rattle.report_lines.specs.ReportLines.{mass_text}
use Rattle.report_lines.proofs.WordsOfLines.{line_written}
use Rattle.report_lines.proofs.decompose.write_line.Goals as goal

pub returns-clause-line : goal.returns-clause-line
returns-clause-line c =
    let room = c.args.room.now in
    let none : drop 504 room ≡ [] = drop_all 504 room (omega arith) in
    let ion = to_z-of_z w128 c.args.ion_mass c.ranges.ion_mass in
    let difference = to_z-of_z w128 c.args.difference c.ranges.difference in
    line_written (codes "formula") (printed_text c.args.formula.now) (mass_text c.args.mass) _ _ (drop 504 room) _ _ _
    c.write_text.ensures.written c.write_group-items.ensures.text c.write_masses-numbers.ensures.written none
    ∙ rw (ion, difference) refl
