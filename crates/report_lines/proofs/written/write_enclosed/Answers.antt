use Rattle.std.proofs.Common.{◌≡◌, [], drop, ◌∙◌, arith}
use Rattle.std.specs.Int.{w128}
use Rattle.std.proofs.lemmas.Int.{to_z-of_z}
use Rattle.std.proofs.lemmas.List.{append_assoc, drop_all}
use Rattle.report_lines.proofs.written.write_enclosed.Goals as goal

pub returns-clause-written : goal.returns-clause-written
returns-clause-written c =
    let none : drop 96 c.args.bytes.now ≡ [] = drop_all 96 c.args.bytes.now (omega arith) in
    let mass = to_z-of_z w128 c.args.mass c.ranges.mass in
    c.write_byte.ensures.text
    ∙ rw (
      c.write_ion_mass-start.ensures.written,
      c.write_number-start-2.ensures.written,
      c.write_number-start.ensures.written,
      c.write_byte-start.ensures.text,
      none,
      mass,
    )
    (simp append_assoc)
