use Rattle.std.proofs.Common.{◌∙◌}
use Rattle.std.specs.Int.{w128}
use Rattle.std.proofs.lemmas.Int.{to_z-of_z}
use Rattle.std.proofs.lemmas.List.{append_assoc}
use Rattle.report_lines.proofs.written.write_masses.Goals as goal

pub returns-clause-written : goal.returns-clause-written
returns-clause-written c =
    let ion = to_z-of_z w128 c.args.ion_mass c.ranges.ion_mass in
    let difference = to_z-of_z w128 c.args.difference c.ranges.difference in
    c.write_byte.ensures.text
    ∙ rw (
      c.write_mass-start.ensures.written,
      c.write_byte-start-3.ensures.text,
      c.write_ion_mass-start.ensures.written,
      c.write_byte-start-2.ensures.text,
      c.write_difference-start.ensures.written,
      c.write_byte-start.ensures.text,
      ion,
      difference,
    )
    (simp append_assoc)
