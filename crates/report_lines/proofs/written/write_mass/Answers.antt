use Rattle.std.proofs.Common.{◌/◌, ap, length, arith}
use Rattle.std.proofs.lemmas.List.{length-set}
use Rattle.std.proofs.lemmas.Fmt.{length-decimal-le}
use Rattle.report_lines.proofs.MassTexts.{decimal-behind_one, mass_written}
use Rattle.report_lines.proofs.written.write_mass.Goals as goal

pub write_digits-point-requires : goal.write_digits-point-requires
write_digits-point-requires c =
    let behind = decimal-behind_one 12 c.args.mass (omega arith) in
    (omega (arith, ap length behind), omega arith)

pub bounds-bytes-point : goal.bounds-bytes-point
bounds-bytes-point c =
    let behind = decimal-behind_one 12 c.args.mass (omega arith) in
    omega (arith, ap length behind, c.write_digits-point.ensures.start)

pub write_digits-requires : goal.write_digits-requires
write_digits-requires c =
    let behind = decimal-behind_one 12 c.args.mass (omega arith) in
    let before = c.write_digits-point.ensures.start in
    let whole = length-decimal-le 8 (c.args.mass / 1000000000000) (omega arith) (omega arith) (omega arith) in
    let same = length-set c.write_digits-point.new.buf c.write_digits-point.result 46 in
    (omega (arith, ap length behind), omega (arith, c.write_digits-point.auto.buf))

pub returns-clause-start : goal.returns-clause-start
returns-clause-start c =
    let behind = decimal-behind_one 12 c.args.mass (omega arith) in
    let whole = length-decimal-le 8 (c.args.mass / 1000000000000) (omega arith) (omega arith) (omega arith) in
    omega (arith, ap length behind, c.write_digits-point.ensures.start, c.write_digits.ensures.start)

pub returns-clause-written : goal.returns-clause-written
returns-clause-written c =
    mass_written c.args.mass c.write_digits-point.result c.write_digits.result c.args.end c.args.bytes.now
    c.write_digits-point.new.buf c.write_digits.new.buf c.write_digits-point.auto.buf c.requires.within
    c.write_digits-point.ensures.start c.write_digits-point.ensures.written c.write_digits.ensures.written
