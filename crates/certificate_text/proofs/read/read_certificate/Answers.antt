use Rattle.std.specs.Str.Lines.{lines}
use Rattle.certificate_text.proofs.ReadLines.{reading-file}
use Rattle.certificate_text.proofs.OneReading.{reading-only}
use Rattle.certificate_text.proofs.read.read_certificate.Goals as goal

pub returns-clause-meaning : goal.returns-clause-meaning
returns-clause-meaning c = reading-file c.args.table.now (lines c.args.bytes.now)

pub returns-clause-only : goal.returns-clause-only
returns-clause-only c = reading-only c.args.table.now (lines c.args.bytes.now)
