use Rattle.std.proofs.Common.{arith}
use Rattle.outside_ports.proofs.ReadBytes.{read_enough}
use Rattle.outside_ports.proofs.file_shelf.read_up_to.Goals as goal

pub returns-clause-reads : goal.returns-clause-reads
returns-clause-reads g c =
    let (within, gone) = c.loop-into.invariant in
    let (read, is, consumed) = gone in
    read_enough _ _ _ _ read _ is consumed (omega arith)
