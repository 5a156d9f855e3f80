use Rattle.command_io.specs.Asked.{asks_file}
use Rattle.command_io.specs.Steps.{table_in}
use Rattle.command_io.proofs.PartLaws.{part_end}
use Rattle.command_io.proofs.inputs.table_of.Goals as goal

pub returns : goal.returns
returns g c =
    part_end (λ v. v.items) (λ t. t) _ (asks_file 16777216 c.args.name.now) table_in _ _ c.in_ok-bytes.bytes
    c.table_in.result c.in_ok-bytes.ensures (rw c.deref.ensures.value at c.table_in.ensures)
