use Rattle.command_io.specs.Asked.{asks_file}
use Rattle.command_io.specs.Steps.{traced_in}
use Rattle.command_io.proofs.PartLaws.{part_end}
use Rattle.command_io.proofs.inputs.traced_table.Goals as goal

pub returns-in_ok-bytes-in-Some : goal.returns-in_ok-bytes-in-Some
returns-in_ok-bytes-in-Some g c =
    rw c.in-Some.is (part_end (λ v. v.items) (λ t. t) _ (asks_file 16777216 c.in-Some.name)
    (traced_in c.args.table) _ _ c.in_ok-bytes-in-Some.bytes c.traced_in.result c.in_ok-bytes-in-Some.ensures
    (rw c.deref.ensures.value at c.traced_in.ensures))
