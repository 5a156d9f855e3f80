use Rattle.command_io.specs.Asked.{asks_file}
use Rattle.command_io.proofs.PartLaws.{part_end}
use Rattle.ranking_reports.specs.Steps.{peak_list_in}
use Rattle.ranking_reports.proofs.rank.peak_list_of.Goals as goal

pub returns : goal.returns
returns g c =
    part_end (λ v. v.items) (λ p. p) _ (asks_file 16777216 c.args.name.now) peak_list_in _ _ c.in_ok-bytes.bytes
    c.peak_list_in.result c.in_ok-bytes.ensures (rw c.deref.ensures.value at c.peak_list_in.ensures)
