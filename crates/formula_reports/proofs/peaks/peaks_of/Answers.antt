use Rattle.command_io.specs.Asked.{asks_file}
use Rattle.command_io.proofs.PartLaws.{part_end}
use Rattle.formula_reports.specs.Steps.{mzs_in}
use Rattle.formula_reports.proofs.peaks.peaks_of.Goals as goal

pub returns-in_ok-bytes-in-None-Some-clause-part : goal.returns-in_ok-bytes-in-None-Some-clause-part
returns-in_ok-bytes-in-None-Some-clause-part g c =
    rw (c.in-None-Some.is-0, c.in-None-Some.is-1) (part_end (λ v. v.items) (λ v. v.items) _
    (asks_file 16777216 c.in-None-Some.name) mzs_in _ _ c.in_ok-bytes-in-None-Some.bytes c.mzs_in.result
    c.in_ok-bytes-in-None-Some.ensures (rw c.deref.ensures.value at c.mzs_in.ensures.mzs))
