use Rattle.std.proofs.Common.{rules, take, length-take-le, ◌∙◌}
use Rattle.outside_ports.proofs.ReadBytes.{grown_by_block}
use Rattle.outside_ports.proofs.file_shelf.read_block.Goals as goal

pub returns-in-Ok-clause-read : goal.returns-in-Ok-clause-read
returns-in-Ok-clause-read g c =
    let block = c.read.new.buf in
    let taken = c.in-Ok.taken in
    let fits = c.in-Ok.ensures.bound.0 in
    let sized = c.as_mut_slice.ensures.value ∙ c.in_ok-resize.ensures.items in (
      take taken block,
      grown_by_block _ _ _ _ block _ _ _ c.args.wanted taken _ c.truncate.ensures.items sized
          (search rules) fits (search rules),
      length-take-le taken block fits,
      c.in-Ok.ensures.bytes.0,
    )
