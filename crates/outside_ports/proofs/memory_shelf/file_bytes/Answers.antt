use Rattle.std.proofs.Common.{sym, string_bytes}
use Rattle.outside_ports.proofs.StoredFiles.{found_file, no_file}
use Rattle.outside_ports.proofs.memory_shelf.file_bytes.Goals as goal

pub returns-in_err-place : goal.returns-in_err-place
returns-in_err-place c =
    rw c.from_residual.ensures (no_file c.args.files.now (string_bytes c.args.name.now) (sym c.in_err-place.ensures))

pub returns : goal.returns
returns c =
    rw c.as_slice.ensures.value
    (found_file c.args.files.now c.index-files-place.result (string_bytes c.args.name.now)
    c.in_ok-place.place (sym c.in_ok-place.ensures) c.index-files-place.is)
