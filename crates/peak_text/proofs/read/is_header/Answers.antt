use Rattle.peak_text.proofs.read.is_header.Goals as goal

pub returns : goal.returns
returns c = rw (c.as_slice.ensures, c.as_slice-2.ensures) at c.has_header.ensures
