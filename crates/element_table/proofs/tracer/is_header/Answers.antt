use Rattle.element_table.proofs.tracer.is_header.Goals as goal

pub returns : goal.returns
returns c = rw (c.as_slice.ensures, c.as_slice-2.ensures, c.as_slice-3.ensures) at c.has_header.ensures
