use Rattle.residue_table.proofs.rows.Row.of.Goals as goal

pub returns-clause-indexed : goal.returns-clause-indexed
returns-clause-indexed c =
    let runs = rw c.deref.ensures.value at c.in_ok-minima.ensures.runs in
    record {
      some = c.requires.some;
      runs = runs;
      bounds = rw c.deref.ensures.value at c.in_ok-minima.ensures.bounds;
      groups = rw c.deref-2.ensures.value at c.in_ok-group_minima.ensures.runs;
      bounds_groups = rw c.deref-2.ensures.value at c.in_ok-group_minima.ensures.bounds;
      spans = (rw c.deref-3.ensures.value at c.in_ok-spans.ensures) c.args.entries.items runs
          (rw c.deref.ensures.value at c.in_ok-minima.ensures.least);
      from_zero = c.requires.from_zero;
    }
