use Rattle.std.proofs.Common.{rules, ◌∷◌, []}
use Rattle.std.proofs.lemmas.Result.{err_from_is_err_and}
use Rattle.command_io.proofs.PartLaws.{asked_or_not, if_some_of}
use Rattle.command_io.proofs.inputs.fetch_file.Goals as goal

pub returns-in_err-clone-in-Err-Failed : goal.returns-in_err-clone-in-Err-Failed
returns-in_err-clone-in-Err-Failed g c =
    let given = err_from_is_err_and c.from_residual.result c.from_residual.ensures.1 in
    rw (given.1, given.2) (record {
      held = c.in-Err-Failed.ensures.held;
      reads = record {
        asks = (1, rw c.text.ensures at (rw c.in-Err-Failed.field-0-is at c.in-Err-Failed.ensures.asked));
        counts = c.in-Err-Failed.ensures.never_falls;
        only_reads = tt;
      };
      answers = if_some_of (g.H.Shelf.held c.args.shelf.now) _
          (λ files. (1, rw c.text.ensures at (rw c.in-Err-Failed.field-0-is at c.in-Err-Failed.ensures.asked)));
    })

pub returns-in-Err-Failed : goal.returns-in-Err-Failed
returns-in-Err-Failed g c = record {
  held = c.in-Err-Failed.ensures.held;
  reads = search rules;
  answers = if_some_of (g.H.Shelf.held c.args.shelf.now) _
      (λ files. (1, rw c.text.ensures at (rw c.in-Err-Failed.field-0-is at c.in-Err-Failed.ensures.asked)));
}

pub returns : goal.returns
returns g c =
    let asked = asked_or_not (c.args.name.now ∷ []) (g.H.Shelf.asked c.args.shelf.now) (g.H.Shelf.asked c.fetch.new.self) _
    (rw c.text.ensures at (rw c.in-Err-Memory.field-0-is at c.in-Err-Memory.ensures.asked)) in
    record {
      held = c.in-Err-Memory.ensures.held;
      reads = record { asks = asked; counts = c.in-Err-Memory.ensures.never_falls; only_reads = tt };
      answers = if_some_of (g.H.Shelf.held c.args.shelf.now) _ (λ files. asked);
    }
