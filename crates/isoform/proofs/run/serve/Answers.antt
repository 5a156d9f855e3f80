use Rattle.std.proofs.Common.{refl}
use Rattle.std.specs.Prelude.{map, string_bytes}
use Rattle.std.proofs.lemmas.Result.{err_from_is_err_and}
use Rattle.command_io.proofs.PartLaws.{if_some_map, if_some_of}
use Rattle.isoform.specs.Outside.{outside}
use Rattle.isoform.proofs.Endings.{refused_words_end, refused_words_show, words_end, words_refused, words_show}
use Rattle.isoform.proofs.Endings.{words_stand}
use Rattle.isoform.proofs.run.serve.Goals as goal

pub returns-in_err-request : goal.returns-in_err-request
returns-in_err-request g c =
    let words = map string_bytes c.args.words.now.items in
    let before = outside (g.H.Shelf.asked c.args.shelf.now) (g.H.Shelf.faults c.args.shelf.now)
    (g.O.Sink.written c.args.out.now) (g.O.Sink.faults c.args.out.now) in
    let given = err_from_is_err_and c.from_residual.result c.from_residual.ensures.1 in
    rw (given.1, given.2) (record {
      held = refl;
      words = words_refused words c.in_err-request.field-0.0 c.in_err-request.ensures.gives;
      shows = refused_words_show _ before c.in_err-request.field-0.0;
      answers = if_some_of (g.H.Shelf.held c.args.shelf.now) _
          (λ files. refused_words_end words files before c.in_err-request.field-0.0 c.in_err-request.ensures.gives);
    })

pub returns : goal.returns
returns g c =
    let words = map string_bytes c.args.words.now.items in
    let before = outside (g.H.Shelf.asked c.args.shelf.now) (g.H.Shelf.faults c.args.shelf.now)
    (g.O.Sink.written c.args.out.now) (g.O.Sink.faults c.args.out.now) in
    let after = outside (g.H.Shelf.asked c.serve_request.new.shelf) (g.H.Shelf.faults c.serve_request.new.shelf)
    (g.O.Sink.written c.serve_request.new.out) (g.O.Sink.faults c.serve_request.new.out) in
    let request = c.in_ok-request.request in
    record {
      held = c.serve_request.ensures.held;
      words = words_stand words request c.serve_request.result c.in_ok-request.ensures.gives c.serve_request.ensures.words;
      shows = words_show words request before after c.serve_request.result c.in_ok-request.ensures.gives
          c.serve_request.ensures.shows;
      answers = if_some_map (g.H.Shelf.held c.args.shelf.now) _ _
          (λ files ends. words_end words files request before after c.serve_request.result
          c.in_ok-request.ensures.gives ends)
          c.serve_request.ensures.answers;
    }
