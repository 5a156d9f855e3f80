use Rattle.std.proofs.Common.{◌≡◌, ◌++◌, ◌∙◌, sym, ap, append_assoc}
use Rattle.std.specs.Prelude.{codes}
use Rattle.std.specs.Fmt.{decimal}
use Rattle.certificate_check.proofs.judgement.boundary_words.Goals as goal

pub returns : goal.returns
returns c =
    let words : c.into_bytes-words.result.items ≡ codes "open boundary: line " ++ decimal c.args.line ++ codes ": " =
    ap (λ bytes. bytes.items) c.into_bytes-words.ensures.value ∙ c.in_ok-format.ensures.ok in
    let bound : c.as_bytes.result.now ≡ codes ": " ++ decimal c.args.hi =
    c.as_bytes.ensures.value ∙ c.in_ok-bound.ensures.ok in
    c.in_ok-extend_from_slice-2.ensures.items
    ∙ ap (λ items. items ++ c.as_bytes.result.now) c.in_ok-extend_from_slice.ensures.items
    ∙ ap (λ text. (text ++ c.args.neighbour.now) ++ c.as_bytes.result.now) words
    ∙ ap (λ text. (codes "open boundary: line " ++ decimal c.args.line ++ codes ": " ++ c.args.neighbour.now) ++ text) bound
    ∙ sym (append_assoc (codes "open boundary: line " ++ decimal c.args.line ++ codes ": " ++ c.args.neighbour.now)
    (codes ": ") (decimal c.args.hi))
