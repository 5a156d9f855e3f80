use Rattle.std.proofs.Common.{◌≡◌, ◌++◌, ◌∙◌, sym, ap, append_assoc}
use Rattle.std.specs.Prelude.{codes}
use Rattle.std.specs.Fmt.{decimal}
use Rattle.certificate_check.proofs.judgement.size_words.Goals as goal

pub returns : goal.returns
returns c =
    ap (λ bytes. bytes.items) c.into_bytes.ensures.value ∙ c.in_ok-format.ensures.ok
    ∙ ap (λ text. codes "size differs: " ++ text)
    (sym (append_assoc (decimal c.args.said) (codes ": ") (decimal c.args.found)))
