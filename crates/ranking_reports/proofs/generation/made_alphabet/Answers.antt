use Rattle.ranking_reports.proofs.MadeElements.{known-made}
use Rattle.ranking_reports.proofs.generation.made_alphabet.Goals as goal

pub returns-clause-known : goal.returns-clause-known
returns-clause-known c = λ ok.
    known-made c.args.table.now c.in_ok-read_alphabet.field-0 c.in_ok-read_alphabet.ensures.gives
