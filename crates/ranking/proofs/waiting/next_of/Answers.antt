use Rattle.ranking.proofs.WaitingCandidates.{first_taken}
use Rattle.ranking.proofs.waiting.next_of.Goals as goal

pub returns-clause-taken : goal.returns-clause-taken
returns-clause-taken g c =
    first_taken c.args.candidates.now c.next.new.self c.next.result c.next.ensures.next c.next.ensures.end
    c.next.ensures.at_end
