use Rattle.layered_envelope.proofs.CutoffLaws.{IsCutoff-raised}
use Rattle.layered_envelope.proofs.lists.lower_list.Goals as goal

pub lower_beside-requires-clause-later : goal.lower_beside-requires-clause-later
lower_beside-requires-clause-later c =
    IsCutoff-raised c.args.threshold c.args.list.now.after c.args.cutoff c.requires.cutoff
