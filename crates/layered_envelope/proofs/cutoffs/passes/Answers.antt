use Rattle.layered_envelope.proofs.cutoffs.passes.Goals as goal

pub returns-clause-above : goal.returns-clause-above
returns-clause-above g c = c.is_over.ensures
