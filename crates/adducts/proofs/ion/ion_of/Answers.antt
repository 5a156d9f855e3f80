use Rattle.adducts.proofs.IonAnswers.{answer-is, answer-only, answer-known}
use Rattle.adducts.proofs.ion.ion_of.Goals as goal

pub returns-clause-is : goal.returns-clause-is
returns-clause-is c =
    answer-is c.args.adduct.now c.args.formula.now c.ion_as_computed.result c.ion_as_computed.ensures.adduct
    c.ion_as_computed.ensures.formula c.ion_as_computed.ensures.ion

pub returns-clause-only : goal.returns-clause-only
returns-clause-only c =
    answer-only c.args.adduct.now c.args.formula.now c.ion_as_computed.result c.ion_as_computed.ensures.adduct
    c.ion_as_computed.ensures.formula c.ion_as_computed.ensures.ion

pub returns-clause-known : goal.returns-clause-known
returns-clause-known c =
    answer-known c.args.adduct.now c.args.formula.now c.ion_as_computed.result c.ion_as_computed.ensures.adduct
    c.ion_as_computed.ensures.formula c.ion_as_computed.ensures.ion
