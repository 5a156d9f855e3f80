use Rattle.isotopologue_text.proofs.ReadIsotopologues.{text-reading, one-text}
use Rattle.isotopologue_text.proofs.read.isotopologue_into.Goals as goal

pub returns-then-has_plain-clause-meaning : goal.returns-then-has_plain-clause-meaning
returns-then-has_plain-clause-meaning c =
    text-reading c.args.table.now c.args.formula.now c.elements-elements.ensures.table c.items-items.ensures.formula
    c.requires
    c.args.text.now

pub returns-else-has_plain-clause-meaning : goal.returns-else-has_plain-clause-meaning
returns-else-has_plain-clause-meaning c =
    text-reading c.args.table.now c.args.formula.now c.elements-elements.ensures.table c.items-items.ensures.formula
    c.requires
    c.args.text.now

pub returns-then-has_plain-clause-only : goal.returns-then-has_plain-clause-only
returns-then-has_plain-clause-only c =
    one-text c.args.table.now c.args.formula.now c.elements-elements.ensures.table c.items-items.ensures.formula
    c.requires
    c.args.text.now

pub returns-else-has_plain-clause-only : goal.returns-else-has_plain-clause-only
returns-else-has_plain-clause-only c =
    one-text c.args.table.now c.args.formula.now c.elements-elements.ensures.table c.items-items.ensures.formula
    c.requires
    c.args.text.now
