use Rattle.std.proofs.Common.{sym, ap, ◌∙◌}
use Rattle.std.specs.Option.{option_copied}
use Rattle.formula_text.proofs.MassBounds.{isotope_of-light}
use Rattle.formula_text.proofs.mass.item_mass.Goals as goal

pub returns-else-item-eq0-clause-small : goal.returns-else-item-eq0-clause-small
returns-else-item-eq0-clause-small c =
    isotope_of-light c.unwrap-element.result.now.isotopes c.args.item.now.label c.unwrap.result.now
    c.isotope.ensures.element.isotopes (sym c.isotope.ensures.isotope ∙ ap option_copied c.unwrap.ensures)
