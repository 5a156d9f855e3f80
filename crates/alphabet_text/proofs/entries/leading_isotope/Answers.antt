use Rattle.alphabet_text.proofs.TableIsotopes.{mass-found}
use Rattle.alphabet_text.proofs.entries.leading_isotope.Goals as goal

pub returns-in-Some-clause-within : goal.returns-in-Some-clause-within
returns-in-Some-clause-within c =
    mass-found _ _ c.isotope.result c.isotope.ensures.element.isotopes c.isotope.ensures.isotope
