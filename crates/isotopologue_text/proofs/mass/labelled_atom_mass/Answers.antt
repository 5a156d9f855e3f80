use Rattle.std.proofs.Common.{sym, ap, ◌∙◌}
use Rattle.std.specs.Prelude.{◌==◌}
use Rattle.std.specs.Option.{option_copied}
use Rattle.element_table.specs.declared.element.Isotope.{Isotope}
use Rattle.element_table.specs.Elements.{IsIsotope}
use Rattle.isotopologue_text.proofs.Found.{found}
use Rattle.isotopologue_text.proofs.mass.labelled_atom_mass.Goals as goal

pub returns-clause-small : goal.returns-clause-small
returns-clause-small c =
    let light : IsIsotope c.unwrap.result.now =
    found IsIsotope (λ (i : Isotope). i.number == c.args.item.now.label)
    c.unwrap-element.result.now.isotopes c.unwrap.result.now c.isotope.ensures.element.isotopes
    (sym c.isotope.ensures.isotope ∙ ap option_copied c.unwrap.ensures) in
    light.mass_to
