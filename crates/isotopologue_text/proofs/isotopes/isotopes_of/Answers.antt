use Rattle.std.proofs.Common.{◌<◌, sym, ap, ◌∙◌}
use Rattle.std.specs.Option.{option_copied}
use Rattle.std.specs.Str.{bytes_eq}
use Rattle.element_table.specs.Elements.{ElementEntry, total_weight}
use Rattle.isotopologue_text.proofs.Found.{found}
use Rattle.isotopologue_text.proofs.isotopes.isotopes_of.Goals as goal

pub returns-clause-weighted : goal.returns-clause-weighted
returns-clause-weighted c =
    rw c.isotopes.ensures.isotopes
    (found (λ (e : ElementEntry). 0 < total_weight e.isotopes) (λ (e : ElementEntry). bytes_eq e.symbol c.args.item.now.symbol)
    c.args.table.now.elements c.unwrap.result.now c.element.ensures.table.weighted
    (sym c.element.ensures.element ∙ ap option_copied c.unwrap.ensures))
